use Rattle.std.proofs.Common.{◌<◌, ◌≤◌, length, refl, sym, ap, subst, ◌∙◌}
use Rattle.far_scopes.specs.Movement.{record_of}
use Rattle.far_scopes.specs.Refusing.{any_written_out}
use Rattle.far_scopes.proofs.MemoryWordPlaces.{word-read}
use Rattle.far_scopes.proofs.RefusingWrites.{next-is, used-up, left-over}
use Rattle.far_scopes.proofs.objects.Objects.all_writable.Goals as goal

pub returns-then-index-self : goal.returns-then-index-self
returns-then-index-self g c =
    let next = next-is c.args.lists.now c.loop-replacement.replacement-index c.replacement-item.result c.loop-replacement-test.true c.replacement-item.is in
    let inside = c.requires c.loop-replacement.replacement-index c.replacement-item.result c.loop-replacement-test.true in
    let within = subst (λ m. c.replacement-item.result.object < length m.records) (sym c.self.view_is) (subst (λ r. r.object < length c.args.self.now.records) (sym c.replacement-item.is) inside) in
    let was = ap (λ m. record_of m c.replacement-item.result.object) (sym c.self.view_is) ∙ word-read c.self.inside.records.items c.replacement-item.result.object c.index.result.now within c.index.ensures in
    let all = used-up c.args.self.now c.replacement-item.result.object c.index.result.now was (subst (λ m. m.max_writes ≤ c.index.result.now.version) c.self.view_is c.if-index-self.true) in
    rw (c.loop-replacement.invariant ∙ ap (λ rs. (any_written_out c.args.self.now rs).0) next, all) refl

pub loop-replacement-preserved : goal.loop-replacement-preserved
loop-replacement-preserved g c =
    let next = next-is c.args.lists.now c.loop-replacement.replacement-index c.replacement-item.result c.loop-replacement-test.true c.replacement-item.is in
    let inside = c.requires c.loop-replacement.replacement-index c.replacement-item.result c.loop-replacement-test.true in
    let within = subst (λ m. c.replacement-item.result.object < length m.records) (sym c.self.view_is) (subst (λ r. r.object < length c.args.self.now.records) (sym c.replacement-item.is) inside) in
    let was = ap (λ m. record_of m c.replacement-item.result.object) (sym c.self.view_is) ∙ word-read c.self.inside.records.items c.replacement-item.result.object c.index.result.now within c.index.ensures in
    let all = left-over c.args.self.now c.replacement-item.result.object c.index.result.now was (subst (λ m. c.index.result.now.version < m.max_writes) c.self.view_is c.if-index-self.false) in
    c.loop-replacement.invariant ∙ ap (λ rs. (any_written_out c.args.self.now rs).0) next ∙ rw all refl
