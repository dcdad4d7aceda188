use Rattle.std.proofs.Common.{◌<◌, ◌+◌, length, drop, refl, sym, ap, subst, ◌∙◌}
use Rattle.far_scopes.specs.Effects.{with_lens}
use Rattle.far_scopes.proofs.MemoryWordPlaces.{word-read}
use Rattle.far_scopes.proofs.RefusingWrites.{next-is}
use Rattle.far_scopes.proofs.objects.replacing.set_lens.Goals as goal

pub loop-replacement-preserved : goal.loop-replacement-preserved
loop-replacement-preserved g c =
    let next = next-is c.args.lists.now c.loop-replacement.replacement-index c.replacement-item.result c.loop-replacement-test.true c.replacement-item.is in
    let inside = c.requires.within c.loop-replacement.replacement-index c.replacement-item.result c.loop-replacement-test.true in
    let within = subst (λ n. c.replacement-item.result.object < n) (sym c.loop-replacement.auto.records) (subst (λ r. r.object < length c.args.records.now) (sym c.replacement-item.is) inside) in
    let was = word-read c.loop-replacement.records c.replacement-item.result.object c.index-records-replacement.result within c.index-records-replacement.is in
    c.loop-replacement.invariant ∙ ap (with_lens c.loop-replacement.records) next
    ∙ ap (λ records. with_lens records (drop (c.loop-replacement.replacement-index + 1) c.args.lists.now)) (rw (was, c.len.ensures ∙ c.replacement-item.result.list.ok.0, ← c.index-records-replacement.is) refl)
