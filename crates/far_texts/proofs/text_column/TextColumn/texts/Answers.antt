use Rattle.std.proofs.Common.{◌≡◌, ◌≤◌, ◌+◌, ◌-◌, ◌/◌, length, drop, None, subst, ◌∙◌, arith}
use Rattle.std.specs.Prelude.{slice_range}
use Rattle.std.proofs.lemmas.List.{length-take, length-drop}
use Rattle.far_scopes.specs.Refusing.{first_absent}
use Rattle.far_texts.specs.Texts.{lists_of, texts_in, HasGroups}
use Rattle.far_texts.proofs.LendingLaws.{part-free, zip-part}
use Rattle.far_texts.proofs.text_column.TextColumn.texts.Goals as goal
use Rattle.far_texts.proofs.text_column.TextColumn.texts.Goals.{then-from-to-2+in_ok-all_here, else-from-to-2}

pub new-requires-after_bounds : goal.new-requires-after_bounds
new-requires-after_bounds g c κs outlives =
    let m = c.args.objects.now in
    let column = c.args.self.now in
    let from = c.args.from in
    let to = c.args.to in
    let has = subst HasGroups c.self.view_is c.self.invariant in
    let within : to ≤ column.len = subst (λ t. to ≤ t.len) c.self.view_is c.if-to-self.false in
    let long : length (slice_range c.args.alive.now from to) ≡ to - from = omega (arith, c.if-from-to.false, within, c.requires.same_length, length-take (to - from) (drop from c.args.alive.now), length-drop from c.args.alive.now) in
    record {
      is = c.requires.is;
      groups = has;
      within = omega (arith, long, within, c.if-from-to.false);
      here = λ p behind before. elim c.if-from-to-2.branch [
        | then-from-to-2+in_ok-all_here w ↦
            let none = subst (λ t. None ≡ first_absent m (slice_range column.objects (from / t.size) ((to - 1) / t.size + 1))) c.self.view_is w.in_ok-all_here.ensures in
            part-free m g.S.FarTickets.content column has from to w.if-from-to-2.true within none p behind (omega (arith, before, long))
        | else-from-to-2 w ↦ absurd (omega (arith, behind, before, long, w.if-from-to-2.false))
      ];
    }

pub returns-clause-lent : goal.returns-clause-lent
returns-clause-lent g c =
    let texts = texts_in (lists_of g.S.FarTickets.content c.args.objects.now) c.args.self.now in
    c.new.ensures ∙ zip-part texts c.args.alive.now c.args.from c.args.to
