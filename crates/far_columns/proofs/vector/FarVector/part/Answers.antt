use Rattle.std.proofs.Common.{◌≡◌, ◌<◌, ◌+◌, ◌-◌, take, drop, Some, sym, subst, arith}
use Rattle.std.specs.Prelude.{slice_range}
use Rattle.far_scopes.specs.Movement.{list_of}
use Rattle.far_columns.specs.Vector.{elements}
use Rattle.far_columns.proofs.RefusingLaws.{within-checked, group-checked}
use Rattle.far_columns.proofs.VectorLaws.{part-lent}
use Rattle.far_columns.proofs.VectorRanges.{list-local}
use Rattle.far_columns.proofs.vector.FarVector.part.Goals as goal

pub position-at-requires-clause-within : goal.position-at-requires-clause-within
position-at-requires-clause-within g c κs within =
    let there = within-checked c.args.self.now c.args.from c.args.to c.in_ok-check_part.ensures.refused in
    omega (arith, there.0, there.1, c.if-from-to.false, c.check_part.ensures.shaped.enough)

pub returns-clause-part : goal.returns-clause-part
returns-clause-part g c =
    let there = within-checked c.args.self.now c.args.from c.args.to c.in_ok-check_part.ensures.refused in
    let some : c.args.from < c.args.to = omega (arith, there.0, c.if-from-to.false) in
    let has = subst (λ o. list_of g.T.Elem.meaning g.S.FarTickets.content c.args.objects.now o ≡ Some c.in_ok-list.list.now) c.position-at.ensures.object (list-local g.T.Elem.meaning g.S.FarTickets.content c.args.objects.now c.position-at.result.object c.in_ok-list.list.now c.in_ok-list.ensures.lent) in
    subst (λ n. take (n + (c.args.to - c.args.from) - n) (drop n c.in_ok-list.list.now) ≡ slice_range (elements (list_of g.T.Elem.meaning g.S.FarTickets.content c.args.objects.now) c.args.self.now) c.args.from c.args.to) (sym c.position-at.ensures.index)
    (part-lent (list_of g.T.Elem.meaning g.S.FarTickets.content c.args.objects.now) c.args.self.now c.check_part.ensures.shaped c.requires c.args.from c.args.to some there.1 (group-checked c.args.self.now c.args.from c.args.to c.in_ok-check_part.ensures.refused some) c.in_ok-list.list.now has)
