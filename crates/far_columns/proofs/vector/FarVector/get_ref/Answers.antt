use Rattle.std.proofs.Common.{◌≡◌, get_or, Some, ap, subst, arith}
use Rattle.far_scopes.specs.Movement.{list_of}
use Rattle.far_columns.specs.Vector.{Vector, IsShaped}
use Rattle.far_columns.proofs.VectorLaws.{get-is}
use Rattle.far_columns.proofs.VectorRanges.{list-local}
use Rattle.far_columns.proofs.vector.FarVector.get_ref.Goals as goal

pub returns-clause-element : goal.returns-clause-element
returns-clause-element g c =
    let len : c.self.inside.len ≡ c.args.self.now.len = ap (λ (v : Vector g.row.T.Denot). v.len) c.self.view_is in
    let has = subst (λ o. list_of g.T.Elem.meaning g.S.FarTickets.content c.args.objects.now o ≡ Some c.in_ok-list.list.now) c.position-at.ensures.object (list-local g.T.Elem.meaning g.S.FarTickets.content c.args.objects.now c.position-at.result.object c.in_ok-list.list.now c.in_ok-list.ensures.lent) in
    get-is (list_of g.T.Elem.meaning g.S.FarTickets.content c.args.objects.now) c.args.self.now (subst (λ (v : Vector g.row.T.Denot). IsShaped v) c.self.view_is c.self.invariant.shaped) c.requires c.args.i (omega (arith, len, c.if-i-self.false)) c.in_ok-list.list.now has c.index-list-at.result
    (subst (λ n. c.index-list-at.result ≡ get_or c.in_ok-list.list.now n c.index-list-at.result) c.position-at.ensures.index c.index-list-at.is)
