use Rattle.std.proofs.Common.{◌≡◌, ◌<◌, List, length, ap, sym, subst, ◌∙◌, arith}
use Rattle.std.specs.Prelude.{All}
use Rattle.std.specs.List.{flat_map}
use Rattle.far_scopes.specs.Movement.{list_of}
use Rattle.far_columns.specs.Vector.{Vector, IsShaped, elements}
use Rattle.far_columns.proofs.VectorLaws.{length-elements}
use Rattle.far_columns.proofs.PiecesLaws.{joined-pieces, some-pieces}
use Rattle.far_columns.proofs.vector.FarVector.pieces.Goals as goal

pub returns-clause-joined : goal.returns-clause-joined
returns-clause-joined g c =
    let shaped = subst (λ (v : Vector g.row.T.Denot). IsShaped v) c.self.view_is c.self.invariant.shaped in
    ap (flat_map (λ p. p)) c.new.ensures ∙ joined-pieces (elements (list_of g.T.Elem.meaning g.S.FarTickets.content c.args.objects.now) c.args.self.now) c.args.self.now.size shaped.some c.args.from c.args.to c.if-from-to.false

pub returns-clause-some : goal.returns-clause-some
returns-clause-some g c =
    let shaped = subst (λ (v : Vector g.row.T.Denot). IsShaped v) c.self.view_is c.self.invariant.shaped in
    let len : c.self.inside.len ≡ c.args.self.now.len = ap (λ (v : Vector g.row.T.Denot). v.len) c.self.view_is in
    let long = length-elements (list_of g.T.Elem.meaning g.S.FarTickets.content c.args.objects.now) c.args.self.now shaped c.requires in
    subst (λ (pieces : List (List g.row.T.Denot)). All (λ p. 0 < length p) pieces) (sym c.new.ensures) (some-pieces (elements (list_of g.T.Elem.meaning g.S.FarTickets.content c.args.objects.now) c.args.self.now) c.args.self.now.size shaped.some c.args.from c.args.to c.if-from-to.false (omega (arith, len, long, c.if-to-self.false)))
