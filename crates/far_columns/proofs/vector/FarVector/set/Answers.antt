use Rattle.std.proofs.Common.{◌≡◌, [], ◌∷◌, ap, subst, ◌∙◌, arith}
use Rattle.far_scopes.specs.Movement.{list_of}
use Rattle.far_columns.specs.Vector.{Vector, IsShaped, WritesPlaces, KeepsOthers, elements, object_at}
use Rattle.far_columns.proofs.VectorLaws.{length-elements}
use Rattle.far_columns.proofs.VectorWrites.{elements-after_write, one-written}
use Rattle.far_columns.proofs.VectorChanges.{changed-written}
use Rattle.far_columns.proofs.vector.FarVector.set.Goals as goal

pub returns-clause-elements : goal.returns-clause-elements
returns-clause-elements g c =
    let shaped = subst (λ (v : Vector g.row.T.Denot). IsShaped v) c.self.view_is c.self.invariant.shaped in
    let len : c.self.inside.len ≡ c.args.self.now.len = ap (λ (v : Vector g.row.T.Denot). v.len) c.self.view_is in
    elements-after_write (list_of g.T.Elem.meaning g.S.FarTickets.content c.args.objects.now) (list_of g.T.Elem.meaning g.S.FarTickets.content c.write.new.objects) c.args.self.now shaped c.requires c.args.i (c.args.x ∷ []) (subst (λ i. WritesPlaces (list_of g.T.Elem.meaning g.S.FarTickets.content c.args.objects.now) (list_of g.T.Elem.meaning g.S.FarTickets.content c.write.new.objects) c.args.self.now i (c.args.x ∷ [])) c.position-at.ensures.place c.write.ensures.places) (omega (arith, len, c.if-i-self.false))
    ∙ one-written (elements (list_of g.T.Elem.meaning g.S.FarTickets.content c.args.objects.now) c.args.self.now) c.args.i c.args.x (omega (arith, len, c.if-i-self.false, length-elements (list_of g.T.Elem.meaning g.S.FarTickets.content c.args.objects.now) c.args.self.now shaped c.requires))

pub returns-clause-changes : goal.returns-clause-changes
returns-clause-changes g c =
    let shaped = subst (λ (v : Vector g.row.T.Denot). IsShaped v) c.self.view_is c.self.invariant.shaped in
    let len : c.self.inside.len ≡ c.args.self.now.len = ap (λ (v : Vector g.row.T.Denot). v.len) c.self.view_is in
    changed-written (list_of g.T.Elem.meaning g.S.FarTickets.content c.args.objects.now) (list_of g.T.Elem.meaning g.S.FarTickets.content c.write.new.objects) c.args.self.now shaped c.requires c.args.i (c.args.x ∷ [])
    (subst (λ i. WritesPlaces (list_of g.T.Elem.meaning g.S.FarTickets.content c.args.objects.now) (list_of g.T.Elem.meaning g.S.FarTickets.content c.write.new.objects) c.args.self.now i (c.args.x ∷ [])) c.position-at.ensures.place c.write.ensures.places)
    (subst (λ i. KeepsOthers (list_of g.T.Elem.meaning g.S.FarTickets.content c.args.objects.now) (list_of g.T.Elem.meaning g.S.FarTickets.content c.write.new.objects) (object_at c.args.self.now i)) c.position-at.ensures.place c.write.ensures.keeps.lists)
    (omega (arith, len, c.if-i-self.false, shaped.enough)) (omega (arith, len, c.if-i-self.false))
