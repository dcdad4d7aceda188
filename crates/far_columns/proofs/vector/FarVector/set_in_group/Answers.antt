use Rattle.std.proofs.Common.{◌≡◌, ◌<◌, [], ◌∷◌, None, sym, subst, ◌∙◌, arith}
use Rattle.far_scopes.specs.Movement.{list_of}
use Rattle.far_scopes.specs.Refusing.{write_refusal}
use Rattle.far_columns.specs.Vector.{WritesPlaces, KeepsOthers, elements, object_at}
use Rattle.far_columns.proofs.RefusingLaws.{place-set, free-set}
use Rattle.far_columns.proofs.VectorLaws.{length-elements}
use Rattle.far_columns.proofs.VectorWrites.{elements-after_write, one-written}
use Rattle.far_columns.proofs.VectorChanges.{changed-written}
use Rattle.far_columns.proofs.vector.FarVector.set_in_group.Given.{Over}
use Rattle.far_columns.proofs.vector.FarVector.set_in_group.Goals as goal

pub position_in-at-requires-clause-within : goal.position_in-at-requires-clause-within
position_in-at-requires-clause-within g c κs there = omega (arith, place-set c.args.objects.now c.args.self.now c.args.i c.requires.free, c.len-len.ensures.shaped.enough)

pub write-requires-clause-within : goal.write-requires-clause-within
write-requires-clause-within g c κs there = omega (arith, c.position_in-at.ensures.place, place-set c.args.objects.now c.args.self.now c.args.i c.requires.free, c.len-len.ensures.shaped.enough)

pub write-requires-clause-free : goal.write-requires-clause-free
write-requires-clause-free g c κs there = subst (λ o. write_refusal c.args.objects.now o ≡ None) (sym c.position_in-at.ensures.object) (free-set c.args.objects.now c.args.self.now c.args.i c.requires.free)

module _ (g : Over) (c : goal.After-write g) where
  within : c.args.i < c.args.self.now.len
  within = place-set c.args.objects.now c.args.self.now c.args.i c.requires.free

  placed : WritesPlaces (list_of g.T.Elem.meaning g.S.FarTickets.content c.args.objects.now) (list_of g.T.Elem.meaning g.S.FarTickets.content c.write.new.objects) c.args.self.now c.args.i (c.args.x ∷ [])
  placed = subst (λ i. WritesPlaces (list_of g.T.Elem.meaning g.S.FarTickets.content c.args.objects.now) (list_of g.T.Elem.meaning g.S.FarTickets.content c.write.new.objects) c.args.self.now i (c.args.x ∷ [])) c.position_in-at.ensures.place c.write.ensures.places

  others : KeepsOthers (list_of g.T.Elem.meaning g.S.FarTickets.content c.args.objects.now) (list_of g.T.Elem.meaning g.S.FarTickets.content c.write.new.objects) (object_at c.args.self.now c.args.i)
  others = subst (λ i. KeepsOthers (list_of g.T.Elem.meaning g.S.FarTickets.content c.args.objects.now) (list_of g.T.Elem.meaning g.S.FarTickets.content c.write.new.objects) (object_at c.args.self.now i)) c.position_in-at.ensures.place c.write.ensures.keeps.lists

pub returns-clause-elements : goal.returns-clause-elements
returns-clause-elements g c =
    let shaped = c.len-len.ensures.shaped in
    let below = within g c in
    elements-after_write (list_of g.T.Elem.meaning g.S.FarTickets.content c.args.objects.now) (list_of g.T.Elem.meaning g.S.FarTickets.content c.write.new.objects) c.args.self.now shaped c.requires.is c.args.i (c.args.x ∷ []) (placed g c) (omega (arith, below))
    ∙ one-written (elements (list_of g.T.Elem.meaning g.S.FarTickets.content c.args.objects.now) c.args.self.now) c.args.i c.args.x (omega (arith, below, length-elements (list_of g.T.Elem.meaning g.S.FarTickets.content c.args.objects.now) c.args.self.now shaped c.requires.is))

pub returns-clause-changes : goal.returns-clause-changes
returns-clause-changes g c =
    let shaped = c.len-len.ensures.shaped in
    let below = within g c in
    changed-written (list_of g.T.Elem.meaning g.S.FarTickets.content c.args.objects.now) (list_of g.T.Elem.meaning g.S.FarTickets.content c.write.new.objects) c.args.self.now shaped c.requires.is c.args.i (c.args.x ∷ []) (placed g c) (others g c) (omega (arith, below, shaped.enough)) (omega (arith, below))
