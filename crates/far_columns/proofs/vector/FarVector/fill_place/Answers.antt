use Rattle.std.proofs.Common.{◌≡◌, ◌*◌, ◌<◌, false, [], ◌∷◌, length, None, sym, ap, subst, ◌∙◌, arith, rules}
use Rattle.std.proofs.lemmas.Bool.{eqb-false}
use Rattle.far_scopes.specs.Movement.{list_of}
use Rattle.far_scopes.specs.Refusing.{write_refusal}
use Rattle.far_columns.specs.Vector.{Vector, IsVector, WritesPlaces, KeepsOthers, object_at}
use Rattle.far_columns.specs.Effects.{is_full, after_write_range}
use Rattle.far_columns.proofs.VectorWrites.{elements-filled}
use Rattle.far_columns.proofs.VectorChanges.{changed-filled, pushed-filled}
use Rattle.far_columns.proofs.vector.FarVector.fill_place.Given.{Over}
use Rattle.far_columns.proofs.vector.FarVector.fill_place.Goals as goal

module _ (g : Over) (c : goal.After-self-1 g) where
  abbrev view : Vector g.row.T.Denot
  view = record { column = c.self.inside.column; size = c.self.inside.size; objects = c.self.inside.objects.items; len = c.self.inside.len; default_value = c.self.inside.default_value }

  space : c.self.inside.len < length c.self.inside.objects.items * c.self.inside.size
  space =
      let some = subst (λ (v : Vector g.row.T.Denot). is_full v ≡ false) (sym c.self.view_is) c.requires.space in
      let ne = eqb-false c.self.inside.len (length c.self.inside.objects.items * c.self.inside.size) some in
      omega (arith, ne, c.self.invariant.shaped.enough)

  at : c.next_position-at.result.place ≡ c.self.inside.len
  at = c.next_position-at.ensures.place ∙ ap (λ (v : Vector g.row.T.Denot). v.len) (sym c.self.view_is)

  placed : WritesPlaces (list_of g.T.Elem.meaning g.S.FarTickets.content c.args.objects.now) (list_of g.T.Elem.meaning g.S.FarTickets.content c.write.new.objects) c.args.self.now c.self.inside.len (c.args.x ∷ [])
  placed = subst (λ i. WritesPlaces (list_of g.T.Elem.meaning g.S.FarTickets.content c.args.objects.now) (list_of g.T.Elem.meaning g.S.FarTickets.content c.write.new.objects) c.args.self.now i (c.args.x ∷ [])) at c.write.ensures.places

  others : KeepsOthers (list_of g.T.Elem.meaning g.S.FarTickets.content c.args.objects.now) (list_of g.T.Elem.meaning g.S.FarTickets.content c.write.new.objects) (object_at c.args.self.now c.self.inside.len)
  others = subst (λ i. KeepsOthers (list_of g.T.Elem.meaning g.S.FarTickets.content c.args.objects.now) (list_of g.T.Elem.meaning g.S.FarTickets.content c.write.new.objects) (object_at c.args.self.now i)) at c.write.ensures.keeps.lists

pub returns-clause-pushed : goal.returns-clause-pushed
returns-clause-pushed g c =
    let is = subst (λ (v : Vector g.row.T.Denot). IsVector (list_of g.T.Elem.meaning g.S.FarTickets.content c.args.objects.now) v) (sym c.self.view_is) c.requires.is in
    let places = subst (λ (v : Vector g.row.T.Denot). WritesPlaces (list_of g.T.Elem.meaning g.S.FarTickets.content c.args.objects.now) (list_of g.T.Elem.meaning g.S.FarTickets.content c.write.new.objects) v c.self.inside.len (c.args.x ∷ [])) (sym c.self.view_is) (placed g c) in
    let some = subst (λ (v : Vector g.row.T.Denot). is_full v ≡ false) (sym c.self.view_is) c.requires.space in
    let written = subst (λ i. c.write.new.objects ≡ after_write_range c.args.objects.now c.args.self.now i (c.args.x ∷ [])) (at g c) c.write.ensures.written in
    let free : write_refusal c.args.objects.now (object_at c.args.self.now c.self.inside.len) ≡ None = search rules in
    let more = elements-filled (list_of g.T.Elem.meaning g.S.FarTickets.content c.args.objects.now) (list_of g.T.Elem.meaning g.S.FarTickets.content c.write.new.objects) (view g c) c.self.invariant.shaped is c.args.x places (space g c) in
    rw (← c.self.view_is) (pushed-filled g.T.Elem.meaning g.S.FarTickets.content c.args.objects.now c.write.new.objects (view g c) c.args.x some
    (subst (λ (v : Vector g.row.T.Denot). c.write.new.objects ≡ after_write_range c.args.objects.now v c.self.inside.len (c.args.x ∷ [])) (sym c.self.view_is) written)
    more (subst (λ (v : Vector g.row.T.Denot). write_refusal c.args.objects.now (object_at v c.self.inside.len) ≡ None) (sym c.self.view_is) free))

pub returns-clause-changes : goal.returns-clause-changes
returns-clause-changes g c =
    let is = subst (λ (v : Vector g.row.T.Denot). IsVector (list_of g.T.Elem.meaning g.S.FarTickets.content c.args.objects.now) v) (sym c.self.view_is) c.requires.is in
    let places = subst (λ (v : Vector g.row.T.Denot). WritesPlaces (list_of g.T.Elem.meaning g.S.FarTickets.content c.args.objects.now) (list_of g.T.Elem.meaning g.S.FarTickets.content c.write.new.objects) v c.self.inside.len (c.args.x ∷ [])) (sym c.self.view_is) (placed g c) in
    let lists = subst (λ (v : Vector g.row.T.Denot). KeepsOthers (list_of g.T.Elem.meaning g.S.FarTickets.content c.args.objects.now) (list_of g.T.Elem.meaning g.S.FarTickets.content c.write.new.objects) (object_at v c.self.inside.len)) (sym c.self.view_is) (others g c) in
    rw (← c.self.view_is) (changed-filled (list_of g.T.Elem.meaning g.S.FarTickets.content c.args.objects.now) (list_of g.T.Elem.meaning g.S.FarTickets.content c.write.new.objects) (view g c) c.self.invariant.shaped is c.args.x places lists (space g c))
