use Rattle.std.proofs.Common.{◌≡◌, ◌+◌, ◌-◌, ◌*◌, length, take, Some, sym, subst, arith, rules}
use Rattle.std.specs.Prelude.{slice_get}
use Rattle.std.proofs.lemmas.Option.{slice_get_within}
use Rattle.far_scopes.specs.Movement.{list_of}
use Rattle.far_columns.specs.Vector.{Vector, IsVector}
use Rattle.far_columns.proofs.EffectsGroups.{shaped-unpushed, elements-unpushed}
use Rattle.far_columns.proofs.VectorChanges.{changed-unpushed}
use Rattle.far_columns.proofs.vector.FarVector.unpush.Given.{Over}
use Rattle.far_columns.proofs.vector.FarVector.unpush.Goals as goal

pub invariant_of-self : goal.invariant_of-self
invariant_of-self g c =
    let objs : c.pop.new.self.items ≡ take (length c.self.inside.objects.items - 1) c.self.inside.objects.items = search rules in
    let alone = subst (λ (v : Vector g.row.T.Denot). v.len ≡ (length v.objects - 1) * v.size + 1) (sym c.self.view_is) c.requires.begun.alone in
    let last = subst (λ (v : Vector g.row.T.Denot). slice_get v.objects (length v.objects - 1) ≡ Some (length c.args.objects.now.records - 1)) (sym c.self.view_is) c.requires.begun.last in
    let within = slice_get_within c.self.inside.objects.items (length c.self.inside.objects.items - 1) (length c.args.objects.now.records - 1) last in
    rw objs record {
      shaped = shaped-unpushed _ c.self.invariant.shaped (omega (arith, within)) alone;
      long = c.self.invariant.long;
      default_value = c.self.invariant.default_value;
    }

module _ (g : Over) (c : goal.After-uncreate g) where
  objects-are : c.pop.new.self.items ≡ take (length c.self.inside.objects.items - 1) c.self.inside.objects.items
  objects-are = search rules

  alone : c.self.inside.len ≡ (length c.self.inside.objects.items - 1) * c.self.inside.size + 1
  alone = subst (λ (v : Vector g.row.T.Denot). v.len ≡ (length v.objects - 1) * v.size + 1) (sym c.self.view_is) c.requires.begun.alone

  last : slice_get c.self.inside.objects.items (length c.self.inside.objects.items - 1) ≡ Some (length c.args.objects.now.records - 1)
  last = subst (λ (v : Vector g.row.T.Denot). slice_get v.objects (length v.objects - 1) ≡ Some (length c.args.objects.now.records - 1)) (sym c.self.view_is) c.requires.begun.last

pub returns-clause-elements : goal.returns-clause-elements
returns-clause-elements g c =
    let is = subst (λ (v : Vector g.row.T.Denot). IsVector (list_of g.T.Elem.meaning g.S.FarTickets.content c.args.objects.now) v) (sym c.self.view_is) c.requires.is in
    rw (← c.self.view_is, objects-are g c) (elements-unpushed (list_of g.T.Elem.meaning g.S.FarTickets.content c.args.objects.now) (list_of g.T.Elem.meaning g.S.FarTickets.content c.uncreate.new.self) _ c.self.invariant.shaped is (alone g c) (length c.args.objects.now.records - 1) (last g c) c.uncreate.ensures.list.others)

pub returns-clause-changes : goal.returns-clause-changes
returns-clause-changes g c =
    let is = subst (λ (v : Vector g.row.T.Denot). IsVector (list_of g.T.Elem.meaning g.S.FarTickets.content c.args.objects.now) v) (sym c.self.view_is) c.requires.is in
    rw (← c.self.view_is, objects-are g c) (changed-unpushed (list_of g.T.Elem.meaning g.S.FarTickets.content c.args.objects.now) (list_of g.T.Elem.meaning g.S.FarTickets.content c.uncreate.new.self) _ c.self.invariant.shaped is (alone g c) (length c.args.objects.now.records - 1) (last g c) c.uncreate.ensures.list.others)
