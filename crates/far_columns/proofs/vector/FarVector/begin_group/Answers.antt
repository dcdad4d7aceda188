use Rattle.std.proofs.Common.{◌≡◌, ℕ, ◌-◌, ◌*◌, ◌<◌, true, List, [], ◌∷◌, ◌++◌, length, replicate, None, Some, sym, ap, subst, ◌∙◌, arith, rules}
use Rattle.std.specs.Prelude.{All}
use Rattle.std.proofs.lemmas.Bool.{eqb-true}
use Rattle.std.proofs.lemmas.List.{length-set, drop-set-lt}
use Rattle.far_types.specs.FirstOf.{first_of}
use Rattle.far_log.specs.RegionState.{spaces_of, fit_in_order}
use Rattle.far_scopes.specs.Movement.{list_of}
use Rattle.far_scopes.specs.Effects.{after_create}
use Rattle.far_scopes.specs.Refusing.{no_space}
use Rattle.far_columns.specs.Vector.{Vector, IsVector}
use Rattle.far_columns.specs.Effects.{is_full}
use Rattle.far_columns.proofs.MovementInUse.{in-use, bounded-sorted}
use Rattle.far_columns.proofs.EffectsGroups.{shaped-begun, object-begun, layout-first, elements-begun}
use Rattle.far_columns.proofs.VectorChanges.{changed-begun, pushed-begun, unpushed-begun}
use Rattle.far_columns.proofs.vector.FarVector.begin_group.Given.{Over}
use Rattle.far_columns.proofs.vector.FarVector.begin_group.Goals as goal

pub invariant_of-self-2 : goal.invariant_of-self-2
invariant_of-self-2 g c =
    let objs : c.push_reserved.new.self.items ≡ c.self.inside.objects.items ++ length c.args.objects.now.records ∷ [] = c.push_reserved.ensures.items ∙ ap (λ (l : List ℕ). l ++ c.in_ok-o.o ∷ []) c.reserve.ensures.items ∙ ap (λ o. c.self.inside.objects.items ++ o ∷ []) c.in_ok-o.ensures.number in
    let is = subst (λ (v : Vector g.row.T.Denot). IsVector (list_of g.T.Elem.meaning g.S.FarTickets.content c.args.objects.now) v) (sym c.self.view_is) c.requires.is in
    let full = eqb-true c.self.inside.len (length c.self.inside.objects.items * c.self.inside.size) (subst (λ (v : Vector g.row.T.Denot). is_full v ≡ true) (sym c.self.view_is) c.requires.full) in
    let below : All (λ o. o < length c.args.objects.now.records) c.self.inside.objects.items = λ k d within. in-use g.T.Elem.meaning g.S.FarTickets.content _ c.args.objects.now c.number.ensures.tracked _ _ (is.whole k d within) in
    let few = bounded-sorted c.self.inside.objects.items (length c.args.objects.now.records) c.self.invariant.shaped.sorted below in
    rw objs record {
      shaped = shaped-begun _ (length c.args.objects.now.records) c.self.invariant.shaped full below (omega (arith, few, c.requires.few));
      long = length-set c.self.inside.next.items 0 c.args.x ∙ c.self.invariant.long;
      default_value = drop-set-lt 1 c.self.inside.next.items 0 c.args.x (omega arith) ∙ c.self.invariant.default_value;
    }

module _ (g : Over) (c : goal.After-self-2-1 g) where
  objects-are : c.push_reserved.new.self.items ≡ c.self.inside.objects.items ++ length c.args.objects.now.records ∷ []
  objects-are = c.push_reserved.ensures.items ∙ ap (λ (l : List ℕ). l ++ c.in_ok-o.o ∷ []) c.reserve.ensures.items ∙ ap (λ o. c.self.inside.objects.items ++ o ∷ []) c.in_ok-o.ensures.number

  abbrev view : Vector g.row.T.Denot
  view = record { column = c.self.inside.column; size = c.self.inside.size; objects = c.self.inside.objects.items; len = c.self.inside.len; default_value = c.self.inside.default_value }

  is : IsVector (list_of g.T.Elem.meaning g.S.FarTickets.content c.args.objects.now) view
  is = subst (λ (v : Vector g.row.T.Denot). IsVector (list_of g.T.Elem.meaning g.S.FarTickets.content c.args.objects.now) v) (sym c.self.view_is) c.requires.is

  full : c.self.inside.len ≡ length c.self.inside.objects.items * c.self.inside.size
  full = eqb-true c.self.inside.len (length c.self.inside.objects.items * c.self.inside.size) (subst (λ (v : Vector g.row.T.Denot). is_full v ≡ true) (sym c.self.view_is) c.requires.full)

  below : All (λ o. o < length c.args.objects.now.records) c.self.inside.objects.items
  below k d within = in-use g.T.Elem.meaning g.S.FarTickets.content _ c.args.objects.now c.number.ensures.tracked _ _ (is.whole k d within)

  layout : c.deref.result.now ≡ c.args.x ∷ replicate (c.self.inside.size - 1) c.self.inside.default_value
  layout = c.deref.ensures.value ∙ layout-first c.self.inside.next.items c.args.x c.self.inside.default_value c.self.inside.size c.self.invariant.shaped.some c.self.invariant.long c.self.invariant.default_value

  has : list_of g.T.Elem.meaning g.S.FarTickets.content c.create.new.self (length c.args.objects.now.records) ≡ Some (c.args.x ∷ replicate (c.self.inside.size - 1) c.self.inside.default_value)
  has = c.in_ok-o.ensures.created.list.here ∙ ap Some layout

pub returns-clause-pushed : goal.returns-clause-pushed
returns-clause-pushed g c =
    let group : c.len.result ≡ length c.self.inside.objects.items = c.len.ensures ∙ c.reserve.new.self.ok.0 ∙ ap length c.reserve.ensures.items in
    let created = c.in_ok-o.ensures.created.state
    ∙ ap (λ n. after_create c.args.objects.now record { column = c.self.inside.column; group = n } c.deref.result.now) group
    ∙ ap (after_create c.args.objects.now record { column = c.self.inside.column; group = length c.self.inside.objects.items }) (layout g c) in
    let more = elements-begun (list_of g.T.Elem.meaning g.S.FarTickets.content c.args.objects.now) (list_of g.T.Elem.meaning g.S.FarTickets.content c.create.new.self) (view g c) c.self.invariant.shaped (is g c) (full g c) (length c.args.objects.now.records) c.in_ok-o.ensures.created.list.others c.args.x (has g c) (below g c) in
    let free : first_of (no_space c.args.objects.now (length c.args.objects.now.records) c.self.inside.size ∷ []) ≡ None = search rules in
    let long : length c.deref.result.now ≡ c.self.inside.size = ap length c.deref.ensures.value ∙ length-set c.self.inside.next.items 0 c.args.x ∙ c.self.invariant.long in
    rw (← c.self.view_is, objects-are g c) (pushed-begun g.T.Elem.meaning g.S.FarTickets.content c.args.objects.now c.create.new.self (view g c) c.args.x
    (subst (λ (v : Vector g.row.T.Denot). is_full v ≡ true) (sym c.self.view_is) c.requires.full)
    created more
    record {
      unpushed = unpushed-begun (view g c) (length c.args.objects.now.records);
      uncreated = c.in_ok-o.ensures.created.undone;
      local = c.in_ok-o.ensures.created.last.0;
      unpinned = c.in_ok-o.ensures.created.last.1;
      next = λ lens. subst (λ n. fit_in_order (spaces_of c.args.objects.now.memory.state) (n ∷ lens) ≡ fit_in_order (spaces_of c.create.new.self.memory.state) lens) long (c.in_ok-o.ensures.created.next lens);
    } free)

pub returns-clause-changes : goal.returns-clause-changes
returns-clause-changes g c =
    rw (← c.self.view_is, objects-are g c) (changed-begun (list_of g.T.Elem.meaning g.S.FarTickets.content c.args.objects.now) (list_of g.T.Elem.meaning g.S.FarTickets.content c.create.new.self) (view g c) c.self.invariant.shaped (is g c) (full g c) (length c.args.objects.now.records) c.in_ok-o.ensures.created.list.others c.args.x (has g c)
    (λ w is-w k d within. in-use g.T.Elem.meaning g.S.FarTickets.content _ c.args.objects.now c.number.ensures.tracked _ _ (is-w.whole k d within)))

pub returns-clause-keeps : goal.returns-clause-keeps
returns-clause-keeps g c =
    let o = object-begun (view g c) (length c.args.objects.now.records) c.self.invariant.shaped (full g c) in
    rw (← c.self.view_is, objects-are g c, o) record {
      lists = c.in_ok-o.ensures.created.list.others;
      others = c.in_ok-o.ensures.created.others;
      copies = record { clean = c.create.ensures.copies.clean; store = c.create.ensures.copies.store };
    }
