use Rattle.std.proofs.Common.{◌≡◌, ◌+◌, ◌-◌, ◌%◌, ◌<◌, ◌≤◌, [], ◌∷◌, length, set, refl, sym, ap, subst, ◌∙◌, arith}
use Rattle.std.specs.Prelude.{IsSomeAnd}
use Rattle.std.proofs.lemmas.List.{length-set}
use Rattle.std.proofs.lemmas.Nat.{mod_below}
use Rattle.far_scopes.specs.Memory.{list_in}
use Rattle.far_scopes.specs.Movement.{Movement, ChangesObject, list_of}
use Rattle.far_scopes.specs.Effects.{after_write, after_overwrite}
use Rattle.far_columns.specs.Vector.{IsShaped, KeepsOthers, WritesPlaces, object_at}
use Rattle.far_columns.specs.Effects.{after_write_range}
use Rattle.far_columns.proofs.VectorRanges.{Changes, ChangesFrom, some-weaker, list-held, lent-long, single-set, after_write-is, changes-is, others-range, places-range}
use Rattle.far_columns.proofs.vector.FarVector.write.Given.{Over}
use Rattle.far_columns.proofs.vector.FarVector.write.Goals as goal

pub lend_range_mut-range-requires-clause-there : goal.lend_range_mut-range-requires-clause-there
lend_range_mut-range-requires-clause-there g c κs there =
    let held = list-held g.T.Elem.meaning g.S.FarTickets.content c.args.objects.now c.args.at.object c.lend.result (λ list. list.now) c.requires.free c.lend.ensures.refused c.lend.ensures.lent c.args.self.now.size c.requires.list in
    let below = subst (λ n. n < c.args.self.now.size) (sym c.requires.index) (mod_below c.args.at.place c.args.self.now.size c.len-len.ensures.shaped.some) in
    some-weaker (list_in c.args.objects.now.memory c.args.at.object) held (λ list long. omega (arith, long, below))

module _ (g : Over) (c : goal.After-objects-1 g) where
  shaped : IsShaped c.args.self.now
  shaped = c.len-len.ensures.shaped

  held : IsSomeAnd (list_in c.args.objects.now.memory c.args.at.object) (λ list. length list ≡ c.args.self.now.size)
  held = list-held g.T.Elem.meaning g.S.FarTickets.content c.args.objects.now c.args.at.object c.lend.result (λ list. list.now) c.requires.free c.lend.ensures.refused c.lend.ensures.lent c.args.self.now.size c.requires.list

  below : c.args.at.index < c.args.self.now.size
  below = subst (λ n. n < c.args.self.now.size) (sym c.requires.index) (mod_below c.args.at.place c.args.self.now.size c.len-len.ensures.shaped.some)

  one : length c.lend_range_mut-range.result.now ≡ c.args.at.index + 1 - c.args.at.index
  one = lent-long (list_in c.args.objects.now.memory c.args.at.object) c.lend_range_mut-range.result.now c.args.at.index (c.args.at.index + 1) c.lend_range_mut-range.ensures.lent (some-weaker (list_in c.args.objects.now.memory c.args.at.object) held (λ list long. omega (arith, long, below)))

  abbrev now : Movement g.row.T.Denot g.row.S-Ticket.Denot
  now = after_overwrite (after_write c.args.objects.now c.args.at.object) c.args.at.object c.args.at.index (set c.lend_range_mut-range.result.now 0 c.args.x)

  is-after_write : now ≡ after_write_range c.args.objects.now c.args.self.now c.args.at.place (c.args.x ∷ [])
  is-after_write =
      ap (λ k. after_overwrite (after_write c.args.objects.now c.args.at.object) c.args.at.object k (set c.lend_range_mut-range.result.now 0 c.args.x)) c.requires.index
      ∙ after_write-is g.T.Elem.meaning g.S.FarTickets.content c.args.objects.now c.args.self.now c.args.at.place c.args.at.object c.args.self.now.size (set c.lend_range_mut-range.result.now 0 c.args.x) (c.args.x ∷ []) c.requires.object refl (single-set c.lend_range_mut-range.result.now c.args.x (omega (arith, one)))

  fits : c.args.at.place % c.args.self.now.size + 1 ≤ c.args.self.now.size
  fits = omega (arith, mod_below c.args.at.place c.args.self.now.size shaped.some)

  there : IsSomeAnd (list_in c.args.objects.now.memory (object_at c.args.self.now c.args.at.place)) (λ list. length list ≡ c.args.self.now.size)
  there = subst (λ o. IsSomeAnd (list_in c.args.objects.now.memory o) (λ list. length list ≡ c.args.self.now.size)) c.requires.object held

  changes : Changes g.T.Elem.meaning g.S.FarTickets.content c.args.objects.now c.args.self.now c.args.at.place (object_at c.args.self.now c.args.at.place) c.args.self.now.size 1
  changes =
      changes-is g.T.Elem.meaning g.S.FarTickets.content c.args.objects.now c.args.self.now c.args.at.place c.args.at.object c.args.self.now.size 1 c.requires.object refl
      (subst (λ k. ChangesFrom g.T.Elem.meaning g.S.FarTickets.content c.args.objects.now c.args.self.now k c.args.at.object 1) c.requires.index c.lend_range_mut-range.ensures.alone)

  set-long : length (set c.lend_range_mut-range.result.now 0 c.args.x) ≡ c.args.at.index + 1 - c.args.at.index
  set-long = length-set c.lend_range_mut-range.result.now 0 c.args.x ∙ one

pub returns-clause-written : goal.returns-clause-written
returns-clause-written g c = is-after_write g c

pub returns-clause-places : goal.returns-clause-places
returns-clause-places g c =
    subst (λ (m : Movement g.row.T.Denot g.row.S-Ticket.Denot). WritesPlaces (list_of g.T.Elem.meaning g.S.FarTickets.content c.args.objects.now) (list_of g.T.Elem.meaning g.S.FarTickets.content m) c.args.self.now c.args.at.place (c.args.x ∷ [])) (sym (is-after_write g c))
    (places-range g.T.Elem.meaning g.S.FarTickets.content c.args.objects.now c.args.self.now (shaped g c) c.requires.is c.args.at.place 1 c.requires.within (fits g c) (there g c) (changes g c) (c.args.x ∷ []) refl)

pub returns-clause-keeps : goal.returns-clause-keeps
returns-clause-keeps g c =
    record {
      lists = subst (λ (m : Movement g.row.T.Denot g.row.S-Ticket.Denot). KeepsOthers (list_of g.T.Elem.meaning g.S.FarTickets.content c.args.objects.now) (list_of g.T.Elem.meaning g.S.FarTickets.content m) (object_at c.args.self.now c.args.at.place)) (sym (is-after_write g c))
          (others-range g.T.Elem.meaning g.S.FarTickets.content c.args.objects.now c.args.self.now (shaped g c) c.requires.is c.args.at.place 1 c.requires.within (fits g c) (there g c) (changes g c) (c.args.x ∷ []) refl);
      others = subst (ChangesObject c.args.objects.now (now g c)) c.requires.object (c.lend_range_mut-range.ensures.keeps.others (set c.lend_range_mut-range.result.now 0 c.args.x));
      copies = record {
        clean = c.lend_range_mut-range.ensures.keeps.clean (set c.lend_range_mut-range.result.now 0 c.args.x) (set-long g c);
        store = c.lend_range_mut-range.ensures.keeps.store (set c.lend_range_mut-range.result.now 0 c.args.x);
      };
    }
