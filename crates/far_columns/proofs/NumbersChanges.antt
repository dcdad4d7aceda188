-- A number is appended to each of several columns: all of them begin row groups, or none does.
use Rattle.std.proofs.Common.{◌≡◌, ℕ, ℤ, ◌+◌, Bool, true, false, not, cond, List, [], ◌∷◌, ◌++◌, length, map, Option, None, refl, sym, ap, ◌∙◌, arith}
use Rattle.std.specs.Prelude.{All}
use Rattle.std.proofs.lemmas.List.Elements.{All-head, All-tail}
use Rattle.far_types.specs.declared.refusal.Refusal.TheVariants as refusal
use Rattle.far_types.specs.FirstOf.{first_of}
use Rattle.far_log.specs.RegionState.{spaces_of, fit_in_order}
use Rattle.far_scopes.specs.Movement.{Movement}
use Rattle.far_columns.specs.Vector.{Vector}
use Rattle.far_columns.specs.Effects.{is_full, after_unpush}
use Rattle.far_columns.specs.Numbers.{Numbers, number_lists, numbers_in}
use Rattle.far_columns.specs.NumbersTogether.{NumberColumns, all_begin, after_push_all, all_numbers_with, objects_after_push_all, absents, some_written_out, no_space_for_groups, push_numbers_refusal}
use Rattle.far_columns.specs.NumbersUndo.{AreBegunFrom, after_uncreate_all}
use Rattle.far_columns.specs.NumbersChanges.{NumbersPushed, ChangesNumbers}
use Rattle.far_columns.proofs.NumbersTogetherAppends.{same-numbers}
use Rattle.far_columns.proofs.NumbersUndo.{begun-last}

pub all-full : (columns : NumberColumns) → All (λ (c : Vector (Option ℤ)). is_full c ≡ true) columns → all_begin columns ≡ true
all-full [] full = refl
all-full (c ∷ rest) full = rw (All-head (λ (d : Vector (Option ℤ)). is_full d ≡ true) c rest full) (all-full rest (All-tail (λ (d : Vector (Option ℤ)). is_full d ≡ true) c rest full))

not-both : {A : Type 0} (b : Bool) → b ≡ false → b ≡ true → A
not-both true none all = absurd cc
not-both false none all = absurd cc

space-free : (fits : Bool) → first_of ((not fits, refusal.RegionFull) ∷ []) ≡ None → fits ≡ true
space-free true free = refl
space-free false free = absurd cc

-- no column
pub nothing-pushed : {K : Type 0} (content : K → List ℕ) (m : Movement (Option ℤ) K) (numbers : Numbers) → NumbersPushed content m m [] [] numbers
nothing-pushed content m numbers = record {
  columns = refl;
  objects = refl;
  numbers = refl;
  count = omega arith;
  begun = λ _. record { last = omega arith; unpushed = refl; uncreated = refl };
  free = refl;
}

-- no change
pub changes-nothing : {K : Type 0} (content : K → List ℕ) (m : Movement (Option ℤ) K) (columns : NumberColumns) (is_of : K → List ℕ → Type 0) → ChangesNumbers content m m columns columns is_of
changes-nothing content m columns is_of = record {
  others = same-numbers (number_lists content m) columns;
  copies = record { clean = λ clean. clean; store = λ id here. here };
}

module _ {K : Type 0} (content : K → List ℕ) (old new : Movement (Option ℤ) K) (columns becoming : NumberColumns) (numbers : Numbers) where
  module _ (full : All (λ (c : Vector (Option ℤ)). is_full c ≡ true) columns) where
    pub pushed-begun : becoming ≡ after_push_all (length old.records) columns → new ≡ objects_after_push_all old columns numbers → map (numbers_in content new) becoming ≡ all_numbers_with (number_lists content old) columns numbers → length new.records ≡ length old.records + length columns
        → AreBegunFrom new (length old.records) becoming → (map after_unpush becoming ≡ columns) × (after_uncreate_all (length columns) new ≡ old) → fit_in_order (spaces_of old.memory.state) (map (λ c. c.size) columns) ≡ true
        → NumbersPushed content old new columns becoming numbers
    pushed-begun pushed moved more count begun undone space =
        let all = all-full columns full in
        record {
          columns = pushed;
          objects = moved;
          numbers = more;
          count = rw all count;
          begun = λ _. record { last = begun-last new (length old.records) becoming begun; unpushed = undone.0; uncreated = undone.1 };
          free = rw (all, space) refl;
        }

    pub count-begun : NumbersPushed content old new columns becoming numbers → length new.records ≡ length old.records + length columns
    count-begun pushed = pushed.count ∙ ap (λ (b : Bool). length old.records + cond b (length columns) 0) (all-full columns full)

    pub undone-begun : NumbersPushed content old new columns becoming numbers → (map after_unpush becoming ≡ columns) × (after_uncreate_all (length columns) new ≡ old)
    undone-begun pushed = let begun = pushed.begun (all-full columns full) in (begun.unpushed, begun.uncreated)

    pub space-begun : NumbersPushed content old new columns becoming numbers → fit_in_order (spaces_of old.memory.state) (map (λ c. c.size) columns) ≡ true
    space-begun pushed =
        space-free (fit_in_order (spaces_of old.memory.state) (map (λ c. c.size) columns))
        (sym (ap (λ (b : Bool). first_of (cond b (no_space_for_groups old columns ∷ []) (absents old columns ++ some_written_out old columns ∷ []))) (all-full columns full)) ∙ pushed.free)

  pub pushed-filled : all_begin columns ≡ false → becoming ≡ after_push_all (length old.records) columns → new ≡ objects_after_push_all old columns numbers → map (numbers_in content new) becoming ≡ all_numbers_with (number_lists content old) columns numbers → length new.records ≡ length old.records
      → push_numbers_refusal old columns ≡ None → NumbersPushed content old new columns becoming numbers
  pushed-filled none pushed moved more count free = record {
    columns = pushed;
    objects = moved;
    numbers = more;
    count = rw none (omega (arith, count));
    begun = λ all. not-both (all_begin columns) none all;
    free = free;
  }
