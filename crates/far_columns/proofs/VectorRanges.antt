-- A range of one object that is borrowed and written.
use Rattle.std.proofs.Common.{◌≡◌, ℕ, ◌+◌, ◌-◌, ◌*◌, ◌/◌, ◌%◌, ◌<◌, ◌≤◌, List, [], ◌∷◌, ◌++◌, length, take, drop, set, Option, Some, None, Result, refl, sym, ap, subst, ◌∙◌, arith}
use Rattle.std.specs.Prelude.{IsSomeAnd, IfOk, OnOk, slice_range}
use Rattle.std.specs.declared.result.Result.TheVariants.{Ok, Err}
use Rattle.std.proofs.lemmas.List.Edits.{length-between}
use Rattle.far_types.specs.declared.refusal.Refusal.{Refusal}
use Rattle.far_scopes.specs.Memory.{list_in, ChangesList}
use Rattle.far_scopes.specs.Movement.{Movement, list_of}
use Rattle.far_scopes.specs.Effects.{after_write, after_overwrite}
use Rattle.far_scopes.specs.Refusing.{refusal_in, lend_refusal, write_refusal}
use Rattle.far_columns.specs.Vector.{Vector, IsShaped, IsVector, WritesPlaces, KeepsOthers, elements, object_at}
use Rattle.far_columns.specs.Effects.{after_write_range}
use Rattle.far_columns.proofs.RefusingLaws.{lent-written}
use Rattle.far_columns.proofs.VectorLaws.{part-lent}
use Rattle.far_columns.proofs.VectorWrites.{places-after_write}

module _ {A : Type 0} where
  pub some-weaker : (o : Option A) {P Q : A → Type 0} → IsSomeAnd o P → ((x : A) → P x → Q x) → IsSomeAnd o Q
  some-weaker None has then = absurd has
  some-weaker (Some x) has then = then x has

  pub some-both : (o : Option A) (P Q : A → Type 0) → IsSomeAnd o P → IsSomeAnd o Q → (x : A) × (o ≡ Some x) × P x × Q x
  some-both None P Q has also = absurd has
  some-both (Some x) P Q has also = (x, refl, has, also)

  -- the result of a call that is not refused
  pub found-unless : {B : Type 0} (r : Result B Refusal) (o : Option A) (value : B → A) (P : A → Type 0) → refusal_in r ≡ None → IfOk r (λ x. o ≡ Some (value x)) → ((x : A) → o ≡ Some x → P x) → IsSomeAnd o P
  found-unless (Ok x) o value P free is holds = subst (λ y. IsSomeAnd y P) (sym is) (holds (value x) is)
  found-unless (Err refusal) o value P free is holds = cc

-- two clauses about a call that is not refused imply a third
pub both-ok : {A B P Q R : Type 0} (r : Result A B) → OnOk r P → OnOk r Q → (P → Q → R) → OnOk r R
both-ok (Ok x) p q then = then p q
both-ok (Err e) p q then = tt

pub single-set : {X : Type 0} (xs : List X) (x : X) → length xs ≡ 1 → set xs 0 x ≡ x ∷ []
single-set [] x long = absurd (omega arith)
single-set (y ∷ []) x long = refl
single-set (y ∷ z ∷ xs) x long = absurd (omega arith)

-- a range that is borrowed has the right length
pub lent-long : {X : Type 0} (list : Option (List X)) (r : List X) (a e : ℕ) → IsSomeAnd list (λ l. r ≡ slice_range l a e) → IsSomeAnd list (λ l. e ≤ length l) → length r ≡ e - a
lent-long None r a e is there = absurd is
lent-long (Some l) r a e is there = ap length is ∙ length-between l a e there

module _ {X K : Type 0} (meaning : List ℕ → List X) (content : K → List ℕ) (m : Movement X K) where
  -- a list in local memory is the object's list
  pub list-local : (o : ℕ) (list : List X) → list_in m.memory o ≡ Some list → list_of meaning content m o ≡ Some list
  list-local o list is = rw is refl

  -- an object that may be written has its list in local memory, since it can be lent
  pub list-held : {B : Type 0} (o : ℕ) (r : Result B Refusal) (value : B → List X) → write_refusal m o ≡ None → refusal_in r ≡ lend_refusal m o → IfOk r (λ x. list_in m.memory o ≡ Some (value x))
      → (size : ℕ) → IsSomeAnd (list_of meaning content m o) (λ list. length list ≡ size) → IsSomeAnd (list_in m.memory o) (λ list. length list ≡ size)
  list-held o r value free refused lent size long =
      found-unless r (list_in m.memory o) value (λ list. length list ≡ size) (refused ∙ lent-written m o free) lent (λ list is. subst (λ l. IsSomeAnd l (λ xs. length xs ≡ size)) (list-local o list is) long)

  module _ (v : Vector X) where
    -- a property of an object and a size, if they are the object with place i and the size of the vector's row groups
    pub at-place : (P : ℕ → ℕ → Type 0) (i o size : ℕ) → o ≡ object_at v i → size ≡ v.size → P o size → P (object_at v i) v.size
    at-place P i o size object same holds = subst (λ n. P (object_at v i) n) same (subst (λ p. P p size) object holds)

    -- a range that is borrowed is a part of the vector
    pub range-lent : IsShaped v → IsVector (list_of meaning content m) v → (from to : ℕ) → from < to → to ≤ v.len → from / v.size ≡ (to - 1) / v.size → (r : List X) → IsSomeAnd (list_in m.memory (object_at v from)) (λ list. r ≡ slice_range list (from % v.size) (from % v.size + (to - from))) → r ≡ slice_range (elements (list_of meaning content m) v) from to
    range-lent shaped is from to some within same r lent =
        let found = some-both (list_in m.memory (object_at v from)) (λ list. r ≡ slice_range list (from % v.size) (from % v.size + (to - from))) (λ list. r ≡ slice_range list (from % v.size) (from % v.size + (to - from))) lent lent in
        found.2 ∙ part-lent (list_of meaning content m) v shaped is from to some within same found.0 (list-local (object_at v from) found.0 found.1)

    pub after_write-is : (i o size : ℕ) (range now : List X) → o ≡ object_at v i → size ≡ v.size → range ≡ now → after_overwrite (after_write m o) o (i % size) range ≡ after_write_range m v i now
    after_write-is i o size range now object same is = rw (object, same, is) refl

    -- a mutable borrow of a range changes the list of object o from an index on
    abbrev pub ChangesFrom : ℕ → ℕ → ℕ → Type 0
    ChangesFrom at o n = IsSomeAnd (list_in m.memory o) (λ list. (range : List X) → length range ≡ at + n - at → ChangesList (list_of meaning content m) (list_of meaning content (after_overwrite (after_write m o) o at range)) o (Some (take at list ++ (range ++ drop (at + n) list))))

    -- a mutable borrow of a range changes the vector from place i on
    abbrev pub Changes : ℕ → ℕ → ℕ → ℕ → Type 0
    Changes i o size n = ChangesFrom (i % size) o n

    pub changes-is : (i o size n : ℕ) → o ≡ object_at v i → size ≡ v.size → Changes i o size n → Changes i (object_at v i) v.size n
    changes-is i o size n object same changes = subst (λ k. Changes i (object_at v i) k n) same (subst (λ p. Changes i p size n) object changes)

    module _ (shaped : IsShaped v) (is : IsVector (list_of meaning content m) v) (i n : ℕ) (inside : i < length v.objects * v.size) (fits : i % v.size + n ≤ v.size)
        (there : IsSomeAnd (list_in m.memory (object_at v i)) (λ list. length list ≡ v.size))
        (changes : Changes i (object_at v i) v.size n) (range : List X) (long : length range ≡ n) where
      abbrev now : Movement X K
      now = after_write_range m v i range

      abbrev Changed : List X → Type 0
      Changed list = (range : List X) → length range ≡ i % v.size + n - i % v.size → ChangesList (list_of meaning content m) (list_of meaning content (after_write_range m v i range)) (object_at v i) (Some (take (i % v.size) list ++ (range ++ drop (i % v.size + n) list)))

      changed : (list : List X) × (list_in m.memory (object_at v i) ≡ Some list) × (length list ≡ v.size) × Changed list
      changed = some-both (list_in m.memory (object_at v i)) (λ list. length list ≡ v.size) Changed there changes

      pub others-range : KeepsOthers (list_of meaning content m) (list_of meaning content now) (object_at v i)
      others-range = (changed.3 range (omega (arith, long))).others

      pub places-range : WritesPlaces (list_of meaning content m) (list_of meaning content now) v i range
      places-range =
          places-after_write (list_of meaning content m) (list_of meaning content now) v shaped is i inside others-range range changed.0 (omega (arith, fits, long)) (list-local (object_at v i) changed.0 changed.1)
          (subst (λ k. list_of meaning content now (object_at v i) ≡ Some (take (i % v.size) changed.0 ++ (range ++ drop (i % v.size + k) changed.0))) (sym long) (changed.3 range (omega (arith, long))).here)
