-- Why setting a number is refused, given its row group.
use Rattle.std.proofs.Common.{◌≡◌, ℕ, ℤ, ◌/◌, ◌<◌, nat_lt, Bool, true, false, cond, List, [], ◌∷◌, length, get_or, Option, None, Some, refl, sym, ap, subst, ◌∙◌, arith}
use Rattle.std.specs.Prelude.{not, slice_get}
use Rattle.std.specs.Option.{option_and_then}
use Rattle.std.proofs.lemmas.Bool.{lt-ltb, ltb-true, not-false}
use Rattle.std.proofs.lemmas.Option.{same_Some, slice_get-get_or, slice_get_within, get_or_from_slice_get}
use Rattle.far_types.specs.declared.refusal.Refusal.TheVariants as refusal
use Rattle.far_types.specs.FirstOf.{first_of}
use Rattle.far_scopes.specs.Refusing.{absent, written_out, write_refusal}
use Rattle.far_columns.specs.Vector.{Vector, IsShaped, object_at}
use Rattle.far_columns.specs.Refusing.{set_refusal}
use Rattle.far_columns.proofs.VectorLaws.{object-there}
use Rattle.far_rows.specs.Rows.{Rows, AreRows}

module _ {K : Type 0} (content : K → List ℕ) (r : Rows K) (are : AreRows content r) (i place group : ℕ) (v : Vector (Option ℤ)) (column : slice_get r.numbers i ≡ Some v) (used : place < length r.alive) (of : group ≡ place / r.size) where
  same : get_or r.numbers i v ≡ v
  same = get_or_from_slice_get r.numbers i v v column

  same_length : (v.size ≡ r.size) × (v.len ≡ length r.alive)
  same_length = subst (λ (d : Vector (Option ℤ)). (d.size ≡ r.size) × (d.len ≡ length r.alive)) same (are.same_length_numbers i v (slice_get_within r.numbers i v column))

  shaped : IsShaped v
  shaped = subst IsShaped same (are.shaped i v (slice_get_within r.numbers i v column))

  -- the row group has an object
  pub group-there : slice_get v.objects group ≡ Some (object_at v place)
  group-there = ap (slice_get v.objects) (of ∙ ap (λ n. place / n) (sym same_length.0)) ∙ object-there v shaped place (omega (arith, used, same_length.1, shaped.enough))

  -- writing this object is refused exactly as setting the number is
  pub group-writable : (o : ℕ) → Some o ≡ slice_get v.objects group → write_refusal r.number_objects o ≡ option_and_then (λ w. set_refusal r.number_objects w place) (slice_get r.numbers i)
  group-writable o found =
      let there : nat_lt place v.len ≡ true = lt-ltb place v.len (omega (arith, used, same_length.1)) in
      let m = r.number_objects in
      ap (write_refusal m) (same_Some o (object_at v place) (found ∙ group-there))
      ∙ sym (ap (λ b. first_of ((not b, refusal.OutOfRange) ∷ absent m (object_at v place) ∷ written_out m (object_at v place) ∷ [])) there)
      ∙ sym (ap (option_and_then (λ w. set_refusal m w place)) column)

cond-free : {A : Type 0} (b : Bool) (x : A) (rest : Option A) → cond b (Some x) rest ≡ None → b ≡ false
cond-free true x rest is = cc
cond-free false x rest is = refl

-- if a number may be set, its place exists, and the place has the same row group in its column as in the table
module _ {K : Type 0} (content : K → List ℕ) (r : Rows K) (are : AreRows content r) (i place : ℕ) (v : Vector (Option ℤ)) (column : slice_get r.numbers i ≡ Some v) where
  also-same_length : (v.size ≡ r.size) × (v.len ≡ length r.alive)
  also-same_length = subst (λ (d : Vector (Option ℤ)). (d.size ≡ r.size) × (d.len ≡ length r.alive)) (get_or_from_slice_get r.numbers i v v column) (are.same_length_numbers i v (slice_get_within r.numbers i v column))

  pub size-same : v.size ≡ r.size
  size-same = also-same_length.0

  pub free-column : option_and_then (λ w. set_refusal r.number_objects w place) (slice_get r.numbers i) ≡ None → set_refusal r.number_objects v place ≡ None
  free-column free = sym (ap (option_and_then (λ w. set_refusal r.number_objects w place)) column) ∙ free

  pub place-there : set_refusal r.number_objects v place ≡ None → place < length r.alive
  place-there free =
      let m = r.number_objects in
      let past : not (nat_lt place v.len) ≡ false = cond-free (not (nat_lt place v.len)) refusal.OutOfRange (first_of (absent m (object_at v place) ∷ written_out m (object_at v place) ∷ [])) free in
      omega (arith, ltb-true place v.len (not-false (nat_lt place v.len) past), also-same_length.1)

module _ {K : Type 0} (content : K → List ℕ) (r : Rows K) (are : AreRows content r) (i place : ℕ) (within : i < length r.numbers) (free : option_and_then (λ w. set_refusal r.number_objects w place) (slice_get r.numbers i) ≡ None) where
  default_value : Vector (Option ℤ)
  default_value = record { column = 0; size = 0; objects = []; len = 0; default_value = None }

  pub place-of : place < length r.alive
  place-of =
      let v = get_or r.numbers i default_value in
      let column : slice_get r.numbers i ≡ Some v = slice_get-get_or r.numbers i default_value within in
      place-there content r are i place v column (free-column content r are i place v column free)
