-- Number columns after a number is appended to each.
use Rattle.std.proofs.Common.{◌≡◌, inl, inr, ℕ, zero, ◌+◌, ◌*◌, ◌%◌, ◌<◌, Bool, true, false, if◌then◌else◌, [], ◌∷◌, ◌++◌, length, refl, sym, ap, subst, ◌∙◌, arith}
use Rattle.std.specs.Prelude.{ℤ, Option, All, slice_index_or}
use Rattle.std.proofs.Math.Nat.{mul-add, mul-one}
use Rattle.std.proofs.lemmas.Bool.{cases_eq, cases_lt, cases_Bool}
use Rattle.std.proofs.lemmas.List.{length_push}
use Rattle.far_columns.specs.Vector.{Vector}
use Rattle.far_columns.specs.Effects.{is_full, after_push}
use Rattle.far_columns.specs.NumbersTogether.{NumberColumns, all_begin, after_push_all}
use Rattle.far_rows.proofs.RowsGroupStarts.{IsNumbers, number-begins, number-begun, numbers-begin, numbers-begun}
use Rattle.far_rows.proofs.EffectsGrowth.{as-many-numbers, all-numbers}

-- a column after a number is appended, whether its last row group was full or not
pub begun : (c : Vector (Option ℤ)) (o : ℕ) → is_full c ≡ true → after_push c o ≡ record c { objects = c.objects ++ o ∷ []; len = c.len + 1 }
begun c o full = rw full refl

pub longer : (c : Vector (Option ℤ)) (o : ℕ) → is_full c ≡ false → after_push c o ≡ record c { len = c.len + 1 }
longer c o full = rw full refl

-- its row groups keep their size, and it has one more place
pub same_length-grown : (size len more : ℕ) → len + 1 ≡ more → (c : Vector (Option ℤ)) (o : ℕ) → (c.size ≡ size) × (c.len ≡ len) → ((after_push c o).size ≡ size) × ((after_push c o).len ≡ more)
same_length-grown size len more e c o same_length = elim (cases_Bool (is_full c)) [
  | inl full ↦ subst (λ (d : Vector (Option ℤ)). (d.size ≡ size) × (d.len ≡ more)) (sym (begun c o full)) (same_length.0, omega (arith, e, same_length.1))
  | inr not ↦ subst (λ (d : Vector (Option ℤ)). (d.size ≡ size) × (d.len ≡ more)) (sym (longer c o not)) (same_length.0, omega (arith, e, same_length.1))
]

module _ (size len : ℕ) (some : 0 < size) (n records now : ℕ) where
  begun-count : now ≡ records + n → (c : Vector (Option ℤ)) (o : ℕ) → (is_full c ≡ true) × (records ≡ n * length c.objects) → now ≡ n * length (after_push c o).objects
  begun-count count c o was =
      let more : n * (length c.objects + 1) ≡ n * length c.objects + n = mul-add n (length c.objects) 1 ∙ ap (λ m. n * length c.objects + m) (mul-one n) in
      let long : length (after_push c o).objects ≡ length c.objects + 1 = ap (λ (d : Vector (Option ℤ)). length d.objects) (begun c o was.0) ∙ length_push c.objects o in
      omega (arith, count, was.1, more) ∙ ap (λ m. n * m) (sym long)

  longer-count : now ≡ records → (c : Vector (Option ℤ)) (o : ℕ) → (is_full c ≡ false) × (records ≡ n * length c.objects) → now ≡ n * length (after_push c o).objects
  longer-count count c o was = count ∙ was.1 ∙ ap (λ (d : Vector (Option ℤ)). n * length d.objects) (sym (longer c o was.0))

  -- all columns have objects for equally many row groups, and there are no other objects
  pub count-grown : (columns : NumberColumns) → All (IsNumbers size len) columns → now ≡ records + (if all_begin columns then n else 0) → All (λ c. records ≡ n * length c.objects) columns → (o : ℕ) → All (λ c. now ≡ n * length c.objects) (after_push_all o columns)
  count-grown columns are count was o = elim (cases_eq (len % size) zero) [
    | inl divides ↦
        let begin = ap (λ (b : Bool). records + (if b then n else 0)) (numbers-begin size len columns some divides are) in
        all-numbers (λ c. (is_full c ≡ true) × (records ≡ n * length c.objects)) (λ c. now ≡ n * length c.objects) (begun-count (count ∙ begin)) o columns
        (λ k d below. (number-begins size len some divides (slice_index_or columns k d) (are k d below), was k d below))
    | inr not_divides ↦ elim (cases_lt 0 (length columns)) [
      | inl more ↦
          let begin = ap (λ (b : Bool). records + (if b then n else 0)) (numbers-begun size len columns some not_divides more are) in
          all-numbers (λ c. (is_full c ≡ false) × (records ≡ n * length c.objects)) (λ c. now ≡ n * length c.objects) (longer-count (count ∙ begin ∙ omega arith)) o columns
          (λ k d below. (number-begun size len some not_divides (slice_index_or columns k d) (are k d below), was k d below))
      | inr none ↦ λ k d below. absurd (omega (arith, below, none, as-many-numbers o columns))
    ]
  ]
