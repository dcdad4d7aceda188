-- Text columns after a text is appended to each.
use Rattle.std.proofs.Common.{◌≡◌, inl, inr, ℕ, zero, ◌+◌, ◌*◌, ◌%◌, ◌<◌, Bool, true, false, if◌then◌else◌, List, [], ◌∷◌, ◌++◌, length, refl, sym, ap, subst, ◌∙◌, arith}
use Rattle.std.specs.Prelude.{All, slice_index_or}
use Rattle.std.proofs.Math.Nat.{mul-add, mul-one}
use Rattle.std.proofs.lemmas.Bool.{cases_eq, cases_lt, cases_Bool}
use Rattle.std.proofs.lemmas.List.{length_push}
use Rattle.far_texts.specs.Texts.{Texts}
use Rattle.far_texts.specs.Effects.{begins_group, after_push}
use Rattle.far_texts.specs.Together.{all_begin, after_push_all}
use Rattle.far_rows.proofs.RowsGroupStarts.{IsTexts, text-begins, text-begun, texts-begin, texts-begun}
use Rattle.far_rows.proofs.EffectsGrowth.{as-many-texts, all-texts}

-- a column after a text is appended, whether its last row group was full or not
pub begun : (c : Texts) (o : ℕ) → begins_group c ≡ true → after_push c o ≡ record c { objects = c.objects ++ o ∷ []; len = c.len + 1 }
begun c o full = rw full refl

pub longer : (c : Texts) (o : ℕ) → begins_group c ≡ false → after_push c o ≡ record c { len = c.len + 1 }
longer c o full = rw full refl

-- its row groups keep their size, and it has one more place
pub same_length-grown : (size len more : ℕ) → len + 1 ≡ more → (c : Texts) (o : ℕ) → (c.size ≡ size) × (c.len ≡ len) → ((after_push c o).size ≡ size) × ((after_push c o).len ≡ more)
same_length-grown size len more e c o same_length = elim (cases_Bool (begins_group c)) [
  | inl full ↦ subst (λ (d : Texts). (d.size ≡ size) × (d.len ≡ more)) (sym (begun c o full)) (same_length.0, omega (arith, e, same_length.1))
  | inr not ↦ subst (λ (d : Texts). (d.size ≡ size) × (d.len ≡ more)) (sym (longer c o not)) (same_length.0, omega (arith, e, same_length.1))
]

module _ (size len : ℕ) (some : 0 < size) (n records now : ℕ) where
  begun-count : now ≡ records + n → (c : Texts) (o : ℕ) → (begins_group c ≡ true) × (records ≡ n * length c.objects) → now ≡ n * length (after_push c o).objects
  begun-count count c o was =
      let more : n * (length c.objects + 1) ≡ n * length c.objects + n = mul-add n (length c.objects) 1 ∙ ap (λ m. n * length c.objects + m) (mul-one n) in
      let long : length (after_push c o).objects ≡ length c.objects + 1 = ap (λ (d : Texts). length d.objects) (begun c o was.0) ∙ length_push c.objects o in
      omega (arith, count, was.1, more) ∙ ap (λ m. n * m) (sym long)

  longer-count : now ≡ records → (c : Texts) (o : ℕ) → (begins_group c ≡ false) × (records ≡ n * length c.objects) → now ≡ n * length (after_push c o).objects
  longer-count count c o was = count ∙ was.1 ∙ ap (λ (d : Texts). n * length d.objects) (sym (longer c o was.0))

  -- all columns have objects for equally many row groups, and there are no other objects
  pub count-grown : (columns : List Texts) → All (IsTexts size len) columns → now ≡ records + (if all_begin columns then n else 0) → All (λ c. records ≡ n * length c.objects) columns → (o : ℕ) → All (λ c. now ≡ n * length c.objects) (after_push_all o columns)
  count-grown columns are count was o = elim (cases_eq (len % size) zero) [
    | inl divides ↦
        let begin = ap (λ (b : Bool). records + (if b then n else 0)) (texts-begin size len columns some divides are) in
        all-texts (λ c. (begins_group c ≡ true) × (records ≡ n * length c.objects)) (λ c. now ≡ n * length c.objects) (begun-count (count ∙ begin)) o columns
        (λ k d below. (text-begins size len some divides (slice_index_or columns k d) (are k d below), was k d below))
    | inr not_divides ↦ elim (cases_lt 0 (length columns)) [
      | inl more ↦
          let begin = ap (λ (b : Bool). records + (if b then n else 0)) (texts-begun size len columns some not_divides more are) in
          all-texts (λ c. (begins_group c ≡ false) × (records ≡ n * length c.objects)) (λ c. now ≡ n * length c.objects) (longer-count (count ∙ begin ∙ omega arith)) o columns
          (λ k d below. (text-begun size len some not_divides (slice_index_or columns k d) (are k d below), was k d below))
      | inr none ↦ λ k d below. absurd (omega (arith, below, none, as-many-texts o columns))
    ]
  ]
