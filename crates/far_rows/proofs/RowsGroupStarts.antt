-- Where row groups begin: at a place whose number is divisible by the size of a row group.
use Rattle.std.proofs.Common.{◌≡◌, ◌≢◌, inl, inr, ℕ, ◌+◌, ◌*◌, ◌/◌, ◌%◌, ◌≤◌, ◌<◌, ◌^◌, true, false, List, [], ◌∷◌, length, refl, sym, ap, ◌∙◌, arith, mul-le-mul_left, mul-le-mul_right}
use Rattle.std.specs.Prelude.{ℤ, Option, None, Some, All}
use Rattle.std.specs.Option.{option_or}
use Rattle.std.proofs.Math.Nat.{div-add-mod', mul-mod_left, mul-add, mul-one}
use Rattle.std.proofs.lemmas.Bool.{cases_lt, cases_eq, cases_Bool, eq-eqb, eqb-true}
use Rattle.std.proofs.lemmas.List.Elements.{All-head, All-weaker}
use Rattle.std.proofs.lemmas.List.Sums.{AllPass-from_list_all, list_all-from_AllPass}
use Rattle.far_columns.specs.Vector.{Vector, IsShaped}
use Rattle.far_columns.specs.Effects.{is_full}
use Rattle.far_texts.specs.Texts.{Texts, HasGroups}
use Rattle.far_texts.specs.Effects.{begins_group}
use Rattle.far_columns.specs.NumbersTogether.{NumberColumns, all_begin}
use Rattle.far_texts.specs.Together.{all_begin as all_texts_begin}

-- len elements need k row groups of one size
module _ (len k size : ℕ) (some : 0 < size) (enough : len ≤ k * size) (needed : k * size < len + size) where
  -- if a row group begins next, all places of the last row group are used
  pub full-at : len % size ≡ 0 → len ≡ k * size
  full-at divides =
      let q = len / size in
      let whole : len ≡ q * size = omega (arith, div-add-mod' len size, divides) in
      elim (cases_eq q k) [
        | inl same ↦ whole ∙ ap (λ n. n * size) same
        | inr ne ↦ elim (cases_lt q k) [
          | inl fewer ↦
              let long = mul-le-mul_right {m = q + 1} {n = k} size (omega (arith, fewer)) in
              absurd (omega (arith, long, whole, needed))
          | inr more ↦
              let long = mul-le-mul_right {m = k + 1} {n = q} size (omega (arith, more, ne)) in
              absurd (omega (arith, long, whole, enough, some))
        ]
      ]

  pub begun-at : len % size ≢ 0 → len ≢ k * size
  begun-at not_divides full = not_divides (ap (λ n. n % size) full ∙ mul-mod_left k size)

-- a number column with the rows of this table
pub record IsNumbers (size len : ℕ) (c : Vector (Option ℤ)) : Type 0 where
  pub shaped : IsShaped c
  pub same_length : (c.size ≡ size) × (c.len ≡ len)

pub record IsTexts (size len : ℕ) (c : Texts) : Type 0 where
  pub grouped : HasGroups c
  pub same_length : (c.size ≡ size) × (c.len ≡ len)

pub number-begins : (size len : ℕ) → 0 < size → len % size ≡ 0 → (c : Vector (Option ℤ)) → IsNumbers size len c → is_full c ≡ true
number-begins size len some divides c is =
    let k = length c.objects in
    let on : c.len ≡ k * c.size =
    is.same_length.1
    ∙ full-at len k size some (omega (arith, is.shaped.enough, is.same_length.1, ap (λ s. k * s) is.same_length.0)) (omega (arith, is.shaped.needed, is.same_length.0, is.same_length.1, ap (λ s. k * s) is.same_length.0)) divides
    ∙ sym (ap (λ s. k * s) is.same_length.0) in
    eq-eqb c.len (k * c.size) on

pub number-begun : (size len : ℕ) → 0 < size → len % size ≢ 0 → (c : Vector (Option ℤ)) → IsNumbers size len c → is_full c ≡ false
number-begun size len some not_divides c is =
    let k = length c.objects in
    elim (cases_Bool (is_full c)) [
      | inl full ↦
          absurd (begun-at len k size some (omega (arith, is.shaped.enough, is.same_length.1, ap (λ s. k * s) is.same_length.0)) (omega (arith, is.shaped.needed, is.same_length.0, is.same_length.1, ap (λ s. k * s) is.same_length.0)) not_divides (sym is.same_length.1 ∙ eqb-true c.len (k * c.size) full ∙ ap (λ s. k * s) is.same_length.0))
      | inr begun ↦ begun
    ]

pub text-begins : (size len : ℕ) → 0 < size → len % size ≡ 0 → (c : Texts) → IsTexts size len c → begins_group c ≡ true
text-begins size len some divides c is =
    let k = length c.objects in
    let on : c.len ≡ k * c.size =
    is.same_length.1
    ∙ full-at len k size some (omega (arith, is.grouped.held, is.same_length.1, ap (λ s. k * s) is.same_length.0)) (omega (arith, is.grouped.begun, is.same_length.0, is.same_length.1, ap (λ s. k * s) is.same_length.0)) divides
    ∙ sym (ap (λ s. k * s) is.same_length.0) in
    eq-eqb c.len (k * c.size) on

pub text-begun : (size len : ℕ) → 0 < size → len % size ≢ 0 → (c : Texts) → IsTexts size len c → begins_group c ≡ false
text-begun size len some not_divides c is =
    let k = length c.objects in
    elim (cases_Bool (begins_group c)) [
      | inl full ↦
          absurd (begun-at len k size some (omega (arith, is.grouped.held, is.same_length.1, ap (λ s. k * s) is.same_length.0)) (omega (arith, is.grouped.begun, is.same_length.0, is.same_length.1, ap (λ s. k * s) is.same_length.0)) not_divides (sym is.same_length.1 ∙ eqb-true c.len (k * c.size) full ∙ ap (λ s. k * s) is.same_length.0))
      | inr begun ↦ begun
    ]

-- the columns of one table all begin a row group if the next place is the first of one
pub numbers-begin : (size len : ℕ) (columns : NumberColumns) → 0 < size → len % size ≡ 0 → All (IsNumbers size len) columns → all_begin columns ≡ true
numbers-begin size len columns some divides are =
    list_all-from_AllPass is_full columns (All-weaker (IsNumbers size len) (λ c. is_full c ≡ true) (number-begins size len some divides) columns are)

pub numbers-begun : (size len : ℕ) (columns : NumberColumns) → 0 < size → len % size ≢ 0 → 0 < length columns → All (IsNumbers size len) columns → all_begin columns ≡ false
numbers-begun size len [] some not_divides more are = absurd (omega (arith, more))
numbers-begun size len (c ∷ columns) some not_divides more are =
    let first = number-begun size len some not_divides c (All-head (IsNumbers size len) c columns are) in
    rw first refl

pub texts-begin : (size len : ℕ) (columns : List Texts) → 0 < size → len % size ≡ 0 → All (IsTexts size len) columns → all_texts_begin columns ≡ true
texts-begin size len columns some divides are =
    list_all-from_AllPass begins_group columns (All-weaker (IsTexts size len) (λ c. begins_group c ≡ true) (text-begins size len some divides) columns are)

pub texts-begun : (size len : ℕ) (columns : List Texts) → 0 < size → len % size ≢ 0 → 0 < length columns → All (IsTexts size len) columns → all_texts_begin columns ≡ false
texts-begun size len [] some not_divides more are = absurd (omega (arith, more))
texts-begun size len (c ∷ columns) some not_divides more are =
    let first = text-begun size len some not_divides c (All-head (IsTexts size len) c columns are) in
    rw first refl

-- a table of at most 16 columns and fewer than 2^24 places has at most 2^28 objects of a kind, also after the next row group begins
pub few-more : (records n k size len : ℕ) → records ≡ n * k → k * size ≡ len → len < 2 ^ 24 → 0 < size → n ≤ 16 → records + n ≤ 2 ^ 28
few-more records n k size len count all below some few =
    let groups = mul-le-mul_left {m = 1} {n = size} k some in
    let one : k * 1 ≡ k = mul-one k in
    let all_groups = mul-le-mul_left {m = k + 1} {n = 2 ^ 24} n (omega (arith, groups, one, all, below)) in
    let columns = mul-le-mul_right {m = n} {n = 16} (2 ^ 24) few in
    let sum : n * (k + 1) ≡ n * k + n = mul-add n k 1 ∙ ap (λ m. n * k + m) (mul-one n) in
    omega (arith, count, sum, all_groups, columns)

pub are-numbers : (size len : ℕ) (columns : NumberColumns) → All IsShaped columns → All (λ c. (c.size ≡ size) × (c.len ≡ len)) columns → All (IsNumbers size len) columns
are-numbers size len columns shaped same_length k d below = record { shaped = shaped k d below; same_length = same_length k d below }

pub are-texts : (size len : ℕ) (columns : List Texts) → All HasGroups columns → All (λ c. (c.size ≡ size) × (c.len ≡ len)) columns → All (IsTexts size len) columns
are-texts size len columns grouped same_length k d below = record { grouped = grouped k d below; same_length = same_length k d below }

module _ (size len records : ℕ) (some : 0 < size) (below : len < 2 ^ 24) (few : records ≤ 2 ^ 28) where
  pub numbers-few : (columns : NumberColumns) → length columns ≤ 16 → All (IsNumbers size len) columns → All (λ c. records ≡ length columns * length c.objects) columns → all_begin columns ≡ true → records + length columns ≤ 2 ^ 28
  numbers-few [] small are count begin = omega (arith, few)
  numbers-few (c ∷ columns) small are count begin =
      let n = length (c ∷ columns) in
      let here = All-head (IsNumbers size len) c columns are in
      let full = All-head (λ c. is_full c ≡ true) c columns (AllPass-from_list_all is_full (c ∷ columns) begin) in
      let all : length c.objects * size ≡ len = ap (λ s. length c.objects * s) (sym here.same_length.0) ∙ sym (eqb-true c.len (length c.objects * c.size) full) ∙ here.same_length.1 in
      few-more records n (length c.objects) size len (All-head (λ c. records ≡ n * length c.objects) c columns count) all below some small

  pub texts-few : (columns : List Texts) → length columns ≤ 16 → All (IsTexts size len) columns → All (λ c. records ≡ length columns * length c.objects) columns → all_texts_begin columns ≡ true → records + length columns ≤ 2 ^ 28
  texts-few [] small are count begin = omega (arith, few)
  texts-few (c ∷ columns) small are count begin =
      let n = length (c ∷ columns) in
      let here = All-head (IsTexts size len) c columns are in
      let full = All-head (λ c. begins_group c ≡ true) c columns (AllPass-from_list_all begins_group (c ∷ columns) begin) in
      let all : length c.objects * size ≡ len = ap (λ s. length c.objects * s) (sym here.same_length.0) ∙ sym (eqb-true c.len (length c.objects * c.size) full) ∙ here.same_length.1 in
      few-more records n (length c.objects) size len (All-head (λ c. records ≡ n * length c.objects) c columns count) all below some small

-- neither of two refusals applies
pub none-of-two : {A : Type 0} (a b : Option A) → option_or a b ≡ None → (a ≡ None) × (b ≡ None)
none-of-two None b free = (refl, free)
none-of-two (Some e) b free = absurd cc
