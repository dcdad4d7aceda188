-- A new table is valid.
use Rattle.std.proofs.Common.{◌≡◌, ℕ, ◌+◌, ◌*◌, ◌-◌, ◌≤◌, ◌^◌, ℤ, List, [], ◌∷◌, length, get_or, replicate, Option, refl, sym, ap, ◌∙◌, arith}
use Rattle.std.specs.Prelude.{All, AllPairs, slice_get}
use Rattle.std.proofs.lemmas.Option.{slice_get_past, none-some}
use Rattle.std.proofs.lemmas.List.Elements.{All-nil, All-cons, All-weaker}
use Rattle.far_types.specs.declared.cell.Kind.{Kind}
use Rattle.far_types.specs.declared.cell.Kind.TheVariants as kind
use Rattle.far_types.specs.declared.limits.Limits.{Limits}
use Rattle.far_types.specs.Bounds.{IsSchema, AreLimits}
use Rattle.far_columns.specs.Vector.{Vector, IsVector, IsShaped, AreDisjoint}
use Rattle.far_texts.specs.Texts as texts
use Rattle.far_texts.specs.Texts.{Texts, Lists, HasGroups, IsTextColumn}
use Rattle.far_columns.specs.NumbersTogether.{NumberLists, AreNumberColumns}
use Rattle.far_texts.specs.Together.{AreColumns}
use Rattle.far_rows.specs.Naming.{AreNamed}
use Rattle.far_rows.specs.Rows.{AreRows}
use Rattle.far_rows.specs.Opening.{numbers_from, texts_from, empty_rows}
use Rattle.far_rows.proofs.ColumnIndexesOpening.{column_indexes-are, columns-count, are-numbered, numbers-placed, texts-placed}

mul-zero : (n : ℕ) → n * 0 ≡ 0
mul-zero n = omega arith

zero-times : (n : ℕ) → 0 * n - 0 ≡ 0
zero-times n = omega arith

-- an empty number column, and an empty text column
record IsEmptyNumbers (size : ℕ) (c : Vector (Option ℤ)) : Type 0 where
  pub same_length : c.size ≡ size
  pub len : c.len ≡ 0
  pub objects : c.objects ≡ []

record IsEmptyTexts (size limit : ℕ) (c : Texts) : Type 0 where
  pub same_length : c.size ≡ size
  pub bound : c.limit ≡ limit
  pub len : c.len ≡ 0
  pub objects : c.objects ≡ []

numbers-empty : (size n : ℕ) (kinds : List Kind) → All (IsEmptyNumbers size) (numbers_from size n kinds)
numbers-empty size n [] = All-nil (IsEmptyNumbers size)
numbers-empty size n (kind.Int ∷ kinds) = All-cons (IsEmptyNumbers size) _ _ record { same_length = refl; len = refl; objects = refl } (numbers-empty size (n + 1) kinds)
numbers-empty size n (kind.Text ∷ kinds) = numbers-empty size (n + 1) kinds

texts-empty : (size limit n : ℕ) (kinds : List Kind) → All (IsEmptyTexts size limit) (texts_from size limit n kinds)
texts-empty size limit n [] = All-nil (IsEmptyTexts size limit)
texts-empty size limit n (kind.Int ∷ kinds) = texts-empty size limit (n + 1) kinds
texts-empty size limit n (kind.Text ∷ kinds) = All-cons (IsEmptyTexts size limit) _ _ record { same_length = refl; bound = refl; len = refl; objects = refl } (texts-empty size limit (n + 1) kinds)

-- a property of all elements implies one of each pair
pairs-of : {X : Type 0} (P : X → Type 0) (R : X → X → Type 0) (xs : List X) → ((x y : X) → P x → P y → R x y) → All P xs → AllPairs R xs
pairs-of P R xs both all i j d early within = both (get_or xs i d) (get_or xs j d) (all i d (omega arith)) (all j d within)

number-is : (lists : NumberLists) (size : ℕ) (c : Vector (Option ℤ)) → IsEmptyNumbers size c → IsVector lists c
number-is lists size c empty =
    let none : length c.objects ≡ 0 = ap length empty.objects in
    record {
      whole = λ k o within. absurd (omega arith);
      unused = rw (empty.objects, empty.len) (ap (λ n. replicate n c.default_value) (sym (zero-times c.size)));
    }

numbers-are : (lists : NumberLists) (size n : ℕ) (kinds : List Kind) → AreNumberColumns lists (numbers_from size n kinds)
numbers-are lists size n kinds =
    let empty = numbers-empty size n kinds in
    record {
      all_disjoint = record {
        each = All-weaker (IsEmptyNumbers size) (IsVector lists) (number-is lists size) (numbers_from size n kinds) empty;
        disjoint = pairs-of (IsEmptyNumbers size) AreDisjoint (numbers_from size n kinds) (λ c d of_c of_d. let none : length c.objects ≡ 0 = ap length of_c.objects in λ k o within. absurd (omega arith)) empty;
      };
      same_length = pairs-of (IsEmptyNumbers size) (λ c d. (c.size ≡ d.size) × (c.len ≡ d.len)) (numbers_from size n kinds) (λ c d of_c of_d. (of_c.same_length ∙ sym of_d.same_length, of_c.len ∙ sym of_d.len)) empty;
    }

text-is : (lists : Lists) (size limit : ℕ) (c : Texts) → IsEmptyTexts size limit c → IsTextColumn lists c
text-is lists size limit c empty =
    let none : length c.objects ≡ 0 = ap length empty.objects in
    record {
      once = λ i j o early within. absurd (omega arith);
      each = λ group o here. absurd (none-some o (sym (slice_get_past c.objects group (omega arith)) ∙ here));
    }

texts-are : (lists : Lists) (size limit n : ℕ) (kinds : List Kind) → AreColumns lists (texts_from size limit n kinds)
texts-are lists size limit n kinds =
    let empty = texts-empty size limit n kinds in
    record {
      all_disjoint = record {
        each = All-weaker (IsEmptyTexts size limit) (IsTextColumn lists) (text-is lists size limit) (texts_from size limit n kinds) empty;
        disjoint = pairs-of (IsEmptyTexts size limit) texts.AreDisjoint (texts_from size limit n kinds) (λ c d of_c of_d. let none : length c.objects ≡ 0 = ap length of_c.objects in λ group other o here. absurd (none-some o (sym (slice_get_past c.objects group (omega arith)) ∙ here))) empty;
      };
      same_length = pairs-of (IsEmptyTexts size limit) (λ c d. (c.size ≡ d.size) × (c.len ≡ d.len)) (texts_from size limit n kinds) (λ c d of_c of_d. (of_c.same_length ∙ sym of_d.same_length, of_c.len ∙ sym of_d.len)) empty;
    }

number-shaped : (size : ℕ) → 1 ≤ size → size ≤ 65536 → (c : Vector (Option ℤ)) → IsEmptyNumbers size c → IsShaped c
number-shaped size low high c empty =
    let none : length c.objects ≡ 0 = ap length empty.objects in
    let nothing : 0 * c.size ≡ 0 = omega arith in
    let space : length c.objects * c.size ≡ 0 = ap (λ n. n * c.size) none ∙ nothing in
    record {
      some = omega (arith, empty.same_length, low);
      short = omega (arith, empty.same_length, high);
      few = omega (arith, none);
      sorted = λ i j d early within. absurd (omega (arith, none, early, within));
      enough = omega (arith, empty.len, space);
      needed = omega (arith, empty.len, empty.same_length, space, low);
    }

text-grouped : (size limit : ℕ) → 1 ≤ size → size ≤ 65536 → limit ≤ 2 ^ 24 → (c : Texts) → IsEmptyTexts size limit c → HasGroups c
text-grouped size limit low high short c empty =
    let none : length c.objects ≡ 0 = ap length empty.objects in
    let nothing : 0 * c.size ≡ 0 = omega arith in
    let space : length c.objects * c.size ≡ 0 = ap (λ n. n * c.size) none ∙ nothing in
    record {
      some = omega (arith, empty.same_length, low);
      small = omega (arith, empty.same_length, high);
      short = omega (arith, empty.bound, short);
      few = omega (arith, none);
      held = omega (arith, empty.len, space);
      begun = omega (arith, empty.len, empty.same_length, space, low);
    }

no-objects : (n : ℕ) (objects : List ℕ) → objects ≡ [] → n * length objects ≡ 0
no-objects n objects none = ap (λ os. n * length os) none ∙ mul-zero n

pub rows-are : {K : Type 0} (content : K → List ℕ) (schema : List Kind) (limits : Limits) (number : ℕ) → IsSchema schema → AreLimits limits → AreRows content (empty_rows schema limits number)
rows-are content schema limits number few are =
    let size = limits.group in
    let limit = limits.text_size in
    let numbers = numbers-empty size 0 schema in
    let texts = texts-empty size limit 0 schema in
    record {
      column_indexes = column_indexes-are size limit schema;
      few = omega (arith, columns-count size limit 0 schema, few.1);
      some = are.group_low;
      small = are.group_high;
      places = omega arith;
      numbers = numbers-are _ size 0 schema;
      texts = texts-are _ size limit 0 schema;
      shaped = All-weaker (IsEmptyNumbers size) IsShaped (number-shaped size are.group_low are.group_high) (numbers_from size 0 schema) numbers;
      grouped = All-weaker (IsEmptyTexts size limit) HasGroups (text-grouped size limit are.group_low are.group_high (omega (arith, are.text_size_high))) (texts_from size limit 0 schema) texts;
      same_length_numbers = All-weaker (IsEmptyNumbers size) (λ (c : Vector (Option ℤ)). (c.size ≡ size) × (c.len ≡ 0)) (λ c empty. (empty.same_length, empty.len)) (numbers_from size 0 schema) numbers;
      same_length_texts = All-weaker (IsEmptyTexts size limit) (λ (c : Texts). (c.size ≡ size) × (c.len ≡ 0)) (λ c empty. (empty.same_length, empty.len)) (texts_from size limit 0 schema) texts;
      number_objects = All-weaker (IsEmptyNumbers size) _ (λ c empty. sym (no-objects (length (numbers_from size 0 schema)) c.objects empty.objects)) (numbers_from size 0 schema) numbers;
      text_objects = All-weaker (IsEmptyTexts size limit) _ (λ c empty. sym (no-objects (length (texts_from size limit 0 schema)) c.objects empty.objects)) (texts_from size limit 0 schema) texts;
      numbered = are-numbered size limit schema;
      placed_numbers = numbers-placed size limit schema;
      placed_texts = texts-placed size limit schema;
      number_names = All-weaker (IsEmptyNumbers size) (λ (c : Vector (Option ℤ)). AreNamed [] c.column c.objects) (λ c empty g o at. absurd (none-some o (sym (ap (λ os. slice_get os g) empty.objects) ∙ at))) (numbers_from size 0 schema) numbers;
      text_names = All-weaker (IsEmptyTexts size limit) (λ (c : Texts). AreNamed [] c.column c.objects) (λ c empty g o at. absurd (none-some o (sym (ap (λ os. slice_get os g) empty.objects) ∙ at))) (texts_from size limit 0 schema) texts;
      owned_numbers = λ o name at. absurd (none-some name at);
      owned_texts = λ o name at. absurd (none-some name at);
      clean_numbers = λ o clean. refl;
      clean_texts = λ o clean. refl;
    }
