-- Reading a table's columns, as cells of its rows.
use Rattle.std.proofs.Common.{◌≡◌, ℕ, ℤ, ◌/◌, ◌<◌, Bool, true, false, not, List, [], ◌∷◌, map, length, get_or, Option, None, Some, refl, sym, ap, subst, ◌∙◌, arith}
use Rattle.std.specs.Prelude.{All, nat_lt, unwrap_or, slice_get}
use Rattle.std.specs.Option.{option_map_or, option_and_then}
use Rattle.std.proofs.lemmas.Bool.{lt-ltb}
use Rattle.std.proofs.lemmas.List.{get_or-map as map-at}
use Rattle.std.proofs.lemmas.Nat.{div_below}
use Rattle.std.proofs.lemmas.Option.{slice_get_read, slice_get-get_or, unwrap_or-slice_get}
use Rattle.std.proofs.Math.ListN.{get_or-map}
use Rattle.far_types.specs.declared.cell.Cell.TheVariants as cell
use Rattle.far_types.specs.declared.refusal.Refusal.{Refusal}
use Rattle.far_types.specs.declared.refusal.Refusal.TheVariants as refusal
use Rattle.far_types.specs.FirstOf.{first_of}
use Rattle.far_scopes.specs.Refusing.{absent}
use Rattle.far_columns.specs.Vector.{Vector, IsVector, IsShaped}
use Rattle.far_columns.specs.Refusing.{get_refusal}
use Rattle.far_columns.specs.Numbers.{number_lists, numbers_in}
use Rattle.far_texts.specs.Texts.{Texts, HasGroups, IsTextColumn, lists_of, texts_in}
use Rattle.far_texts.specs.Refusing.{text_refusal}
use Rattle.far_rows.specs.declared.column_index.ColumnIndex.TheVariants as column_index
use Rattle.far_types.specs.Lent.{text_cell}
use Rattle.far_rows.specs.ColumnIndexes.{column_in}
use Rattle.far_rows.specs.Rows.{Rows, AreRows, all_numbers, all_texts}
use Rattle.far_rows.specs.Refusing.{away_at}

-- a property of all elements is one of the element that was read
pub all-read : {X : Type 0} (P : X → Type 0) (xs : List X) (i : ℕ) (x : X) → All P xs → i < length xs → x ≡ get_or xs i x → P x
all-read P xs i x all within read = subst P (sym read) (all i x within)

read-some : {X : Type 0} (xs : List X) (i : ℕ) (x d : X) → slice_get xs i ≡ Some x → get_or xs i d ≡ x
read-some xs i x d is = sym (unwrap_or-slice_get xs i d) ∙ ap (λ o. unwrap_or o d) is

-- the element at this index, after a function is applied to all elements
map-read : {X Y : Type 0} (f : X → Y) (xs : List X) (i : ℕ) (x : X) (e : Y) → i < length xs → x ≡ get_or xs i x → get_or (map f xs) i e ≡ f x
map-read f xs i x e within read = map-at f xs i x e within ∙ ap f (sym read)

module _ {K : Type 0} (content : K → List ℕ) (r : Rows K) (are : AreRows content r) where
  pub number-column : (i : ℕ) (c : Vector (Option ℤ)) → i < length r.numbers → c ≡ get_or r.numbers i c → IsVector (number_lists content r.number_objects) c
  number-column i c within read = all-read (IsVector (number_lists content r.number_objects)) r.numbers i c are.numbers.all_disjoint.each within read

  pub text-column : (i : ℕ) (c : Texts) → i < length r.texts → c ≡ get_or r.texts i c → IsTextColumn (lists_of content r.text_objects) c
  text-column i c within read = all-read (IsTextColumn (lists_of content r.text_objects)) r.texts i c are.texts.all_disjoint.each within read

  -- whether the object of a row group of a column is away, given the column
  pub absent-number : (g i : ℕ) (c : Vector (Option ℤ)) → i < length r.numbers → c ≡ get_or r.numbers i c → away_at r g (column_index.Number i) ≡ option_map_or (absent r.number_objects) (slice_get c.objects g) (false, refusal.StaleJob)
  absent-number g i c within read =
      ap (λ (d : Option (Vector (Option ℤ))). option_map_or (absent r.number_objects) (option_and_then (λ (v : Vector (Option ℤ)). slice_get v.objects g) d) (false, refusal.StaleJob)) (slice_get_read r.numbers (length r.numbers) i c refl within read)

  pub absent-text : (g i : ℕ) (c : Texts) → i < length r.texts → c ≡ get_or r.texts i c → away_at r g (column_index.Text i) ≡ option_map_or (absent r.text_objects) (slice_get c.objects g) (false, refusal.StaleJob)
  absent-text g i c within read =
      ap (λ (d : Option Texts). option_map_or (absent r.text_objects) (option_and_then (λ (t : Texts). slice_get t.objects g) d) (false, refusal.StaleJob)) (slice_get_read r.texts (length r.texts) i c refl within read)

  -- a place that exists has an object, and a read is refused only if this object is away
  pub number-refused : (i place : ℕ) (c : Vector (Option ℤ)) → i < length r.numbers → c ≡ get_or r.numbers i c → place < length r.alive → IsShaped c → get_refusal r.number_objects c place ≡ first_of (away_at r (place / r.size) (column_index.Number i) ∷ [])
  number-refused i place c within read there shaped =
      let same_length = all-read (λ (v : Vector (Option ℤ)). (v.size ≡ r.size) × (v.len ≡ length r.alive)) r.numbers i c are.same_length_numbers within read in
      let below : place < c.len = omega (arith, same_length.1) in
      let begun : place / c.size < length c.objects = div_below place c.size (length c.objects) shaped.some (omega (arith, shaped.enough)) in
      let yes : nat_lt place c.len ≡ true = lt-ltb place c.len below in
      let object : away_at r (place / r.size) (column_index.Number i) ≡ absent r.number_objects (get_or c.objects (place / c.size) 0) =
      absent-number (place / r.size) i c within read
      ∙ ap (λ s. option_map_or (absent r.number_objects) (slice_get c.objects (place / s)) (false, refusal.StaleJob)) (sym same_length.0)
      ∙ ap (λ o. option_map_or (absent r.number_objects) o (false, refusal.StaleJob)) (slice_get-get_or c.objects (place / c.size) 0 begun) in
      ap (λ b. first_of ((not b, refusal.OutOfRange) ∷ absent r.number_objects (get_or c.objects (place / c.size) 0) ∷ [])) yes
      ∙ ap (λ (case : Bool × Refusal). first_of (case ∷ [])) (sym object)

  pub text-refused : (i place : ℕ) (c : Texts) → i < length r.texts → c ≡ get_or r.texts i c → place < length r.alive → HasGroups c → text_refusal content r.text_objects c place ≡ first_of (away_at r (place / r.size) (column_index.Text i) ∷ [])
  text-refused i place c within read there has =
      let same_length = all-read (λ (t : Texts). (t.size ≡ r.size) × (t.len ≡ length r.alive)) r.texts i c are.same_length_texts within read in
      let below : place < c.len = omega (arith, same_length.1) in
      let begun : place / c.size < length c.objects = div_below place c.size (length c.objects) has.some (omega (arith, has.held)) in
      let yes : nat_lt place c.len ≡ true = lt-ltb place c.len below in
      let object : away_at r (place / r.size) (column_index.Text i) ≡ absent r.text_objects (get_or c.objects (place / c.size) 0) =
      absent-text (place / r.size) i c within read
      ∙ ap (λ s. option_map_or (absent r.text_objects) (slice_get c.objects (place / s)) (false, refusal.StaleJob)) (sym same_length.0)
      ∙ ap (λ o. option_map_or (absent r.text_objects) o (false, refusal.StaleJob)) (slice_get-get_or c.objects (place / c.size) 0 begun) in
      ap (λ b. first_of ((not b, refusal.NoRow) ∷ absent r.text_objects (get_or c.objects (place / c.size) 0) ∷ [])) yes
      ∙ ap (λ (case : Bool × Refusal). first_of (case ∷ [])) (sym object)

  -- the values of a column, given the column
  pub numbers-read : (i : ℕ) (c : Vector (Option ℤ)) → i < length r.numbers → c ≡ get_or r.numbers i c → get_or (all_numbers content r) i [] ≡ numbers_in content r.number_objects c
  numbers-read i c within read = map-read (numbers_in content r.number_objects) r.numbers i c [] within read

  pub text-cells : (i : ℕ) (c : Texts) → i < length r.texts → c ≡ get_or r.texts i c → get_or (all_texts content r) i [] ≡ texts_in (lists_of content r.text_objects) c
  text-cells i c within read = map-read (texts_in (lists_of content r.text_objects)) r.texts i c [] within read

  pub cell-of-text : (i place : ℕ) (c : Texts) (value : Option (List ℕ)) → i < length r.texts → c ≡ get_or r.texts i c → slice_get (texts_in (lists_of content r.text_objects) c) place ≡ Some value → get_or (column_in (all_numbers content r) (all_texts content r) (column_index.Text i)) place cell.Missing ≡ text_cell value
  cell-of-text i place c value within read is =
      ap (λ (ts : List (Option (List ℕ))). get_or (map text_cell ts) place cell.Missing) (text-cells i c within read)
      ∙ get_or-map text_cell (texts_in (lists_of content r.text_objects) c) place None
      ∙ ap text_cell (read-some (texts_in (lists_of content r.text_objects) c) place value None is)
