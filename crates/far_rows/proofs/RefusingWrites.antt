-- Whether an object of a row group was written too often, tested by index and by kind of column.
use Rattle.std.proofs.Common.{◌≡◌, ℕ, zero, suc, ◌+◌, ◌*◌, ◌/◌, Bool, true, false, if◌then◌else◌, List, [], ◌∷◌, length, inl, inr, ℤ, Option, None, Some, refl, sym, ap, ◌∙◌, arith}
use Rattle.std.specs.Prelude.{◌||◌, option_map, slice_get}
use Rattle.std.specs.List.{list_any}
use Rattle.std.specs.Option.{option_and_then, option_map_or}
use Rattle.std.proofs.lemmas.Bool.{eqb-true}
use Rattle.std.proofs.lemmas.Nat.{le-div}
use Rattle.std.proofs.lemmas.Option.{none-some, same_Some, slice_get-map, slice_get_past}
use Rattle.far_scopes.specs.Refusing.{written_out}
use Rattle.far_columns.specs.Vector.{Vector, IsShaped}
use Rattle.far_columns.specs.Effects.{is_full}
use Rattle.far_texts.specs.Texts.{Texts, Lists, HasGroups}
use Rattle.far_texts.specs.Effects.{begins_group, last_object}
use Rattle.far_texts.specs.Together.{object_for, next_forms}
use Rattle.far_rows.specs.declared.column_index.ColumnIndex.{ColumnIndex}
use Rattle.far_rows.specs.declared.column_index.ColumnIndex.TheVariants as column_index
use Rattle.far_rows.specs.Rows.{Rows, AreRows}
use Rattle.far_rows.specs.Refusing.{is_written_out}
use Rattle.far_rows.proofs.PlacesTextSize.{both-ways, or-either, or-first, or-later}

module _ {A : Type 0} where
  -- the index of an element that passes a test, if some element does
  some-at : (test : A → Bool) (xs : List A) → list_any test xs ≡ true → (i : ℕ) × (x : A) × (slice_get xs i ≡ Some x) × (test x ≡ true)
  some-at test [] is = absurd cc
  some-at test (x ∷ xs) is = elim (or-either (test x) (list_any test xs) is) [
    | inl here ↦ (0, x, refl, here)
    | inr later ↦ (let found = some-at test xs later in (suc found.0, found.1, found.2, found.3))
  ]

  has-at : (test : A → Bool) (xs : List A) (i : ℕ) (x : A) → slice_get xs i ≡ Some x → test x ≡ true → list_any test xs ≡ true
  has-at test [] i x at is = absurd (none-some x at)
  has-at test (y ∷ xs) zero x at is = let same = same_Some y x at in or-first (test y) (list_any test xs) (ap test same ∙ is)
  has-at test (y ∷ xs) (suc i) x at is = or-later (test y) (list_any test xs) (has-at test xs i x at is)

  pub none-any : (test : A → Bool) (xs : List A) → ((i : ℕ) (x : A) → slice_get xs i ≡ Some x → test x ≡ false) → list_any test xs ≡ false
  none-any test [] each = refl
  none-any test (x ∷ xs) each = let here = each 0 x refl in let rest = none-any test xs (λ i y at. each (suc i) y at) in λ k. here k || rest k

  pub any-same : (f g : A → Bool) (xs : List A) → ((i : ℕ) (x : A) → slice_get xs i ≡ Some x → f x ≡ g x) → list_any f xs ≡ list_any g xs
  any-same f g [] each = refl
  any-same f g (x ∷ xs) each = let here = each 0 x refl in let rest = any-same f g xs (λ i y at. each (suc i) y at) in λ k. here k || rest k

-- a column whose row groups are all full has no object for the next place
pub no-text : (c : Texts) → HasGroups c → begins_group c ≡ true → slice_get c.objects (c.len / c.size) ≡ None
no-text c has begins =
    let e = eqb-true c.len (length c.objects * c.size) begins in
    slice_get_past c.objects (c.len / c.size) (le-div (length c.objects) c.len c.size has.some (omega (arith, e)))

pub no-number : (c : Vector (Option ℤ)) → IsShaped c → is_full c ≡ true → slice_get c.objects (c.len / c.size) ≡ None
no-number c shaped full =
    let e = eqb-true c.len (length c.objects * c.size) full in
    slice_get_past c.objects (c.len / c.size) (le-div (length c.objects) c.len c.size shaped.some (omega (arith, e)))

module _ {K : Type 0} (r : Rows K) (g : ℕ) where
  -- the object of the row group of a text column was written too often
  abbrev pub text_written : Texts → Bool
  text_written c = option_map_or (λ o. (written_out r.text_objects o).0) (slice_get c.objects g) false

  -- the object of the row group of a number column was written too often
  abbrev pub number_written : Vector (Option ℤ) → Bool
  number_written c = option_map_or (λ o. (written_out r.number_objects o).0) (slice_get c.objects g) false

  of-text : (i : ℕ) (found : Option Texts) → slice_get r.texts i ≡ found → option_map_or (λ o. (written_out r.text_objects o).0) (option_and_then (λ (c : Texts). slice_get c.objects g) found) false ≡ true → list_any text_written r.texts ≡ true
  of-text i None at is = absurd cc
  of-text i (Some c) at is = has-at text_written r.texts i c at is

  of-number : (i : ℕ) (found : Option (Vector (Option ℤ))) → slice_get r.numbers i ≡ found → option_map_or (λ o. (written_out r.number_objects o).0) (option_and_then (λ (c : Vector (Option ℤ)). slice_get c.objects g) found) false ≡ true → list_any number_written r.numbers ≡ true
  of-number i None at is = absurd cc
  of-number i (Some c) at is = has-at number_written r.numbers i c at is

  of-column_index : (s : ColumnIndex) → is_written_out r g s ≡ true → (list_any text_written r.texts || list_any number_written r.numbers) ≡ true
  of-column_index (column_index.Text i) is = or-first (list_any text_written r.texts) (list_any number_written r.numbers) (of-text i (slice_get r.texts i) refl is)
  of-column_index (column_index.Number i) is = or-later (list_any text_written r.texts) (list_any number_written r.numbers) (of-number i (slice_get r.numbers i) refl is)

  -- testing all indexes is testing all text columns and all number columns
  pub by-kinds : (content : K → List ℕ) → AreRows content r → list_any (is_written_out r g) r.column_indexes ≡ (list_any text_written r.texts || list_any number_written r.numbers)
  by-kinds content are =
      both-ways (list_any (is_written_out r g) r.column_indexes) (list_any text_written r.texts || list_any number_written r.numbers)
      (λ is. let found = some-at (is_written_out r g) r.column_indexes is in of-column_index found.1 found.3)
      (λ is. elim (or-either (list_any text_written r.texts) (list_any number_written r.numbers) is) [
        | inl texts ↦
            let found = some-at text_written r.texts texts in
            let c : Texts = found.1 in
            let lies = are.placed_texts found.0 c.column (slice_get-map (λ (d : Texts). d.column) r.texts found.0 ∙ ap (option_map (λ (d : Texts). d.column)) found.2) in
            has-at (is_written_out r g) r.column_indexes c.column (column_index.Text found.0) lies (ap (λ (o : Option Texts). option_map_or (λ p. (written_out r.text_objects p).0) (option_and_then (λ (d : Texts). slice_get d.objects g) o) false) found.2 ∙ found.3)
        | inr numbers ↦
            let found = some-at number_written r.numbers numbers in
            let c : Vector (Option ℤ) = found.1 in
            let lies = are.placed_numbers found.0 c.column (slice_get-map (λ (d : Vector (Option ℤ)). d.column) r.numbers found.0 ∙ ap (option_map (λ (d : Vector (Option ℤ)). d.column)) found.2) in
            has-at (is_written_out r g) r.column_indexes c.column (column_index.Number found.0) lies (ap (λ (o : Option (Vector (Option ℤ))). option_map_or (λ p. (written_out r.number_objects p).0) (option_and_then (λ (d : Vector (Option ℤ)). slice_get d.objects g) o) false) found.2 ∙ found.3)
      ])

  -- if this is the last row group of each column, the next forms are written to its objects
  pub forms-written : (lists : Lists) (n : ℕ) (columns : List Texts) (texts : List (Option (List ℕ))) → length texts ≡ length columns → ((i : ℕ) (c : Texts) → slice_get columns i ≡ Some c → (begins_group c ≡ false) × (slice_get c.objects g ≡ Some (last_object c))) → list_any (λ (form : ℕ × List ℕ). (written_out r.text_objects form.0).0) (next_forms lists n columns texts) ≡ list_any text_written columns
  forms-written lists n [] texts same_length each = refl
  forms-written lists n (c ∷ columns) [] same_length each = absurd (omega (arith, same_length))
  forms-written lists n (c ∷ columns) (text ∷ texts) same_length each =
      let known = each 0 c refl in
      let object : object_for c n ≡ last_object c = ap (λ (b : Bool). if b then n else last_object c) known.0 in
      let here : (written_out r.text_objects (object_for c n)).0 ≡ text_written c = ap (λ (o : ℕ). (written_out r.text_objects o).0) object ∙ sym (ap (λ (o : Option ℕ). option_map_or (λ p. (written_out r.text_objects p).0) o false) known.1) in
      let rest = forms-written lists (n + 1) columns texts (omega (arith, same_length)) (λ i d at. each (suc i) d at) in
      λ k. here k || rest k
