-- The columns and flags that a row group lends are those of its places.
use Rattle.std.proofs.Common.{◌≡◌, ℕ, zero, suc, ◌+◌, ◌*◌, ◌<◌, Bool, List, [], ◌∷◌, map, take, drop, get_or, Option, None, Some, refl, sym, ap, ◌∙◌, arith}
use Rattle.std.specs.Prelude.{◌==◌, true, cond, option_map, slice_get, slice_index}
use Rattle.std.specs.List.{enumerate_from}
use Rattle.std.proofs.lemmas.List.{take-map, drop-map}
use Rattle.std.proofs.lemmas.Option.{same_Some, none-some, slice_get-map}
use Rattle.far_types.specs.declared.cell.Cell.{Cell}
use Rattle.far_types.specs.declared.cell.Cell.TheVariants as cell
use Rattle.far_types.specs.Lent.{text_cell}
use Rattle.far_types.specs.Table.{Place, in_group}
use Rattle.far_codec.specs.declared.lent.LentValues.TheVariants as lent
use Rattle.far_codec.specs.FarForm.{head}
use Rattle.far_codec.specs.Reading.{ints_meaning}
use Rattle.far_codec.specs.TextForm.{texts_form, texts_meaning, IsTextsForm}
use Rattle.far_offload.specs.Columns.{cells_meant, cells_in, cell_of}
use Rattle.far_rows.specs.Places.{row_at, places_of}
use Rattle.far_aggregates.specs.Lending.{IsOfPlaces}
use Rattle.far_table.proofs.Places.{place-get}

-- the second byte of a form of texts is 1
kind-of : (texts : List (Option (List ℕ))) → slice_index (texts_form texts) 1 ≡ 1
unfolding texts_form head
kind-of texts = refl

-- the cells of a form of texts are its texts
pub texts-lent : (form : List ℕ) → IsTextsForm form → cells_meant form ≡ map text_cell (texts_meaning form)
texts-lent form is =
    let second : slice_index form 1 ≡ 1 = ap (λ bytes. slice_index bytes 1) is.is ∙ kind-of (texts_meaning form) in
    let test : (slice_index form 1 == 1) ≡ true = ap (λ byte. byte == 1) second in
    ap (λ (b : Bool). cells_in (cond b (lent.Texts (texts_meaning form)) (lent.Ints (ints_meaning form)))) test

-- element i of a row group is element i after the group's beginning in the whole list
taken-at : {A : Type 0} (xs : List A) (n i : ℕ) (x : A) → slice_get (take n xs) i ≡ Some x → (i < n) × (slice_get xs i ≡ Some x)
taken-at xs zero i x at = absurd (none-some x at)
taken-at [] (suc n) i x at = absurd (none-some x at)
taken-at (y ∷ xs) (suc n) zero x at = (omega arith, at)
taken-at (y ∷ xs) (suc n) (suc i) x at = let rest = taken-at xs n i x at in (omega (arith, rest.0), rest.1)

dropped-at : {A : Type 0} (xs : List A) (k i : ℕ) → slice_get (drop k xs) i ≡ slice_get xs (k + i)
dropped-at xs zero i = let e : i ≡ 0 + i = omega arith in ap (slice_get xs) e
dropped-at [] (suc k) i = refl
dropped-at (y ∷ xs) (suc k) i = let e : suc (k + i) ≡ suc k + i = omega arith in dropped-at xs k i ∙ ap (slice_get (y ∷ xs)) e

at-group : {A : Type 0} (xs : List A) (k n i : ℕ) (x : A) → slice_get (take n (drop k xs)) i ≡ Some x → (i < n) × (slice_get xs (k + i) ≡ Some x)
at-group xs k n i x at = let here = taken-at (drop k xs) n i x at in (here.0, sym (dropped-at xs k i) ∙ here.1)

taken-or : {A : Type 0} (xs : List A) (n i : ℕ) (d : A) → i < n → get_or (take n xs) i d ≡ get_or xs i d
taken-or xs zero i d within = absurd (omega (arith, within))
taken-or [] (suc n) i d within = refl
taken-or (y ∷ xs) (suc n) zero d within = refl
taken-or (y ∷ xs) (suc n) (suc i) d within = taken-or xs n i d (omega (arith, within))

dropped-or : {A : Type 0} (xs : List A) (k i : ℕ) (d : A) → get_or (drop k xs) i d ≡ get_or xs (k + i) d
dropped-or xs zero i d = let e : i ≡ 0 + i = omega arith in ap (λ j. get_or xs j d) e
dropped-or [] (suc k) i d = refl
dropped-or (y ∷ xs) (suc k) i d = let e : suc (k + i) ≡ suc k + i = omega arith in dropped-or xs k i d ∙ ap (λ j. get_or (y ∷ xs) j d) e

in-part : {A : Type 0} (xs : List A) (k n i : ℕ) (d : A) → i < n → get_or (take n (drop k xs)) i d ≡ get_or xs (k + i) d
in-part xs k n i d within = taken-or (drop k xs) n i d within ∙ dropped-or xs k i d

row-at : (columns : List (List Cell)) (p : ℕ) (place : Place) (flag : Option Bool) → option_map (λ b. record { cells = row_at columns p; alive = b }) flag ≡ Some place → place.cells ≡ row_at columns p
row-at columns p place None same = absurd (none-some place same)
row-at columns p place (Some b) same = sym (ap (λ (q : Place). q.cells) (same_Some record { cells = row_at columns p; alive = b } place same))

-- the cells of a column in a row group are the cells of its places
pub lent-cells : (columns : List (List Cell)) (flags : List Bool) (size g number : ℕ) (cells : List Cell) → option_map (in_group size g) (slice_get columns number) ≡ Some cells → IsOfPlaces (in_group size g (places_of columns flags)) (number, cells)
lent-cells columns flags size g number cells lent i place at = by (slice_get columns number) refl where
  by : (found : Option (List Cell)) → slice_get columns number ≡ found → Some (cell_of i (number, cells)) ≡ slice_get place.cells number
  by None is = absurd (none-some cells (sym (ap (option_map (in_group size g)) is) ∙ lent))
  by (Some column) is =
      let part : in_group size g column ≡ cells = same_Some (in_group size g column) cells (sym (ap (option_map (in_group size g)) is) ∙ lent) in
      let here = at-group (places_of columns flags) (g * size) size i place at in
      let p = g * size + i in
      let row : place.cells ≡ row_at columns p = row-at columns p place (slice_get flags p) (sym (place-get columns flags p) ∙ here.1) in
      ap Some (ap (λ (cs : List Cell). get_or cs i cell.Missing) (sym part) ∙ in-part column (g * size) size i cell.Missing here.0)
      ∙ sym (slice_get-map (λ (cs : List Cell). get_or cs p cell.Missing) columns number ∙ ap (option_map (λ (cs : List Cell). get_or cs p cell.Missing)) is)
      ∙ sym (ap (λ (cs : List Cell). slice_get cs number) row)

-- the flags of a row group are the flags of its places
all-flags : (rows : ℕ → List Cell) (n : ℕ) (flags : List Bool) → map (λ (place : Place). place.alive) (map (λ (at : ℕ × Bool). record { cells = rows at.0; alive = at.1 }) (enumerate_from n flags)) ≡ flags
all-flags rows n [] = refl
all-flags rows n (flag ∷ flags) = ap (λ (rest : List Bool). flag ∷ rest) (all-flags rows (n + 1) flags)

pub flags-lent : (columns : List (List Cell)) (flags : List Bool) (size g : ℕ) → in_group size g flags ≡ map (λ (place : Place). place.alive) (in_group size g (places_of columns flags))
flags-lent columns flags size g =
    let alive : Place → Bool = λ place. place.alive in
    ap (in_group size g) (sym (all-flags (row_at columns) 0 flags))
    ∙ ap (take size) (drop-map alive (g * size) (places_of columns flags))
    ∙ take-map alive size (drop (g * size) (places_of columns flags))

abbrev pair : ℕ → List Cell → ℕ × List Cell
pair number cells = (number, cells)

-- a lent form of texts has the texts as cells
pub form-lent : (number : ℕ) (form : List ℕ) → IsTextsForm form → ◌≡◌ {A = ℕ × List Cell} (number, cells_meant form) (number, map text_cell (texts_meaning form))
form-lent number form is = ap (λ (cells : List Cell). pair number cells) (texts-lent form is)
