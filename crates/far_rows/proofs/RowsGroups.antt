-- A row group of a column, taken from the list of its object.
use Rattle.std.proofs.Common.{◌≡◌, ℕ, ℤ, ◌*◌, ◌≤◌, ◌<◌, List, [], ◌∷◌, ◌++◌, map, length, take, drop, replicate, get_or, Option, None, Some, refl, sym, ap, subst, ◌∙◌, arith}
use Rattle.std.specs.Prelude.{◌-◌, min, option_map, unwrap_or, slice_get, IsSomeAnd}
use Rattle.std.specs.Option.{option_and_then, option_or}
use Rattle.std.proofs.lemmas.List.{length-take, length-drop, take-map, drop-map, length-append}
use Rattle.std.proofs.lemmas.Option.{same_Some, slice_get-map, slice_get_within, get_or_from_slice_get}
use Rattle.far_types.specs.Lent.{int_cell, text_cell}
use Rattle.far_types.specs.Table.{in_group}
use Rattle.far_codec.specs.TextForm.{texts_meaning, IsTextsForm}
use Rattle.far_codec.specs.Reading.{ints_meaning}
use Rattle.far_scopes.specs.Memory.{list_in}
use Rattle.far_scopes.specs.Movement.{meant, ticket_of}
use Rattle.far_columns.specs.Vector.{Vector, IsVector, IsShaped, group_list}
use Rattle.far_columns.proofs.VectorGroups.{list-of-group}
use Rattle.far_columns.proofs.VectorLaws.{length-elements}
use Rattle.far_texts.specs.Texts.{Texts, HasGroups, IsTextColumn, IsGroupForm, lists_of, texts_in}
use Rattle.far_columns.specs.Numbers.{Numbers, number_lists, numbers_in}
use Rattle.far_texts.proofs.TextsInGroups.{texts-of-group}
use Rattle.far_rows.specs.declared.column_index.ColumnIndex.{ColumnIndex}
use Rattle.far_rows.specs.declared.column_index.ColumnIndex.TheVariants as column_index
use Rattle.far_rows.specs.declared.object.Object.TheVariants as object
use Rattle.far_rows.specs.ColumnIndexes.{IsColumnIn, column_in}
use Rattle.far_rows.specs.Rows.{Rows, AreRows, all_numbers, all_texts, all_cells, object_of}
use Rattle.far_rows.specs.Moving.{object_at}
use Rattle.far_rows.proofs.JobsBeginning.{lies}
use Rattle.far_rows.proofs.PlacesTextSize.{found-at}
use Rattle.far_rows.proofs.MovingPins.{found-in, number-of, no-number, text-of, no-text}

-- a row group is equally long in two lists of equal length
group-long : {X Y : Type 0} (size g : ℕ) (xs : List X) (ys : List Y) → length xs ≡ length ys → length (in_group size g xs) ≡ length (in_group size g ys)
group-long size g xs ys same =
    length-take size (drop (g * size) xs)
    ∙ ap (min size) (length-drop (g * size) xs ∙ ap (λ n. n - g * size) same ∙ sym (length-drop (g * size) ys))
    ∙ sym (length-take size (drop (g * size) ys))

-- a row group, after a function is applied to all elements
group-map : {X Y : Type 0} (f : X → Y) (size g : ℕ) (xs : List X) → in_group size g (map f xs) ≡ map f (in_group size g xs)
group-map f size g xs = ap (take size) (drop-map f (g * size) xs) ∙ take-map f size (drop (g * size) xs)

take-front : {X : Type 0} (xs ys : List X) → take (length xs) (xs ++ ys) ≡ xs
take-front [] ys = refl
take-front (x ∷ xs) ys = ap (λ l. x ∷ l) (take-front xs ys)

option-list : {X : Type 0} (list : Option (List X)) (xs : List X) (P : List X → Type 0) → list ≡ Some xs → IsSomeAnd list P → P xs
option-list (Some ys) xs P is all = subst P (same_Some ys xs is) all
option-list None xs P is all = absurd all

module _ {K : Type 0} (content : K → List ℕ) (r : Rows K) (are : AreRows content r) (column group o : ℕ) where
  inside : (s : ColumnIndex) → slice_get r.column_indexes column ≡ Some s → IsColumnIn (length r.numbers) (length r.texts) s
  inside s is = subst (IsColumnIn (length r.numbers) (length r.texts)) (get_or_from_slice_get r.column_indexes column s s is) (are.column_indexes.within column s (slice_get_within r.column_indexes column s is))

  -- how many places of the row group are used
  abbrev pub used : ℕ
  used = length (in_group r.size group r.alive)

  cells-at : (s : ColumnIndex) → slice_get r.column_indexes column ≡ Some s → option_map (in_group r.size group) (slice_get (all_cells content r) column) ≡ Some (in_group r.size group (column_in (all_numbers content r) (all_texts content r) s))
  cells-at s is = ap (option_map (in_group r.size group)) (slice_get-map (column_in (all_numbers content r) (all_texts content r)) r.column_indexes column ∙ ap (option_map (column_in (all_numbers content r) (all_texts content r))) is)

  pub record HasNumbers (list : Numbers) : Type 0 where
    pub enough : used ≤ length list
    pub cells : option_map (in_group r.size group) (slice_get (all_cells content r) column) ≡ Some (map int_cell (take used list))

  numbers-in : (s : ColumnIndex) → slice_get r.column_indexes column ≡ Some s → object_at r column group ≡ Some (object.Number o) → (list : Numbers) → list_in r.number_objects.memory o ≡ Some list → HasNumbers list
  numbers-in (column_index.Text i) is at list here = no-number (object_of r (column_index.Text i) group) o (sym (found-in content r are column group o (column_index.Text i) is) ∙ at)
  numbers-in (column_index.Number i) is at list here =
      let within : i < length r.numbers = inside (column_index.Number i) is in
      let found = found-at r.numbers i within in
      let c : Vector (Option ℤ) = found.0 in
      let same = get_or_from_slice_get r.numbers i c c found.1 in
      let lists = number_lists content r.number_objects in
      let same_length = subst (λ (d : Vector (Option ℤ)). (d.size ≡ r.size) × (d.len ≡ length r.alive)) same (are.same_length_numbers i c within) in
      let shaped = subst IsShaped same (are.shaped i c within) in
      let vector = subst (IsVector lists) same (are.numbers.all_disjoint.each i c within) in
      let numbers : Numbers = numbers_in content r.number_objects c in
      let read : get_or (all_numbers content r) i [] ≡ numbers = get_or_from_slice_get (all_numbers content r) i numbers [] (slice_get-map (numbers_in content r.number_objects) r.numbers i ∙ ap (option_map (numbers_in content r.number_objects)) found.1) in
      let object : slice_get c.objects group ≡ Some o = sym (ap (option_and_then (λ (v : Vector (Option ℤ)). slice_get v.objects group)) found.1) ∙ number-of (object_of r (column_index.Number i) group) o (sym (found-in content r are column group o (column_index.Number i) is) ∙ at) in
      let list_there : lists o ≡ Some list = ap (λ l. option_or l (option_map (meant ints_meaning content) (ticket_of r.number_objects o))) here in
      let held : list ≡ group_list c numbers group = same_Some list (group_list c numbers group) (sym list_there ∙ list-of-group lists c group o shaped vector object) in
      let front : List (Option ℤ) = in_group c.size group numbers in
      let count : length front ≡ used = group-long c.size group numbers r.alive (length-elements lists c shaped vector ∙ same_length.1) ∙ ap (λ n. length (in_group n group r.alive)) same_length.0 in
      let cut : take used list ≡ in_group r.size group numbers =
      ap (take used) held
      ∙ ap (λ n. take n (group_list c numbers group)) (sym count)
      ∙ take-front front (replicate (c.size - length front) c.default_value)
      ∙ ap (λ n. in_group n group numbers) same_length.0 in
      record {
        enough = omega (arith, count, ap length held, length-append front (replicate (c.size - length front) c.default_value));
        cells = cells-at (column_index.Number i) is
            ∙ ap Some (ap (λ ns. in_group r.size group (map int_cell ns)) read ∙ group-map int_cell r.size group numbers ∙ ap (map int_cell) (sym cut));
      }

  pub group-numbers : object_at r column group ≡ Some (object.Number o) → (list : Numbers) → list_in r.number_objects.memory o ≡ Some list → HasNumbers list
  group-numbers at = let there = lies content r are column group o (object.Number o) at in numbers-in there.0 there.1 at

  pub record HasTexts (bytes : List ℕ) : Type 0 where
    pub form : IsTextsForm bytes
    pub cells : option_map (in_group r.size group) (slice_get (all_cells content r) column) ≡ Some (map text_cell (texts_meaning bytes))

  texts-of : (s : ColumnIndex) → slice_get r.column_indexes column ≡ Some s → object_at r column group ≡ Some (object.Text o) → (form : List ℕ) → list_in r.text_objects.memory o ≡ Some form → HasTexts form
  texts-of (column_index.Number i) is at form here = no-text (object_of r (column_index.Number i) group) o (sym (found-in content r are column group o (column_index.Number i) is) ∙ at)
  texts-of (column_index.Text i) is at form here =
      let within : i < length r.texts = inside (column_index.Text i) is in
      let found = found-at r.texts i within in
      let c : Texts = found.0 in
      let same = get_or_from_slice_get r.texts i c c found.1 in
      let lists = lists_of content r.text_objects in
      let same_length = subst (λ (d : Texts). (d.size ≡ r.size) × (d.len ≡ length r.alive)) same (are.same_length_texts i c within) in
      let has = subst HasGroups same (are.grouped i c within) in
      let column_is = subst (IsTextColumn lists) same (are.texts.all_disjoint.each i c within) in
      let texts : List (Option (List ℕ)) = texts_in lists c in
      let read : get_or (all_texts content r) i [] ≡ texts = get_or_from_slice_get (all_texts content r) i texts [] (slice_get-map (texts_in lists) r.texts i ∙ ap (option_map (texts_in lists)) found.1) in
      let object : slice_get c.objects group ≡ Some o = sym (ap (option_and_then (λ (v : Texts). slice_get v.objects group)) found.1) ∙ text-of (object_of r (column_index.Text i) group) o (sym (found-in content r are column group o (column_index.Text i) is) ∙ at) in
      let list_there : lists o ≡ Some form = ap (λ l. option_or l (option_map (meant (λ bytes. bytes) content) (ticket_of r.text_objects o))) here in
      let group_texts : in_group r.size group texts ≡ texts_meaning form =
      ap (λ n. in_group n group texts) (sym same_length.0)
      ∙ sym (texts-of-group lists c group o has column_is object)
      ∙ ap (λ l. texts_meaning (unwrap_or l [])) list_there in
      let held = option-list (lists o) form (IsGroupForm c group) list_there (column_is.each group o object) in
      record {
        form = held.form;
        cells = cells-at (column_index.Text i) is
            ∙ ap Some (ap (λ ts. in_group r.size group (map text_cell ts)) read ∙ group-map text_cell r.size group texts ∙ ap (map text_cell) group_texts);
      }

  pub group-texts : object_at r column group ≡ Some (object.Text o) → (form : List ℕ) → list_in r.text_objects.memory o ≡ Some form → HasTexts form
  group-texts at = let there = lies content r are column group o (object.Text o) at in texts-of there.0 there.1 at
