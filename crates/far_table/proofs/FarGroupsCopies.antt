-- The far copy of an object has the cells of its row group.
use Rattle.std.proofs.Common.{◌≡◌, inl, inr, ℕ, zero, suc, ℤ, ◌*◌, ◌<◌, Bool, false, List, [], ◌∷◌, ◌++◌, map, length, take, drop, replicate, get_or, Option, None, Some, refl, sym, ap, subst, ◌∙◌, arith}
use Rattle.std.specs.Prelude.{◌-◌, ◌==◌, cond, min, option_map, unwrap_or, slice_get, slice_index, IsSomeAnd}
use Rattle.std.specs.Option.{option_and_then}
use Rattle.std.proofs.lemmas.List.{length-take, length-drop, length-map, take-map, drop-map, map-append}
use Rattle.std.proofs.lemmas.Option.{same_Some, slice_get-map, slice_get_within, get_or_from_slice_get}
use Rattle.far_types.specs.declared.cell.Cell.{Cell}
use Rattle.far_types.specs.declared.cell.Cell.TheVariants as cell
use Rattle.far_types.specs.Lent.{int_cell, text_cell}
use Rattle.far_types.specs.Table.{Place, in_group}
use Rattle.far_codec.specs.declared.lent.LentValues.TheVariants as lent
use Rattle.far_codec.specs.FarForm.{AreInts, ints_form}
use Rattle.far_codec.specs.Reading.{ints_meaning, IsIntsForm}
use Rattle.far_codec.specs.TextForm.{texts_meaning, IsTextsForm}
use Rattle.far_codec.proofs.LentForms.{ints_second}
use Rattle.far_codec.proofs.FormsMeaning.{ints_meant}
use Rattle.far_columns.specs.Vector.{Vector, IsVector, IsShaped, group_list}
use Rattle.far_columns.proofs.VectorGroups.{list-of-group}
use Rattle.far_columns.proofs.VectorLaws.{length-elements}
use Rattle.far_texts.specs.Texts.{Texts, HasGroups, IsTextColumn, lists_of, texts_in}
use Rattle.far_columns.specs.Numbers.{Numbers, number_lists, numbers_in}
use Rattle.far_texts.proofs.TextsInGroups.{texts-of-group}
use Rattle.far_offload.specs.Columns.{cells_meant, cells_in}
use Rattle.far_rows.specs.declared.column_index.ColumnIndex.{ColumnIndex}
use Rattle.far_rows.specs.declared.column_index.ColumnIndex.TheVariants as column_index
use Rattle.far_rows.specs.declared.object.Object.{Object}
use Rattle.far_rows.specs.declared.object.Object.TheVariants as object
use Rattle.far_rows.specs.ColumnIndexes.{IsColumnIn, column_in}
use Rattle.far_rows.specs.Rows.{Rows, AreRows, all_numbers, all_texts, all_cells, object_of}
use Rattle.far_rows.specs.Moving.{object_at}
use Rattle.far_rows.specs.Places.{places_in}
use Rattle.far_rows.specs.Jobs.{SpellsNumbers, SpellsTexts}
use Rattle.far_rows.specs.Copies.{Spells, IsCopyOf}
use Rattle.far_rows.proofs.JobsBeginning.{lies}
use Rattle.far_rows.proofs.PlacesTextSize.{found-at}
use Rattle.far_rows.proofs.MovingPins.{found-in, number-of, no-number, text-of, no-text}
use Rattle.far_aggregates.specs.Lending.{IsOfPlaces}
use Rattle.far_table.specs.FarGroups.{IsCopy}
use Rattle.far_table.proofs.Groups.{lent-cells, texts-lent}
use Rattle.far_table.proofs.Places.{length-places}

-- the cells of a form of numbers are its numbers
ints-lent : (form : List ℕ) → IsIntsForm form → cells_meant form ≡ map int_cell (ints_meaning form)
ints-lent form is =
    let test : (slice_index form 1 == 1) ≡ false = ap (λ byte. byte == 1) (ints_second form is) in
    ap (λ (b : Bool). cells_in (cond b (lent.Texts (texts_meaning form)) (lent.Ints (ints_meaning form)))) test

-- the same row group of two lists of equal length has the same length in both
group-long : {X Y : Type 0} (size g : ℕ) (xs : List X) (ys : List Y) → length xs ≡ length ys → length (in_group size g xs) ≡ length (in_group size g ys)
group-long size g xs ys same =
    length-take size (drop (g * size) xs)
    ∙ ap (min size) (length-drop (g * size) xs ∙ ap (λ n. n - g * size) same ∙ sym (length-drop (g * size) ys))
    ∙ sym (length-take size (drop (g * size) ys))

-- a row group of a mapped list is the mapped row group
group-map : {X Y : Type 0} (f : X → Y) (size g : ℕ) (xs : List X) → in_group size g (map f xs) ≡ map f (in_group size g xs)
group-map f size g xs = ap (take size) (drop-map f (g * size) xs) ∙ take-map f size (drop (g * size) xs)

-- appending cells keeps the first ones
front-cell : (xs more : List Cell) (i : ℕ) → i < length xs → get_or (xs ++ more) i cell.Missing ≡ get_or xs i cell.Missing
front-cell [] more i within = absurd (omega (arith, within))
front-cell (x ∷ xs) more zero within = refl
front-cell (x ∷ xs) more (suc i) within = front-cell xs more i (omega (arith, within))

module _ {K : Type 0} (content : K → List ℕ) (r : Rows K) (are : AreRows content r) (column group o : ℕ) where
  inside : (s : ColumnIndex) → slice_get r.column_indexes column ≡ Some s → IsColumnIn (length r.numbers) (length r.texts) s
  inside s is = subst (IsColumnIn (length r.numbers) (length r.texts)) (get_or_from_slice_get r.column_indexes column s s is) (are.column_indexes.within column s (slice_get_within r.column_indexes column s is))

  cells-at : (s : ColumnIndex) → slice_get r.column_indexes column ≡ Some s → option_map (in_group r.size group) (slice_get (all_cells content r) column) ≡ Some (in_group r.size group (column_in (all_numbers content r) (all_texts content r) s))
  cells-at s is = ap (option_map (in_group r.size group)) (slice_get-map (column_in (all_numbers content r) (all_texts content r)) r.column_indexes column ∙ ap (option_map (column_in (all_numbers content r) (all_texts content r))) is)

  -- the list of an object of numbers begins with the numbers of its row group
  record HasNumbers (list : Numbers) : Type 0 where
    front : Numbers
    default_values : Numbers
    is : list ≡ front ++ default_values
    used : length front ≡ length (in_group r.size group r.alive)
    cells : option_map (in_group r.size group) (slice_get (all_cells content r) column) ≡ Some (map int_cell front)

  numbers-in : (s : ColumnIndex) → slice_get r.column_indexes column ≡ Some s → object_at r column group ≡ Some (object.Number o) → (list : Numbers) → number_lists content r.number_objects o ≡ Some list → HasNumbers list
  numbers-in (column_index.Text i) is at list there = no-number (object_of r (column_index.Text i) group) o (sym (found-in content r are column group o (column_index.Text i) is) ∙ at)
  numbers-in (column_index.Number i) is at list there =
      let within : i < length r.numbers = inside (column_index.Number i) is in
      let found = found-at r.numbers i within in
      let c : Vector (Option ℤ) = found.0 in
      let same = get_or_from_slice_get r.numbers i c c found.1 in
      let lists = number_lists content r.number_objects in
      let same_length = subst (λ (d : Vector (Option ℤ)). (d.size ≡ r.size) × (d.len ≡ length r.alive)) same (are.same_length_numbers i c within) in
      let shaped = subst IsShaped same (are.shaped i c within) in
      let vector = subst (IsVector lists) same (are.numbers.all_disjoint.each i c within) in
      let numbers : Numbers = numbers_in content r.number_objects c in
      let read : get_or (all_numbers content r) i [] ≡ numbers = get_or_from_slice_get (all_numbers content r) i numbers [] (slice_get-map (numbers_in content r.number_objects) r.numbers i ∙ ap (option_map (numbers_in content r.number_objects)) found.1) in
      let own : slice_get c.objects group ≡ Some o = sym (ap (option_and_then (λ (v : Vector (Option ℤ)). slice_get v.objects group)) found.1) ∙ number-of (object_of r (column_index.Number i) group) o (sym (found-in content r are column group o (column_index.Number i) is) ∙ at) in
      let held : list ≡ group_list c numbers group = same_Some list (group_list c numbers group) (sym there ∙ list-of-group lists c group o shaped vector own) in
      let first : List (Option ℤ) = in_group c.size group numbers in
      record {
        front = first;
        default_values = replicate (c.size - length first) c.default_value;
        is = held;
        used = group-long c.size group numbers r.alive (length-elements lists c shaped vector ∙ same_length.1) ∙ ap (λ n. length (in_group n group r.alive)) same_length.0;
        cells = cells-at (column_index.Number i) is
            ∙ ap Some (ap (λ ns. in_group r.size group (map int_cell ns)) read ∙ group-map int_cell r.size group numbers ∙ ap (λ n. map int_cell (in_group n group numbers)) (sym same_length.0));
      }

  -- the form of an object of texts encodes the texts of its row group
  record HasTexts (bytes : List ℕ) : Type 0 where
    cells : option_map (in_group r.size group) (slice_get (all_cells content r) column) ≡ Some (map text_cell (texts_meaning bytes))

  texts-in : (s : ColumnIndex) → slice_get r.column_indexes column ≡ Some s → object_at r column group ≡ Some (object.Text o) → (form : List ℕ) → lists_of content r.text_objects o ≡ Some form → HasTexts form
  texts-in (column_index.Number i) is at form there = no-text (object_of r (column_index.Number i) group) o (sym (found-in content r are column group o (column_index.Number i) is) ∙ at)
  texts-in (column_index.Text i) is at form there =
      let within : i < length r.texts = inside (column_index.Text i) is in
      let found = found-at r.texts i within in
      let c : Texts = found.0 in
      let same = get_or_from_slice_get r.texts i c c found.1 in
      let lists = lists_of content r.text_objects in
      let same_length = subst (λ (d : Texts). (d.size ≡ r.size) × (d.len ≡ length r.alive)) same (are.same_length_texts i c within) in
      let has = subst HasGroups same (are.grouped i c within) in
      let column_is = subst (IsTextColumn lists) same (are.texts.all_disjoint.each i c within) in
      let texts : List (Option (List ℕ)) = texts_in lists c in
      let read : get_or (all_texts content r) i [] ≡ texts = get_or_from_slice_get (all_texts content r) i texts [] (slice_get-map (texts_in lists) r.texts i ∙ ap (option_map (texts_in lists)) found.1) in
      let own : slice_get c.objects group ≡ Some o = sym (ap (option_and_then (λ (v : Texts). slice_get v.objects group)) found.1) ∙ text-of (object_of r (column_index.Text i) group) o (sym (found-in content r are column group o (column_index.Text i) is) ∙ at) in
      let group_texts : in_group r.size group texts ≡ texts_meaning form =
      ap (λ n. in_group n group texts) (sym same_length.0)
      ∙ sym (texts-of-group lists c group o has column_is own)
      ∙ ap (λ l. texts_meaning (unwrap_or l [])) there in
      record {
        cells = cells-at (column_index.Text i) is
            ∙ ap Some (ap (λ ts. in_group r.size group (map text_cell ts)) read ∙ group-map text_cell r.size group texts ∙ ap (map text_cell) group_texts);
      }

  abbrev places : List Place
  places = in_group r.size group (places_in content r)

  places-long : length places ≡ length (in_group r.size group r.alive)
  places-long = group-long r.size group (places_in content r) r.alive (length-places (all_cells content r) r.alive)

  -- cells that begin with the cells of a row group are the cells of its places
  begins : (front more cells : List Cell) → option_map (in_group r.size group) (slice_get (all_cells content r) column) ≡ Some front → length front ≡ length (in_group r.size group r.alive) → cells ≡ front ++ more → IsOfPlaces places (column, cells)
  begins front more cells are_those long is i place at =
      let within : i < length front = omega (arith, slice_get_within places i place at, places-long, long) in
      ap Some (ap (λ (cs : List Cell). get_or cs i cell.Missing) is ∙ front-cell front more i within)
      ∙ lent-cells (all_cells content r) r.alive r.size group column front are_those i place at

  -- the far copy of an object of numbers has the cells of its row group
  copied-number : object_at r column group ≡ Some (object.Number o) → (t : K) (list : Numbers) → number_lists content r.number_objects o ≡ Some list → SpellsNumbers list (content t) → IsCopy content r group column t
  copied-number at t list there spelled =
      let ints : AreInts list = record { range = spelled.range; count = spelled.has } in
      let means : ints_meaning (content t) ≡ list = ints_meant (content t) list ints spelled.is in
      let form : IsIntsForm (content t) = record { ints = subst AreInts (sym means) ints; is = subst (λ numbers. content t ≡ ints_form numbers) (sym means) spelled.is } in
      let column_lies = lies content r are column group o (object.Number o) at in
      let has = numbers-in column_lies.0 column_lies.1 at list there in
      record {
        form = inl form;
        cells = begins (map int_cell has.front) (map int_cell has.default_values) (cells_meant (content t)) has.cells (length-map has.front int_cell ∙ has.used)
            (ints-lent (content t) form ∙ ap (map int_cell) (means ∙ has.is) ∙ map-append int_cell has.front has.default_values);
      }

  -- the far copy of an object of texts has the cells of its row group
  copied-text : object_at r column group ≡ Some (object.Text o) → (t : K) (list : List ℕ) → lists_of content r.text_objects o ≡ Some list → SpellsTexts list (content t) → IsCopy content r group column t
  copied-text at t list there spelled =
      let form : IsTextsForm (content t) = subst IsTextsForm (sym spelled.is) spelled.has in
      let column_lies = lies content r are column group o (object.Text o) at in
      let has = texts-in column_lies.0 column_lies.1 at (content t) (there ∙ ap Some (sym spelled.is)) in
      record {
        form = inr form;
        cells = λ i place here.
            ap (λ (cs : List Cell). Some (get_or cs i cell.Missing)) (texts-lent (content t) form)
            ∙ lent-cells (all_cells content r) r.alive r.size group column (map text_cell (texts_meaning (content t))) has.cells i place here;
      }

-- the far copy of a row group of a column has the cells of its places
pub copied : {K : Type 0} (content : K → List ℕ) (r : Rows K) → AreRows content r → (column group : ℕ) (t : K) → IsCopyOf content r t column group → IsCopy content r group column t
copied {K} content r are column group t copy = by (object_at r column group) refl copy where
  number : (o : ℕ) → object_at r column group ≡ Some (object.Number o) → (list : Option Numbers) → number_lists content r.number_objects o ≡ list → IsSomeAnd list (λ l. SpellsNumbers l (content t)) → IsCopy content r group column t
  number o at None there spelled = absurd spelled
  number o at (Some list) there spelled = copied-number content r are column group o at t list there spelled

  text : (o : ℕ) → object_at r column group ≡ Some (object.Text o) → (list : Option (List ℕ)) → lists_of content r.text_objects o ≡ list → IsSomeAnd list (λ l. SpellsTexts l (content t)) → IsCopy content r group column t
  text o at None there spelled = absurd spelled
  text o at (Some list) there spelled = copied-text content r are column group o at t list there spelled

  by : (found : Option Object) → object_at r column group ≡ found → IsSomeAnd found (Spells content r t) → IsCopy content r group column t
  by None at spells = absurd spells
  by (Some (object.Number o)) at spells = number o at (number_lists content r.number_objects o) refl spells
  by (Some (object.Text o)) at spells = text o at (lists_of content r.text_objects o) refl spells
