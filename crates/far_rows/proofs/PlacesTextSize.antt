-- Whether a text object would be too long depends only on the places.
use Rattle.std.proofs.Common.{◌≡◌, ℕ, zero, suc, ◌+◌, ◌/◌, ◌<◌, Bool, true, false, nat_lt, List, [], ◌∷◌, ◌++◌, map, length, get_or, set, inl, inr, Option, None, Some, refl, sym, ap, subst, ◌∙◌, arith}
use Rattle.std.specs.Prelude.{◌⊎◌, ◌&&◌, ◌||◌, option_map, slice_get, unwrap_or}
use Rattle.std.specs.List.{list_any, zip, enumerate_from}
use Rattle.std.proofs.lemmas.List.{length-map, map-append, map-set}
use Rattle.std.proofs.lemmas.Option.{none-some, same_Some, slice_get-map, slice_get_within, get_or_from_slice_get}
use Rattle.far_types.specs.declared.cell.Cell.{Cell}
use Rattle.far_types.specs.declared.cell.Cell.TheVariants as cell
use Rattle.far_types.specs.declared.cell.Kind.{Kind}
use Rattle.far_types.specs.declared.edit.Edit.{Edit}
use Rattle.far_types.specs.declared.edit.Edit.TheVariants as edit
use Rattle.far_types.specs.declared.limits.Limits.{Limits}
use Rattle.far_types.specs.Bounds.{is_text}
use Rattle.far_types.specs.Cells.{cell_at, text_in}
use Rattle.far_types.specs.Edits.{overfills, text_object_length, places_after}
use Rattle.far_types.specs.FormLengths.{texts_length}
use Rattle.far_types.specs.Table.{Place, column, in_group}
use Rattle.far_codec.proofs.FarFormLaws.{texts_form_length}
use Rattle.far_texts.specs.Texts.{Texts, Lists, HasGroups, IsTextColumn, lists_of, texts_in}
use Rattle.far_texts.specs.Effects.{group_with, group_with_next}
use Rattle.far_texts.specs.Refusing.{chunk_full}
use Rattle.far_texts.specs.RefusingTogether.{any_full}
use Rattle.far_texts.specs.Together.{next_forms}
use Rattle.far_texts.proofs.TextsGroups.{texts-length}
use Rattle.far_texts.proofs.TextsInGroups.{group-with-next, group-with-text}
use Rattle.far_rows.specs.declared.column_index.ColumnIndex.{ColumnIndex}
use Rattle.far_rows.specs.declared.column_index.ColumnIndex.TheVariants as column_index
use Rattle.far_types.specs.Lent.{text_cell}
use Rattle.far_rows.specs.ColumnIndexes.{IsColumnIn, Values, kind_of, cell_in, row_of, column_in}
use Rattle.far_rows.specs.Rows.{Rows, AreRows, all_numbers, all_texts, all_cells}
use Rattle.far_rows.specs.Places.{places_in, AreOf, text_parts}
use Rattle.far_rows.proofs.Places.{length-places, places-column, set-column, group-round_trip}

-- whether the text object of a column and a row group would be longer than a text segment
abbrev pub is_over : Limits → ℕ → ℕ → List Place → Bool
is_over limits c g places = nat_lt limits.text_size (text_object_length limits c g places)

-- two tests that imply each other are equal
pub both-ways : (a b : Bool) → (a ≡ true → b ≡ true) → (b ≡ true → a ≡ true) → a ≡ b
both-ways true b to back = sym (to refl)
both-ways false true to back = back refl
both-ways false false to back = refl

pub or-either : (a b : Bool) → (a || b) ≡ true → (a ≡ true) ⊎ (b ≡ true)
or-either true b is = inl refl
or-either false b is = inr is

pub or-later : (a b : Bool) → b ≡ true → (a || b) ≡ true
or-later true b is = refl
or-later false b is = is

pub or-first : (a b : Bool) → a ≡ true → (a || b) ≡ true
or-first a b is = ap (λ (c : Bool). c || b) is

-- a column that passes a test of its number and its kind
some-column_index : (test : ℕ × Kind → Bool) (n : ℕ) (column_indexes : List ColumnIndex) → list_any test (enumerate_from n (map kind_of column_indexes)) ≡ true → (k : ℕ) × (s : ColumnIndex) × (slice_get column_indexes k ≡ Some s) × (test (n + k, kind_of s) ≡ true)
some-column_index test n [] is = absurd cc
some-column_index test n (s ∷ column_indexes) is = elim (or-either (test (n, kind_of s)) (list_any test (enumerate_from (n + 1) (map kind_of column_indexes))) is) [
  | inl here ↦ (let e : n + 0 ≡ n = omega arith in (0, s, refl, ap (λ k. test (k, kind_of s)) e ∙ here))
  | inr later ↦
      let found = some-column_index test (n + 1) column_indexes later in
      let e : n + suc found.0 ≡ n + 1 + found.0 = omega arith in
      (suc found.0, found.1, found.2, ap (λ k. test (k, kind_of found.1)) e ∙ found.3)
]

has-column_index : (test : ℕ × Kind → Bool) (n : ℕ) (column_indexes : List ColumnIndex) (k : ℕ) (s : ColumnIndex) → slice_get column_indexes k ≡ Some s → test (n + k, kind_of s) ≡ true → list_any test (enumerate_from n (map kind_of column_indexes)) ≡ true
has-column_index test n [] k s at is = absurd (none-some s at)
has-column_index test n (t ∷ column_indexes) zero s at is =
    let e : n ≡ n + 0 = omega arith in
    let same = same_Some t s at in
    or-first (test (n, kind_of t)) (list_any test (enumerate_from (n + 1) (map kind_of column_indexes))) ((λ i. test (e i, kind_of (same i))) ∙ is)
has-column_index test n (t ∷ column_indexes) (suc k) s at is =
    let e : n + 1 + k ≡ n + suc k = omega arith in
    or-later (test (n, kind_of t)) (list_any test (enumerate_from (n + 1) (map kind_of column_indexes))) (has-column_index test (n + 1) column_indexes k s at (ap (λ j. test (j, kind_of s)) e ∙ is))

-- a text column that passes a test together with its text
some-text : (test : Texts × Option (List ℕ) → Bool) (columns : List Texts) (texts : List (Option (List ℕ))) → list_any test (zip columns texts) ≡ true → (i : ℕ) × (c : Texts) × (slice_get columns i ≡ Some c) × (test (c, get_or texts i None) ≡ true)
some-text test [] texts is = absurd cc
some-text test (c ∷ columns) [] is = absurd cc
some-text test (c ∷ columns) (text ∷ texts) is = elim (or-either (test (c, text)) (list_any test (zip columns texts)) is) [
  | inl here ↦ (0, c, refl, here)
  | inr later ↦ (let found = some-text test columns texts later in (suc found.0, found.1, found.2, found.3))
]

has-text : (test : Texts × Option (List ℕ) → Bool) (columns : List Texts) (texts : List (Option (List ℕ))) → length texts ≡ length columns → (i : ℕ) (c : Texts) → slice_get columns i ≡ Some c → test (c, get_or texts i None) ≡ true → list_any test (zip columns texts) ≡ true
has-text test [] texts same_length i c at is = absurd (none-some c at)
has-text test (d ∷ columns) [] same_length i c at is = absurd (omega (arith, same_length))
has-text test (d ∷ columns) (text ∷ texts) same_length zero c at is = let same = same_Some d c at in or-first (test (d, text)) (list_any test (zip columns texts)) ((λ i. test (same i, text)) ∙ is)
has-text test (d ∷ columns) (text ∷ texts) same_length (suc i) c at is = or-later (test (d, text)) (list_any test (zip columns texts)) (has-text test columns texts (omega (arith, same_length)) i c at is)

-- the lengths of the next forms, given the length for each column
form-lens : (lists : Lists) (n : ℕ) (columns : List Texts) (texts : List (Option (List ℕ))) (long : Texts → ℕ) → length texts ≡ length columns → ((i : ℕ) (c : Texts) → slice_get columns i ≡ Some c → texts_length (group_with_next lists c (get_or texts i None)) ≡ long c) → map (λ form. length form.1) (next_forms lists n columns texts) ≡ map long columns
form-lens lists n [] texts long same_length each = refl
form-lens lists n (c ∷ columns) [] long same_length each = absurd (omega (arith, same_length))
form-lens lists n (c ∷ columns) (text ∷ texts) long same_length each =
    let here = texts_form_length (group_with_next lists c text) ∙ each 0 c refl in
    let rest = form-lens lists (n + 1) columns texts long (omega (arith, same_length)) (λ i d at. each (suc i) d at) in
    λ j. here j ∷ rest j

is-of-text : (s : ColumnIndex) (later : Bool) → (is_text (Some (kind_of s)) && later) ≡ true → (i : ℕ) × (s ≡ column_index.Text i) × (later ≡ true)
is-of-text (column_index.Number i) later is = absurd cc
is-of-text (column_index.Text i) later is = (i, refl, is)

pub found-at : {A : Type 0} (xs : List A) (i : ℕ) → i < length xs → (x : A) × (slice_get xs i ≡ Some x)
found-at [] i within = absurd (omega (arith, within))
found-at (x ∷ xs) zero within = (x, refl)
found-at (x ∷ xs) (suc i) within = found-at xs i (omega (arith, within))

module _ {K : Type 0} (content : K → List ℕ) (r : Rows K) (are : AreRows content r) (limits : Limits) (of : AreOf limits r) where
  abbrev lists : Lists
  lists = lists_of content r.text_objects

  -- a text column that exists: its number k, and its index i among the text columns
  record IsThere (k i : ℕ) (c : Texts) : Type 0 where
    lies : slice_get r.column_indexes k ≡ Some (column_index.Text i)
    at : slice_get r.texts i ≡ Some c
    column : c.column ≡ k
    has : HasGroups c
    is : IsTextColumn lists c
    size : c.size ≡ limits.group
    len : c.len ≡ length r.alive
    limit : c.limit ≡ limits.text_size

  there : (k i : ℕ) (c : Texts) → slice_get r.column_indexes k ≡ Some (column_index.Text i) → slice_get r.texts i ≡ Some c → IsThere k i c
  there k i c lies at =
      let within = slice_get_within r.texts i c at in
      let same = get_or_from_slice_get r.texts i c c at in
      let same_length = subst (λ (d : Texts). (d.size ≡ r.size) × (d.len ≡ length r.alive)) same (are.same_length_texts i c within) in
      record {
        lies = lies;
        at = at;
        column = same_Some c.column k (sym (slice_get-map (λ (d : Texts). d.column) r.texts i ∙ ap (option_map (λ (d : Texts). d.column)) at) ∙ are.numbered k (column_index.Text i) lies);
        has = subst HasGroups same (are.grouped i c within);
        is = subst (IsTextColumn lists) same (are.texts.all_disjoint.each i c within);
        size = same_length.0 ∙ of.group;
        len = same_length.1;
        limit = subst (λ (d : Texts). d.limit ≡ limits.text_size) same (of.limit i c within);
      }

  by-column_index : (k i : ℕ) → slice_get r.column_indexes k ≡ Some (column_index.Text i) → (c : Texts) × IsThere k i c
  by-column_index k i lies =
      let inside : i < length r.texts = subst (IsColumnIn (length r.numbers) (length r.texts)) (get_or_from_slice_get r.column_indexes k (column_index.Text i) (column_index.Text i) lies) (are.column_indexes.within k (column_index.Text i) (slice_get_within r.column_indexes k (column_index.Text i) lies)) in
      let found = found-at r.texts i inside in
      (found.0, there k i found.0 lies found.1)

  by-column : (i : ℕ) (c : Texts) → slice_get r.texts i ≡ Some c → IsThere c.column i c
  by-column i c at = there c.column i c (are.placed_texts i c.column (slice_get-map (λ (d : Texts). d.column) r.texts i ∙ ap (option_map (λ (d : Texts). d.column)) at)) at

  -- the cells of a text column are its texts
  cells-are : (k i : ℕ) (c : Texts) → IsThere k i c → get_or (all_cells content r) k [] ≡ map text_cell (texts_in lists c)
  cells-are k i c t =
      get_or_from_slice_get (all_cells content r) k (map text_cell (texts_in lists c)) [] (
      slice_get-map (column_in (all_numbers content r) (all_texts content r)) r.column_indexes k
      ∙ ap (option_map (column_in (all_numbers content r) (all_texts content r))) t.lies
      ∙ ap (λ (ts : List (Option (List ℕ))). Some (map text_cell ts)) (get_or_from_slice_get (all_texts content r) i (texts_in lists c) [] (slice_get-map (texts_in lists) r.texts i ∙ ap (option_map (texts_in lists)) t.at)))

  count-are : (k i : ℕ) (c : Texts) → IsThere k i c → length (get_or (all_cells content r) k []) ≡ length r.alive
  count-are k i c t = ap length (cells-are k i c t) ∙ length-map (texts_in lists c) text_cell ∙ texts-length lists c t.is t.has ∙ t.len

  module _ (values : Values) (same_length : length values.texts ≡ length r.texts) where
    abbrev insert : Edit
    insert = edit.Insert (row_of r.column_indexes values)

    -- the text object that an insert writes is as long as the form of the next texts
    insert-long : (k i : ℕ) (c : Texts) → IsThere k i c → text_object_length limits k (length (places_in content r) / limits.group) (places_after insert (places_in content r)) ≡ texts_length (group_with_next lists c (get_or values.texts i None))
    insert-long k i c t =
        let row = row_of r.column_indexes values in
        let text = get_or values.texts i None in
        let places = places_in content r in
        let cell : cell_at k row ≡ text_cell text = ap (λ (found : Option Cell). unwrap_or found cell.Missing) (slice_get-map (cell_in values) r.column_indexes k ∙ ap (option_map (cell_in values)) t.lies) in
        let after : column k (places_after insert places) ≡ map text_cell (texts_in lists c ++ text ∷ []) =
        map-append (λ (place : Place). cell_at k place.cells) places (record { cells = row; alive = true } ∷ [])
        ∙ ap (λ (cells : List Cell). cells ++ cell_at k row ∷ []) (places-column (all_cells content r) r.alive k (count-are k i c t) ∙ cells-are k i c t)
        ∙ ap (λ (one : Cell). map text_cell (texts_in lists c) ++ one ∷ []) cell
        ∙ sym (map-append text_cell (texts_in lists c) (text ∷ [])) in
        let group : length places / limits.group ≡ c.len / c.size = (λ j. length-places (all_cells content r) r.alive j / sym t.size j) ∙ ap (λ n. n / c.size) (sym t.len) in
        ap (λ (cells : List Cell). texts_length (map text_in (in_group limits.group (length places / limits.group) cells))) after
        ∙ ap texts_length (group-round_trip limits.group (length places / limits.group) (texts_in lists c ++ text ∷ []))
        ∙ (λ j. texts_length (in_group (sym t.size j) (group j) (texts_in lists c ++ text ∷ [])))
        ∙ ap texts_length (sym (group-with-next lists c text t.has t.is))

    insert-over : (k i : ℕ) (c : Texts) → IsThere k i c → is_over limits k (length (places_in content r) / limits.group) (places_after insert (places_in content r)) ≡ (chunk_full c (group_with_next lists c (get_or values.texts i None))).0
    insert-over k i c t = let long = insert-long k i c t in λ j. nat_lt (sym t.limit j) (long j)

    -- refusal 11 for an insert
    pub insert-full : (any_full lists r.texts values.texts).0 ≡ overfills (map kind_of r.column_indexes) limits insert (places_in content r)
    insert-full =
        let g = length (places_in content r) / limits.group in
        let after = places_after insert (places_in content r) in
        let test : ℕ × Kind → Bool = λ at. is_text (Some at.1) && is_over limits at.0 g after in
        let full : Texts × Option (List ℕ) → Bool = λ p. (chunk_full p.0 (group_with_next lists p.0 p.1)).0 in
        both-ways (any_full lists r.texts values.texts).0 (overfills (map kind_of r.column_indexes) limits insert (places_in content r))
        (λ is.
        let found = some-text full r.texts values.texts is in
        let c = found.1 in
        let t = by-column found.0 c found.2 in
        let e : 0 + c.column ≡ c.column = omega arith in
        has-column_index test 0 r.column_indexes c.column (column_index.Text found.0) t.lies (ap (λ k. is_over limits k g after) e ∙ insert-over c.column found.0 c t ∙ found.3))
        (λ is.
        let found = some-column_index test 0 r.column_indexes is in
        let k = found.0 in
        let e : 0 + k ≡ k = omega arith in
        let text = is-of-text found.1 (is_over limits (0 + k) g after) found.3 in
        let i = text.0 in
        let known = by-column_index k i (found.2 ∙ ap Some text.1) in
        has-text full r.texts values.texts same_length i known.0 known.1.at (sym (insert-over k i known.0 known.1) ∙ ap (λ j. is_over limits j g after) (sym e) ∙ text.2))

    -- refusal 17 for the texts of an insert
    pub insert-parts : (n : ℕ) → map (λ form. length form.1) (next_forms lists n r.texts values.texts) ≡ text_parts content limits r insert (length (places_in content r) / limits.group)
    insert-parts n =
        form-lens lists n r.texts values.texts (λ c. text_object_length limits c.column (length (places_in content r) / limits.group) (places_after insert (places_in content r))) same_length
        (λ i c at. sym (insert-long c.column i c (by-column i c at)))

  -- the text object that a set writes is as long as the form of its texts
  pub set-long : (k i p : ℕ) (c : Texts) (text : Option (List ℕ)) → slice_get r.column_indexes k ≡ Some (column_index.Text i) → slice_get r.texts i ≡ Some c → p < length r.alive → texts_length (group_with lists c p text) ≡ text_object_length limits k (p / limits.group) (places_after (edit.Set p k (text_cell text)) (places_in content r))
  set-long k i p c text lies at below =
      let t = there k i c lies at in
      let wide : k < length (all_cells content r) = omega (arith, slice_get_within r.column_indexes k (column_index.Text i) lies, length-map r.column_indexes (column_in (all_numbers content r) (all_texts content r))) in
      let after : column k (places_after (edit.Set p k (text_cell text)) (places_in content r)) ≡ map text_cell (set (texts_in lists c) p text) =
      set-column (all_cells content r) r.alive k p (text_cell text) wide (count-are k i c t)
      ∙ ap (λ (cells : List Cell). set cells p (text_cell text)) (cells-are k i c t)
      ∙ sym (map-set text_cell (texts_in lists c) p text) in
      sym (
      ap (λ (cells : List Cell). texts_length (map text_in (in_group limits.group (p / limits.group) cells))) after
      ∙ ap texts_length (group-round_trip limits.group (p / limits.group) (set (texts_in lists c) p text))
      ∙ (λ j. texts_length (in_group (sym t.size j) (p / sym t.size j) (set (texts_in lists c) p text)))
      ∙ ap texts_length (sym (group-with-text lists c p text t.has t.is (omega (arith, below, t.len)))))

  -- refusal 11 for a set
  pub set-full : (k i p : ℕ) (c : Texts) (text : Option (List ℕ)) → slice_get r.column_indexes k ≡ Some (column_index.Text i) → slice_get r.texts i ≡ Some c → p < length r.alive → (chunk_full c (group_with lists c p text)).0 ≡ overfills (map kind_of r.column_indexes) limits (edit.Set p k (text_cell text)) (places_in content r)
  set-full k i p c text lies at below =
      let t = there k i c lies at in
      let long = set-long k i p c text lies at below in
      let over = is_over limits k (p / limits.group) (places_after (edit.Set p k (text_cell text)) (places_in content r)) in
      (λ j. nat_lt (t.limit j) (long j))
      ∙ sym (ap (λ (kind : Option Kind). is_text kind && over) (slice_get-map kind_of r.column_indexes k ∙ ap (option_map kind_of) lies))
