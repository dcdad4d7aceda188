-- Why appending a row is refused, in terms of the places.
use Rattle.std.proofs.Common.{◌≡◌, ◌≢◌, ℕ, zero, suc, ◌+◌, ◌-◌, ◌*◌, ◌/◌, ◌%◌, Bool, true, false, not, List, [], ◌∷◌, ◌++◌, length, get_or, ℤ, Option, None, Some, refl, sym, ap, subst, ◌∙◌, arith}
use Rattle.std.specs.Prelude.{All, cond, option_map, slice_get}
use Rattle.std.specs.Option.{option_and_then, option_map_or}
use Rattle.std.proofs.lemmas.Bool.{eqb-false}
use Rattle.std.proofs.lemmas.List.Elements.{All-nil, All-cons, All-head, All-tail}
use Rattle.std.proofs.lemmas.Nat.{div_below, le-div}
use Rattle.std.proofs.lemmas.Option.{none-some, same_Some, slice_get-map, slice_get-get_or, slice_get_within, get_or_from_slice_get}
use Rattle.far_types.specs.declared.limits.Limits.{Limits}
use Rattle.far_types.specs.declared.refusal.Refusal.{Refusal}
use Rattle.far_types.specs.declared.refusal.Refusal.TheVariants as refusal
use Rattle.far_types.specs.FirstOf.{first_of}
use Rattle.far_scopes.specs.Refusing.{absent}
use Rattle.far_texts.specs.Texts.{Texts, HasGroups}
use Rattle.far_texts.specs.Effects.{begins_group, last_object}
use Rattle.far_texts.specs.Together.{all_begin}
use Rattle.far_texts.specs.RefusingTogether.{absents as texts_absent}
use Rattle.far_columns.specs.NumbersTogether.{NumberColumns, all_begin as all_numbers_begin, absents as numbers_absent}
use Rattle.far_columns.specs.Vector.{Vector, IsShaped, object_at}
use Rattle.far_columns.specs.Effects.{is_full}
use Rattle.far_rows.proofs.EffectsVersions.{last-there}
use Rattle.far_rows.specs.declared.column_index.ColumnIndex.{ColumnIndex}
use Rattle.far_rows.specs.declared.column_index.ColumnIndex.TheVariants as column_index
use Rattle.far_rows.specs.ColumnIndexes.{Values}
use Rattle.far_rows.specs.Rows.{Rows, AreRows, object_of}
use Rattle.far_rows.specs.Refusing.{away_at, absents, absents_from, append_tests, push_refusal}
use Rattle.far_rows.specs.Places.{AreOf}
use Rattle.far_rows.specs.Plain.{insert_refusal}
use Rattle.far_rows.proofs.RowsGroupStarts.{texts-begin, text-begun, are-texts, numbers-begin, number-begun, are-numbers}
use Rattle.far_rows.proofs.NamingTexts.{true-not}
use Rattle.far_rows.proofs.PlacesTextSize.{insert-full, insert-parts}

not-due : (b : Bool) (e : Refusal) (later : Option Refusal) → cond b (Some e) later ≡ None → (b ≡ false) × (later ≡ None)
not-due true e later free = absurd cc
not-due false e later free = (refl, free)

-- tests that do not apply may be skipped
pub skip : (cases more : List (Bool × Refusal)) → All (λ (case : Bool × Refusal). case.0 ≡ false) cases → first_of (cases ++ more) ≡ first_of more
skip [] more none = refl
skip (case ∷ cases) more none = ap (λ (b : Bool). cond b (Some case.1) (first_of (cases ++ more))) (All-head (λ (c : Bool × Refusal). c.0 ≡ false) case cases none) ∙ skip cases more (All-tail (λ (c : Bool × Refusal). c.0 ≡ false) case cases none)

module _ {K : Type 0} (r : Rows K) (g : ℕ) where
  -- no object of the row group is away
  pub none-away : (n : ℕ) (column_indexes : List ColumnIndex) → first_of (absents_from r g n column_indexes) ≡ None → (k : ℕ) (s : ColumnIndex) → slice_get column_indexes k ≡ Some s → (away_at r g s).0 ≡ false
  none-away n [] free k s at = absurd (none-some s at)
  none-away n (t ∷ column_indexes) free zero s at = let same = same_Some t s at in subst (λ (u : ColumnIndex). (away_at r g u).0 ≡ false) same (not-due (away_at r g t).0 (refusal.Absent n g) (first_of (absents_from r g (n + 1) column_indexes)) free).0
  none-away n (t ∷ column_indexes) free (suc k) s at = none-away (n + 1) column_indexes (not-due (away_at r g t).0 (refusal.Absent n g) (first_of (absents_from r g (n + 1) column_indexes)) free).1 k s at

-- a column that begins no row group has the next place in its last row group
pub last-group : (c : Texts) → HasGroups c → begins_group c ≡ false → slice_get c.objects (c.len / c.size) ≡ Some (last_object c)
last-group c has not = by (length c.objects) refl where
  by : (n : ℕ) → n ≡ length c.objects → slice_get c.objects (c.len / c.size) ≡ Some (last_object c)
  by zero is =
      let none : length c.objects * c.size ≡ 0 = ap (λ m. m * c.size) (sym is) ∙ (let e : 0 * c.size ≡ 0 = omega arith in e) in
      absurd (eqb-false c.len (length c.objects * c.size) not (omega (arith, has.held, none)))
  by (suc h) is =
      let ne = eqb-false c.len (length c.objects * c.size) not in
      let high = div_below c.len c.size (length c.objects) has.some (omega (arith, has.held, ne)) in
      let whole : length c.objects * c.size ≡ h * c.size + c.size = ap (λ m. m * c.size) (sym is) ∙ (let e : suc h * c.size ≡ h * c.size + c.size = omega arith in e) in
      let low = le-div h c.len c.size has.some (omega (arith, has.begun, whole)) in
      let at : c.len / c.size ≡ length c.objects - 1 = omega (arith, high, low, is) in
      ap (slice_get c.objects) at ∙ slice_get-get_or c.objects (length c.objects - 1) 0 (omega (arith, is))

module _ {K : Type 0} (content : K → List ℕ) (r : Rows K) (are : AreRows content r) where
  -- if not all text columns begin a row group, none does
  pub all-not : all_begin r.texts ≡ false → All (λ c. begins_group c ≡ false) r.texts
  all-not is =
      let len = length r.alive in
      let cs = are-texts r.size len r.texts are.grouped are.same_length_texts in
      let disjoint : len % r.size ≢ 0 = λ divides. true-not (sym (texts-begin r.size len r.texts are.some divides cs) ∙ is) in
      λ k d below. text-begun r.size len are.some disjoint (get_or r.texts k d) (cs k d below)

  -- if no object of the next place's row group is away, no last object of a text column is away
  pub texts-here : first_of (absents r (length r.alive / r.size)) ≡ None → All (λ c. begins_group c ≡ false) r.texts → All (λ (case : Bool × Refusal). case.0 ≡ false) (texts_absent r.text_objects r.texts)
  texts-here free not = from r.texts (λ i c at. here i c at) where
    here : (i : ℕ) (c : Texts) → slice_get r.texts i ≡ Some c → (absent r.text_objects (last_object c)).0 ≡ false
    here i c at =
        let within = slice_get_within r.texts i c at in
        let same = get_or_from_slice_get r.texts i c c at in
        let g = length r.alive / r.size in
        let same_length = subst (λ (d : Texts). (d.size ≡ r.size) × (d.len ≡ length r.alive)) same (are.same_length_texts i c within) in
        let last = last-group c (subst HasGroups same (are.grouped i c within)) (subst (λ (d : Texts). begins_group d ≡ false) same (not i c within)) in
        let lies = are.placed_texts i c.column (slice_get-map (λ (d : Texts). d.column) r.texts i ∙ ap (option_map (λ (d : Texts). d.column)) at) in
        let returned = none-away r g 0 r.column_indexes free c.column (column_index.Text i) lies in
        let object : object_of r (column_index.Text i) g ≡ Some (last_object c) = ap (option_and_then (λ (d : Texts). slice_get d.objects g)) at ∙ (λ k. slice_get c.objects (sym same_length.1 k / sym same_length.0 k)) ∙ last in
        sym (ap (λ (o : Option ℕ). (option_map_or (absent r.text_objects) o (false, refusal.StaleJob)).0) object) ∙ returned

    from : (columns : List Texts) → ((i : ℕ) (c : Texts) → slice_get columns i ≡ Some c → (absent r.text_objects (last_object c)).0 ≡ false) → All (λ (case : Bool × Refusal). case.0 ≡ false) (texts_absent r.text_objects columns)
    from [] each = All-nil (λ (case : Bool × Refusal). case.0 ≡ false)
    from (c ∷ columns) each = All-cons (λ (case : Bool × Refusal). case.0 ≡ false) (absent r.text_objects (last_object c)) (texts_absent r.text_objects columns) (each 0 c refl) (from columns (λ i d at. each (suc i) d at))

  -- if not all number columns begin a row group, none does; if no object of the next place's row group is away, no last object is away
  pub all-numbers-not : all_numbers_begin r.numbers ≡ false → All (λ c. is_full c ≡ false) r.numbers
  all-numbers-not is =
      let len = length r.alive in
      let cs = are-numbers r.size len r.numbers are.shaped are.same_length_numbers in
      let disjoint : len % r.size ≢ 0 = λ divides. true-not (sym (numbers-begin r.size len r.numbers are.some divides cs) ∙ is) in
      λ k d below. number-begun r.size len are.some disjoint (get_or r.numbers k d) (cs k d below)

  pub numbers-here : first_of (absents r (length r.alive / r.size)) ≡ None → All (λ c. is_full c ≡ false) r.numbers → All (λ (case : Bool × Refusal). case.0 ≡ false) (numbers_absent r.number_objects r.numbers)
  numbers-here free not = from r.numbers (λ i c at. here i c at) where
    here : (i : ℕ) (c : Vector (Option ℤ)) → slice_get r.numbers i ≡ Some c → (absent r.number_objects (object_at c c.len)).0 ≡ false
    here i c at =
        let within = slice_get_within r.numbers i c at in
        let same = get_or_from_slice_get r.numbers i c c at in
        let g = length r.alive / r.size in
        let same_length = subst (λ (d : Vector (Option ℤ)). (d.size ≡ r.size) × (d.len ≡ length r.alive)) same (are.same_length_numbers i c within) in
        let begun = last-there c (subst IsShaped same (are.shaped i c within)) (subst (λ (d : Vector (Option ℤ)). is_full d ≡ false) same (not i c within)) in
        let lies = are.placed_numbers i c.column (slice_get-map (λ (d : Vector (Option ℤ)). d.column) r.numbers i ∙ ap (option_map (λ (d : Vector (Option ℤ)). d.column)) at) in
        let returned = none-away r g 0 r.column_indexes free c.column (column_index.Number i) lies in
        let object : object_of r (column_index.Number i) g ≡ Some (object_at c c.len) = ap (option_and_then (λ (d : Vector (Option ℤ)). slice_get d.objects g)) at ∙ (λ k. slice_get c.objects (sym same_length.1 k / sym same_length.0 k)) ∙ slice_get-get_or c.objects (c.len / c.size) 0 begun in
        sym (ap (λ (o : Option ℕ). (option_map_or (absent r.number_objects) o (false, refusal.StaleJob)).0) object) ∙ returned

    from : (columns : NumberColumns) → ((i : ℕ) (c : Vector (Option ℤ)) → slice_get columns i ≡ Some c → (absent r.number_objects (object_at c c.len)).0 ≡ false) → All (λ (case : Bool × Refusal). case.0 ≡ false) (numbers_absent r.number_objects columns)
    from [] each = All-nil (λ (case : Bool × Refusal). case.0 ≡ false)
    from (c ∷ columns) each = All-cons (λ (case : Bool × Refusal). case.0 ≡ false) (absent r.number_objects (object_at c c.len)) (numbers_absent r.number_objects columns) (each 0 c refl) (from columns (λ i d at. each (suc i) d at))

  -- refusals 11 and 17 of an insert depend only on the places
  pub push-plain : (limits : Limits) → AreOf limits r → (values : Values) → length values.texts ≡ length r.texts → push_refusal content r values ≡ insert_refusal content limits r values
  push-plain limits of values same_length = λ k. first_of (append_tests r (insert-full content r are limits of values same_length k) (insert-parts content r are limits of values same_length (length r.text_objects.records) k))
