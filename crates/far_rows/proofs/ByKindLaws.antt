-- Why appending a row is refused: the tests in the order of the refusals agree with the tests kind by kind.
use Rattle.std.proofs.Common.{◌≡◌, ◌≢◌, ℕ, zero, suc, ◌/◌, ◌%◌, Bool, true, false, not, if◌then◌else◌, List, [], ◌∷◌, ◌++◌, map, length, replicate, ℤ, Option, None, Some, refl, sym, ap, subst, ◌∙◌, arith}
use Rattle.std.specs.Prelude.{◌&&◌, ◌||◌, All, cond, slice_get}
use Rattle.std.specs.List.{list_any}
use Rattle.std.specs.Option.{option_map_or, option_or}
use Rattle.std.proofs.lemmas.Bool.{eqb-true, eqb-false}
use Rattle.std.proofs.lemmas.List.{append_assoc}
use Rattle.std.proofs.lemmas.List.Elements.{All-nil, All-head, All-tail}
use Rattle.std.proofs.lemmas.List.Sums.{AllPass-from_list_all}
use Rattle.std.proofs.lemmas.Option.{slice_get_within, get_or_from_slice_get, slice_get-get_or}
use Rattle.far_types.specs.declared.refusal.Refusal.{Refusal}
use Rattle.far_types.specs.declared.refusal.Refusal.TheVariants as refusal
use Rattle.far_types.specs.FirstOf.{first_of}
use Rattle.far_log.specs.RegionState.{spaces_of, fit_in_order}
use Rattle.far_scopes.specs.Refusing.{written_out}
use Rattle.far_columns.specs.Vector.{Vector, IsShaped, object_at}
use Rattle.far_columns.specs.Effects.{is_full}
use Rattle.far_texts.specs.Texts.{Texts, Lists, HasGroups, lists_of}
use Rattle.far_texts.specs.Effects.{begins_group, last_object}
use Rattle.far_texts.specs.Together.{all_begin, next_forms}
use Rattle.far_texts.specs.RefusingTogether.{any_too_long, any_full, absents as texts_absent, some_written_out as some_text_written_out, push_texts_refusal}
use Rattle.far_columns.specs.NumbersTogether.{NumberColumns, all_begin as all_numbers_begin, absents as numbers_absent, some_written_out as some_number_written_out, push_numbers_refusal}
use Rattle.far_scopes.proofs.FirstOfCases.{first-append}
use Rattle.far_rows.specs.ColumnIndexes.{Values}
use Rattle.far_rows.specs.Rows.{Rows, AreRows}
use Rattle.far_rows.specs.Refusing.{absents, begins, no_space_for_texts, no_space_for_numbers, some_written_out, push_refusal}
use Rattle.far_rows.specs.ByKind.{kinds_refusal}
use Rattle.far_rows.proofs.RowsGroupStarts.{texts-begin, are-texts, numbers-begin, numbers-begun, are-numbers}
use Rattle.far_rows.proofs.PlainLaws.{skip, last-group, all-not, texts-here, all-numbers-not, numbers-here}
use Rattle.far_rows.proofs.NamingTexts.{true-not}
use Rattle.far_rows.proofs.EffectsVersions.{last-there}
use Rattle.far_rows.proofs.RefusingWrites.{none-any, any-same, no-text, no-number, text_written, number_written, by-kinds, forms-written}

-- refusal 17 for numbers may be tested before refusal 24 for texts, since at most one of the two applies
in-order : (full texts numbers text number : Bool) (x y z : Refusal) → (text ≡ true → numbers ≡ false)
    → option_or (cond full (Some x) (cond texts (Some y) (cond text (Some z) None))) (cond numbers (Some y) (cond number (Some z) None)) ≡ cond full (Some x) (cond texts (Some y) (cond numbers (Some y) (cond (text || number) (Some z) None)))
in-order true texts numbers text number x y z disjoint = refl
in-order false true numbers text number x y z disjoint = refl
in-order false false numbers true number x y z disjoint = ap (λ (b : Bool). cond b (Some y) (Some z)) (sym (disjoint refl))
in-order false false numbers false number x y z disjoint = refl

module _ {K : Type 0} (content : K → List ℕ) (r : Rows K) (are : AreRows content r) where
  abbrev g : ℕ
  g = length r.alive / r.size

  -- a text column with the rows of this table
  record IsText (c : Texts) : Type 0 where
    has : HasGroups c
    size : c.size ≡ r.size
    len : c.len ≡ length r.alive

  text : (i : ℕ) (c : Texts) → slice_get r.texts i ≡ Some c → IsText c
  text i c at =
      let within = slice_get_within r.texts i c at in
      let same = get_or_from_slice_get r.texts i c c at in
      let same_length = subst (λ (d : Texts). (d.size ≡ r.size) × (d.len ≡ length r.alive)) same (are.same_length_texts i c within) in
      record { has = subst HasGroups same (are.grouped i c within); size = same_length.0; len = same_length.1 }

  record IsNumber (c : Vector (Option ℤ)) : Type 0 where
    shaped : IsShaped c
    size : c.size ≡ r.size
    len : c.len ≡ length r.alive

  number : (i : ℕ) (c : Vector (Option ℤ)) → slice_get r.numbers i ≡ Some c → IsNumber c
  number i c at =
      let within = slice_get_within r.numbers i c at in
      let same = get_or_from_slice_get r.numbers i c c at in
      let same_length = subst (λ (d : Vector (Option ℤ)). (d.size ≡ r.size) × (d.len ≡ length r.alive)) same (are.same_length_numbers i c within) in
      record { shaped = subst IsShaped same (are.shaped i c within); size = same_length.0; len = same_length.1 }

  -- if all text columns begin a row group, it has no text object yet
  texts-none : all_begin r.texts ≡ true → list_any (text_written r g) r.texts ≡ false
  texts-none is = none-any (text_written r g) r.texts (λ i c at. each i c at) where
    each : (i : ℕ) (c : Texts) → slice_get r.texts i ≡ Some c → text_written r g c ≡ false
    each i c at =
        let known = text i c at in
        let within = slice_get_within r.texts i c at in
        let begun = subst (λ (d : Texts). begins_group d ≡ true) (get_or_from_slice_get r.texts i c c at) (AllPass-from_list_all begins_group r.texts is i c within) in
        let none : slice_get c.objects g ≡ None = (λ k. slice_get c.objects (sym known.len k / sym known.size k)) ∙ no-text c known.has begun in
        ap (λ (o : Option ℕ). option_map_or (λ p. (written_out r.text_objects p).0) o false) none

  numbers-none : all_numbers_begin r.numbers ≡ true → list_any (number_written r g) r.numbers ≡ false
  numbers-none is = none-any (number_written r g) r.numbers (λ i c at. each i c at) where
    each : (i : ℕ) (c : Vector (Option ℤ)) → slice_get r.numbers i ≡ Some c → number_written r g c ≡ false
    each i c at =
        let known = number i c at in
        let within = slice_get_within r.numbers i c at in
        let full = subst (λ (d : Vector (Option ℤ)). is_full d ≡ true) (get_or_from_slice_get r.numbers i c c at) (AllPass-from_list_all is_full r.numbers is i c within) in
        let none : slice_get c.objects g ≡ None = (λ k. slice_get c.objects (sym known.len k / sym known.size k)) ∙ no-number c known.shaped full in
        ap (λ (o : Option ℕ). option_map_or (λ p. (written_out r.number_objects p).0) o false) none

  -- refusal 24 for the text columns
  texts-written : (values : Values) → length values.texts ≡ length r.texts → (b : Bool) → all_begin r.texts ≡ b → first_of (if b then [] else some_text_written_out r.text_objects (next_forms (lists_of content r.text_objects) (length r.text_objects.records) r.texts values.texts) ∷ []) ≡ first_of ((list_any (text_written r g) r.texts, refusal.EditsUsedUp) ∷ [])
  texts-written values same_length true is = sym (ap (λ (b : Bool). first_of ((b, refusal.EditsUsedUp) ∷ [])) (texts-none is))
  texts-written values same_length false is =
      ap (λ (b : Bool). first_of ((b, refusal.EditsUsedUp) ∷ [])) (forms-written r g (lists_of content r.text_objects) (length r.text_objects.records) r.texts values.texts same_length (λ i c at. each i c at)) where
        each : (i : ℕ) (c : Texts) → slice_get r.texts i ≡ Some c → (begins_group c ≡ false) × (slice_get c.objects g ≡ Some (last_object c))
        each i c at =
            let known = text i c at in
            let not = subst (λ (d : Texts). begins_group d ≡ false) (get_or_from_slice_get r.texts i c c at) (all-not content r are is i c (slice_get_within r.texts i c at)) in
            (not, (λ k. slice_get c.objects (sym known.len k / sym known.size k)) ∙ last-group c known.has not)

  -- refusals 11, 17 and 24 for the text columns, if no object of the row group is away
  texts-tests : (values : Values) → length values.texts ≡ length r.texts → (any_too_long values.texts).0 ≡ false → first_of (absents r g) ≡ None
      → push_texts_refusal content r.text_objects r.texts values.texts ≡ first_of (any_full (lists_of content r.text_objects) r.texts values.texts ∷ no_space_for_texts r (map (λ form. length form.1) (next_forms (lists_of content r.text_objects) (length r.text_objects.records) r.texts values.texts)) ∷ (list_any (text_written r g) r.texts, refusal.EditsUsedUp) ∷ [])
  texts-tests values same_length short free =
      let m = r.text_objects in
      let lists : Lists = lists_of content m in
      let forms = next_forms lists (length m.records) r.texts values.texts in
      let full = any_full lists r.texts values.texts in
      let space = no_space_for_texts r (map (λ (form : ℕ × List ℕ). length form.1) forms) in
      let later : List (Bool × Refusal) = if all_begin r.texts then [] else some_text_written_out m forms ∷ [] in
      let away : List (Bool × Refusal) = if all_begin r.texts then [] else texts_absent m r.texts in
      let none : All (λ (case : Bool × Refusal). case.0 ≡ false) away = none-of (all_begin r.texts) refl in
      ap (λ (b : Bool). cond b (Some refusal.TextTooLong) (first_of ((away ++ full ∷ []) ++ space ∷ later))) short
      ∙ ap first_of (append_assoc away (full ∷ []) (space ∷ later))
      ∙ skip away (full ∷ space ∷ later) none
      ∙ ap (λ (last : Option Refusal). cond full.0 (Some refusal.ChunkFull) (cond space.0 (Some refusal.RegionFull) last)) (texts-written values same_length (all_begin r.texts) refl) where
        none-of : (b : Bool) → all_begin r.texts ≡ b → All (λ (case : Bool × Refusal). case.0 ≡ false) (if b then [] else texts_absent r.text_objects r.texts)
        none-of true is = All-nil (λ (case : Bool × Refusal). case.0 ≡ false)
        none-of false is = texts-here content r are free (all-not content r are is)

  abbrev number_space : List ℕ → Bool × Refusal
  number_space lens = (not (fit_in_order (spaces_of r.number_objects.memory.state) lens), refusal.RegionFull)

  sizes : (columns : NumberColumns) → All (λ c. (c.size ≡ r.size) × (c.len ≡ length r.alive)) columns → map (λ (c : Vector (Option ℤ)). c.size) columns ≡ replicate (length columns) r.size
  sizes [] same_length = refl
  sizes (c ∷ columns) same_length =
      let here = (All-head (λ (d : Vector (Option ℤ)). (d.size ≡ r.size) × (d.len ≡ length r.alive)) c columns same_length).0 in
      let rest = sizes columns (All-tail (λ (d : Vector (Option ℤ)). (d.size ≡ r.size) × (d.len ≡ length r.alive)) c columns same_length) in
      λ k. here k ∷ rest k

  -- a table without number columns refuses nothing because of numbers
  no-columns : (columns : NumberColumns) → length columns ≡ 0 → first_of (number_space (map (λ (c : Vector (Option ℤ)). c.size) columns) ∷ []) ≡ first_of ((list_any (number_written r g) columns, refusal.EditsUsedUp) ∷ [])
  no-columns [] none = refl
  no-columns (c ∷ columns) none = absurd (omega (arith, none))

  -- refusals 17 and 24 for the number columns, if no object of the row group is away
  numbers-tests : first_of (absents r g) ≡ None → push_numbers_refusal r.number_objects r.numbers ≡ first_of (no_space_for_numbers r ∷ (list_any (number_written r g) r.numbers, refusal.EditsUsedUp) ∷ [])
  numbers-tests free = by (begins r) refl where
    wide : Bool
    wide = not (fit_in_order (spaces_of r.number_objects.memory.state) (replicate (length r.numbers) r.size))

    last : Bool → Bool → Option Refusal
    last b w = first_of ((b && wide, refusal.RegionFull) ∷ (w, refusal.EditsUsedUp) ∷ [])

    tests : Bool → Option Refusal
    tests b = first_of (if b then number_space (map (λ (c : Vector (Option ℤ)). c.size) r.numbers) ∷ [] else numbers_absent r.number_objects r.numbers ++ some_number_written_out r.number_objects r.numbers ∷ [])

    begun : (i : ℕ) (c : Vector (Option ℤ)) → slice_get r.numbers i ≡ Some c → all_numbers_begin r.numbers ≡ false → (written_out r.number_objects (object_at c c.len)).0 ≡ number_written r g c
    begun i c at is =
        let known = number i c at in
        let not = subst (λ (d : Vector (Option ℤ)). is_full d ≡ false) (get_or_from_slice_get r.numbers i c c at) (all-numbers-not content r are is i c (slice_get_within r.numbers i c at)) in
        let there = last-there c known.shaped not in
        let object : slice_get c.objects g ≡ Some (object_at c c.len) = (λ k. slice_get c.objects (sym known.len k / sym known.size k)) ∙ slice_get-get_or c.objects (c.len / c.size) 0 there in
        sym (ap (λ (o : Option ℕ). option_map_or (λ p. (written_out r.number_objects p).0) o false) object)

    inside : begins r ≡ false → (b : Bool) → all_numbers_begin r.numbers ≡ b → tests b ≡ last false (list_any (number_written r g) r.numbers)
    inside not true is = no-columns r.numbers (none (length r.numbers) refl) where
      none : (n : ℕ) → n ≡ length r.numbers → length r.numbers ≡ 0
      none zero same = sym same
      none (suc n) same =
          let disjoint : length r.alive % r.size ≢ 0 = eqb-false (length r.alive % r.size) 0 not in
          absurd (true-not (sym is ∙ numbers-begun r.size (length r.alive) r.numbers are.some disjoint (omega (arith, same)) (are-numbers r.size (length r.alive) r.numbers are.shaped are.same_length_numbers)))
    inside not false is =
        skip (numbers_absent r.number_objects r.numbers) (some_number_written_out r.number_objects r.numbers ∷ []) (numbers-here content r are free (all-numbers-not content r are is))
        ∙ ap (λ (b : Bool). first_of ((b, refusal.EditsUsedUp) ∷ [])) (any-same (λ (c : Vector (Option ℤ)). (written_out r.number_objects (object_at c c.len)).0) (number_written r g) r.numbers (λ i c at. begun i c at is))

    by : (b : Bool) → begins r ≡ b → push_numbers_refusal r.number_objects r.numbers ≡ last (begins r) (list_any (number_written r g) r.numbers)
    by true is =
        let divides : length r.alive % r.size ≡ 0 = eqb-true (length r.alive % r.size) 0 is in
        let all = numbers-begin r.size (length r.alive) r.numbers are.some divides (are-numbers r.size (length r.alive) r.numbers are.shaped are.same_length_numbers) in
        let none = numbers-none all in
        ap tests all
        ∙ ap (λ (lens : List ℕ). first_of (number_space lens ∷ [])) (sizes r.numbers are.same_length_numbers)
        ∙ (λ k. last (sym is k) (sym none k))
    by false is = inside is (all_numbers_begin r.numbers) refl ∙ (λ k. last (sym is k) (list_any (number_written r g) r.numbers))

  -- if a text object of the row group was written too often, no row group begins, and so numbers need no space
  disjoint : list_any (text_written r g) r.texts ≡ true → (no_space_for_numbers r).0 ≡ false
  disjoint spent = by (begins r) refl where
    by : (b : Bool) → begins r ≡ b → (no_space_for_numbers r).0 ≡ false
    by true is =
        let divides : length r.alive % r.size ≡ 0 = eqb-true (length r.alive % r.size) 0 is in
        absurd (true-not (sym spent ∙ texts-none (texts-begin r.size (length r.alive) r.texts are.some divides (are-texts r.size (length r.alive) r.texts are.grouped are.same_length_texts))))
    by false is = ap (λ (b : Bool). b && not (fit_in_order (spaces_of r.number_objects.memory.state) (replicate (length r.numbers) r.size))) is

  pub push-kinds : (values : Values) → length values.texts ≡ length r.texts → (any_too_long values.texts).0 ≡ false → kinds_refusal content r values ≡ push_refusal content r values
  push-kinds values same_length short =
      by (first_of (absents r g)) refl
      ∙ sym (first-append (absents r g) later) where
        full : Bool × Refusal
        full = any_full (lists_of content r.text_objects) r.texts values.texts

        space : Bool × Refusal
        space = no_space_for_texts r (map (λ form. length form.1) (next_forms (lists_of content r.text_objects) (length r.text_objects.records) r.texts values.texts))

        later : List (Bool × Refusal)
        later = full ∷ space ∷ no_space_for_numbers r ∷ some_written_out r g ∷ []

        by : (due : Option Refusal) → first_of (absents r g) ≡ due → option_or due (option_or (push_texts_refusal content r.text_objects r.texts values.texts) (push_numbers_refusal r.number_objects r.numbers)) ≡ option_or due (first_of later)
        by (Some f) is = refl
        by None is =
            let texts = texts-tests values same_length short is in
            let numbers = numbers-tests is in
            let kinds = by-kinds r g content are in
            (λ k. option_or (texts k) (numbers k))
            ∙ in-order full.0 space.0 (no_space_for_numbers r).0 (list_any (text_written r g) r.texts) (list_any (number_written r g) r.numbers) refusal.ChunkFull refusal.RegionFull refusal.EditsUsedUp disjoint
            ∙ (λ k. first_of (full ∷ space ∷ no_space_for_numbers r ∷ (sym kinds k, refusal.EditsUsedUp) ∷ []))
