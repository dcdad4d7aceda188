-- Each object with a list has a far form, and belongs to the column and the row group in its name.
use Rattle.std.proofs.Common.{◌≡◌, inl, inr, ℕ, zero, suc, [], ◌∷◌, ◌<◌, ◌≤◌, List, length, Option, None, Some, sym, ap, subst, ◌∙◌, arith}
use Rattle.std.specs.Prelude.{ℤ, IfSome, IsSomeAnd, option_map, slice_get}
use Rattle.std.specs.Option.{option_and_then, option_or}
use Rattle.std.proofs.lemmas.Option.{slice_get-map, slice_get_past, slice_get_within, none-some, get_or_from_slice_get}
use Rattle.std.proofs.lemmas.Bool.{cases_lt}
use Rattle.far_types.specs.declared.name.Name.{Name}
use Rattle.far_codec.specs.FarForm.{FitsCount}
use Rattle.far_codec.specs.TextForm.{IsTextsForm}
use Rattle.far_scopes.specs.declared.object_record.ObjectRecord.{ObjectRecord}
use Rattle.far_scopes.specs.Memory.{list_in}
use Rattle.far_scopes.specs.Movement.{Movement}
use Rattle.far_scopes.proofs.MemoryPlaces.{cases_option}
use Rattle.far_columns.specs.Vector.{Vector, IsVector}
use Rattle.far_texts.specs.Texts.{Texts, IsTextColumn, IsGroupForm, lists_of}
use Rattle.far_columns.specs.Numbers.{number_lists}
use Rattle.far_rows.specs.declared.column_index.ColumnIndex.{ColumnIndex}
use Rattle.far_rows.specs.declared.column_index.ColumnIndex.TheVariants as column_index
use Rattle.far_rows.specs.declared.object.Object.TheVariants as object
use Rattle.far_rows.specs.Naming.{names_of}
use Rattle.far_rows.specs.Rows.{Rows, AreRows, object_of}
use Rattle.far_rows.specs.Moving.{object_in, object_at}

-- if the list of an object has P, and P implies Q, its local list has Q
of-local : {A : Type 0} (P Q : List A → Type 0) (local far : Option (List A)) → IsSomeAnd (option_or local far) P → ((list : List A) → P list → Q list) → IfSome local Q
of-local P Q None far has then = (cc)
of-local P Q (Some list) far has then = then list has

none-listed : {X K : Type 0} (m : Movement X K) (o : ℕ) (P : List X → Type 0) → length m.records ≡ length m.memory.words → length m.records ≤ o → IfSome (list_in m.memory o) P
none-listed m o P same_length past = let words = slice_get_past m.memory.words o (omega (arith, same_length, past)) in rw words (cc)

none-there : {A : Type 0} (xs : List A) (o : ℕ) → o < length xs → slice_get xs o ≡ None → ⊥
none-there [] o within none = absurd (omega (arith, within))
none-there (x ∷ xs) zero within none = absurd (none-some x (sym none))
none-there (x ∷ xs) (suc o) within none = none-there xs o (omega (arith, within)) none

named : {X K : Type 0} (m : Movement X K) (o : ℕ) → o < length m.records → (name : Name) × (slice_get (names_of m) o ≡ Some name)
named {X} {K} m o within = elim (cases_option (slice_get m.records o)) [
  | inl none ↦ absurd (none-there m.records o within none)
  | inr (object_record, is) ↦ (object_record.name, slice_get-map (λ e. e.name) m.records o ∙ ap (option_map (λ (e : ObjectRecord K). e.name)) is)
]

module _ {K : Type 0} (content : K → List ℕ) (r : Rows K) (are : AreRows content r) where
  pub numbers-spelled : length r.number_objects.records ≡ length r.number_objects.memory.words → (o : ℕ) → IfSome (list_in r.number_objects.memory o) FitsCount
  numbers-spelled same_length o = elim (cases_lt o (length r.number_objects.records)) [
    | inr past ↦ none-listed r.number_objects o FitsCount same_length past
    | inl within ↦
        let name = named r.number_objects o within in
        let owner = are.owned_numbers o name.0 name.1 in
        let c = owner.1 in
        let is = subst (IsVector (number_lists content r.number_objects)) (get_or_from_slice_get r.numbers owner.0 c c owner.2) (are.numbers.all_disjoint.each owner.0 c (slice_get_within r.numbers owner.0 c owner.2)) in
        let same_length_sizes = subst (λ (d : Vector (Option ℤ)). (d.size ≡ r.size) × (d.len ≡ length r.alive)) (get_or_from_slice_get r.numbers owner.0 c c owner.2) (are.same_length_numbers owner.0 c (slice_get_within r.numbers owner.0 c owner.2)) in
        let whole = subst (λ p. IsSomeAnd (number_lists content r.number_objects p) (λ list. length list ≡ c.size)) (get_or_from_slice_get c.objects name.0.group o o owner.4) (is.whole name.0.group o (slice_get_within c.objects name.0.group o owner.4)) in
        of-local (λ list. length list ≡ c.size) FitsCount (list_in r.number_objects.memory o) _ whole (λ list long. omega (arith, long, same_length_sizes.0, are.small))
  ]

  pub texts-spelled : length r.text_objects.records ≡ length r.text_objects.memory.words → (o : ℕ) → IfSome (list_in r.text_objects.memory o) IsTextsForm
  texts-spelled same_length o = elim (cases_lt o (length r.text_objects.records)) [
    | inr past ↦ none-listed r.text_objects o IsTextsForm same_length past
    | inl within ↦
        let name = named r.text_objects o within in
        let owner = are.owned_texts o name.0 name.1 in
        let c = owner.1 in
        let is = subst (IsTextColumn (lists_of content r.text_objects)) (get_or_from_slice_get r.texts owner.0 c c owner.2) (are.texts.all_disjoint.each owner.0 c (slice_get_within r.texts owner.0 c owner.2)) in
        of-local (IsGroupForm c name.0.group) IsTextsForm (list_in r.text_objects.memory o) _ (is.each name.0.group o owner.4) (λ list form. form.form)
  ]

  pub number-owned : (o : ℕ) (name : Name) → slice_get (names_of r.number_objects) o ≡ Some name → object_at r name.column name.group ≡ Some (object.Number o)
  number-owned o name at =
      let owner = are.owned_numbers o name at in
      let i = owner.0 in
      let placed : slice_get r.column_indexes name.column ≡ Some (column_index.Number i) = are.placed_numbers i name.column (slice_get-map (λ (v : Vector (Option ℤ)). v.column) r.numbers i ∙ ap (option_map (λ (v : Vector (Option ℤ)). v.column)) owner.2 ∙ ap Some owner.3) in
      ap (option_and_then (λ (s : ColumnIndex). option_map (object_in s) (object_of r s name.group))) placed
      ∙ ap (λ (found : Option (Vector (Option ℤ))). option_map (object_in (column_index.Number i)) (option_and_then (λ v. slice_get v.objects name.group) found)) owner.2
      ∙ ap (option_map (object_in (column_index.Number i))) owner.4

  pub text-owned : (o : ℕ) (name : Name) → slice_get (names_of r.text_objects) o ≡ Some name → object_at r name.column name.group ≡ Some (object.Text o)
  text-owned o name at =
      let owner = are.owned_texts o name at in
      let i = owner.0 in
      let placed : slice_get r.column_indexes name.column ≡ Some (column_index.Text i) = are.placed_texts i name.column (slice_get-map (λ (v : Texts). v.column) r.texts i ∙ ap (option_map (λ (v : Texts). v.column)) owner.2 ∙ ap Some owner.3) in
      ap (option_and_then (λ (s : ColumnIndex). option_map (object_in s) (object_of r s name.group))) placed
      ∙ ap (λ (found : Option Texts). option_map (object_in (column_index.Text i)) (option_and_then (λ v. slice_get v.objects name.group) found)) owner.2
      ∙ ap (option_map (object_in (column_index.Text i))) owner.4
