-- Why beginning a job on an object that exists is refused; the refusal names the object's column and row group.
use Rattle.std.proofs.Common.{◌≡◌, ◌<◌, length, inl, inr, ℕ, Bool, true, false, List, [], ◌∷◌, ℤ, Option, None, Some, refl, sym, ap, subst, ◌∙◌}
use Rattle.std.specs.Prelude.{not, is_none, option_map, slice_get}
use Rattle.std.specs.Option.{option_and_then, option_map_or, option_or}
use Rattle.std.proofs.lemmas.List.{length-map}
use Rattle.std.proofs.lemmas.Option.{none-some, slice_get-map, slice_get_within}
use Rattle.far_types.specs.declared.name.Name.{Name}
use Rattle.far_types.specs.declared.refusal.Refusal.{Refusal}
use Rattle.far_types.specs.declared.refusal.Refusal.TheVariants as refusal
use Rattle.far_types.specs.FirstOf.{first_of}
use Rattle.far_scopes.specs.declared.object_record.ObjectRecord.{ObjectRecord}
use Rattle.far_scopes.specs.Movement.{Movement, is_local}
use Rattle.far_scopes.specs.Refusing.{absent, lend_refusal}
use Rattle.far_scopes.proofs.MemoryPlaces.{cases_option}
use Rattle.far_evacuator.specs.Beginning.{fetch_refusal as fetch_refusal_in}
use Rattle.far_rows.specs.declared.column_index.ColumnIndex.{ColumnIndex}
use Rattle.far_rows.specs.declared.object.Object.{Object}
use Rattle.far_rows.specs.declared.object.Object.TheVariants as object
use Rattle.far_rows.specs.Naming.{names_of}
use Rattle.far_rows.specs.Rows.{Rows, AreRows, object_of}
use Rattle.far_rows.specs.Moving.{object_in, object_at}
use Rattle.far_rows.specs.Refusing.{away_at, absent_at}
use Rattle.far_rows.specs.Jobs.{IsEvictable, evac_refusal, fetch_refusal}
use Rattle.far_rows.proofs.RefusingNames.{one-named}
use Rattle.far_rows.proofs.MovingPins.{away_at-number, away_at-text}

not-not : (b : Bool) → b ≡ not (not b)
not-not true = refl
not-not false = refl

module _ {X K : Type 0} (m : Movement X K) (o : ℕ) (name : Name) (is : option_map (λ (e : ObjectRecord K). e.name) (slice_get m.records o) ≡ Some name) where
  name-there : slice_get (names_of m) o ≡ Some name
  name-there = slice_get-map (λ (e : ObjectRecord K). e.name) m.records o ∙ is

  -- an object with a name is in use
  name-used : o < length m.records
  name-used = subst (λ n. o < n) (length-map m.records (λ (e : ObjectRecord K). e.name)) (slice_get_within (names_of m) o name name-there)

-- the list of a local object may be borrowed
not-away : {X K : Type 0} (m : Movement X K) (o : ℕ) → is_local m o ≡ true → lend_refusal m o ≡ None
not-away m o local = ap (λ (here : Bool). first_of ((not here, (absent m o).1) ∷ [])) local

module _ {K : Type 0} (content : K → List ℕ) (r : Rows K) (are : AreRows content r) (column group o : ℕ) where
  -- if the object exists, the column has an index
  pub lies : (found : Object) → object_at r column group ≡ Some found → (s : ColumnIndex) × (slice_get r.column_indexes column ≡ Some s)
  lies found at = elim (cases_option (slice_get r.column_indexes column)) [
    | inl none ↦ absurd (none-some found (sym (ap (option_and_then (λ (t : ColumnIndex). option_map (object_in t) (object_of r t group))) none) ∙ at))
    | inr (s, is) ↦ (s, is)
  ]

  -- why an evacuation is refused: the object is away, and the refusal names its column and its row group
  away-refused : (found : Object) (at : object_at r column group ≡ Some found) (s : ColumnIndex) (is : slice_get r.column_indexes column ≡ Some s) → first_of (away_at r group s ∷ []) ≡ evac_refusal r column group
  away-refused found at s is =
      one-named content r are group column s is None None refl
      ∙ sym (λ k. option_or (first_of ((is_none (is k), refusal.NoColumn) ∷ (is_none (at k), refusal.OutOfRange) ∷ [])) (first_of (option_map_or (absent_at r column group) (is k) (false, refusal.StaleJob) ∷ [])))

  -- why a fetch is refused: the object is local
  local-refused : (found : Object) (at : object_at r column group ≡ Some found) (s : ColumnIndex) (is : slice_get r.column_indexes column ≡ Some s) → first_of ((not (away_at r group s).0, refusal.StaleJob) ∷ []) ≡ fetch_refusal r column group
  local-refused found at s is =
      sym (λ k. option_or (first_of ((is_none (is k), refusal.NoColumn) ∷ (is_none (at k), refusal.OutOfRange) ∷ [])) (first_of ((not (option_map_or (absent_at r column group) (is k) (false, refusal.StaleJob)).0, refusal.StaleJob) ∷ [])))

  pub evac-number : object_at r column group ≡ Some (object.Number o) → lend_refusal r.number_objects o ≡ evac_refusal r column group
  evac-number at =
      let column_lies = lies (object.Number o) at in
      ap (λ (case : Bool × Refusal). first_of (case ∷ [])) (sym (away_at-number content r are column group o column_lies.0 column_lies.1 at))
      ∙ away-refused (object.Number o) at column_lies.0 column_lies.1

  pub evac-text : object_at r column group ≡ Some (object.Text o) → lend_refusal r.text_objects o ≡ evac_refusal r column group
  evac-text at =
      let column_lies = lies (object.Text o) at in
      ap (λ (case : Bool × Refusal). first_of (case ∷ [])) (sym (away_at-text content r are column group o column_lies.0 column_lies.1 at))
      ∙ away-refused (object.Text o) at column_lies.0 column_lies.1

  pub fetch-number : object_at r column group ≡ Some (object.Number o) → fetch_refusal_in r.number_objects o ≡ fetch_refusal r column group
  fetch-number at =
      let column_lies = lies (object.Number o) at in
      ap (λ (here : Bool). first_of ((here, refusal.StaleJob) ∷ [])) (not-not (is_local r.number_objects o) ∙ ap (λ (case : Bool × Refusal). not case.0) (sym (away_at-number content r are column group o column_lies.0 column_lies.1 at)))
      ∙ local-refused (object.Number o) at column_lies.0 column_lies.1

  pub fetch-text : object_at r column group ≡ Some (object.Text o) → fetch_refusal_in r.text_objects o ≡ fetch_refusal r column group
  fetch-text at =
      let column_lies = lies (object.Text o) at in
      ap (λ (here : Bool). first_of ((here, refusal.StaleJob) ∷ [])) (not-not (is_local r.text_objects o) ∙ ap (λ (case : Bool × Refusal). not case.0) (sym (away_at-text content r are column group o column_lies.0 column_lies.1 at)))
      ∙ local-refused (object.Text o) at column_lies.0 column_lies.1

  -- a local object may be evicted
  pub number-evictable : object_at r column group ≡ Some (object.Number o) → o < length r.number_objects.records → is_local r.number_objects o ≡ true → IsEvictable r column group (object.Number o)
  number-evictable at used local = record { named = at; local = (used, local); free = sym (evac-number at) ∙ not-away r.number_objects o local }

  pub text-evictable : object_at r column group ≡ Some (object.Text o) → o < length r.text_objects.records → is_local r.text_objects o ≡ true → IsEvictable r column group (object.Text o)
  text-evictable at used local = record { named = at; local = (used, local); free = sym (evac-text at) ∙ not-away r.text_objects o local }

-- a local object may be evicted, by its name
module _ {K : Type 0} (content : K → List ℕ) (r : Rows K) (are : AreRows content r) (o : ℕ) (name : Name) where
  pub number-named : (m : Movement (Option ℤ) K) → m ≡ r.number_objects → ((p : ℕ) (n : Name) → slice_get (names_of m) p ≡ Some n → object_at r n.column n.group ≡ Some (object.Number p))
      → option_map (λ (e : ObjectRecord K). e.name) (slice_get m.records o) ≡ Some name → is_local m o ≡ true → IsEvictable r name.column name.group (object.Number o)
  number-named m same owned is local = number-evictable content r are name.column name.group o (owned o name (name-there m o name is))
      (subst (λ (n : Movement (Option ℤ) K). o < length n.records) same (name-used m o name is)) (subst (λ (n : Movement (Option ℤ) K). is_local n o ≡ true) same local)

  pub text-named : (m : Movement ℕ K) → m ≡ r.text_objects → ((p : ℕ) (n : Name) → slice_get (names_of m) p ≡ Some n → object_at r n.column n.group ≡ Some (object.Text p))
      → option_map (λ (e : ObjectRecord K). e.name) (slice_get m.records o) ≡ Some name → is_local m o ≡ true → IsEvictable r name.column name.group (object.Text o)
  text-named m same owned is local = text-evictable content r are name.column name.group o (owned o name (name-there m o name is))
      (subst (λ (n : Movement ℕ K). o < length n.records) same (name-used m o name is)) (subst (λ (n : Movement ℕ K). is_local n o ≡ true) same local)
