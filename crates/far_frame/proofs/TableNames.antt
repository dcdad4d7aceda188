-- Each object belongs to the column and row group in its name, and each row group with places has an object in each column.
use Rattle.std.proofs.Common.{◌≡◌, ℕ, zero, suc, ◌+◌, ◌*◌, ◌-◌, ◌/◌, ◌<◌, ◌≤◌, ℤ, Bool, false, not, List, map, [], ◌∷◌, length, Option, None, Some, refl, sym, ap, subst, ◌∙◌, arith, inl, inr}
use Rattle.std.specs.Prelude.{All, option_map, slice_get, is_none, nat_lt}
use Rattle.std.specs.Option.{option_and_then}
use Rattle.std.specs.List.{enumerate_from}
use Rattle.std.proofs.lemmas.Bool.{cases_lt, le-ltb, lt-ltb}
use Rattle.std.proofs.lemmas.List.{length-map}
use Rattle.std.proofs.lemmas.List.Elements.{All-head, All-tail}
use Rattle.std.proofs.lemmas.List.FromFn.{length-enumerate_from}
use Rattle.std.proofs.lemmas.Nat.{le-div, div_below}
use Rattle.std.proofs.lemmas.Option.{same_Some, slice_get-map, slice_get_within}
use Rattle.far_types.specs.declared.cell.Cell.{Cell}
use Rattle.far_types.specs.declared.name.Name.{Name}
use Rattle.far_types.specs.Table.{groups}
use Rattle.far_scopes.specs.declared.object_record.ObjectRecord.{ObjectRecord}
use Rattle.far_columns.specs.Vector.{Vector, IsShaped}
use Rattle.far_texts.specs.Texts.{Texts, HasGroups}
use Rattle.far_table.specs.Watching.{group_count}
use Rattle.far_rows.specs.declared.column_index.ColumnIndex.{ColumnIndex}
use Rattle.far_rows.specs.declared.column_index.ColumnIndex.TheVariants as column_index
use Rattle.far_rows.specs.declared.object.Object.{Object}
use Rattle.far_rows.specs.declared.object.Object.TheVariants as object
use Rattle.far_rows.specs.ColumnIndexes.{IsColumnIn, kind_of}
use Rattle.far_rows.specs.Moving.{object_at, object_in, IsInUse}
use Rattle.far_rows.specs.Naming.{names_of, AreNamed}
use Rattle.far_rows.specs.Places.{places_of, row_at}
use Rattle.far_rows.specs.Rows.{Rows, object_of, all_cells}
use Rattle.far_frame.specs.State.{State}
use Rattle.far_frame.specs.TableViews.{IsKept}
use Rattle.far_frame.proofs.PinsRows.{no-some, one-some, not-on}

pub all-at : {A : Type 0} (P : A → Type 0) (xs : List A) (i : ℕ) (x : A) → slice_get xs i ≡ Some x → All P xs → P x
all-at P [] i x is all = no-some x is
all-at P (y ∷ xs) zero x is all = subst P (same_Some y x is) (All-head P y xs all)
all-at P (y ∷ xs) (suc i) x is all = all-at P xs i x is (All-tail P y xs all)

name-there : {K : Type 0} (records : List (ObjectRecord K)) (o : ℕ) → o < length records → (name : Name) × (slice_get (map (λ e. e.name) records) o ≡ Some name)
name-there [] o low = absurd (omega (arith, low))
name-there (e ∷ records) zero low = (e.name, refl)
name-there (e ∷ records) (suc o) low = name-there records o (omega (arith, low))

pub is-there : {A B : Type 0} (xs : List A) (i : ℕ) → i < length xs → slice_get xs i ≡ None → B
is-there [] i low at = absurd (omega (arith, low))
is-there (x ∷ xs) zero low at = no-some x (sym at)
is-there (x ∷ xs) (suc i) low at = is-there xs i (omega (arith, low)) at

none-mapped : {A B : Type 0} (f : A → B) (o : Option A) → is_none (option_map f o) ≡ is_none o
none-mapped f None = refl
none-mapped f (Some x) = refl

-- an index past the end has no element
less-next : (a b : ℕ) → nat_lt (suc a) (suc b) ≡ nat_lt a b
less-next a b = elim (cases_lt a b) [
  | inl low ↦ lt-ltb (suc a) (suc b) (omega (arith, low)) ∙ sym (lt-ltb a b low)
  | inr past ↦ le-ltb (suc a) (suc b) (omega (arith, past)) ∙ sym (le-ltb a b past)
]

pub none-past : {A : Type 0} (s : List A) (c : ℕ) → is_none (slice_get s c) ≡ not (nat_lt c (length s))
none-past [] c = ap not (sym (le-ltb c 0 (omega arith)))
none-past (x ∷ s) zero = ap not (sym (lt-ltb 0 (length (x ∷ s)) (omega arith)))
none-past (x ∷ s) (suc c) = none-past s c ∙ ap not (sym (less-next c (length s)))

-- the number of row groups with places
group-count : (size len count : ℕ) → 0 < size → len ≤ count * size → count * size < len + size → groups size len ≡ count
group-count size len count some enough needed =
    let low : count ≤ (len + size - 1) / size = le-div count (len + size - 1) size some (omega (arith, needed)) in
    let high : (len + size - 1) / size < count + 1 = div_below (len + size - 1) size (count + 1) some (omega (arith, enough, some)) in
    omega (arith, low, high)

length-places : (columns : List (List Cell)) (flags : List Bool) → length (places_of columns flags) ≡ length flags
length-places columns flags = length-map (enumerate_from 0 flags) (λ (at : ℕ × Bool). record { cells = row_at columns at.0; alive = at.1 }) ∙ length-enumerate_from 0 flags

module _ {K : Type 0} (content : K → List ℕ) (s : State K) (kept : IsKept content s) where
  abbrev r : Rows K
  r = s.rows

  -- the name in an object's record
  abbrev name_at : Object → Option Name
  name_at (object.Number o) = slice_get (names_of r.number_objects) o
  name_at (object.Text o) = slice_get (names_of r.text_objects) o

  number-named : (c g i : ℕ) (o : Object) (found : Option (Vector (Option ℤ))) → slice_get r.column_indexes c ≡ Some (column_index.Number i) → slice_get r.numbers i ≡ found → option_map (λ p. object.Number p) (option_and_then (λ v. slice_get v.objects g) found) ≡ Some o → name_at o ≡ Some record { column = c; group = g }
  number-named c g i o None at there is = no-some o is
  number-named c g i o (Some v) at there is = by (slice_get v.objects g) refl is where
    column : v.column ≡ c
    column = one-some v.column c (ap (λ (f : Option (Vector (Option ℤ))). option_map (λ w. w.column) f) (sym there) ∙ sym (slice_get-map (λ (w : Vector (Option ℤ)). w.column) r.numbers i) ∙ kept.rows.numbered c (column_index.Number i) at)

    by : (p : Option ℕ) → slice_get v.objects g ≡ p → option_map (λ p. object.Number p) p ≡ Some o → name_at o ≡ Some record { column = c; group = g }
    by None lies same = no-some o same
    by (Some p) lies same = subst (λ (q : Object). name_at q ≡ Some record { column = c; group = g }) (one-some (object.Number p) o same)
        (all-at (λ (w : Vector (Option ℤ)). AreNamed (names_of r.number_objects) w.column w.objects) r.numbers i v there kept.rows.number_names g p lies ∙ ap (λ (k : ℕ). Some record { column = k; group = g }) column)

  text-named : (c g i : ℕ) (o : Object) (found : Option Texts) → slice_get r.column_indexes c ≡ Some (column_index.Text i) → slice_get r.texts i ≡ found → option_map (λ p. object.Text p) (option_and_then (λ v. slice_get v.objects g) found) ≡ Some o → name_at o ≡ Some record { column = c; group = g }
  text-named c g i o None at there is = no-some o is
  text-named c g i o (Some v) at there is = by (slice_get v.objects g) refl is where
    column : v.column ≡ c
    column = one-some v.column c (ap (λ (f : Option Texts). option_map (λ w. w.column) f) (sym there) ∙ sym (slice_get-map (λ (w : Texts). w.column) r.texts i) ∙ kept.rows.numbered c (column_index.Text i) at)

    by : (p : Option ℕ) → slice_get v.objects g ≡ p → option_map (λ p. object.Text p) p ≡ Some o → name_at o ≡ Some record { column = c; group = g }
    by None lies same = no-some o same
    by (Some p) lies same = subst (λ (q : Object). name_at q ≡ Some record { column = c; group = g }) (one-some (object.Text p) o same)
        (all-at (λ (w : Texts). AreNamed (names_of r.text_objects) w.column w.objects) r.texts i v there kept.rows.text_names g p lies ∙ ap (λ (k : ℕ). Some record { column = k; group = g }) column)

  name-of : (c g : ℕ) (o : Object) → object_at r c g ≡ Some o → name_at o ≡ Some record { column = c; group = g }
  name-of c g o = by (slice_get r.column_indexes c) refl where
    by : (found : Option ColumnIndex) → slice_get r.column_indexes c ≡ found → option_and_then (λ t. option_map (object_in t) (object_of r t g)) found ≡ Some o → name_at o ≡ Some record { column = c; group = g }
    by None at is = no-some o is
    by (Some (column_index.Number i)) at is = number-named c g i o (slice_get r.numbers i) at refl is
    by (Some (column_index.Text i)) at is = text-named c g i o (slice_get r.texts i) at refl is

  -- an object belongs to only one column and row group
  pub once : (c g d h : ℕ) (o : Object) → object_at r c g ≡ Some o → object_at r d h ≡ Some o → (c ≡ d) × (g ≡ h)
  once c g d h o one other =
      let first : Name = record { column = c; group = g } in
      let second : Name = record { column = d; group = h } in
      let same : first ≡ second = one-some first second (sym (name-of c g o one) ∙ name-of d h o other) in
      (ap (λ (n : Name). n.column) same, ap (λ (n : Name). n.group) same)

  -- the object of a row group has a record
  pub in-use : (c g : ℕ) (o : Object) → object_at r c g ≡ Some o → IsInUse r o
  in-use c g (object.Number o) at = subst (λ (n : ℕ). o < n) (length-map r.number_objects.records (λ (e : ObjectRecord K). e.name)) (slice_get_within (names_of r.number_objects) o _ (name-of c g (object.Number o) at))
  in-use c g (object.Text o) at = subst (λ (n : ℕ). o < n) (length-map r.text_objects.records (λ (e : ObjectRecord K). e.name)) (slice_get_within (names_of r.text_objects) o _ (name-of c g (object.Text o) at))

  -- each object with a record belongs to a column and a row group
  pub owner : (o : Object) → IsInUse r o → (c : ℕ) × (g : ℕ) × (object_at r c g ≡ Some o)
  owner (object.Number o) low =
      let name = name-there r.number_objects.records o low in
      let own = kept.rows.owned_numbers o name.0 name.1 in
      let at : slice_get r.column_indexes own.1.column ≡ Some (column_index.Number own.0) = kept.rows.placed_numbers own.0 own.1.column (slice_get-map (λ (w : Vector (Option ℤ)). w.column) r.numbers own.0 ∙ ap (λ (f : Option (Vector (Option ℤ))). option_map (λ w. w.column) f) own.2) in (
        own.1.column,
        name.0.group,
        ap (λ (f : Option ColumnIndex). option_and_then (λ t. option_map (object_in t) (object_of r t name.0.group)) f) at
            ∙ ap (λ (f : Option (Vector (Option ℤ))). option_map (λ p. object.Number p) (option_and_then (λ v. slice_get v.objects name.0.group) f)) own.2
            ∙ ap (λ (p : Option ℕ). option_map (λ q. object.Number q) p) own.4,
      )
  owner (object.Text o) low =
      let name = name-there r.text_objects.records o low in
      let own = kept.rows.owned_texts o name.0 name.1 in
      let at : slice_get r.column_indexes own.1.column ≡ Some (column_index.Text own.0) = kept.rows.placed_texts own.0 own.1.column (slice_get-map (λ (w : Texts). w.column) r.texts own.0 ∙ ap (λ (f : Option Texts). option_map (λ w. w.column) f) own.2) in (
        own.1.column,
        name.0.group,
        ap (λ (f : Option ColumnIndex). option_and_then (λ t. option_map (object_in t) (object_of r t name.0.group)) f) at
            ∙ ap (λ (f : Option Texts). option_map (λ p. object.Text p) (option_and_then (λ v. slice_get v.objects name.0.group) f)) own.2
            ∙ ap (λ (p : Option ℕ). option_map (λ q. object.Text q) p) own.4,
      )

  -- the rows have the columns of the schema
  pub column-there : (c : ℕ) → is_none (slice_get r.column_indexes c) ≡ not (nat_lt c (length s.table.schema))
  column-there c = none-past r.column_indexes c ∙ ap (λ (n : ℕ). not (nat_lt c n)) (sym (length-map r.column_indexes kind_of) ∙ ap length kept.kinds)

  pub same-places : length r.alive ≡ length s.table.places
  same-places = sym (ap length kept.places ∙ length-places (all_cells content r) r.alive)

  -- a column has an object for each row group with places
  count-is : (size len count : ℕ) → size ≡ r.size → len ≡ length r.alive → 0 < size → len ≤ count * size → count * size < len + size → count ≡ group_count s.table
  count-is size len count of_size of_len some enough needed =
      sym (group-count size len count some enough needed)
      ∙ ap (λ (n : ℕ). groups n len) (of_size ∙ kept.size)
      ∙ ap (groups s.table.limits.group) (of_len ∙ same-places)

  number-there : (g i : ℕ) → i < length r.numbers → (found : Option (Vector (Option ℤ))) → slice_get r.numbers i ≡ found → is_none (option_map (λ p. object.Number p) (option_and_then (λ v. slice_get v.objects g) found)) ≡ not (nat_lt g (group_count s.table))
  number-there g i low None at = is-there r.numbers i low at
  number-there g i low (Some v) at =
      let shaped = all-at IsShaped r.numbers i v at kept.rows.shaped in
      let long = all-at (λ (w : Vector (Option ℤ)). (w.size ≡ r.size) × (w.len ≡ length r.alive)) r.numbers i v at kept.rows.same_length_numbers in
      none-mapped (λ (p : ℕ). object.Number p) (slice_get v.objects g) ∙ none-past v.objects g ∙ ap (λ (n : ℕ). not (nat_lt g n)) (count-is v.size v.len (length v.objects) long.0 long.1 shaped.some shaped.enough shaped.needed)

  text-there : (g i : ℕ) → i < length r.texts → (found : Option Texts) → slice_get r.texts i ≡ found → is_none (option_map (λ p. object.Text p) (option_and_then (λ v. slice_get v.objects g) found)) ≡ not (nat_lt g (group_count s.table))
  text-there g i low None at = is-there r.texts i low at
  text-there g i low (Some v) at =
      let grouped = all-at HasGroups r.texts i v at kept.rows.grouped in
      let long = all-at (λ (w : Texts). (w.size ≡ r.size) × (w.len ≡ length r.alive)) r.texts i v at kept.rows.same_length_texts in
      none-mapped (λ (p : ℕ). object.Text p) (slice_get v.objects g) ∙ none-past v.objects g ∙ ap (λ (n : ℕ). not (nat_lt g n)) (count-is v.size v.len (length v.objects) long.0 long.1 grouped.some grouped.held grouped.begun)

  pub group-there : (c g : ℕ) → not (nat_lt c (length s.table.schema)) ≡ false → is_none (object_at r c g) ≡ not (nat_lt g (group_count s.table))
  group-there c g low = by (slice_get r.column_indexes c) refl (column-there c ∙ low) where
    by : (found : Option ColumnIndex) → slice_get r.column_indexes c ≡ found → is_none found ≡ false → is_none (option_and_then (λ t. option_map (object_in t) (object_of r t g)) found) ≡ not (nat_lt g (group_count s.table))
    by None at there = not-on (sym there)
    by (Some (column_index.Number i)) at there = number-there g i (all-at (IsColumnIn (length r.numbers) (length r.texts)) r.column_indexes c (column_index.Number i) at kept.rows.column_indexes.within) (slice_get r.numbers i) refl
    by (Some (column_index.Text i)) at there = text-there g i (all-at (IsColumnIn (length r.numbers) (length r.texts)) r.column_indexes c (column_index.Text i) at kept.rows.column_indexes.within) (slice_get r.texts i) refl

  -- an object's column and row group exist
  pub there : (c g : ℕ) (o : Object) → object_at r c g ≡ Some o → (not (nat_lt c (length s.table.schema)) ≡ false) × (not (nat_lt g (group_count s.table)) ≡ false)
  there c g o at =
      let low : not (nat_lt c (length s.table.schema)) ≡ false = sym (column-there c) ∙ column (slice_get r.column_indexes c) at in
      (low, sym (group-there c g low) ∙ ap is_none at) where
        column : (found : Option ColumnIndex) → option_and_then (λ t. option_map (object_in t) (object_of r t g)) found ≡ Some o → is_none found ≡ false
        column None is = no-some o is
        column (Some t) is = refl
