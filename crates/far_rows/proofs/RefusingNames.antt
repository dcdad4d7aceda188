-- An object that is away is named by its column and its row group.
use Rattle.std.proofs.Common.{◌≡◌, ℕ, zero, suc, ◌+◌, Bool, true, false, List, [], ◌∷◌, map, Option, None, Some, refl, sym, ap, ◌∙◌, arith}
use Rattle.std.specs.Prelude.{ℤ, All, cond, option_map, slice_get}
use Rattle.std.specs.Option.{option_map_or, option_and_then}
use Rattle.std.proofs.lemmas.Option.{none-some, same_Some, slice_get-map}
use Rattle.far_types.specs.declared.name.Name.{Name}
use Rattle.far_types.specs.declared.refusal.Refusal.{Refusal}
use Rattle.far_types.specs.declared.refusal.Refusal.TheVariants as refusal
use Rattle.far_types.specs.FirstOf.{first_of}
use Rattle.far_scopes.specs.declared.object_record.ObjectRecord.{ObjectRecord}
use Rattle.far_scopes.specs.Movement.{Movement, record_of}
use Rattle.far_scopes.specs.Refusing.{absent}
use Rattle.far_columns.specs.Vector.{Vector}
use Rattle.far_texts.specs.Texts.{Texts}
use Rattle.far_rows.specs.declared.column_index.ColumnIndex.{ColumnIndex}
use Rattle.far_rows.specs.declared.column_index.ColumnIndex.TheVariants as column_index
use Rattle.far_rows.specs.Naming.{names_of, AreNamed}
use Rattle.far_rows.specs.Rows.{Rows, AreRows}
use Rattle.far_rows.specs.Refusing.{away_at, absent_at, absents, absents_from, no_range}

-- the refusal for an object with this name
absent-by : {K : Type 0} (object_record : Option (ObjectRecord K)) (name : Name) → option_map (λ e. e.name) object_record ≡ Some name → option_map_or (λ e. refusal.Absent e.name.column e.name.group) object_record refusal.StaleJob ≡ refusal.Absent name.column name.group
absent-by None name is = absurd (none-some name is)
absent-by (Some e) name is = ap (λ (n : Name). refusal.Absent n.column n.group) (same_Some e.name name is)

returned : {X K : Type 0} (m : Movement X K) (o : ℕ) (name : Name) → slice_get (names_of m) o ≡ Some name → (absent m o).1 ≡ refusal.Absent name.column name.group
returned m o name is = absent-by (record_of m o) name (sym (slice_get-map (λ e. e.name) m.records o) ∙ is)

-- the object of a row group is away, if there is one: the refusal names its column and the row group
absent-named : {X K : Type 0} (m : Movement X K) (column g : ℕ) (objects : List ℕ) → AreNamed (names_of m) column objects → (o : Option ℕ) → slice_get objects g ≡ o
    → (option_map_or (absent m) o (false, refusal.StaleJob)).0 ≡ true → (option_map_or (absent m) o (false, refusal.StaleJob)).1 ≡ refusal.Absent column g
absent-named m column g objects named None at away = absurd cc
absent-named m column g objects named (Some o) at away = returned m o record { column = column; group = g } (named g o at)

-- a column whose number is known, with a property that all columns have
number-known : {C : Type 0} (P : C → Type 0) (column_of : C → ℕ) (columns : List C) (i k : ℕ) → slice_get (map column_of columns) i ≡ Some k → All P columns → (c : C) × (slice_get columns i ≡ Some c) × (column_of c ≡ k) × P c
number-known P column_of [] i k at all = absurd (none-some k at)
number-known P column_of (c ∷ columns) zero k at all = (c, refl, same_Some (column_of c) k at, all 0 c (omega arith))
number-known P column_of (c ∷ columns) (suc i) k at all = number-known P column_of columns i k at (λ j d below. all (suc j) d (omega (arith, below)))

one-more : (case : Bool × Refusal) (e : Refusal) (later last : Option Refusal) → (case.0 ≡ true → case.1 ≡ e) → later ≡ last → cond case.0 (Some case.1) later ≡ cond case.0 (Some e) last
one-more (true, f) e later last due same = ap Some (due refl)
one-more (false, f) e later last due same = same

module _ {K : Type 0} (content : K → List ℕ) (r : Rows K) (are : AreRows content r) (g : ℕ) where
  pub away-named : (k : ℕ) (s : ColumnIndex) → slice_get r.column_indexes k ≡ Some s → (away_at r g s).0 ≡ true → (away_at r g s).1 ≡ refusal.Absent k g
  away-named k (column_index.Number i) at away =
      let known = number-known (λ (d : Vector (Option ℤ)). AreNamed (names_of r.number_objects) d.column d.objects) (λ d. d.column) r.numbers i k (are.numbered k (column_index.Number i) at) are.number_names in
      let c = known.0 in
      let case : Option (Vector (Option ℤ)) → Bool × Refusal = λ d. option_map_or (absent r.number_objects) (option_and_then (λ (v : Vector (Option ℤ)). slice_get v.objects g) d) (false, refusal.StaleJob) in
      let is : away_at r g (column_index.Number i) ≡ case (Some c) = ap case known.1 in
      ap (λ (p : Bool × Refusal). p.1) is
      ∙ absent-named r.number_objects c.column g c.objects known.3 (slice_get c.objects g) refl (sym (ap (λ (p : Bool × Refusal). p.0) is) ∙ away)
      ∙ ap (λ n. refusal.Absent n g) known.2
  away-named k (column_index.Text i) at away =
      let known = number-known (λ (d : Texts). AreNamed (names_of r.text_objects) d.column d.objects) (λ d. d.column) r.texts i k (are.numbered k (column_index.Text i) at) are.text_names in
      let c = known.0 in
      let case : Option Texts → Bool × Refusal = λ d. option_map_or (absent r.text_objects) (option_and_then (λ (v : Texts). slice_get v.objects g) d) (false, refusal.StaleJob) in
      let is : away_at r g (column_index.Text i) ≡ case (Some c) = ap case known.1 in
      ap (λ (p : Bool × Refusal). p.1) is
      ∙ absent-named r.text_objects c.column g c.objects known.3 (slice_get c.objects g) refl (sym (ap (λ (p : Bool × Refusal). p.0) is) ∙ away)
      ∙ ap (λ n. refusal.Absent n g) known.2

  -- the refusal for one column names its number and the row group
  pub one-named : (k : ℕ) (s : ColumnIndex) → slice_get r.column_indexes k ≡ Some s → (later last : Option Refusal) → later ≡ last → cond (away_at r g s).0 (Some (away_at r g s).1) later ≡ cond (away_at r g s).0 (Some (refusal.Absent k g)) last
  one-named k s at later last same = one-more (away_at r g s) (refusal.Absent k g) later last (away-named k s at) same

  first-named : (column_indexes : List ColumnIndex) (n : ℕ) → ((k : ℕ) (s : ColumnIndex) → slice_get column_indexes k ≡ Some s → (away_at r g s).0 ≡ true → (away_at r g s).1 ≡ refusal.Absent (n + k) g) → first_of (map (away_at r g) column_indexes) ≡ first_of (absents_from r g n column_indexes)
  first-named [] n named = refl
  first-named (s ∷ column_indexes) n named =
      let rest = first-named column_indexes (n + 1) (λ k t at away. named (suc k) t at away ∙ ap (λ j. refusal.Absent j g) (omega arith)) in
      one-more (away_at r g s) (refusal.Absent n g) (first_of (map (away_at r g) column_indexes)) (first_of (absents_from r g (n + 1) column_indexes)) (λ away. named 0 s refl away ∙ ap (λ j. refusal.Absent j g) (omega arith)) rest

  -- the first column whose object of a row group is away: the refusal names its number and the number of the row group
  pub absents-named : first_of (map (away_at r g) r.column_indexes) ≡ first_of (absents r g)
  absents-named = first-named r.column_indexes 0 (λ k s at away. away-named k s at away ∙ ap (λ j. refusal.Absent j g) (omega arith))

-- the refusals for several row groups of one column
module _ {K : Type 0} (content : K → List ℕ) (r : Rows K) (are : AreRows content r) (column : ℕ) (s : ColumnIndex) (lies : slice_get r.column_indexes column ≡ Some s) where
  pub groups-named : (groups : List ℕ) → first_of (map (λ g. away_at r g s) groups) ≡ first_of (map (λ g. absent_at r column g s) groups)
  groups-named [] = refl
  groups-named (g ∷ groups) = one-named content r are g column s lies (first_of (map (λ h. away_at r h s) groups)) (first_of (map (λ h. absent_at r column h s) groups)) (groups-named groups)

  pub range-named : (from to : ℕ) (groups : List ℕ) → first_of (no_range r from to ∷ map (λ g. away_at r g s) groups) ≡ first_of (no_range r from to ∷ map (λ g. absent_at r column g s) groups)
  range-named from to groups = ap (cond (no_range r from to).0 (Some (no_range r from to).1)) (groups-named groups)

  pub one-away_at : (g : ℕ) → first_of (away_at r g s ∷ []) ≡ first_of (absent_at r column g s ∷ [])
  one-away_at g = groups-named (g ∷ [])
