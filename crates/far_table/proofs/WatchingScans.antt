-- Scanning a row group into an aggregate.
use Rattle.std.proofs.Common.{◌≡◌, ℕ, zero, suc, ◌+◌, ◌-◌, ◌*◌, ◌<◌, Bool, true, false, List, [], ◌∷◌, map, length, Option, None, Some, Result, Ok, Err, refl, sym, ap, subst, ◌∙◌, arith}
use Rattle.std.specs.Prelude.{◌&&◌, cond, is_none, nat_lt, slice_get, slice_set, option_map, IfErr, OnOk, OnErr}
use Rattle.std.proofs.Math.Nat.{le-div_iff_mul-le}
use Rattle.std.proofs.lemmas.Bool.Decides.{nat_tests}
use Rattle.std.proofs.lemmas.List.{length-map}
use Rattle.std.proofs.lemmas.Option.{none-some, same_Some}
use Rattle.far_types.specs.declared.cell.Kind.{Kind}
use Rattle.far_types.specs.declared.refusal.Refusal.{Refusal}
use Rattle.far_types.specs.declared.refusal.Refusal.TheVariants as refusal
use Rattle.far_types.specs.declared.spec.Spec.{Spec}
use Rattle.far_types.specs.Bounds.{needs, spec_refusal}
use Rattle.far_types.specs.FirstOf.{first_of}
use Rattle.far_types.specs.Table.{Registered, groups}
use Rattle.far_rows.specs.declared.column_index.ColumnIndex.{ColumnIndex}
use Rattle.far_rows.specs.ColumnIndexes.{kind_of}
use Rattle.far_rows.specs.Rows.{Rows, AreRows}
use Rattle.far_rows.specs.Refusing.{away_at}
use Rattle.far_aggregates.specs.Aggregates.{flattened, after_scan}
use Rattle.far_aggregates.specs.Lending.{IsServed}
use Rattle.far_table.specs.State.{IsChecked, AreChecked}
use Rattle.far_table.specs.Groups.{has_column}
use Rattle.far_table.specs.Watching.{needed_from}
use Rattle.far_table.proofs.EditsSetRefusals.{found-at}
use Rattle.far_table.proofs.FirstOfLaws.{free-head}
use Rattle.far_table.proofs.WatchingColumns.{lend-at}
use Rattle.far_table.proofs.WatchingLaws.{checked-put}

-- a row group below the number of row groups has a place
pub begun : (g size len : ℕ) → 0 < size → g < groups size len → g * size < len
begun g size len some counted =
    let up = (le-div_iff_mul-le {k = size} {x = g + 1} {y = len + size - 1} some).0 (omega (arith, counted)) in
    let one : (g + 1) * size ≡ g * size + size = omega arith in
    omega (arith, up, one, some)

and-then : (a b : Bool) → a ≡ true → (a && b) ≡ false → b ≡ false
and-then true b is free = free
and-then false b is free = absurd cc

module _ {K : Type 0} (r : Rows K) (spec : Spec) (g : ℕ) where
  -- if no needed column is refused, none of their objects is away
  none-needed : (n : ℕ) (column_indexes : List ColumnIndex) → first_of (needed_from r spec g n column_indexes) ≡ None → (k : ℕ) (s : ColumnIndex) → slice_get column_indexes k ≡ Some s → needs spec (n + k) ≡ true → (away_at r g s).0 ≡ false
  none-needed n [] free k s at wanted = absurd (none-some s at)
  none-needed n (t ∷ column_indexes) free zero s at wanted =
      let same = same_Some t s at in
      let here : n + 0 ≡ n = omega arith in
      let head = free-head (needs spec n && (away_at r g t).0) (refusal.Absent n g) (first_of (needed_from r spec g (n + 1) column_indexes)) free in
      subst (λ (u : ColumnIndex). (away_at r g u).0 ≡ false) same (and-then (needs spec n) (away_at r g t).0 (sym (ap (needs spec) here) ∙ wanted) head.0)
  none-needed n (t ∷ column_indexes) free (suc k) s at wanted =
      let next : n + 1 + k ≡ n + suc k = omega arith in
      let head = free-head (needs spec n && (away_at r g t).0) (refusal.Absent n g) (first_of (needed_from r spec g (n + 1) column_indexes)) free in
      none-needed (n + 1) column_indexes head.1 k s at (ap (needs spec) next ∙ wanted)

module _ {K : Type 0} (content : K → List ℕ) (held : Rows K) (are : AreRows content held) (g : ℕ) (inside : g * held.size < length held.alive) where
  -- if no needed column is away, the aggregate finds all columns that it needs
  pub scan-served : ((schema : List Kind) (spec : Spec) (some : ℕ → Bool) → spec_refusal schema spec ≡ None → ((c : ℕ) → c < length schema → some c ≡ true) → IsServed some spec)
      → (schema : List Kind) → map kind_of held.column_indexes ≡ schema → (spec : Spec) → spec_refusal schema spec ≡ None → None ≡ first_of (needed_from held spec g 0 held.column_indexes) → IsServed (has_column record { rows = held; group = g }) spec
  scan-served law schema kinds spec right free = record {
    tests = (law schema spec (λ c. true) right (λ c within. refl)).tests;
    at_hand = λ c wanted. hand c wanted (below c wanted);
  } where
    below : (c : ℕ) → needs spec c ≡ true → c < length held.column_indexes
    below c wanted =
        let among = (law schema spec (λ k. nat_lt k (length schema)) right (λ k within. grind (arith, nat_tests))).at_hand c wanted in
        let inside-schema : c < length schema = grind (arith, nat_tests) in
        let count = ap length kinds in
        let mapped = length-map held.column_indexes kind_of in
        omega (arith, inside-schema, count, mapped)

    hand : (c : ℕ) → needs spec c ≡ true → c < length held.column_indexes → has_column record { rows = held; group = g } c ≡ true
    hand c wanted within =
        let found = found-at held.column_indexes c within in
        let zero-plus : 0 + c ≡ c = omega arith in
        let answered = none-needed held spec g 0 held.column_indexes (sym free) c found.0 found.1 (ap (needs spec) zero-plus ∙ wanted) in
        ap is_none (lend-at content held are spec g inside c found.0 found.1 ∙ ap (λ (b : Bool). cond b (Some (refusal.Absent c g)) None) answered)

-- whether there is an aggregate, from the specification that a reader returns
pub no-aggregate : (found : Option Registered) → None ≡ option_map (λ (r : Registered). r.spec) found → found ≡ None
no-aggregate None is = refl
no-aggregate (Some r) is = absurd (none-some r.spec is)

pub record IsOf (found : Option Registered) (spec : Spec) : Type 0 where
  pub aggregate : Registered
  pub is : found ≡ Some aggregate
  pub same : aggregate.spec ≡ spec

pub an-aggregate : (found : Option Registered) (spec : Spec) → Some spec ≡ option_map (λ (r : Registered). r.spec) found → IsOf found spec
an-aggregate None spec is = absurd (none-some spec (sym is))
an-aggregate (Some r) spec is = record { aggregate = r; is = refl; same = same_Some r.spec spec (sym is) }

pub checked-at : (schema : List Kind) (aggregates : List (Option Registered)) (a : ℕ) → AreChecked schema aggregates → IsChecked schema (flattened (slice_get aggregates a))
checked-at schema [] a checked = tt
checked-at schema (other ∷ rest) zero checked = checked.0
checked-at schema (other ∷ rest) (suc a) checked = checked-at schema rest a checked.1

checked-scanned : (schema : List Kind) (g : ℕ) (found : Option Registered) → IsChecked schema found → IsChecked schema (option_map (after_scan g) found)
checked-scanned schema g None checked = tt
checked-scanned schema g (Some r) checked = checked

-- the registrations stay valid, whether a row group is scanned or not
pub scanned-checked : {A : Type 0} (schema : List Kind) (aggregates after : List (Option Registered)) (a g : ℕ) (r : Result A Refusal)
    → OnOk r (after ≡ slice_set aggregates a (option_map (after_scan g) (flattened (slice_get aggregates a)))) → OnErr r (after ≡ aggregates) → AreChecked schema aggregates → AreChecked schema after
scanned-checked schema aggregates after a g (Ok x) scanned same checked = subst (AreChecked schema) (sym scanned) (checked-put schema aggregates a _ checked (checked-scanned schema g (flattened (slice_get aggregates a)) (checked-at schema aggregates a checked)))
scanned-checked schema aggregates after a g (Err e) scanned same checked = subst (AreChecked schema) (sym same) checked

-- the refusal of a call that can only run out of memory
pub for-memory-alone : {A P : Type 0} (Q : Refusal → Type 0) (r : Result A Refusal) → IfErr r (λ e. e ≡ refusal.NoMemory) → OnErr r P → ((e : Refusal) → e ≡ refusal.NoMemory → P → Q e) → IfErr r Q
for-memory-alone Q (Ok x) memory same then = tt
for-memory-alone Q (Err e) memory same then = then e memory same
