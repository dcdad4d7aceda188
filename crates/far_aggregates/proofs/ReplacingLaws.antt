-- Another cell in a column: aggregates that do not use the column are unchanged. Totals of its numbers replace the old number by the new.
use Rattle.std.proofs.Common.{inl, inr, ◌≡◌, ◌≢◌, ℕ, zero, suc, ◌+◌, ◌/◌, ◌<◌, Bool, true, false, not, ◌||◌, ◌&&◌, cond, List, [], ◌∷◌, length, map, refl, sym, ap, ◌∙◌, subst, arith, zero-add, Option, None, Some, slice_get, slice_set}
use Rattle.std.specs.Prelude.{ℤ, ◌==◌, option_map, is_some}
use Rattle.std.specs.Cmp.Lexicographic.{pointwise}
use Rattle.std.specs.FinMap as fin
use Rattle.std.specs.List.{cons_option, filter_map, list_any, starts_with}
use Rattle.std.specs.Option.{option_map_or}
use Rattle.std.proofs.lemmas.Bool.{eqb-true, eq-eqb}
use Rattle.std.proofs.lemmas.Bool.Decides.{eqb_tells}
use Rattle.std.proofs.lemmas.List.{length-map}
use Rattle.far_types.specs.declared.cell.Cell.{Cell}
use Rattle.far_types.specs.declared.cell.Cell.TheVariants as cell
use Rattle.far_types.specs.declared.key.Key.{Key}
use Rattle.far_types.specs.declared.filter.Test.{Test}
use Rattle.far_types.specs.declared.filter.Test.TheVariants as test
use Rattle.far_types.specs.declared.spec.Spec.{Spec}
use Rattle.far_types.specs.Answers.{totals, extrema}
use Rattle.far_types.specs.Bounds.{column_of, needs}
use Rattle.far_types.specs.Cells.{Cells, cells_of, number_in, key_in}
use Rattle.far_types.specs.Edits.{change_at, with_cell}
use Rattle.far_types.specs.Filters.{compares, number_passes, text_passes, passes, keeps}
use Rattle.far_types.specs.Pairs.{Pair, PairsFit, key_under, paired, pair_of}
use Rattle.far_types.specs.Table.{Place, place_pair, in_group, is_pending}
use Rattle.far_offload.proofs.AtHandLaws.{pair-same}
use Rattle.far_groups.specs.Live as groups
use Rattle.far_aggregates.specs.declared.aggregate.Accumulator.{Accumulator}
use Rattle.far_aggregates.specs.declared.aggregate.Accumulator.TheVariants as accumulator
use Rattle.far_aggregates.specs.declared.pending.Pending.{Pending}
use Rattle.far_aggregates.specs.Accumulators.{RegistryEntry, Change, PlacesFit, scanned_pair, scanned_pairs, pairs_here, group_pairs, KeepsEntry, Keeps, registered_in}
use Rattle.far_aggregates.specs.Changed.{with_cell_at}
use Rattle.far_aggregates.specs.Pairs.{row_gives, place_gives, alive_with, with_change, without_change}
use Rattle.far_aggregates.specs.Pending.{AreUpToDate, IsAliveAt}
use Rattle.far_aggregates.specs.Replacing.{looks_at, selects_by, is_of_totals, keeps_key, keeps_keys, value_of, after_replace, MayReplace, EachMayReplace, ReplacesAll}
use Rattle.far_aggregates.specs.Until.{zip_all}
use Rattle.far_aggregates.proofs.AnswersCounts.{can_retract}
use Rattle.far_aggregates.proofs.AccumulatorsTotals.{others, scanned-separate, scanned-changed, others-fits}
use Rattle.far_aggregates.proofs.AccumulatorsExtrema.{same_or_not}
use Rattle.far_aggregates.proofs.AccumulatorsEntries.{entry}
use Rattle.far_aggregates.proofs.ListLaws.{map-zip_all}
use Rattle.far_aggregates.proofs.PendingLaws.{get-set_same, get-set_other}
use Rattle.far_aggregates.proofs.TableGroups.{get-changed, in_group-changed, in_group-there, nth}

-- tests of columns

neither : (a b : Bool) → (a || b) ≡ false → (a ≡ false) × (b ≡ false)
neither true b h = cc
neither false b h = (refl, h)

both : (a b : Bool) → (a && b) ≡ true → (a ≡ true) × (b ≡ true)
both true b h = (refl, h)
both false b h = cc

is-not : (a : Bool) → not a ≡ true → a ≡ false
is-not true h = cc
is-not false h = refl

true-false : {P : Type 0} (b : Bool) → b ≡ true → b ≡ false → P
true-false true h k = cc
true-false false h k = cc

other-column : (k column : ℕ) → (k == column) ≡ false → k ≢ column
other-column k column apart same = true-false (k == column) (eq-eqb k column same) apart

-- cells that are the same in all columns but one

passes-alike : (t : Test) (f g : Cells) → f (column_of t) ≡ g (column_of t) → passes t f ≡ passes t g
passes-alike (test.Int column op value) f g h = ap (number_passes (λ number. compares op number value)) h
passes-alike (test.TextIs column constant) f g h = ap (text_passes (λ text. pointwise ◌==◌ text constant)) h
passes-alike (test.TextBegins column constant) f g h = ap (text_passes (λ text. starts_with ◌==◌ text constant)) h

module _ (column : ℕ) (f g : Cells) (alike : (k : ℕ) → k ≢ column → f k ≡ g k) where
  keeps-alike : (tests : List Test) → list_any (λ t. column_of t == column) tests ≡ false → keeps tests f ≡ keeps tests g
  keeps-alike [] none = refl
  keeps-alike (t ∷ tests) none =
      let apart = neither (column_of t == column) (list_any (λ u. column_of u == column) tests) none in
      let here : passes t f ≡ passes t g = passes-alike t f g (alike (column_of t) (other-column (column_of t) column apart.0)) in
      let rest : keeps tests f ≡ keeps tests g = keeps-alike tests apart.1 in
      cc

  key-alike : (key : Option ℕ) → option_map_or (λ k. k == column) key false ≡ false → key_under key f ≡ key_under key g
  key-alike None none = refl
  key-alike (Some k) none = ap (λ o. option_map Some (key_in o)) (alike k (other-column k column none))

-- a pair with another value

abbrev pub with_value : ℤ → Change → Change
with_value to None = None
with_value to (Some pair) = Some (pair.0, to)

paired-value : (k : Option (Option Key)) (from to : ℤ) → paired k (Some to) ≡ with_value to (paired k (Some from))
paired-value None from to = refl
paired-value (Some k) from to = refl

if-value : (b : Bool) (o : Change) (to : ℤ) → cond b (with_value to o) None ≡ with_value to (cond b o None)
if-value true o to = refl
if-value false o to = refl

unless-value : (b : Bool) (o : Change) (to : ℤ) → cond b None (with_value to o) ≡ with_value to (cond b None o)
unless-value true o to = refl
unless-value false o to = refl

-- the pair of a row with another number in the value column
pair-value : (spec : Spec) (column : ℕ) (from to : ℤ) (f g : Cells) → ((k : ℕ) → k ≢ column → g k ≡ f k) → spec.value ≡ column → selects_by column spec ≡ false → f column ≡ Some (cell.Int from) → g column ≡ Some (cell.Int to) → pair_of spec g ≡ with_value to (pair_of spec f)
pair-value spec column from to f g alike at none old new =
    let apart = neither (list_any (λ t. column_of t == column) spec.filter) (option_map_or (λ k. k == column) spec.key false) none in
    let passing : keeps spec.filter g ≡ keeps spec.filter f = keeps-alike column g f alike spec.filter apart.0 in
    let under : key_under spec.key g ≡ key_under spec.key f = key-alike column g f alike spec.key apart.1 in
    let was : number_in (f spec.value) ≡ Some from = ap (λ c. number_in (f c)) at ∙ ap number_in old in
    let is : number_in (g spec.value) ≡ Some to = ap (λ c. number_in (g c)) at ∙ ap number_in new in
    ap (λ b. cond b (paired (key_under spec.key g) (number_in (g spec.value))) None) passing
    ∙ ap (λ u. cond (keeps spec.filter f) (paired u (number_in (g spec.value))) None) under
    ∙ ap (λ o. cond (keeps spec.filter f) (paired (key_under spec.key f) o) None) is
    ∙ ap (λ o. cond (keeps spec.filter f) o None) (paired-value (key_under spec.key f) from to)
    ∙ if-value (keeps spec.filter f) (paired (key_under spec.key f) (Some from)) to
    ∙ ap (λ o. with_value to (cond (keeps spec.filter f) (paired (key_under spec.key f) o) None)) (sym was)

some-there : (row : List Cell) (column : ℕ) (c : Cell) → slice_get row column ≡ Some c → is_some (slice_get row column) ≡ true
some-there row column c there = ap is_some there

-- the pair of a place with another number in the value column
place-value : (spec : Spec) (column : ℕ) (from to : ℤ) (x : Place) → spec.value ≡ column → selects_by column spec ≡ false → slice_get x.cells column ≡ Some (cell.Int from) → place_pair spec (with_cell column (cell.Int to) x) ≡ with_value to (place_pair spec x)
place-value spec column from to x at none old =
    let g : Cells = slice_get (slice_set x.cells column (cell.Int to)) in
    ap (λ o. cond x.alive o None) (pair-value spec column from to (cells_of x.cells) g (λ k other. get-set_other x.cells column k (cell.Int to) other) at none old (get-set_same x.cells column (cell.Int to) (some-there x.cells column (cell.Int from) old)))
    ∙ if-value x.alive (pair_of spec (cells_of x.cells)) to

-- the pair of a place for an aggregate that does not use the column
place-same : (spec : Spec) (column : ℕ) (c : Cell) (x : Place) → needs spec column ≡ false → place_pair spec (with_cell column c x) ≡ place_pair spec x
place-same spec column c x none =
    ap (λ o. cond x.alive o None) (pair-same spec (slice_get (slice_set x.cells column c)) (cells_of x.cells) (λ k needed. get-set_other x.cells column k c (λ same. true-false (needs spec k) needed (ap (needs spec) same ∙ none))))

module _ (spec : Spec) (f : Place → Place) (same : (x : Place) → place_pair spec (f x) ≡ place_pair spec x) where
  here-same : (i : ℕ) (ps : List Place) → pairs_here spec (change_at f i ps) ≡ pairs_here spec ps
  here-same i [] = refl
  here-same zero (p ∷ ps) = ap (λ o. cons_option o (filter_map (place_pair spec) ps)) (same p)
  here-same (suc i) (p ∷ ps) = ap (cons_option (place_pair spec p)) (here-same i ps)

  module _ (size : ℕ) (pending : List Bool) where
    scanned-same : (n i : ℕ) (ps : List Place) → scanned_pairs spec size pending n (change_at f i ps) ≡ scanned_pairs spec size pending n ps
    scanned-same n i [] = refl
    scanned-same n zero (p ∷ ps) = ap (λ o. cons_option (cond (is_pending pending (n / size)) None o) (scanned_pairs spec size pending (n + 1) ps)) (same p)
    scanned-same n (suc i) (p ∷ ps) = ap (cons_option (scanned_pair spec size pending n p)) (scanned-same (n + 1) i ps)

    group-same : (i g : ℕ) (ps : List Place) → 0 < size → group_pairs spec size g (change_at f i ps) ≡ group_pairs spec size g ps
    group-same i g ps positive = elim (same_or_not g (i / size)) as (λ o. group_pairs spec size g (change_at f i ps) ≡ group_pairs spec size g ps) [
      | inl e ↦
          subst (λ h. group_pairs spec size h (change_at f i ps) ≡ group_pairs spec size h ps) (sym e)
          (ap (pairs_here spec) (in_group-there size f i ps positive) ∙ here-same (nth size i) (in_group size (i / size) ps))
      | inr n ↦ ap (pairs_here spec) (in_group-changed size g f i ps positive n)
    ]

    accumulator-same : (registration i : ℕ) (ps : List Place) (k : Accumulator) → 0 < size → KeepsEntry size ps (entry spec registration pending k) → KeepsEntry size (change_at f i ps) (entry spec registration pending k)
    accumulator-same registration i ps (accumulator.Totals live) positive h = (h.0, (h.1.0 ∙ ap totals (sym (scanned-same 0 i ps)), h.1.1))
    accumulator-same registration i ps (accumulator.Extrema live) positive h =
        (h.0, ((λ g. h.1.0 g ∙ ap (λ pairs. cond (is_pending pending g) fin.empty (extrema pairs)) (sym (group-same i g ps positive))), h.1.1))

entry-same : (size column place : ℕ) (c : Cell) (ps : List Place) (s : RegistryEntry) → 0 < size → looks_at column s ≡ false → KeepsEntry size ps s → KeepsEntry size (change_at (with_cell column c) place ps) s
entry-same size column place c ps None positive none h = tt
entry-same size column place c ps (Some a) positive none h =
    accumulator-same a.spec (with_cell column c) (λ x. place-same a.spec column c x none) size a.pending a.registration place ps a.accumulator positive h

pub unneeded-keeps : (size column place : ℕ) (c : Cell) (ps : List Place) (registry : List RegistryEntry) → 0 < size → list_any (looks_at column) registry ≡ false → Keeps size ps registry → Keeps size (change_at (with_cell column c) place ps) registry
unneeded-keeps size column place c ps [] positive none h = tt
unneeded-keeps size column place c ps (s ∷ registry) positive none h =
    let apart = neither (looks_at column s) (list_any (looks_at column) registry) none in
    (entry-same size column place c ps s positive apart.0 h.0, unneeded-keeps size column place c ps registry positive apart.1 h.1)

-- replacing a value keeps the part of a registry entry that the table shows
replaced-registered : (to : ℤ) (s : RegistryEntry) (c : Change) → registered_in (after_replace to s c) ≡ registered_in s
replaced-registered to None c = refl
replaced-registered to (Some a) None = refl
replaced-registered to (Some a) (Some p) = refl

pub all-replaced_registered : (to : ℤ) (registry : List RegistryEntry) (cs : List Change) → map registered_in (zip_all (after_replace to) registry cs) ≡ map registered_in registry
all-replaced_registered to registry cs = map-zip_all (after_replace to) registered_in (replaced-registered to) registry cs

-- a place x whose row has a number in the column
module _ (size place column : ℕ) (from : ℤ) (x : Place) (ps : List Place) (positive : 0 < size) (here : slice_get ps place ≡ Some x) (old : slice_get x.cells column ≡ Some (cell.Int from)) where
  -- no extrema use the column
  no-extrema : {P : Type 0} (a : Bool) → (not a && (false || not true)) ≡ true → P
  no-extrema true keys = cc
  no-extrema false keys = cc

  -- the value may be replaced
  totals-may : (spec : Spec) (registration : ℕ) (pending : List Bool) (live : groups.TotalsState) (o : Change) (qs : List Pair) → live.totals ≡ totals (cons_option o qs) → PairsFit qs → MayReplace (entry spec registration pending (accumulator.Totals live)) o
  totals-may spec registration pending live None qs h fit = tt
  totals-may spec registration pending live (Some p) qs h fit = subst (λ t. groups.CanRetract p.1 (fin.get t p.0)) (sym h) (can_retract p qs fit)

  accumulator-may : (spec : Spec) (registration : ℕ) (pending : List Bool) (k : Accumulator) (b : Bool) → (not (selects_by column spec) && (is_of_totals k || not b)) ≡ true → PlacesFit ps → KeepsEntry size ps (entry spec registration pending k)
      → MayReplace (entry spec registration pending k) (cond b (scanned_pair spec size pending place x) None)
  accumulator-may spec registration pending k false keys fit h = tt
  accumulator-may spec registration pending (accumulator.Extrema live) true keys fit h = no-extrema (selects_by column spec) keys
  accumulator-may spec registration pending (accumulator.Totals live) true keys fit h =
      let went = scanned_pair spec size pending place x in
      let qs = others spec size pending 0 ps place in
      let separate : totals (scanned_pairs spec size pending 0 ps) ≡ totals (cons_option went qs) = scanned-separate spec size pending 0 ps place x here ∙ rw zero-add refl in
      totals-may spec registration pending live went qs (h.1.0 ∙ separate) (others-fits spec size pending 0 ps place fit)

  entry-may : (s : RegistryEntry) → keeps_key column s ≡ true → PlacesFit ps → KeepsEntry size ps s → MayReplace s (value_of column size place (place_gives x) s)
  entry-may None keys fit h = tt
  entry-may (Some a) keys fit h = accumulator-may a.spec a.registration a.pending a.accumulator (a.spec.value == column) keys fit h

  each-may : (registry : List RegistryEntry) → keeps_keys column registry ≡ true → PlacesFit ps → Keeps size ps registry → EachMayReplace registry (map (value_of column size place (place_gives x)) registry)
  each-may [] keys fit h k s c p q = cc
  each-may (t ∷ registry) keys fit h zero s c p q =
      let a : t ≡ s = cc in
      let b : value_of column size place (place_gives x) t ≡ c = cc in
      let each = both (keeps_key column t) (keeps_keys column registry) keys in
      subst (λ u. MayReplace u c) a (subst (MayReplace t) b (entry-may t each.0 fit h.0))
  each-may (t ∷ registry) keys fit h (suc k) s c p q = each-may registry (both (keeps_key column t) (keeps_keys column registry) keys).1 fit h.1 k s c p q

  -- then totals are up to date for the places
  module _ (to : ℤ) where
    abbrev f : Place → Place
    f = with_cell column (cell.Int to)

    abbrev after : List Place
    after = change_at f place ps

    there : slice_get after place ≡ Some (f x)
    there = get-changed f place ps ∙ ap (option_map f) here

    replaced-is : (spec : Spec) (registration : ℕ) (pending : List Bool) (live : groups.TotalsState) (o : Change) → after_replace to (entry spec registration pending (accumulator.Totals live)) o ≡ entry spec registration pending (accumulator.Totals (record { left = live.left; totals = without_change (with_change live.totals (with_value to o)) o }))
    replaced-is spec registration pending live None = refl
    replaced-is spec registration pending live (Some p) = refl

    totals-replaced : (spec : Spec) (registration : ℕ) (pending : List Bool) (live : groups.TotalsState) → spec.value ≡ column → selects_by column spec ≡ false → KeepsEntry size ps (entry spec registration pending (accumulator.Totals live))
        → KeepsEntry size after (after_replace to (entry spec registration pending (accumulator.Totals live)) (scanned_pair spec size pending place x))
    totals-replaced spec registration pending live at none h =
        let went = scanned_pair spec size pending place x in
        let came : with_value to went ≡ scanned_pair spec size pending place (f x) =
        sym (ap (λ o. cond (is_pending pending (place / size)) None o) (place-value spec column from to x at none old) ∙ unless-value (is_pending pending (place / size)) (place_pair spec x) to) in
        subst (KeepsEntry size after) (sym (replaced-is spec registration pending live went))
        (h.0, (ap (λ m. without_change (with_change m (with_value to went)) went) h.1.0 ∙ ap (λ o. without_change (with_change (totals (scanned_pairs spec size pending 0 ps)) o) went) came ∙ scanned-changed spec size pending f ps place x (f x) here there, h.1.1))

    accumulator-replaced : (spec : Spec) (registration : ℕ) (pending : List Bool) (k : Accumulator) (b : Bool) → (spec.value == column) ≡ b → (not (selects_by column spec) && (is_of_totals k || not b)) ≡ true → KeepsEntry size ps (entry spec registration pending k)
        → KeepsEntry size after (after_replace to (entry spec registration pending k) (cond b (scanned_pair spec size pending place x) None))
    accumulator-replaced spec registration pending k false at keys h =
        let unselected = is-not (selects_by column spec) (both (not (selects_by column spec)) (is_of_totals k || not false) keys).0 in
        let unneeded : needs spec column ≡ false = ap (λ b. b || spec.value == column) unselected ∙ at in
        entry-same size column place (cell.Int to) ps (entry spec registration pending k) positive unneeded h
    accumulator-replaced spec registration pending (accumulator.Extrema live) true at keys h = no-extrema (selects_by column spec) keys
    accumulator-replaced spec registration pending (accumulator.Totals live) true at keys h =
        let unselected = is-not (selects_by column spec) (both (not (selects_by column spec)) true keys).0 in
        totals-replaced spec registration pending live (eqb-true spec.value column at) unselected h

    entry-replaced : (s : RegistryEntry) → keeps_key column s ≡ true → KeepsEntry size ps s → KeepsEntry size after (after_replace to s (value_of column size place (place_gives x) s))
    entry-replaced None keys h = tt
    entry-replaced (Some a) keys h = accumulator-replaced a.spec a.registration a.pending a.accumulator (a.spec.value == column) refl keys h

    Keeps-replaced : (registry : List RegistryEntry) → keeps_keys column registry ≡ true → Keeps size ps registry → Keeps size after (zip_all (after_replace to) registry (map (value_of column size place (place_gives x)) registry))
    Keeps-replaced [] keys h = tt
    Keeps-replaced (s ∷ registry) keys h =
        let each = both (keeps_key column s) (keeps_keys column registry) keys in
        (entry-replaced s each.0 h.0, Keeps-replaced registry each.1 h.1)

-- putting a row's own cell in a column changes nothing
unchanged : (column : ℕ) (c : Cell) (cells : Cells) → cells column ≡ Some c → with_cell_at column c cells ≡ cells
unchanged column c cells is = λ i k. at k i where
  at : (k : ℕ) → cond (k == column) (Some c) (cells k) ≡ cells k
  at k = elim (eqb_tells k column) as (λ o. cond (k == column) (Some c) (cells k) ≡ cells k) [
    | inl t ↦ ap (λ b. cond b (Some c) (cells k)) t.0 ∙ sym (ap cells t.1 ∙ is)
    | inr t ↦ ap (λ b. cond b (Some c) (cells k)) t.0
  ]

-- the noted pairs of a place may be replaced
pub noted-replaces : (size place column : ℕ) (from : ℤ) (cells : Cells) (registry : List RegistryEntry) (pending : Pending) → 0 < size → cells column ≡ Some (cell.Int from) → keeps_keys column registry ≡ true
    → pending.to_retract.items ≡ map (value_of column size place (row_gives (with_cell_at column (cell.Int from) cells))) registry
    → (places : List Place) → IsAliveAt cells place places → AreUpToDate size places registry → ReplacesAll size place column places registry pending
noted-replaces size place column from cells registry pending positive is keys noted places there kept =
    let x = alive_with there.0 in
    let old : slice_get there.0 column ≡ Some (cell.Int from) = ap (λ (f : Cells). f column) (sym there.1) ∙ is in
    let same : pending.to_retract.items ≡ map (value_of column size place (place_gives x)) registry =
    noted ∙ ap (λ (f : Cells). map (value_of column size place (row_gives f)) registry) (unchanged column (cell.Int from) cells is ∙ there.1) in
    let many : length pending.to_retract.items ≡ length registry = ap length same ∙ length-map registry (value_of column size place (place_gives x)) in
    record {
      may = record {
        len = omega arith;
        may = subst (EachMayReplace registry) (sym same) (each-may size place column from x places positive there.2 old registry keys kept.fit kept.kept);
      };
      kept = λ to. subst (λ (cs : List Change). Keeps size (change_at (with_cell column (cell.Int to)) place places) (zip_all (after_replace to) registry cs)) (sym same)
          (Keeps-replaced size place column from x places positive there.2 old to registry keys kept.kept);
    }
