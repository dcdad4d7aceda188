-- A table with its aggregates after an edit, and why an edit is refused.
use Rattle.std.proofs.Common.{◌≡◌, ℕ, zero, suc, ◌/◌, ◌<◌, Bool, true, false, not, List, map, length, replicate, Option, None, Some, refl, sym, ap, subst, ◌∙◌, arith}
use Rattle.std.specs.Prelude.{IsSome, ◌≤◌, is_none, is_some, option_map, slice_get}
use Rattle.std.proofs.lemmas.List.{length-map}
use Rattle.std.proofs.lemmas.Option.{same_Some, slice_get_within}
use Rattle.far_types.specs.declared.cell.Cell.{Cell}
use Rattle.far_types.specs.declared.cell.Kind.{Kind}
use Rattle.far_types.specs.declared.edit.Edit.{Edit}
use Rattle.far_types.specs.declared.edit.Edit.TheVariants as edit
use Rattle.far_types.specs.declared.limits.Limits.{Limits}
use Rattle.far_types.specs.declared.refusal.Refusal.{Refusal}
use Rattle.far_types.specs.declared.refusal.Refusal.TheVariants as refusal
use Rattle.far_types.specs.Edits.{edit_faults, after_edit, is_dead, is_of_other_kind, places_after, after_remove, with_cell}
use Rattle.far_types.specs.Bounds.{AreLimits}
use Rattle.far_types.specs.Cells.{is_too_long}
use Rattle.far_types.specs.FirstOf.{first_of}
use Rattle.far_types.specs.MayRefuse.{MayRefuse}
use Rattle.far_types.specs.Table.{Place, Registered}
use Rattle.far_rows.specs.declared.new_cell.NewCell.{NewCell}
use Rattle.far_rows.specs.ColumnIndexes.{Values, kind_of, row_of}
use Rattle.far_rows.specs.Rows.{Rows, all_cells}
use Rattle.far_rows.specs.Effects.{IsPushed}
use Rattle.far_rows.specs.Places.{places_in}
use Rattle.far_rows.specs.Refusing.{absents}
use Rattle.far_rows.specs.Setting.{cell_of, kind_in}
use Rattle.far_aggregates.specs.Pairs.{alive_with}
use Rattle.far_aggregates.specs.declared.pending.Pending.{Pending}
use Rattle.far_aggregates.specs.Accumulators.{RegistryEntry, Keeps, PlacesFit, registered_of}
use Rattle.far_aggregates.specs.Pending.{AreUpToDate, RetractsAll}
use Rattle.far_aggregates.proofs.TableGroups.{length-changed}
use Rattle.far_table.specs.State.{AreChecked}
use Rattle.far_table.specs.TableRows.{TableRows, asked}
use Rattle.far_table.specs.Edits.{edit_due, IsMade, IsAppended, IsPut}
use Rattle.far_table.specs.Live.{IsLive, state_of}
use Rattle.far_table.proofs.FirstOfLaws.{free-head}
use Rattle.far_table.proofs.EditsAcceptance.{remove-right, faultless, all-here}
use Rattle.far_table.proofs.Places.{flag-there, cells-get}
use Rattle.far_table.proofs.EditsSetRefusals.{found-at}
use Rattle.far_frame.specs.Effects.{Accepts, Refuses}
use Rattle.far_frame.specs.State.{State, live, with_accesses}
use Rattle.far_frame.specs.declared.step.Step.TheVariants as step
use Rattle.far_frame.specs.declared.step.Reply.TheVariants as reply

abbrev no_aggregate : Option Registered
no_aggregate = None

-- a table without aggregates has valid registrations
pub none-checked : (schema : List Kind) (n : ℕ) → AreChecked schema (replicate n no_aggregate)
none-checked schema zero = tt
none-checked schema (suc n) = (tt, none-checked schema n)

module _ {K : Type 0} (accesses : List (List ℕ)) where
  -- the state of a table with these parts
  abbrev pub shown : TableRows K → ℕ → List RegistryEntry → State K
  shown t r registry = with_accesses (state_of t r registry) accesses

  -- the state shows only registrations, so equal registrations show equal states
  pub shown-same : (t : TableRows K) (r : ℕ) (was now : List RegistryEntry) → registered_of now ≡ registered_of was → shown t r now ≡ shown t r was
  shown-same t r was now same = λ i. record { table = record { schema = t.schema; limits = t.limits; places = t.places; edits = t.edits; registrations = r; aggregates = same i }; rows = t.held; accesses = accesses }

  -- loading a row does not change the state
  pub loaded-state : (old new : TableRows K) (r : ℕ) (registry : List RegistryEntry) → new ≡ record old { new_row = new.new_row } → shown new r registry ≡ shown old r registry
  loaded-state old new r registry stays = ap (λ (t : TableRows K). shown t r registry) stays

module _ {K : Type 0} (before observed after : State K) (e : Edit) (r : Refusal) (same : before ≡ observed) (stays : after ≡ before) where
  -- a call that returns the due refusal and leaves the state refuses as it should
  pub refuses-due : Some r ≡ edit_due (live before) e → Refuses observed (step.Edit e) r after
  refuses-due is = (stays ∙ same, subst (λ (s : State K). MayRefuse (edit_due (live s) e) true r) same (subst (λ (o : Option Refusal). MayRefuse o true r) is refl))

  -- a call that returns `NoMemory` when no refusal is due, and leaves the state, refuses as it should
  pub refuses-memory : None ≡ edit_due (live before) e → r ≡ refusal.NoMemory → Refuses observed (step.Edit e) r after
  refuses-memory free is = (stays ∙ same, subst (λ (s : State K). MayRefuse (edit_due (live s) e) true r) same (subst (λ (o : Option Refusal). MayRefuse o true r) free (is, refl)))

module _ {K : Type 0} where
  pub same-live : (t : TableRows K) (r : ℕ) (was now : List RegistryEntry) → registered_of now ≡ registered_of was → IsLive t r was → Keeps t.limits.group t.places now → IsLive t r now
  same-live t r was now same live kept = record { registrations_few = live.registrations_few; kept = kept; checked = subst (AreChecked t.schema) (sym same) live.checked }

  pub loaded-live : (old new : TableRows K) (r : ℕ) (registry : List RegistryEntry) → new ≡ record old { new_row = new.new_row } → IsLive old r registry → IsLive new r registry
  loaded-live old new r registry stays live = subst (λ (t : TableRows K). IsLive t r registry) (sym stays) record { registrations_few = live.registrations_few; kept = live.kept; checked = live.checked }

  -- rows and a registry, seen as a table with aggregates
  pub live-alone : (t : TableRows K) (registry : List RegistryEntry) → Keeps t.limits.group t.places registry → AreChecked t.schema (registered_of registry) → IsLive t 0 registry
  live-alone t registry kept checked = record { registrations_few = omega arith; kept = kept; checked = checked }

  -- the registry is up to date in the form that the calls of aggregates require
  pub keeps-fit : (t : TableRows K) (r : ℕ) (registry : List RegistryEntry) (limits : Limits) → limits ≡ t.limits → AreLimits t.limits → length t.places ≤ t.limits.places → PlacesFit t.places → IsLive t r registry → AreUpToDate limits.group t.places registry
  keeps-fit t r registry limits same bounds few fit live = record { kept = subst (λ (l : Limits). Keeps l.group t.places registry) (sym same) live.kept; few = omega (arith, few, bounds.places_high); fit = fit }

  -- the table after the edit is the one that the definition of the edit says
  pub made-table : (old new : TableRows K) (e : Edit) (r : ℕ) (was now : List RegistryEntry) → IsMade old new e → registered_of now ≡ registered_of was → (state_of new r now).table ≡ after_edit e (state_of old r was).table
  made-table old new e r was now made same = λ i. record { schema = made.schema i; limits = made.limits i; places = made.places i; edits = made.edits i; registrations = r; aggregates = same i }

  pub made-checked : (old new : TableRows K) (e : Edit) (r : ℕ) (was now : List RegistryEntry) → IsMade old new e → registered_of now ≡ registered_of was → IsLive old r was → AreChecked new.schema (registered_of now)
  made-checked old new e r was now made same live = subst (λ (kinds : List Kind). AreChecked kinds (registered_of now)) (sym made.schema) (subst (AreChecked old.schema) (sym same) live.checked)

  pub made-live : (old new : TableRows K) (e : Edit) (r : ℕ) (was now : List RegistryEntry) → IsMade old new e → registered_of now ≡ registered_of was → IsLive old r was → Keeps new.limits.group new.places now → IsLive new r now
  made-live old new e r was now made same live kept = record { registrations_few = live.registrations_few; kept = kept; checked = made-checked old new e r was now made same live }

  -- the retracted pairs, in terms of the new table instead of the old one
  pub retracts-after : (old new : TableRows K) (e : Edit) (p : ℕ) (limits : Limits) (now : List RegistryEntry) (pending : Pending) → limits ≡ old.limits → IsMade old new e → RetractsAll limits.group (p / limits.group) (places_after e old.places) now pending → RetractsAll new.limits.group (p / new.limits.group) new.places now pending
  retracts-after old new e p limits now pending same made retracts =
      let bounds : limits ≡ new.limits = same ∙ sym made.limits in
      subst (λ (l : Limits). RetractsAll l.group (p / l.group) new.places now pending) bounds (subst (λ (ps : List Place). RetractsAll limits.group (p / limits.group) ps now pending) (sym made.places) retracts)

  -- the registry's content, in terms of the new table instead of the old one
  pub keeps-after : (old new : TableRows K) (e : Edit) (limits : Limits) (now : List RegistryEntry) → limits ≡ old.limits → IsMade old new e → Keeps limits.group (places_after e old.places) now → Keeps new.limits.group new.places now
  keeps-after old new e limits now same made kept =
      subst (λ (l : Limits). Keeps l.group new.places now) (same ∙ sym made.limits) (subst (λ (ps : List Place). Keeps limits.group ps now) (sym made.places) kept)

-- an insert appends the loaded row
module _ {K : Type 0} (content : K → List ℕ) (old mid new : TableRows K) (row : List Cell) (stays : mid ≡ record old { new_row = mid.new_row }) (loaded : row_of mid.held.column_indexes mid.new_row ≡ row) (appended : IsAppended content mid new) where
  made : IsMade mid new (edit.Insert row)
  made = subst (λ (cells : List Cell). IsMade mid new (edit.Insert cells)) loaded appended.made

  pub inserted : (accesses : List (List ℕ)) (r : ℕ) (was now : List RegistryEntry) (place : ℕ) → None ≡ edit_due (asked old) (edit.Insert row) → registered_of now ≡ registered_of was → place ≡ length mid.places
      → Accepts content (shown accesses old r was) (step.Edit (edit.Insert row)) (reply.Place place) (shown accesses new r now)
  inserted accesses r was now place free same at = (
    ap reply.Place (at ∙ ap (λ (t : TableRows K). length t.places) stays),
    record {
      changed = record {
        due = sym free;
        table = made-table mid new (edit.Insert row) r was now made same ∙ ap (λ (t : TableRows K). after_edit (edit.Insert row) (state_of t r was).table) stays;
        rows = subst (λ (t : TableRows K). (values : Values) × (row_of t.held.column_indexes values ≡ row) × IsPushed content t.held values new.held) stays (mid.new_row, loaded, appended.held);
      };
      accesses = refl;
    },
  )

  pub inserted-live : (r : ℕ) (was now : List RegistryEntry) → registered_of now ≡ registered_of was → IsLive old r was → Keeps mid.limits.group (places_after (edit.Insert row) mid.places) now → IsLive new r now
  inserted-live r was now same live kept =
      let bounds : Keeps new.limits.group (places_after (edit.Insert row) mid.places) now = subst (λ (l : Limits). Keeps l.group (places_after (edit.Insert row) mid.places) now) (sym made.limits) kept in
      made-live mid new (edit.Insert row) r was now made same (loaded-live old mid r was stays live) (subst (λ (ps : List Place). Keeps new.limits.group ps now) (sym made.places) bounds)

-- a set writes a value to a column of a place
module _ {K : Type 0} (old new : TableRows K) (p c : ℕ) where
  pub made-with : (one other : Cell) → one ≡ other → IsMade old new (edit.Set p c one) → IsMade old new (edit.Set p c other)
  made-with one other same made = subst (λ (cell : Cell). IsMade old new (edit.Set p c cell)) same made

  pub set-inside : (cell : Cell) → IsMade old new (edit.Set p c cell) → p < length old.places → p < length new.places
  set-inside cell made below = let same = ap length made.places ∙ length-changed (with_cell c cell) p old.places in omega (arith, below, same)

  pub put : (content : K → List ℕ) (cell : Cell) (value : NewCell) (accesses : List (List ℕ)) (r : ℕ) (was now : List RegistryEntry) → cell_of value ≡ cell → option_map kind_of (slice_get old.held.column_indexes c) ≡ Some (kind_in value) → IsPut content old new c p value → None ≡ edit_due (asked old) (edit.Set p c cell) → registered_of now ≡ registered_of was
      → Accepts content (shown accesses old r was) (step.Edit (edit.Set p c cell)) reply.Done (shown accesses new r now)
  put content cell value accesses r was now is of_kind changed free same = (
    refl,
    record {
      changed = record {
        due = sym free;
        table = made-table old new (edit.Set p c cell) r was now (made-with (cell_of value) cell is changed.made) same;
        rows = (value, is, of_kind, changed.held);
      };
      accesses = refl;
    },
  )

is-true : (b : Bool) → not b ≡ false → b ≡ true
is-true true is = refl
is-true false is = absurd cc

-- a place that exists and is not dead is alive with its row
alive-row : (at : Option Place) (row : List Cell) → is_none at ≡ false → is_dead at ≡ false → option_map (λ (place : Place). place.cells) at ≡ Some row → at ≡ Some (alive_with row)
alive-row None row there living is = absurd cc
alive-row (Some place) row there living is =
    let cells : place.cells ≡ row = same_Some place.cells row is in
    let alive : place.alive ≡ true = is-true place.alive living in
    λ i. Some (record { cells = cells i; alive = alive i })

-- a removal that is not refused names a place that is alive
remove-alive : (schema : List Kind) (limits : Limits) (places : List Place) (p : ℕ) (row : List Cell) → first_of (edit_faults schema limits places (edit.Remove p)) ≡ None → option_map (λ (place : Place). place.cells) (slice_get places p) ≡ Some row → slice_get places p ≡ Some (alive_with row)
remove-alive schema limits places p row free is =
    let there = free-head (is_none (slice_get places p)) refusal.NoRow _ free in
    let living = free-head (is_dead (slice_get places p)) refusal.RemovedRow _ there.1 in
    alive-row (slice_get places p) row there.0 living.0 is

-- a set that is not refused names a column and a place that is alive
set-behind : (schema : List Kind) (limits : Limits) (places : List Place) (p c : ℕ) (cell : Cell) → first_of (edit_faults schema limits places (edit.Set p c cell)) ≡ None → (is_none (slice_get schema c) ≡ false) × (first_of (edit_faults schema limits places (edit.Remove p)) ≡ None)
set-behind schema limits places p c cell free =
    let column = free-head (is_none (slice_get schema c)) refusal.NoColumn _ free in
    let kind = free-head (is_of_other_kind (slice_get schema c) cell) refusal.WrongKind _ column.1 in
    let short = free-head (is_too_long cell) refusal.TextTooLong _ kind.1 in
    (column.0, short.1)

found-some : {A : Type 0} (found : Option A) → is_none found ≡ false → (x : A) × (found ≡ Some x)
found-some None is = absurd cc
found-some (Some x) is = (x, refl)

there-below : (places : List Place) (p : ℕ) → is_none (slice_get places p) ≡ false → p < length places
there-below places p is = let found = found-some (slice_get places p) is in slice_get_within places p found.0 found.1

-- each row has a cell in each column of the schema
module _ {K : Type 0} (content : K → List ℕ) (schema : List Kind) (held : Rows K) (kinds : map kind_of held.column_indexes ≡ schema) where
  row-width : (p : ℕ) (row : List Cell) → slice_get (places_in content held) p ≡ Some (alive_with row) → length row ≡ length schema
  row-width p row at =
      let columns : List (List Cell) = all_cells content held in
      let flag = flag-there columns held.alive p (alive_with row) at in
      let same : Some row ≡ Some _ = sym (ap (option_map (λ (place : Place). place.cells)) at) ∙ cells-get columns held.alive p true flag in
      ap length (same_Some row _ same) ∙ length-map columns _ ∙ length-map held.column_indexes _ ∙ sym (length-map held.column_indexes kind_of) ∙ ap length kinds

  pub column-there : (places : List Place) → places ≡ places_in content held → (p c : ℕ) (row : List Cell) → slice_get places p ≡ Some (alive_with row) → is_none (slice_get schema c) ≡ false → IsSome (slice_get row c)
  column-there places same p c row at column =
      let kind = found-some (slice_get schema c) column in
      let below = slice_get_within schema c kind.0 kind.1 in
      let width = row-width p row (ap (λ (ps : List Place). slice_get ps p) (sym same) ∙ at) in
      let found = found-at row c (omega (arith, below, width)) in
      ap is_some found.1

-- a removal that is not refused names a place of the table
module _ {K : Type 0} (t : TableRows K) (p : ℕ) (free : None ≡ edit_due (asked t) (edit.Remove p)) where
  right : first_of (edit_faults t.schema t.limits t.places (edit.Remove p)) ≡ None
  right = faultless (asked t) (edit.Remove p) (sym free)

  pub remove-below : p < length t.places
  remove-below = there-below t.places p (remove-right t.schema t.limits t.places p right)

  pub remove-row : (row : List Cell) → option_map (λ (place : Place). place.cells) (slice_get t.places p) ≡ Some row → slice_get t.places p ≡ Some (alive_with row)
  remove-row row is = remove-alive t.schema t.limits t.places p row right is

  pub remove-here : first_of (absents t.held (p / t.limits.group)) ≡ None
  remove-here = all-here (asked t) (edit.Remove p) (sym free)

  pub remove-inside : (new : TableRows K) → IsMade t new (edit.Remove p) → p < length new.places
  remove-inside new made = let same = ap length made.places ∙ length-changed after_remove p t.places in omega (arith, remove-below, same)

-- a set that is not refused names a place and a column of the table
module _ {K : Type 0} (t : TableRows K) (p c : ℕ) (cell : Cell) (free : None ≡ edit_due (asked t) (edit.Set p c cell)) where
  behind : (is_none (slice_get t.schema c) ≡ false) × (first_of (edit_faults t.schema t.limits t.places (edit.Remove p)) ≡ None)
  behind = set-behind t.schema t.limits t.places p c cell (faultless (asked t) (edit.Set p c cell) (sym free))

  pub set-below : p < length t.places
  set-below = there-below t.places p (remove-right t.schema t.limits t.places p behind.1)

  pub set-row : (row : List Cell) → option_map (λ (place : Place). place.cells) (slice_get t.places p) ≡ Some row → slice_get t.places p ≡ Some (alive_with row)
  set-row row is = remove-alive t.schema t.limits t.places p row behind.1 is

  pub set-column : (content : K → List ℕ) → t.places ≡ places_in content t.held → map kind_of t.held.column_indexes ≡ t.schema → (row : List Cell) → option_map (λ (place : Place). place.cells) (slice_get t.places p) ≡ Some row → IsSome (slice_get row c)
  set-column content places kinds row is = column-there content t.schema t.held kinds t.places places p c row (set-row row is) behind.0

  pub set-here : first_of (absents t.held (p / t.limits.group)) ≡ None
  set-here = all-here (asked t) (edit.Set p c cell) (sym free)
