-- Consequences of an edit that has no fault of its own, and of one that is not refused.
use Rattle.std.proofs.Common.{◌≡◌, ◌≢◌, ℕ, ◌<◌, Bool, true, false, not, List, [], ◌∷◌, length, Option, None, Some, refl, sym, ap, arith, ◌∙◌}
use Rattle.std.specs.Prelude.{◌==◌, ◌&&◌, is_none, option_map, slice_get}
use Rattle.std.specs.List.{list_all, list_any, zip}
use Rattle.std.proofs.lemmas.Bool.{eqb-true, eqb-false}
use Rattle.std.proofs.lemmas.Option.{slice_get_within, none-some}
use Rattle.far_types.specs.declared.cell.Cell.{Cell}
use Rattle.far_types.specs.declared.cell.Kind.{Kind}
use Rattle.far_types.specs.declared.edit.Edit.{Edit}
use Rattle.far_types.specs.declared.edit.Edit.TheVariants as edit
use Rattle.far_types.specs.declared.limits.Limits.{Limits}
use Rattle.far_types.specs.declared.refusal.Refusal.TheVariants as refusal
use Rattle.far_types.specs.Cells.{is_of_kind, is_too_long}
use Rattle.far_types.specs.Edits.{edit_faults, kinds_fit, is_of_other_kind, overfills}
use Rattle.far_types.specs.FirstOf.{first_of}
use Rattle.far_types.specs.Table.{Place}
use Rattle.far_rows.specs.declared.column_index.ColumnIndex.{ColumnIndex}
use Rattle.far_rows.specs.ColumnIndexes.{kind_of}
use Rattle.far_rows.specs.Places.{places_of}
use Rattle.far_rows.specs.Refusing.{absents}
use Rattle.far_table.specs.State.{LiveState}
use Rattle.far_table.specs.Edits.{edit_due, obstacles, group_of, no_space}
use Rattle.far_table.proofs.FirstOfLaws.{free-head, free-parts}
use Rattle.far_table.proofs.Places.{flag-there}

is-true : (b : Bool) → not b ≡ false → b ≡ true
is-true true is = refl
is-true false is = absurd cc

-- a row that the table takes
pub record IsRow (schema : List Kind) (limits : Limits) (places : List Place) (row : List Cell) : Type 0 where
  pub of_kinds : kinds_fit schema row ≡ true
  pub width : length row ≡ length schema
  pub short : list_any is_too_long row ≡ false
  pub few : length places ≢ limits.places

pub row-right : (schema : List Kind) (limits : Limits) (places : List Place) (row : List Cell) → first_of (edit_faults schema limits places (edit.Insert row)) ≡ None → IsRow schema limits places row
row-right schema limits places row free =
    let kinds = free-head (not (kinds_fit schema row)) refusal.WrongKind _ free in
    let width = free-head (not (length row == length schema)) refusal.RowWidth _ kinds.1 in
    let short = free-head (list_any is_too_long row) refusal.TextTooLong _ width.1 in
    let few = free-head (length places == limits.places) refusal.TableFull _ short.1 in
    record {
      of_kinds = is-true (kinds_fit schema row) kinds.0;
      width = eqb-true (length row) (length schema) (is-true (length row == length schema) width.0);
      short = short.0;
      few = eqb-false (length places) limits.places few.0;
    }

both-true : (a b : Bool) → (a && b) ≡ true → (a ≡ true) × (b ≡ true)
both-true true b both = (refl, both)
both-true false b both = absurd cc

is-false : (b : Bool) → not b ≡ true → b ≡ false
is-false true is = absurd cc
is-false false is = refl

-- if each cell fits its column, the row is of the schema's kinds and has no cell that is too long
each-stands : (schema : List Kind) (row : List Cell) → length row ≡ length schema → list_all (λ (at : Kind × Cell). is_of_kind at.0 at.1 && not (is_too_long at.1)) (zip schema row) ≡ true
    → (kinds_fit schema row ≡ true) × (list_any is_too_long row ≡ false)
each-stands [] [] width each = (refl, refl)
each-stands [] (cell ∷ row) width each = absurd (omega (arith, width))
each-stands (kind ∷ schema) [] width each = absurd (omega (arith, width))
each-stands (kind ∷ schema) (cell ∷ row) width each =
    let later = both-true (is_of_kind kind cell && not (is_too_long cell)) (list_all (λ (at : Kind × Cell). is_of_kind at.0 at.1 && not (is_too_long at.1)) (zip schema row)) each in
    let here = both-true (is_of_kind kind cell) (not (is_too_long cell)) later.0 in
    let rest = each-stands schema row (omega (arith, width)) later.1 in
    let short = is-false (is_too_long cell) here.1 in
    (rw (here.0, rest.0) refl, rw (short, rest.1) refl)

-- a row whose cells fit is refused only if the table is full
pub full-alone : (schema : List Kind) (row : List Cell) → ((length row == length schema) && list_all (λ (at : Kind × Cell). is_of_kind at.0 at.1 && not (is_too_long at.1)) (zip schema row)) ≡ true
    → (limits : Limits) (places : List Place) → first_of (edit_faults schema limits places (edit.Insert row)) ≡ first_of ((length places == limits.places, refusal.TableFull) ∷ [])
full-alone schema row stands limits places =
    let both = both-true (length row == length schema) (list_all (λ (at : Kind × Cell). is_of_kind at.0 at.1 && not (is_too_long at.1)) (zip schema row)) stands in
    let right = each-stands schema row (eqb-true (length row) (length schema) both.0) both.1 in
    rw (right.0, both.0, right.1) refl

-- a cell that the table takes at a place and a column
pub record IsCell (schema : List Kind) (places : List Place) (p c : ℕ) (cell : Cell) : Type 0 where
  pub column : is_none (slice_get schema c) ≡ false
  pub of_kind : is_of_other_kind (slice_get schema c) cell ≡ false
  pub short : is_too_long cell ≡ false
  pub place : is_none (slice_get places p) ≡ false

pub cell-right : (schema : List Kind) (limits : Limits) (places : List Place) (p c : ℕ) (cell : Cell) → first_of (edit_faults schema limits places (edit.Set p c cell)) ≡ None → IsCell schema places p c cell
cell-right schema limits places p c cell free =
    let column = free-head (is_none (slice_get schema c)) refusal.NoColumn _ free in
    let kind = free-head (is_of_other_kind (slice_get schema c) cell) refusal.WrongKind _ column.1 in
    let short = free-head (is_too_long cell) refusal.TextTooLong _ kind.1 in
    let place = free-head (is_none (slice_get places p)) refusal.NoRow _ short.1 in
    record { column = column.0; of_kind = kind.0; short = short.0; place = place.0 }

pub kind-right : (schema : List Kind) (c : ℕ) (cell : Cell) (kind : Kind) → is_of_other_kind (slice_get schema c) cell ≡ false → slice_get schema c ≡ Some kind → is_of_kind kind cell ≡ true
kind-right schema c cell kind right at = is-true (is_of_kind kind cell) (sym (ap (λ (found : Option Kind). is_of_other_kind found cell) at) ∙ right)

some-of : {A : Type 0} (found : Option A) → is_none found ≡ false → (x : A) × (found ≡ Some x)
some-of None is = absurd cc
some-of (Some x) is = (x, refl)

-- a column with a kind has an index
pub column_index-of : (found : Option ColumnIndex) (kind : Kind) → option_map kind_of found ≡ Some kind → (s : ColumnIndex) × (found ≡ Some s)
column_index-of None kind is = absurd (none-some kind is)
column_index-of (Some s) kind is = (s, refl)

-- the number of a place that exists is below the number of flags
pub place-below : (columns : List (List Cell)) (flags : List Bool) (p : ℕ) → is_none (slice_get (places_of columns flags) p) ≡ false → p < length flags
place-below columns flags p is =
    let found = some-of (slice_get (places_of columns flags) p) is in
    slice_get_within flags p found.0.alive (flag-there columns flags p found.0 found.1)

pub remove-right : (schema : List Kind) (limits : Limits) (places : List Place) (p : ℕ) → first_of (edit_faults schema limits places (edit.Remove p)) ≡ None → is_none (slice_get places p) ≡ false
remove-right schema limits places p free = (free-head (is_none (slice_get places p)) refusal.NoRow _ free).0

module _ {K : Type 0} (s : LiveState K) (e : Edit) (free : edit_due s e ≡ None) where
  parts : (first_of (edit_faults s.table.schema s.table.limits s.table.places e) ≡ None) × (first_of (obstacles s e) ≡ None)
  parts = free-parts (edit_faults s.table.schema s.table.limits s.table.places e) (obstacles s e) free

  -- the edit has no fault of its own
  pub faultless : first_of (edit_faults s.table.schema s.table.limits s.table.places e) ≡ None
  faultless = parts.0

  -- the table may still be edited
  pub edits-left : s.table.edits ≢ s.table.limits.edits
  edits-left =
      let here = (free-parts (absents s.rows (group_of s e)) _ parts.1).1 in
      let space = (free-head (overfills s.table.schema s.table.limits e s.table.places) refusal.ChunkFull _ here).1 in
      let used = (free-parts (no_space s e) _ space).1 in
      eqb-false s.table.edits s.table.limits.edits (free-head (s.table.edits == s.table.limits.edits) refusal.EditsUsedUp _ used).0

  -- no object of the row group is away
  pub all-here : first_of (absents s.rows (group_of s e)) ≡ None
  all-here = (free-parts (absents s.rows (group_of s e)) _ parts.1).0
