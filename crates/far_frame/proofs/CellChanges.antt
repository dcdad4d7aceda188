-- What a change of a cell may rely on, if the rows accept it and the aggregates are up to date.
use Rattle.std.proofs.Common.{◌≡◌, ℕ, ◌/◌, ◌<◌, ◌≤◌, List, length, map, None, Some, Ok, Err, sym, subst, arith}
use Rattle.std.specs.Prelude.{IsSome, option_map, slice_get}
use Rattle.far_types.specs.declared.cell.Cell.{Cell}
use Rattle.far_types.specs.declared.limits.Limits.{Limits}
use Rattle.far_types.specs.declared.refusal.Refusal.{Refusal}
use Rattle.far_types.specs.declared.refusal.Refusal.TheVariants as refusal
use Rattle.far_types.specs.Bounds.{AreLimits}
use Rattle.far_types.specs.FirstOf.{first_of}
use Rattle.far_types.specs.Table.{Place}
use Rattle.far_rows.specs.declared.new_cell.NewCell.{NewCell}
use Rattle.far_rows.specs.ColumnIndexes.{kind_of}
use Rattle.far_rows.specs.Effects.{KeepsObjects}
use Rattle.far_rows.specs.Places.{places_in}
use Rattle.far_rows.specs.Refusing.{absents}
use Rattle.far_rows.specs.Setting.{cell_of}
use Rattle.far_aggregates.specs.Accumulators.{RegistryEntry, Keeps, PlacesFit, registered_of}
use Rattle.far_aggregates.specs.Pairs.{alive_with}
use Rattle.far_aggregates.specs.Pending.{AreUpToDate}
use Rattle.far_table.specs.Edits.{IsPut}
use Rattle.far_table.specs.TableRows.{TableRows}
use Rattle.far_frame.specs.Editing.{ChangesCell, MayChangeCell}
use Rattle.far_frame.proofs.LiveEdits.{live-alone, keeps-fit, set-below, set-here, set-row, set-column}

module _ {K : Type 0} {content : K → List ℕ} {t : TableRows K} {was : List RegistryEntry} {column place : ℕ} {value : NewCell} (may : MayChangeCell content t was column place value) where
  -- the place is one of the table
  pub cell-below : place < length t.places
  cell-below = set-below t place column (cell_of value) (sym may.put.due)

  -- it is alive with its row
  pub cell-row : (row : List Cell) → option_map (λ (p : Place). p.cells) (slice_get t.places place) ≡ Some row → slice_get t.places place ≡ Some (alive_with row)
  cell-row = set-row t place column (cell_of value) (sym may.put.due)

  -- the row has the column
  pub cell-column : t.places ≡ places_in content t.held → map kind_of t.held.column_indexes ≡ t.schema → (row : List Cell) → option_map (λ (p : Place). p.cells) (slice_get t.places place) ≡ Some row → IsSome (slice_get row column)
  cell-column = set-column t place column (cell_of value) (sym may.put.due) content

  -- all objects of its row group are local
  pub cell-here : first_of (absents t.held (place / t.limits.group)) ≡ None
  cell-here = set-here t place column (cell_of value) (sym may.put.due)

  -- the aggregates are up to date in the form that their calls require
  pub up-to-date : {limits : Limits} → limits ≡ t.limits → AreLimits t.limits → length t.places ≤ t.limits.places → PlacesFit t.places → AreUpToDate limits.group t.places was
  up-to-date {limits} same bounds few fit = keeps-fit t 0 was limits same bounds few fit (live-alone t was may.kept may.checked)

  -- a call that wrote the value
  pub cell-changed : {A : Type 0} {x : A} {is_of : K → List ℕ → Type 0} {new : TableRows K} {now : List RegistryEntry} → IsPut content t new column place value → Keeps new.limits.group new.places now → registered_of now ≡ registered_of was → KeepsObjects is_of t.held new.held
      → ChangesCell content t was column place value {A = A} is_of new now (Ok x)
  cell-changed put kept registered objects = record { put = put; err = tt; memory = tt; kept = kept; registered = registered; objects = objects }

  -- a call that ran out of memory
  pub cell-unchanged : {A : Type 0} {e : Refusal} {is_of : K → List ℕ → Type 0} {new : TableRows K} {now : List RegistryEntry} → new ≡ t → e ≡ refusal.NoMemory → Keeps t.limits.group t.places now → registered_of now ≡ registered_of was
      → ChangesCell content t was column place value {A = A} is_of new now (Err e)
  cell-unchanged {A} {e} {is_of} {new} {now} same memory kept registered = record {
    put = tt;
    err = same;
    memory = memory;
    kept = subst (λ (rows : TableRows K). Keeps rows.limits.group rows.places now) (sym same) kept;
    registered = registered;
    objects = subst (λ (rows : TableRows K). KeepsObjects is_of t.held rows.held) (sym same)
        (record { number_store = λ id here. here; text_store = λ id here. here; number_versions = λ o. omega arith; text_versions = λ o. omega arith });
  }
