-- After an edit the numbers of the places still fit 64 bits.
use Rattle.std.proofs.Common.{◌≡◌, ℕ, zero, suc, true, List, [], ◌∷◌, ◌++◌, ℤ, get_or, set, replicate, Option, None, refl, sym, subst}
use Rattle.far_types.specs.declared.cell.Cell.{Cell}
use Rattle.far_types.specs.Cells.{CellFits, RowFits}
use Rattle.far_types.specs.Edits.{change_at, with_cell, after_remove}
use Rattle.far_types.specs.Lent.{int_cell, text_cell}
use Rattle.far_types.specs.Table.{Place}
use Rattle.far_rows.specs.declared.column_index.ColumnIndex.{ColumnIndex}
use Rattle.far_rows.specs.declared.column_index.ColumnIndex.TheVariants as column_index
use Rattle.far_rows.specs.ColumnIndexes.{Values, cell_in, row_of}
use Rattle.far_aggregates.specs.Accumulators.{PlacesFit}

pub fit-appended : (row : List Cell) (places : List Place) → PlacesFit places → RowFits row → PlacesFit (places ++ record { cells = row; alive = true } ∷ [])
fit-appended row [] fit fits = (fits, tt)
fit-appended row (place ∷ places) fit fits = (fit.0, fit-appended row places fit.1 fits)

row-set : (c : ℕ) (cell : Cell) (row : List Cell) → RowFits row → CellFits cell → RowFits (set row c cell)
row-set c cell [] fit fits = tt
row-set zero cell (first ∷ row) fit fits = (fits, fit.1)
row-set (suc c) cell (first ∷ row) fit fits = (fit.0, row-set c cell row fit.1 fits)

pub fit-set : (c : ℕ) (cell : Cell) (p : ℕ) (places : List Place) → PlacesFit places → CellFits cell → PlacesFit (change_at (with_cell c cell) p places)
fit-set c cell p [] fit fits = tt
fit-set c cell zero (place ∷ places) fit fits = (row-set c cell place.cells fit.0 fits, fit.1)
fit-set c cell (suc p) (place ∷ places) fit fits = (fit.0, fit-set c cell p places fit.1 fits)

pub fit-removed : (p : ℕ) (places : List Place) → PlacesFit places → PlacesFit (change_at after_remove p places)
fit-removed p [] fit = tt
fit-removed zero (place ∷ places) fit = fit
fit-removed (suc p) (place ∷ places) fit = (fit.0, fit-removed p places fit.1)

abbrev nothing : {A : Type 0} → Option A
nothing = None

none-at : {A : Type 0} (n i : ℕ) → get_or (replicate n (nothing {A = A})) i None ≡ None
none-at zero i = refl
none-at (suc n) zero = refl
none-at (suc n) (suc i) = none-at n i

-- the numbers of a row of default values fit 64 bits
pub default_value-fits : (n m : ℕ) (values : Values) → values ≡ record { numbers = replicate n None; texts = replicate m None } → (column_indexes : List ColumnIndex) → RowFits (row_of column_indexes values)
default_value-fits n m values is column_indexes = subst (λ (v : Values). RowFits (row_of column_indexes v)) (sym is) (each column_indexes) where
  default_value : Values
  default_value = record { numbers = replicate n None; texts = replicate m None }

  one : (s : ColumnIndex) → CellFits (cell_in default_value s)
  one (column_index.Number i) = subst (λ (x : Option ℤ). CellFits (int_cell x)) (sym (none-at n i)) tt
  one (column_index.Text i) = subst (λ (x : Option (List ℕ)). CellFits (text_cell x)) (sym (none-at m i)) tt

  each : (some : List ColumnIndex) → RowFits (row_of some default_value)
  each [] = tt
  each (s ∷ some) = (one s, each some)
