-- A change of one cell, in the rows and in the aggregates together.
-- Internal: no public contract cites it.
use Rattle.std.specs.Prelude.{◌≡◌, ℕ, List, Result, OnOk, OnErr, IfErr}
use Rattle.far_types.specs.declared.refusal.Refusal.{Refusal}
use Rattle.far_types.specs.declared.refusal.Refusal.TheVariants as refusal
use Rattle.far_rows.specs.declared.new_cell.NewCell.{NewCell}
use Rattle.far_rows.specs.Effects.{KeepsObjects}
use Rattle.far_aggregates.specs.Accumulators.{RegistryEntry, Keeps, registered_of}
use Rattle.far_table.specs.Edits.{MayPut, IsPut}
use Rattle.far_table.specs.State.{AreChecked}
use Rattle.far_table.specs.TableRows.{TableRows}

module _ {K : Type 0} (content : K → List ℕ) (old : TableRows K) (was : List RegistryEntry)
    (column place : ℕ) (value : NewCell) where
  -- the value may be written to the column of the place
  pub record MayChangeCell : Type 0 where
    -- nothing refuses it
    pub put : MayPut content old column place value
    -- the aggregates are those of the places
    pub kept : Keeps old.limits.group old.places was
    -- they are of columns of the table
    pub checked : AreChecked old.schema (registered_of was)

  -- what a call leaves that is to write the value
  pub record ChangesCell {A : Type 0} (is_of : K → List ℕ → Type 0) (new : TableRows K)
      (now : List RegistryEntry) (result : Result A Refusal) : Type 0 where
    -- an accepted call writes it
    pub put : OnOk result (IsPut content old new column place value)
    -- a refused one changes no row
    pub err : OnErr result (new ≡ old)
    -- it is refused only if memory runs out
    pub memory : IfErr result (λ e. e ≡ refusal.NoMemory)
    -- the aggregates are those of the new places
    pub kept : Keeps new.limits.group new.places now
    -- no aggregate is registered or removed
    pub registered : registered_of now ≡ registered_of was
    -- objects stay with their store
    pub objects : KeepsObjects is_of old.held new.held
