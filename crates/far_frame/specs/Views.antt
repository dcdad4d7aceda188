-- Views of a table that lend its places.
use Rattle.std.specs.Prelude.{ℕ, zero, suc, ◌+◌, Bool, List, [], ◌++◌, length, Option}
use Rattle.far_types.specs.declared.refusal.Refusal.{Refusal}
use Rattle.far_types.specs.FirstOf.{first_of}
use Rattle.far_types.specs.Table.{groups}
use Rattle.far_rows.specs.Rows.{Rows}
use Rattle.far_rows.specs.Refusing.{absents}
use Rattle.far_table.specs.State.{LiveState}

module _ {K : Type 0} where
  -- the tests for absence of the objects of `count` row groups from one on, by row group and then by column
  abbrev pub absents_of : Rows K → ℕ → ℕ → List (Bool × Refusal)
  absents_of r g zero = []
  absents_of r g (suc count) = absents r g ++ absents_of r (g + 1) count

  -- why lending every place is refused: the first object that is away, in the lowest row group and there in the lowest column
  abbrev pub away : LiveState K → Option Refusal
  away s = first_of (absents_of s.rows 0 (groups s.table.limits.group (length s.table.places)))
