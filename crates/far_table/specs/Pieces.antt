-- Pieces of a table that are folded separately and then merged.
-- Internal: no public contract cites it.
use Rattle.std.specs.Prelude.{◌≡◌, ℕ, ◌-◌, ◌*◌, ◌<◌, ◌≤◌, min, List, take, drop, length, slice_index_or, IfOk, IsOk}
use Rattle.std.specs.List.{AllByRecursion, filter_map}
use Rattle.std.specs.Result.{result_ok}
use Rattle.far_types.specs.declared.spec.Spec.{Spec}
use Rattle.far_types.specs.Table.{Place, groups}
use Rattle.far_store.specs.Faults.{faults_in, FailsOnlyIf}
use Rattle.far_offload.specs.declared.partial.PartialDone.{PartialDone}
use Rattle.far_aggregates.specs.Recounting.{partial_at}
use Rattle.far_table.specs.declared.piece.Piece.{Piece}
use Rattle.far_table.specs.declared.recounting.WideCut.{WideCut}

-- the row group at which piece i begins, if each piece but the last has `long` row groups; piece i - 1 ends there
abbrev pub begin_of : ℕ → ℕ → ℕ → ℕ
begin_of count long i = min (i * long) count

-- the places of a range of row groups
abbrev pub run_of : ℕ → ℕ → ℕ → List Place → List Place
run_of size from to places = take ((to - from) * size) (drop (from * size) places)

-- `count` row groups of `size` places are those that `len` places begin
pub record AreBegun (size len count : ℕ) : Type 0 where
  -- each of them has a place
  pub begun : (group : ℕ) → group < count → group * size < len
  -- no place is behind them
  pub all : len ≤ count * size

-- `len` places are cut into pieces, where row groups have `group` places
pub record IsWideCut (group len : ℕ) (wide : WideCut) : Type 0 where
  -- all row groups are cut
  pub all : AreBegun group len wide.cut.count
  -- a piece has the places of `long` row groups
  pub size : wide.size ≡ wide.cut.long * group
  -- at least one
  pub some : 0 < wide.size
  -- the pieces have all places
  pub pieces : wide.pieces ≡ groups wide.size len

-- piece i was folded: its partial is that of a row group as wide as a piece, or folding it was refused. Its meter is 1 if the store
-- failed, otherwise 0
pub record IsPiece (may_fail : Type 0) (spec : Spec) (wide : ℕ) (places : List Place) (i : ℕ)
    (piece : Piece) : Type 0 where
  pub partial : IfOk piece.partial (λ done. done ≡ partial_at spec wide places i)
  pub faults : piece.meter ≡ faults_in piece.partial
  pub cause : FailsOnlyIf may_fail piece.partial

-- pieces 0 to number - 1 were folded
pub record AreFolded (may_fail : Type 0) (spec : Spec) (wide : ℕ) (places : List Place)
    (number : ℕ) (pieces : List Piece) : Type 0 where
  pub len : length pieces ≡ number
  pub each : (i : ℕ) (d : Piece) → i < number
      → IsPiece may_fail spec wide places i (slice_index_or pieces i d)

-- the partial aggregates of the pieces, in order, without those that were refused
abbrev pub all_partials : List Piece → List PartialDone
all_partials pieces = filter_map (λ (piece : Piece). result_ok piece.partial) pieces

-- none of the pieces was refused
abbrev pub AreWhole : List Piece → Type 0
AreWhole pieces = AllByRecursion (λ (piece : Piece). IsOk piece.partial) pieces

-- each piece met at most one fault, because it ended there, and none if the store never fails
abbrev pub HaveFewFaults : Type 0 → List Piece → Type 0
HaveFewFaults may_fail pieces = AllByRecursion
    (λ (piece : Piece). (piece.meter ≤ 1) × (0 < piece.meter → may_fail)) pieces
