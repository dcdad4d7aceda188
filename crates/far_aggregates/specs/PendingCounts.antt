-- The row groups that an aggregate has still to scan.
use Rattle.std.specs.Prelude.{ℕ, Option}
use Rattle.std.specs.List.{position}
use Rattle.far_types.specs.Table.{Registered, left}

-- how many row groups are pending in an aggregate, and the first of them, if there is one
abbrev pub pending_of : Registered → ℕ × Option ℕ
pending_of aggregate = (left aggregate.pending, position (λ flag. flag) aggregate.pending)
