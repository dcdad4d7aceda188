use Rattle.std.proofs.Common.{◌≡◌, ◌≤◌, ℕ, length, slice_get}
use Rattle.far_aggregates.specs.LeavingOut.{EachLeftOut}
use Rattle.far_aggregates.proofs.leaving_out.leave_out_each.Given as goal

abbrev pub invariant-loop-i : goal.invariant-loop-i
invariant-loop-i l =
    (length l.to_retract ≡ length l.initial.to_retract)
    × EachLeftOut l.deltas l.initial.to_retract l.to_retract
    × ((k : ℕ) → l.i ≤ k → slice_get l.to_retract k ≡ slice_get l.initial.to_retract k)
