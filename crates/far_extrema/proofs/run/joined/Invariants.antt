use Rattle.std.proofs.Common.{◌≡◌, drop}
use Rattle.far_types.specs.Effects.{join_min_maxes, merge_two}
use Rattle.far_extrema.specs.Runs.{joined_values}
use Rattle.far_extrema.proofs.run.joined.Given as goal

abbrev pub invariant-loop-value : goal.invariant-loop-value
invariant-loop-value l = merge_two join_min_maxes l.top (joined_values (drop l.value-index l.values)) ≡ joined_values l.values
