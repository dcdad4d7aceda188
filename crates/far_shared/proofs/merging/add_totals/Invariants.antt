use Rattle.std.proofs.Common.{◌≡◌, length}
use Rattle.std.specs.Vec.Iter.{into_iter_items, into_iter_len}
use Rattle.far_types.specs.Effects.{add_count_sums}
use Rattle.far_types.proofs.AnswersByKeyMaps.{with_all}
use Rattle.far_groups.specs.CountSums.{totals_of}
use Rattle.far_shared.specs.Lines.{count_sums_in}
use Rattle.far_shared.proofs.merging.add_totals.Given as goal

abbrev pub invariant-loop-key : goal.invariant-loop-key
invariant-loop-key l = (into_iter_len l.key-iterator ≡ length (into_iter_items l.key-iterator)) × (with_all add_count_sums (totals_of l.count_sums.entries) (count_sums_in (into_iter_items l.key-iterator)) ≡ with_all add_count_sums (totals_of l.initial.count_sums.entries) (count_sums_in l.fn.lines))
