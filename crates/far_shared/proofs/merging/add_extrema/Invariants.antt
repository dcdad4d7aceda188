use Rattle.std.proofs.Common.{◌≡◌, length}
use Rattle.std.specs.Vec.Iter.{into_iter_items, into_iter_len}
use Rattle.far_types.specs.Effects.{join_min_maxes}
use Rattle.far_types.proofs.AnswersByKeyMaps.{with_all}
use Rattle.far_shared.specs.Lines.{min_maxes_in}
use Rattle.far_shared.proofs.merging.add_extrema.Given as goal

abbrev pub invariant-loop-key : goal.invariant-loop-key
invariant-loop-key l = (into_iter_len l.key-iterator ≡ length (into_iter_items l.key-iterator)) × (with_all join_min_maxes l.min_maxes (min_maxes_in (into_iter_items l.key-iterator)) ≡ with_all join_min_maxes l.initial.min_maxes (min_maxes_in l.fn.lines))
