use Rattle.std.proofs.Common.{◌≡◌, length}
use Rattle.std.specs.Vec.Iter.{into_iter_items, into_iter_len}
use Rattle.far_aggregates.proofs.RecountingLaws.{AreMerged}
use Rattle.far_aggregates.proofs.recounting.answer_of.Given as goal

abbrev pub invariant-loop-partial : goal.invariant-loop-partial
invariant-loop-partial l =
    (into_iter_len l.partial-iterator ≡ length (into_iter_items l.partial-iterator))
    × AreMerged l.spec l.size l.places l.fn.partials.items l.aggregate l.number (into_iter_items l.partial-iterator)
