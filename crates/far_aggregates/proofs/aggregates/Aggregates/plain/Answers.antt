use Rattle.std.proofs.Common.{◌≡◌, Some, ap, sym, ◌∙◌, subst, slice_get}
use Rattle.far_aggregates.specs.Aggregates.{flattened}
use Rattle.far_aggregates.specs.Accumulators.{KeepsEntry, registered_in}
use Rattle.far_aggregates.specs.Readings.{plain_in}
use Rattle.far_aggregates.proofs.AggregatesLaws.{entry-at, keeps-at}
use Rattle.far_aggregates.proofs.aggregates.Aggregates.plain.Goals as goal

pub returns : goal.returns
returns c = λ size places h.
    let found : flattened (slice_get c.args.self.now c.args.a) ≡ Some c.in_ok-aggregate.aggregate.now =
    ap (λ registry. flattened (slice_get registry c.args.a)) (sym (c.as_slice.ensures.value ∙ c.self.view_is)) ∙ sym c.in_ok-aggregate.ensures in
    c.plain.ensures size places (subst (KeepsEntry size places) found (keeps-at size places c.args.self.now c.args.a h))
    ∙ ap (plain_in places) (sym (entry-at c.args.self.now c.args.a ∙ ap registered_in found))
