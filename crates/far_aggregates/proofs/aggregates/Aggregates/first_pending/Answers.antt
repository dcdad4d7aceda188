use Rattle.std.proofs.Common.{◌≡◌, ℕ, false, ap, sym, ◌∙◌, slice_get}
use Rattle.far_aggregates.specs.Aggregates.{flattened}
use Rattle.far_aggregates.specs.Scans.{has_pending}
use Rattle.far_aggregates.proofs.AggregatesLaws.{left-at, if_none}
use Rattle.far_aggregates.proofs.aggregates.Aggregates.first_pending.Goals as goal

pub returns-clause-none : goal.returns-clause-none
returns-clause-none c =
    let same = c.as_slice.ensures.value ∙ c.self.view_is in
    if_none ((a : ℕ) → (g : ℕ) → has_pending g (flattened (slice_get c.as_slice.result.now a)) ≡ false) _ c.first_pending.result
    (λ h a g. left-at c.args.self.now a g ∙ ap (λ registry. has_pending g (flattened (slice_get registry a))) (sym same) ∙ h a g) c.first_pending.ensures.none
