use Rattle.std.proofs.Common.{sym}
use Rattle.far_prefetcher.proofs.StridesLaws.{last_four}
use Rattle.far_prefetcher.proofs.history.History.last_four.Goals as goal

pub returns-clause-four : goal.returns-clause-four
returns-clause-four c =
    rw (← c.self.view_is)
    (last_four _ _ _ _ _ (sym c.in_ok-a.ensures) (sym c.in_ok-b.ensures) (sym c.in_ok-c.ensures) (sym c.in_ok-d.ensures))
