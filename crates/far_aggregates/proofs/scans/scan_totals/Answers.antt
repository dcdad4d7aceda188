use Rattle.std.proofs.Common.{ℕ, ◌-◌, List, sym, ap, ◌∙◌, subst}
use Rattle.std.proofs.lemmas.Result.{on_ok_weaker}
use Rattle.far_types.specs.Answers.{Totals, totals}
use Rattle.far_types.specs.Effects.{joined_totals}
use Rattle.far_types.specs.Pairs.{Pair}
use Rattle.far_groups.specs.Live.{TotalsState, CanJoin}
use Rattle.far_aggregates.proofs.ScansLaws.{pairs-lent}
use Rattle.far_aggregates.proofs.scans.scan_totals.Goals as goal

abbrev live_of : ℕ → Totals → TotalsState
live_of left totals = record { left = left; totals = totals }

pub fold_into-requires-clause-can_join : goal.fold_into-requires-clause-can_join
fold_into-requires-clause-can_join g c =
    let here = g.G.LendGroup.places c.args.group.now in
    let same = pairs-lent c.args.spec.now here c.needed_columns-columns.result c.alive.result.now c.needed_columns-columns.ensures c.alive.ensures in
    subst (λ (ps : List Pair). CanJoin c.args.live.now.totals (totals ps)) (sym same) c.requires.can_join

pub returns-clause-ok : goal.returns-clause-ok
returns-clause-ok g c =
    let here = g.G.LendGroup.places c.args.group.now in
    let live = c.args.live.now in
    let same = pairs-lent c.args.spec.now here c.needed_columns-columns.result c.alive.result.now c.needed_columns-columns.ensures c.alive.ensures in
    on_ok_weaker c.fold_into.result (λ is. is ∙ ap (λ (ps : List Pair). live_of (live.left - 1) (joined_totals live.totals (totals ps))) same) c.fold_into.ensures.ok
