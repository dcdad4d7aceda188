use Rattle.std.proofs.Common.{◌-◌, sym, ap, ◌∙◌, subst}
use Rattle.far_types.specs.Answers.{Totals, totals}
use Rattle.far_types.specs.Effects.{joined_totals}
use Rattle.far_groups.specs.Live.{TotalsState, CanJoin}
use Rattle.far_groups.specs.ByKey.{totals_in}
use Rattle.far_groups.proofs.FoldsLaws.{can_fold, with_pairs-joined}
use Rattle.far_groups.proofs.live_totals.LiveTotals.fold_in.Goals as goal

pub fold_all-requires-clause-can : goal.fold_all-requires-clause-can
fold_all-requires-clause-can c =
    let same = ap (λ (live : TotalsState). live.totals) c.self.view_is in
    can_fold (totals_in c.self.inside.count_sums) c.args.pairs.now c.requires.fits (subst (λ (m : Totals). CanJoin m (totals c.args.pairs.now)) (sym same) c.requires.can_join)

pub returns-clause-ok : goal.returns-clause-ok
returns-clause-ok c =
    let left = ap (λ (live : TotalsState). live.left) c.self.view_is in
    let all =
    c.in_ok-fold_all.ensures.ok
    ∙ with_pairs-joined (totals_in c.self.inside.count_sums) c.args.pairs.now
    ∙ ap (λ (m : Totals). joined_totals m (totals c.args.pairs.now)) (ap (λ (live : TotalsState). live.totals) c.self.view_is) in
    λ i. record { left = left i - 1; totals = all i }
