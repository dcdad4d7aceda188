use Rattle.std.proofs.Common.{sym, ap, ◌∙◌}
use Rattle.std.specs.FinMap as fin
use Rattle.far_extrema.specs.Live.{ExtremaState, after_reserve}
use Rattle.far_extrema.proofs.HoldersLaws.{get-reserved, same-groups}
use Rattle.far_extrema.proofs.HoldersReserve.{err_any}
use Rattle.far_extrema.proofs.live_extrema.LiveExtrema.reserve_for.Goals as goal

pub returns-in_err-reserve_all-clause-err : goal.returns-in_err-reserve_all-clause-err
returns-in_err-reserve_all-clause-err c =
    let groups = ap (λ (live : ExtremaState). live.groups) c.self.view_is in
    err_any c.from_residual.result (same-groups c.self.inside.holders c.reserve_all.new.holders c.self.inside.reserved_groups c.in_err-reserve_all.ensures.min_maxes ∙ groups)

pub returns-clause-groups : goal.returns-clause-groups
returns-clause-groups c =
    let groups = ap (λ (live : ExtremaState). live.groups) c.self.view_is in
    ap (λ (live : ExtremaState). live.groups) c.make_room.ensures
    ∙ ap (after_reserve c.args.group) (same-groups c.self.inside.holders c.reserve_all.new.holders c.self.inside.reserved_groups c.in_ok-reserve_all.ensures.min_maxes ∙ groups)

pub returns-clause-reserved : goal.returns-clause-reserved
returns-clause-reserved c = λ key there none. c.in_ok-reserve_all.ensures.reserved key (λ n. there (ap (λ e. fin.get e key) (sym c.min_maxes.ensures) ∙ n))
    (sym (get-reserved c.reserve_all.new.holders key) ∙ ap (λ (live : ExtremaState). fin.get live.reserved key) (sym c.make_room.ensures) ∙ none)

pub invariant_of-self : goal.invariant_of-self
invariant_of-self c = λ g key past. c.in_err-reserve_all.ensures.min_maxes g key ∙ c.self.invariant g key past
