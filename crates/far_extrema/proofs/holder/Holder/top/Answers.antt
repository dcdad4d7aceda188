use Rattle.std.proofs.Common.{◌≡◌, sym, ap, subst, ◌∙◌}
use Rattle.far_types.specs.Effects.{join_min_maxes, merge_two}
use Rattle.far_extrema.specs.Spreads.{IsTopOf}
use Rattle.far_extrema.specs.Holders.{Holding}
use Rattle.far_extrema.specs.Runs.{with_last, min_maxes_of, value_of}
use Rattle.far_extrema.proofs.LastLaws.{top_with_last}
use Rattle.far_extrema.proofs.holder.Holder.top.Goals as goal

pub returns-in-Some-clause-top : goal.returns-in-Some-clause-top
returns-in-Some-clause-top c =
    let last = c.self.inside.last in
    let mm = min_maxes_of c.self.inside.others in
    let same : c.either.result ≡ merge_two join_min_maxes c.top_in.result (value_of last) = c.either.ensures ∙ ap (merge_two join_min_maxes c.top_in.result) (sym (ap value_of c.in-Some.is)) in
    subst (λ (h : Holding). IsTopOf h.min_maxes c.either.result) c.self.view_is
    (subst (IsTopOf (with_last last mm)) (sym same) (top_with_last last mm c.top_in.result c.self.invariant.0 c.top_in.ensures.top))
