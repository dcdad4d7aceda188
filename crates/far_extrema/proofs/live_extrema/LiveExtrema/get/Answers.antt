use Rattle.std.proofs.Common.{sym, ap, ◌∙◌}
use Rattle.std.specs.FinMap as fin
use Rattle.far_extrema.specs.Live.{ExtremaState, all_groups}
use Rattle.far_extrema.proofs.HoldersLaws.{get-all}
use Rattle.far_extrema.proofs.live_extrema.LiveExtrema.get.Goals as goal

pub returns : goal.returns
returns c =
    let holders = c.self.inside.holders in
    let count = c.self.inside.reserved_groups in
    sym (get-all holders count c.args.key.now ∙ c.top_under.ensures count c.self.invariant)
    ∙ ap (λ (live : ExtremaState). fin.get (all_groups live.groups) c.args.key.now) c.self.view_is
