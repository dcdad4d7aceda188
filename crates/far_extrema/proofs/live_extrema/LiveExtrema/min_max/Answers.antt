use Rattle.std.proofs.Common.{sym, ap, ◌∙◌}
use Rattle.std.specs.FinMap as fin
use Rattle.far_extrema.specs.Live.{ExtremaState, group_at}
use Rattle.far_extrema.proofs.HoldersLaws.{get-group_at}
use Rattle.far_extrema.proofs.live_extrema.LiveExtrema.min_max.Goals as goal

pub returns : goal.returns
returns c = c.min_max_in.ensures ∙ sym (get-group_at c.self.inside.holders c.self.inside.reserved_groups c.args.group c.args.key.now c.self.invariant) ∙ ap (λ (live : ExtremaState). fin.get (group_at live.groups c.args.group) c.args.key.now) c.self.view_is
