use Rattle.std.proofs.Common.{sym, ◌∙◌}
use Rattle.far_types.proofs.AnswersByKeyMaps.{get_at}
use Rattle.far_extrema.proofs.min_maxes.min_max_under.Goals as goal

pub returns : goal.returns
returns c = c.copied.ensures ∙ c.get.ensures.value ∙ sym (get_at c.args.min_maxes.now.entries c.args.key.now)
