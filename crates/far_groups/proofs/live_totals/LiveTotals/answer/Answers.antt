use Rattle.std.proofs.Common.{ap, ◌∙◌}
use Rattle.far_types.specs.declared.answer.Answer.TheVariants as answer
use Rattle.far_types.specs.Answers.{lines_by_key}
use Rattle.far_groups.proofs.live_totals.LiveTotals.answer.Goals as goal

pub returns-clause-ok : goal.returns-clause-ok
returns-clause-ok c = ap answer.Totals (c.new.ensures ∙ c.in_ok-lines.ensures.ok ∙ ap (λ live. lines_by_key live.totals) c.self.view_is)
