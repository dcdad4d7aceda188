use Rattle.std.proofs.Common.{sym, ap, ◌∙◌, length, rules}
use Rattle.std.specs.Prelude.{sum_by}
use Rattle.far_log.specs.Stacking.{Stacked}
use Rattle.far_log.proofs.StackingLaws.{filled-lens}
use Rattle.far_log.proofs.stacks.Stacks.filled.Goals as goal

pub returns : goal.returns
returns g c = search rules ∙ sym (filled-lens c.self.inside.size c.self.inside.block.items.items 0 c.self.inside.lens.items c.self.invariant.within) ∙ ap (λ (s : Stacked g.row.T.Denot). sum_by (λ xs. length xs) s.stacks) c.self.view_is
