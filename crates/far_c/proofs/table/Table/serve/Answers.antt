use Rattle.std.proofs.Common.{◌≤◌, ◌^◌, ℕ, sym, subst}
use Rattle.far_c.proofs.Fitting.{fits, quiet}
use Rattle.far_c.proofs.table.Table.serve.Goals as goal

pub invariant_of-self : goal.invariant_of-self
invariant_of-self c = subst (λ (n : ℕ). n ≤ 2 ^ 62) (sym (quiet c.self.inside.world c.serve.new.self c.args.step c.serve.result c.requires c.serve.ensures.step)) c.self.invariant

pub returns-clause-fits : goal.returns-clause-fits
returns-clause-fits c = fits c.self.inside.world c.serve.new.self c.args.step c.serve.result c.serve.ensures.step
