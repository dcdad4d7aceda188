use Rattle.std.proofs.Common.{Some, subst}
use Rattle.far_extrema.specs.Entries.{IsTextAt}
use Rattle.far_extrema.proofs.texts.put.Goals as goal

pub returns-clause-ok : goal.returns-clause-ok
returns-clause-ok c =
    subst (λ t. IsTextAt c.args.texts.now.entries t (Some c.args.holder) c.insert.new.self.entries) c.in_ok-clone.ensures.equal c.in_ok-insert.ensures.updates.0
