use Rattle.std.proofs.Common.{rules, ◌≡◌, Some, subst, to_z, of_z}
use Rattle.std.specs.Int.{w64}
use Rattle.far_extrema.specs.Numbers.{IsSetAt}
use Rattle.far_extrema.proofs.NumbersLaws.{set_keeps}
use Rattle.far_extrema.proofs.number_tree.put.Goals as goal

pub returns-clause-ok : goal.returns-clause-ok
returns-clause-ok c =
    let n = c.args.number.now in
    let same : to_z w64 (of_z w64 n) ≡ n = search rules in
    subst (λ m. IsSetAt c.args.tree.now.entries m (Some c.args.holder) c.insert.new.self.entries) same c.in_ok-insert.ensures.updates.0

pub returns-clause-others : goal.returns-clause-others
returns-clause-others c =
    set_keeps c.args.tree.now.entries c.args.number.now (Some c.args.holder) c.insert.new.self.entries (returns-clause-ok c)
