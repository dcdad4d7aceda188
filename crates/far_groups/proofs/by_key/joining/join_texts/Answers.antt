use Rattle.std.proofs.Common.{rules, ◌≡◌, length}
use Rattle.far_types.specs.declared.key.Key.TheVariants.{Text}
use Rattle.far_groups.specs.ByKey.{totals_in}
use Rattle.far_groups.proofs.ByKeyLaws.{joined_none}
use Rattle.far_groups.proofs.by_key.joining.join_texts.Goals as goal

pub returns-then-is_empty-clause-ok : goal.returns-then-is_empty-clause-ok
returns-then-is_empty-clause-ok c =
    let empty : length c.args.more.now.entries ≡ 0 = search rules in
    joined_none Text (totals_in c.args.by_key.now) c.args.more.now.entries empty
