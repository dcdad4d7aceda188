use Rattle.std.proofs.Common.{Some, sym, ap, ◌∙◌, subst}
use Rattle.std.specs.FinMap as fin
use Rattle.far_types.specs.declared.key.Key.TheVariants.{Text}
use Rattle.far_types.specs.Keys.{line_cmp}
use Rattle.far_groups.specs.CountSums.{AreCountSums}
use Rattle.far_groups.specs.KeyTree.{by_text}
use Rattle.far_groups.proofs.CountSumsLaws.{AreCountSums-empty}
use Rattle.far_groups.proofs.ByKeyLaws.{new_capacity}
use Rattle.far_groups.proofs.by_key.one_text.Goals as goal

pub add_under-requires-clause-valid_sums : goal.add_under-requires-clause-valid_sums
add_under-requires-clause-valid_sums c = subst AreCountSums (sym (ap by_text c.new-texts.ensures.empty)) AreCountSums-empty

pub add_under-requires-clause-capacity : goal.add_under-requires-clause-capacity
add_under-requires-clause-capacity c =
    let key = Some (Text c.args.text.now) in
    let new = ap (λ es. fin.get (by_text es) key) c.new-texts.ensures.empty ∙ fin.get-empty line_cmp key in
    new_capacity (fin.get (by_text c.new-texts.result.entries) key) c.args.more new c.requires
