use Rattle.std.proofs.Common.{sym, subst}
use Rattle.far_groups.specs.CountSums.{totals_of, AreCountSums}
use Rattle.far_groups.proofs.WalksMerge.{addends_fit, walked_join, AreCountSums-joined}
use Rattle.far_groups.proofs.joins.join_walking.Goals as goal

pub add_all_existing-requires : goal.add_all_existing-requires
add_all_existing-requires c = record {
  addends = addends_fit c.args.count_sums.now.entries c.reserve_keys.new.count_sums.entries c.args.other.now.entries c.in_ok-reserve_keys.ensures.ok c.requires.valid_sums c.requires.other_valid_sums;
}

pub returns-clause-ok : goal.returns-clause-ok
returns-clause-ok c =
    walked_join c.args.count_sums.now.entries c.reserve_keys.new.count_sums.entries c.args.other.now.entries c.in_ok-reserve_keys.ensures.ok c.add_all_existing.new.count_sums.entries c.add_all_existing.ensures

pub returns-clause-valid_sums : goal.returns-clause-valid_sums
returns-clause-valid_sums c =
    subst AreCountSums (sym (returns-clause-ok c))
    (AreCountSums-joined (totals_of c.args.count_sums.now.entries) (totals_of c.args.other.now.entries) c.requires.valid_sums c.requires.other_valid_sums c.requires.can_join)
