use Rattle.std.proofs.Common.{sym, ◌∙◌, subst}
use Rattle.far_groups.specs.CountSums.{totals_of, AreCountSums}
use Rattle.far_groups.proofs.CountSumsLaws.{AreCountSums-with}
use Rattle.far_types.specs.Effects.{add_count_sums}
use Rattle.far_types.proofs.AnswersByKeyMaps.{inserted_new}
use Rattle.far_groups.proofs.count_sums.add_under.Goals as goal

pub returns-in_ok-insert-clause-ok : goal.returns-in_ok-insert-clause-ok
returns-in_ok-insert-clause-ok c =
    inserted_new add_count_sums c.args.count_sums.now.entries c.add_existing.new.count_sums.entries c.insert.new.self.entries c.in_ok-clone_key.field-0 c.args.key.now c.args.more
    (c.add_existing.ensures.absent c.if-not-add_existing.true) c.in_ok-clone_key.ensures.equal (sym c.add_existing.ensures.there ∙ c.if-not-add_existing.true) c.in_ok-insert.ensures.updates.0

pub returns-in_ok-insert-clause-valid_sums : goal.returns-in_ok-insert-clause-valid_sums
returns-in_ok-insert-clause-valid_sums c =
    subst AreCountSums (sym (returns-in_ok-insert-clause-ok c)) (AreCountSums-with (totals_of c.args.count_sums.now.entries) c.args.key.now c.args.more c.requires.valid_sums c.requires.more_valid_sums c.requires.capacity)
