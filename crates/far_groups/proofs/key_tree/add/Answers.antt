use Rattle.std.proofs.Common.{refl, sym, ◌∙◌, subst, Some}
use Rattle.far_groups.specs.CountSums.{AreCountSums}
use Rattle.far_groups.specs.KeyTree.{by_kind}
use Rattle.far_groups.proofs.CountSumsLaws.{AreCountSums-with}
use Rattle.far_groups.proofs.KeyTreeLaws.{put_new}
use Rattle.far_groups.proofs.key_tree.add.Goals as goal

pub returns-in_ok-insert-clause-ok : goal.returns-in_ok-insert-clause-ok
returns-in_ok-insert-clause-ok g c =
    put_new g.met.K.TreeKey.keeps_order c.args.tree.now.entries c.add_existing.new.tree.entries c.insert.new.self.entries c.args.key c.args.key c.args.more
    (c.add_existing.ensures.absent c.if-not-add_existing.true) refl (sym c.add_existing.ensures.there ∙ c.if-not-add_existing.true) c.in_ok-insert.ensures.updates.0

pub returns-in_ok-insert-clause-valid_sums : goal.returns-in_ok-insert-clause-valid_sums
returns-in_ok-insert-clause-valid_sums g c =
    subst AreCountSums (sym (returns-in_ok-insert-clause-ok g c)) (AreCountSums-with (by_kind g.K.TreeKey.as_key c.args.tree.now.entries) (Some (g.K.TreeKey.as_key c.args.key)) c.args.more c.requires.valid_sums c.requires.more_valid_sums c.requires.capacity)
