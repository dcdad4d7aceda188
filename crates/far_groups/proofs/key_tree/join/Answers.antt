use Rattle.std.proofs.Common.{refl, take, sym, ap, ◌∙◌, subst, Some}
use Rattle.far_types.proofs.AnswersByKeyMaps.{sorted_distinct, with_all, with_all-push, with_all-joined}
use Rattle.far_types.specs.Effects.{add_count_sums}
use Rattle.far_groups.specs.CountSums.{AreCountSums, with_count_sum}
use Rattle.far_groups.specs.KeyTree.{keyed_by, by_kind}
use Rattle.far_groups.proofs.CountSumsMerge.{CanAddAll, take_whole, take_more, can_add, undone}
use Rattle.far_groups.proofs.KeyTreeLaws.{ascend}
use Rattle.far_groups.proofs.key_tree.join.Goals as goal

pub loop-key-init : goal.loop-key-init
loop-key-init g c =
    let given = c.into_iter-key-iterator.ensures.into_iter_gives in
    let others = c.args.other.now.entries in
    let distinct = sorted_distinct (keyed_by g.K.TreeKey.as_key others) (ascend g.met.K.TreeKey.keeps_order others given.5) in
    record {
      valid_sums = c.requires.valid_sums;
      place = ap (keyed_by g.K.TreeKey.as_key) (sym given.0);
      rest = subst (λ es. CanAddAll (by_kind g.K.TreeKey.as_key c.args.tree.now.entries) (keyed_by g.K.TreeKey.as_key es)) (sym given.0) (can_add (by_kind g.K.TreeKey.as_key c.args.tree.now.entries) (keyed_by g.K.TreeKey.as_key others) distinct c.requires.other_valid_sums c.requires.can_join);
      joined = refl;
    }

pub loop-key-preserved : goal.loop-key-preserved
loop-key-preserved g c =
    let here = ap (keyed_by g.K.TreeKey.as_key) c.in-Some.ensures.steps in
    let others = keyed_by g.K.TreeKey.as_key c.args.other.now.entries in
    let more = take_more c.loop-key.done others (keyed_by g.K.TreeKey.as_key c.next.new.self) (Some (g.K.TreeKey.as_key c.in-Some.key.now), c.in-Some.count_sum.now) (c.loop-key.invariant.place ∙ here) in
    let start = by_kind g.K.TreeKey.as_key c.args.tree.now.entries in
    record {
      valid_sums = c.in-Ok.ensures.valid_sums;
      place = more.1;
      rest = subst (λ m. CanAddAll m (keyed_by g.K.TreeKey.as_key c.next.new.self)) (sym c.in-Ok.ensures.ok) (subst (CanAddAll (by_kind g.K.TreeKey.as_key c.loop-key.tree.entries)) here c.loop-key.invariant.rest).2;
      joined =
          c.in-Ok.ensures.ok
          ∙ ap (λ m. with_count_sum m (Some (g.K.TreeKey.as_key c.in-Some.key.now)) c.in-Some.count_sum.now) c.loop-key.invariant.joined
          ∙ sym (with_all-push add_count_sums start (take c.loop-key.done others) (Some (g.K.TreeKey.as_key c.in-Some.key.now), c.in-Some.count_sum.now))
          ∙ ap (with_all add_count_sums start) (sym more.0);
    }

pub retract_first-requires-clause-there : goal.retract_first-requires-clause-there
retract_first-requires-clause-there g c =
    let others = c.args.other.now.entries in
    let distinct = sorted_distinct (keyed_by g.K.TreeKey.as_key others) (ascend g.met.K.TreeKey.keeps_order others c.into_iter-key-iterator.ensures.into_iter_gives.5) in
    (undone (by_kind g.K.TreeKey.as_key c.args.tree.now.entries) (by_kind g.K.TreeKey.as_key c.add_under.new.tree.entries) c.loop-key.done (keyed_by g.K.TreeKey.as_key others) distinct c.requires.valid_sums (ap (by_kind g.K.TreeKey.as_key) c.in-Err.ensures.err ∙ c.loop-key.invariant.joined)).0

pub returns-in-Err-clause-err : goal.returns-in-Err-clause-err
returns-in-Err-clause-err g c =
    let others = c.args.other.now.entries in
    let distinct = sorted_distinct (keyed_by g.K.TreeKey.as_key others) (ascend g.met.K.TreeKey.keeps_order others c.into_iter-key-iterator.ensures.into_iter_gives.5) in
    c.retract_first.ensures ∙ (undone (by_kind g.K.TreeKey.as_key c.args.tree.now.entries) (by_kind g.K.TreeKey.as_key c.add_under.new.tree.entries) c.loop-key.done (keyed_by g.K.TreeKey.as_key others) distinct c.requires.valid_sums (ap (by_kind g.K.TreeKey.as_key) c.in-Err.ensures.err ∙ c.loop-key.invariant.joined)).1

pub returns-in-Err-clause-valid_sums : goal.returns-in-Err-clause-valid_sums
returns-in-Err-clause-valid_sums g c = subst AreCountSums (sym (returns-in-Err-clause-err g c)) c.requires.valid_sums

pub returns-clause-ok : goal.returns-clause-ok
returns-clause-ok g c =
    let others = c.args.other.now.entries in
    let distinct = sorted_distinct (keyed_by g.K.TreeKey.as_key others) (ascend g.met.K.TreeKey.keeps_order others c.into_iter-key-iterator.ensures.into_iter_gives.5) in
    c.loop-key.invariant.joined
    ∙ ap (with_all add_count_sums (by_kind g.K.TreeKey.as_key c.args.tree.now.entries)) (take_whole c.loop-key.done (keyed_by g.K.TreeKey.as_key others) (c.loop-key.invariant.place ∙ ap (keyed_by g.K.TreeKey.as_key) c.in-None.ensures.steps.0))
    ∙ with_all-joined add_count_sums (by_kind g.K.TreeKey.as_key c.args.tree.now.entries) (keyed_by g.K.TreeKey.as_key others) distinct
