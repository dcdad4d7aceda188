use Rattle.std.proofs.Common.{◌≡◌, arith}
use Rattle.sha2.specs.Sha256.{hash_after, initial_hash_256}
use Rattle.far_host.proofs.LaneLaws.{hashed_next, hashed_whole}
use Rattle.far_host.proofs.lanes.hash_values.Goals as goal

pub each-init : goal.each-init
unfolding hash_after
each-init c =
    let initial = c.initial_hash_values-state.ensures in
    (initial 0 (omega arith), initial 1 (omega arith), initial 2 (omega arith), initial 3 (omega arith))

pub each-preserved : goal.each-preserved
each-preserved c =
    let next = hashed_next initial_hash_256 in (
      next c.args.first.now _ _ c.each.block c.each.invariant.0 (c.compress.ensures 0 _ (omega arith) c.words_of-words.ensures.first),
      next c.args.second.now _ _ c.each.block c.each.invariant.1 (c.compress.ensures 1 _ (omega arith) c.words_of-words.ensures.second),
      next c.args.third.now _ _ c.each.block c.each.invariant.2 (c.compress.ensures 2 _ (omega arith) c.words_of-words.ensures.third),
      next c.args.fourth.now _ _ c.each.block c.each.invariant.3 (c.compress.ensures 3 _ (omega arith) c.words_of-words.ensures.fourth),
    )

pub returns-clause-first : goal.returns-clause-first
returns-clause-first c =
    let done : c.each.block ≡ c.args.blocks = omega arith in
    hashed_whole initial_hash_256 c.args.first.now c.padding-last.result _ _ c.args.blocks c.requires.first c.padding-last.ensures
    (rw done at c.each.invariant.0) (c.compress-2.ensures 0 _ (omega arith) c.words_of.ensures.first)

pub returns-clause-second : goal.returns-clause-second
returns-clause-second c =
    let done : c.each.block ≡ c.args.blocks = omega arith in
    hashed_whole initial_hash_256 c.args.second.now c.padding-last.result _ _ c.args.blocks c.requires.second c.padding-last.ensures
    (rw done at c.each.invariant.1) (c.compress-2.ensures 1 _ (omega arith) c.words_of.ensures.second)

pub returns-clause-third : goal.returns-clause-third
returns-clause-third c =
    let done : c.each.block ≡ c.args.blocks = omega arith in
    hashed_whole initial_hash_256 c.args.third.now c.padding-last.result _ _ c.args.blocks c.requires.third c.padding-last.ensures
    (rw done at c.each.invariant.2) (c.compress-2.ensures 2 _ (omega arith) c.words_of.ensures.third)

pub returns-clause-fourth : goal.returns-clause-fourth
returns-clause-fourth c =
    let done : c.each.block ≡ c.args.blocks = omega arith in
    hashed_whole initial_hash_256 c.args.fourth.now c.padding-last.result _ _ c.args.blocks c.requires.fourth c.padding-last.ensures
    (rw done at c.each.invariant.3) (c.compress-2.ensures 3 _ (omega arith) c.words_of.ensures.fourth)
