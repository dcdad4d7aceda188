use Rattle.std.proofs.Common.{◌≡◌, ◌*◌, refl, ap, arith}
use Rattle.sha2.specs.Sha256.{add_state, compress, rounds}
use Rattle.sha2.proofs.Schedule256.{IsRoundsAt_at, IsWindow_first}
use Rattle.far_host.specs.Lanes.{hash_lane, word_lane}
use Rattle.far_host.proofs.lanes.compress.Goals as goal

pub turns-init : goal.turns-init
unfolding rounds
turns-init c j b below words =
    let h = hash_lane j c.args.state.now in
    let window = IsWindow_first b (word_lane j c.args.w) words.0 words.1 in
    let four = c.first_four_steps-v.ensures j b h below window refl in
    let eight = c.first_four_steps-v-2.ensures j b h below window four in
    let twelve = c.first_four_steps-v-3.ensures j b h below window eight in
    (window, c.first_four_steps-v-4.ensures j b h below window twelve)

pub turns-preserved : goal.turns-preserved
turns-preserved c j b below words =
    let h = hash_lane j c.args.state.now in
    let four = c.four_steps-v.ensures j b h below (IsRoundsAt_at b h _ _ _ _ (omega arith) (c.turns.invariant j b below words)) in
    let eight = c.four_steps-v-in-turns.ensures j b h below four in
    let twelve = c.four_steps-v-in-turns-2.ensures j b h below eight in
    let all = c.four_steps-v-in-turns-3.ensures j b h below twelve in
    IsRoundsAt_at b h _ _ _ _ (omega arith) all

pub returns : goal.returns
unfolding compress
returns c j b below words =
    let done : 16 * c.turns.turn ≡ 64 = omega (arith, c.turns.auto.turn-end (omega arith)) in
    rw (
      c.add.ensures j below,
      c.add-2.ensures j below,
      c.add-3.ensures j below,
      c.add-4.ensures j below,
      c.add-5.ensures j below,
      c.add-6.ensures j below,
      c.add-7.ensures j below,
      c.add-8.ensures j below,
    ) (ap (add_state (hash_lane j c.args.state.now)) (rw done at (c.turns.invariant j b below words).1))
