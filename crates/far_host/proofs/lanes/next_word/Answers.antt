use Rattle.std.proofs.Common.{◌≡◌, ◌+◌, ◌%◌, arith, refl}
use Rattle.far_host.proofs.LaneLaws.{word_of_lane}
use Rattle.far_host.proofs.lanes.next_word.Goals as goal

pub returns-clause-value : goal.returns-clause-value
returns-clause-value c j below =
    let w = c.args.w.now in
    let p = c.args.place in
    let at : p % 16 ≡ p = omega arith in
    rw (
      c.add-word.ensures j below,
      c.add-2.ensures j below,
      c.small_sigma0.ensures j below,
      c.add.ensures j below,
      c.small_sigma1.ensures j below,
      at,
      word_of_lane w j ((p + 14) % 16) (omega arith),
      word_of_lane w j ((p + 9) % 16) (omega arith),
      word_of_lane w j ((p + 1) % 16) (omega arith),
      word_of_lane w j p (omega arith),
    ) refl
