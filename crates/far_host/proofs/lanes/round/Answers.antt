use Rattle.std.proofs.Common.{refl}
use Rattle.std.proofs.lemmas.Simd.{get_or-replicate}
use Rattle.far_host.proofs.lanes.round.Goals as goal

pub returns : goal.returns
returns c j below =
    rw (
      c.add-4.ensures j below,
      c.add-5.ensures j below,
      c.add-second.ensures j below,
      c.maj.ensures j below,
      c.big_sigma0.ensures j below,
      c.add-first.ensures j below,
      c.add-3.ensures j below,
      c.add-2.ensures j below,
      c.ch.ensures j below,
      c.add.ensures j below,
      c.big_sigma1.ensures j below,
      get_or-replicate 4 j c.args.constant 0 below,
    ) refl
