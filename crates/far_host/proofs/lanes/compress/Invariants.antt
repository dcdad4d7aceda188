use Rattle.std.proofs.Common.{ℕ, List, ◌*◌, ◌<◌}
use Rattle.sha2.specs.Sha256.{IsRoundsAt}
use Rattle.far_host.specs.Lanes.{HasWordsOf, hash_lane, word_lane}
use Rattle.far_host.proofs.lanes.compress.Given as goal

abbrev pub invariant-turns : goal.invariant-turns
invariant-turns l = (j : ℕ) (b : List ℕ) → j < 4 → HasWordsOf b (word_lane j l.fn.w)
    → IsRoundsAt b (hash_lane j l.state) (word_lane j l.w) (hash_lane j l.v) (16 * l.turn)
