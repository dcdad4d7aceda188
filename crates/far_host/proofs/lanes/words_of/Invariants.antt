use Rattle.std.proofs.Common.{◌≡◌, ℕ, ◌*◌, ◌<◌, [], ◌∷◌, length, slice_index_or}
use Rattle.sha2.specs.Sha256.{word_at}
use Rattle.far_host.proofs.lanes.words_of.Given as goal

abbrev pub invariant-words : goal.invariant-words
invariant-words l = (length l.w ≡ 16) × ((k : ℕ) → k < l.i
    → slice_index_or l.w k [] ≡ word_at l.first (4 * k) ∷ word_at l.second (4 * k) ∷ word_at l.third (4 * k) ∷ word_at l.fourth (4 * k) ∷ [])
