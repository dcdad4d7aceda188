-- Four parts of a content side by side: each word is a vector with one lane for each part.
-- Internal: no public contract cites it.
use Rattle.std.specs.Prelude.{◌≡◌, ℕ, ◌*◌, ◌<◌, List, [], ◌∷◌, length, map, slice_index, slice_index_or}
use Rattle.sha2.specs.Sha256.{word_at}

-- lane j of vector k
abbrev pub lane_at : List (List ℕ) → ℕ → ℕ → ℕ
lane_at vectors k j = slice_index (slice_index_or vectors k []) j

-- lane j of the eight vectors of a hash value
abbrev pub hash_lane : ℕ → List (List ℕ) → List ℕ
hash_lane j v =
    lane_at v 0 j ∷ lane_at v 1 j ∷ lane_at v 2 j ∷ lane_at v 3 j
    ∷ lane_at v 4 j ∷ lane_at v 5 j ∷ lane_at v 6 j ∷ lane_at v 7 j ∷ []

-- lane j of a list of vectors of words
abbrev pub word_lane : ℕ → List (List ℕ) → List ℕ
word_lane j w = map (λ vector. slice_index vector j) w

-- the sixteen words are those of a block
abbrev pub HasWordsOf : List ℕ → List ℕ → Type 0
HasWordsOf block words = (length words ≡ 16)
    × ((k : ℕ) → k < 16 → slice_index words k ≡ word_at block (4 * k))
