-- A list that is kept in chunks, each with twice the space of the one before it.
-- Internal: no public contract cites it.
use Rattle.std.specs.Prelude.{◌≡◌, ℕ, zero, suc, ◌+◌, ◌≤◌, ◌<◌, ◌^◌, List, [], ◌∷◌, ◌++◌, length, vec_capacity}
use Rattle.std.specs.declared.vec.Vec.{Vec}

-- the capacity of the chunk with this number, if the first chunk's capacity is `size`
abbrev pub capacity_at : ℕ → ℕ → ℕ
capacity_at size zero = size
capacity_at size (suc number) = capacity_at (size + size) number

-- how many elements the chunks before that chunk have
abbrev pub start_at : ℕ → ℕ → ℕ
start_at size zero = 0
start_at size (suc number) = size + start_at (size + size) number

-- element `index` of the list is element `at` of chunk `chunk`; the capacity of the first chunk is 64
pub record IsPlaceOf (index chunk at : ℕ) : Type 0 where
  pub index_is : start_at 64 chunk + at ≡ index
  pub within : at < capacity_at 64 chunk

module _ {X Z : Type 0} where
  -- the elements of chunks, one chunk after another
  abbrev pub items_of : List (Vec X Z) → List X
  items_of [] = []
  items_of (c ∷ cs) = c.items ++ items_of cs

  -- each chunk but the last is full, and the last has its space reserved; the capacity of the first is `size`
  abbrev pub AreChunks : ℕ → List (Vec X Z) → Type 0
  AreChunks size [] = Unit {0}
  AreChunks size (c ∷ []) = (length c.items ≤ size) × (size ≤ vec_capacity c)
  AreChunks size (c ∷ (d ∷ cs)) = (length c.items ≡ size)
      × AreChunks (size + size) (d ∷ cs)

  -- the first `len` elements of the chunks are the list; the elements after them were cut off
  pub record IsChunked (cs : List (Vec X Z)) (len : ℕ) : Type 0 where
    pub chunks : AreChunks 64 cs
    pub within : len ≤ length (items_of cs)
    pub few : len ≤ 2 ^ 32
