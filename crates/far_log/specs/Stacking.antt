-- Stacks that share one block. Each has a range of the block, all ranges of one capacity, one after another.
-- Internal: no public contract cites it.
use Rattle.std.specs.Prelude.{◌≡◌, ℕ, ◌+◌, ◌-◌, ◌*◌, ◌≤◌, ◌<◌, ◌^◌, ◌⊎◌, List, [], ◌∷◌, ◌++◌, length, take, drop, slice_set, slice_index_or}

-- the lists of the stacks, and the capacity of each
pub record Stacked (X : Type 0) : Type 0 where
  pub stacks : List (List X)
  pub size : ℕ

module _ {X : Type 0} where
  -- the list of the stack with this number; an empty one if there is none
  abbrev pub stack_of : Stacked X → ℕ → List X
  stack_of s number = slice_index_or s.stacks number []

  -- the stacks with another list in this one
  abbrev pub with_stack : Stacked X → ℕ → List X → Stacked X
  with_stack s number list = record s { stacks = slice_set s.stacks number list }

  -- the lists of these lengths in a block, from an index on
  abbrev pub stacks_from : ℕ → List X → ℕ → List ℕ → List (List X)
  stacks_from size block from [] = []
  stacks_from size block from (n ∷ ns) = take n (drop from block)
      ∷ stacks_from size block (from + size) ns

  -- new is old with xs written at index `at`: a list before or after xs is unchanged, and a list that ends at `at` is extended by xs
  pub record IsPut (old new : List X) (at : ℕ) (xs : List X) : Type 0 where
    pub long : length old ≤ length new
    pub reach : at + length xs ≤ length new
    pub others : (from n : ℕ) → n ≤ length old - from
        → (from + n ≤ at) ⊎ (at + length xs ≤ from)
        → take n (drop from new) ≡ take n (drop from old)
    pub here : (from n : ℕ) → from + n ≡ at → n ≤ length old - from
        → take (n + length xs) (drop from new) ≡ take n (drop from old) ++ xs

-- lists of these lengths fit their ranges, and end within a block of `end` elements
abbrev pub AreWithin : ℕ → ℕ → ℕ → List ℕ → Type 0
AreWithin size end from [] = Unit {0}
AreWithin size end from (n ∷ ns) = (n ≤ size)
    × (n ≤ end - from)
    × AreWithin size end (from + size) ns

-- the lists of all stacks fit their ranges, and the block is reserved for all of them
pub record IsStacked (end capacity size : ℕ) (lens : List ℕ) : Type 0 where
  pub within : AreWithin size end 0 lens
  pub reserved : length lens * size ≤ capacity
  pub few : length lens ≤ 65536
  pub small : size < 2 ^ 32
