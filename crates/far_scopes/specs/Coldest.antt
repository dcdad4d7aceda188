-- The eviction victim.
use Rattle.std.specs.Prelude.{ℕ, ◌==◌, ◌&&◌, not, Bool, Option, reverse}
use Rattle.std.specs.Option.{option_or}
use Rattle.std.specs.List.{find}
use Rattle.far_scopes.specs.Movement.{Movement, hot, pins_of}

module _ {X K : Type 0} (m : Movement X K) where
  -- whether an object has no pin
  abbrev pub is_unpinned : ℕ → Bool
  is_unpinned o = pins_of m o == 0

  -- whether an object has no pin and is not hot
  abbrev pub is_cold : ℕ → Bool
  is_cold o = is_unpinned o && not (hot m o)

  -- the eviction victim: the least recently used object that is neither pinned nor hot; if there is none, the least recently used object
  -- without pins
  abbrev pub coldest : Option ℕ
  coldest = option_or (find is_cold (reverse m.order)) (find is_unpinned (reverse m.order))
