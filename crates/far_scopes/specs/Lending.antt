-- The local memory of objects after a mutable borrow of a list ends.
-- Internal: no public contract cites it.
use Rattle.std.specs.Prelude.{ℕ, List}
use Rattle.std.specs.Borrow.{Lends, Fml, RattleType, MutBor, Array}
use Rattle.far_scopes.specs.Memory.{Memory}
use Rattle.far_scopes.specs.Placing.{after_overwrite}
use Rattle.far_scopes.specs.contracts.memory.LocalMemory.{the_row}

module _ (T : RattleType) (s : MutBor (Memory T.Denot)) where
  -- the final list of the borrow r is written over the elements of object o from index i on
  abbrev pub lends_part : ℕ → ℕ → MutBor (List T.Denot) → Fml
  lends_part o i r = Lends (the_row T) (Array T 0) s r (after_overwrite s.now o i)
