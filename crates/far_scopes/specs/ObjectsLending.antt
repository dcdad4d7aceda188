-- The objects after a mutable borrow of one of their lists ends.
use Rattle.std.specs.Prelude.{ℕ, List}
use Rattle.std.specs.Borrow.{Lends, Fml, RattleType, MutBor, Array}
use Rattle.far_codec.specs.declared.elem.Elem as elem
use Rattle.far_store.specs.declared.store.FarTickets as far
use Rattle.far_scopes.specs.Movement.{Movement}
use Rattle.far_scopes.specs.Effects.{after_write, after_overwrite}
use Rattle.far_scopes.specs.contracts.objects.Objects.{the_row}

module _ (T S K : RattleType) (kind : elem.Ghosts T.Denot) (store : far.Ghosts S.Denot K.Denot)
    (s : MutBor (Movement T.Denot K.Denot)) where
  -- object o counts as written, and the final list of the borrow r is written over its elements from index i on
  abbrev pub lends_written : ℕ → ℕ → MutBor (List T.Denot) → Fml
  lends_written o i r = Lends (the_row T S K kind store) (Array T 0) s r
      (after_overwrite (after_write s.now o) o i)
