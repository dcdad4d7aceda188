-- Columns of numbers that began row groups at once, and how these are undone.
use Rattle.std.specs.Prelude.{◌≡◌, ℕ, zero, suc, ℤ, ◌+◌, ◌-◌, ◌<◌, [], ◌∷◌, length, Option, slice_get}
use Rattle.far_scopes.specs.Movement.{Movement}
use Rattle.far_scopes.specs.Effects.{after_uncreate}
use Rattle.far_columns.specs.Effects.{IsNewGroup}
use Rattle.far_columns.specs.NumbersTogether.{NumberColumns}

module _ {K : Type 0} where
  -- every object with a number below n keeps its word and its record
  pub record KeepsBelow (n : ℕ) (old new : Movement (Option ℤ) K) : Type 0 where
    pub words : (p : ℕ) → p < n
        → slice_get new.memory.words p ≡ slice_get old.memory.words p
    pub records : (p : ℕ) → p < n → slice_get new.records p ≡ slice_get old.records p

  -- each column's last row group has just been begun (`IsNewGroup`); their objects are o and all after it, in the order of the columns
  abbrev pub AreBegunFrom : Movement (Option ℤ) K → ℕ → NumberColumns → Type 0
  AreBegunFrom m o [] = o ≡ length m.records
  AreBegunFrom m o (c ∷ columns) = IsNewGroup m o c × AreBegunFrom m (o + 1) columns

  -- each column's last row group has just been begun (`IsNewGroup`), and its objects are the last ones, in the order of the columns
  abbrev pub AreBegunLast : Movement (Option ℤ) K → NumberColumns → Type 0
  AreBegunLast m columns = AreBegunFrom m (length m.records - length columns) columns

  -- the objects without the last n
  abbrev pub after_uncreate_all : ℕ → Movement (Option ℤ) K → Movement (Option ℤ) K
  after_uncreate_all zero m = m
  after_uncreate_all (suc n) m = after_uncreate (after_uncreate_all n m)
