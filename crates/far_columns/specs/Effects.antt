-- The effects of calls on a vector and its objects.
use Rattle.std.specs.Prelude.{◌≡◌, ℕ, ◌+◌, ◌-◌, ◌*◌, ◌%◌, ◌==◌, if◌then◌else◌, Bool, true, List, [], ◌∷◌, ◌++◌, length, take, replicate, Some, slice_get}
use Rattle.far_types.specs.declared.name.Name.{Name}
use Rattle.far_scopes.specs.Movement.{Movement, is_local, pins_of}
use Rattle.far_scopes.specs.Effects.{after_write, after_overwrite, after_create}
use Rattle.far_columns.specs.Vector.{Vector, object_at}

module _ {X : Type 0} where
  -- whether every place is used, so that the next element begins a row group
  abbrev pub is_full : Vector X → Bool
  is_full v = v.len == length v.objects * v.size

  -- the name of the next row group's object
  abbrev pub next_name : Vector X → Name
  next_name v = record { column = v.column; group = length v.objects }

  -- the list of a new row group that begins with x
  abbrev pub next_group : Vector X → X → List X
  next_group v x = x ∷ replicate (v.size - 1) v.default_value

  -- the vector with one more element; if a new row group begins, its object has this number
  abbrev pub after_push : Vector X → ℕ → Vector X
  after_push v o =
      if is_full v then record v { objects = v.objects ++ o ∷ []; len = v.len + 1 }
      else record v { len = v.len + 1 }

  -- the vector without its last element and the object of its last row group, which had only that element
  abbrev pub after_unpush : Vector X → Vector X
  after_unpush v = record v { objects = take (length v.objects - 1) v.objects; len = v.len - 1 }

  module _ {K : Type 0} where
    -- the last row group of a vector has only one element; its object is o, which is local and has no pin
    pub record IsNewGroup (m : Movement X K) (o : ℕ) (v : Vector X) : Type 0 where
      pub alone : v.len ≡ (length v.objects - 1) * v.size + 1
      pub last : slice_get v.objects (length v.objects - 1) ≡ Some o
      pub local : is_local m o ≡ true
      pub unpinned : pins_of m o ≡ 0

    -- the objects after a range is written over the elements from the i-th on, all of one row group
    abbrev pub after_write_range : Movement X K → Vector X → ℕ → List X → Movement X K
    after_write_range m v i range =
        after_overwrite (after_write m (object_at v i)) (object_at v i) (i % v.size) range

    -- the objects after an element is pushed
    abbrev pub objects_after_push : Movement X K → Vector X → X → Movement X K
    objects_after_push m v x =
        if is_full v then after_create m (next_name v) (next_group v x)
        else after_write_range m v v.len (x ∷ [])
