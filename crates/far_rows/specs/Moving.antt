-- The objects of rows: how they are found, pinned and touched, and when this is refused.
use Rattle.std.specs.Prelude.{◌≡◌, ℕ, ◌<◌, List, [], ◌∷◌, length, Option, is_none, option_map, slice_get, Bool, false}
use Rattle.std.specs.Option.{option_and_then, option_map_or, option_or}
use Rattle.far_types.specs.declared.refusal.Refusal.{Refusal}
use Rattle.far_types.specs.declared.refusal.Refusal.TheVariants as refusal
use Rattle.far_types.specs.FirstOf.{first_of}
use Rattle.far_scopes.specs.Movement.{AreHere}
use Rattle.far_scopes.specs.Effects.{after_pin as after_pin_in, after_unpin as after_unpin_in, after_touch as after_touch_in}
use Rattle.far_scopes.specs.Refusing.{pins_used_up, unpin_refusal as unpin_refusal_in}
use Rattle.far_rows.specs.declared.column_index.ColumnIndex.{ColumnIndex}
use Rattle.far_rows.specs.declared.column_index.ColumnIndex.TheVariants as column_index
use Rattle.far_rows.specs.declared.object.Object.{Object}
use Rattle.far_rows.specs.declared.object.Object.TheVariants as object
use Rattle.far_rows.specs.Rows.{Rows, object_of, all_cells}
use Rattle.far_rows.specs.Refusing.{no_column, absent_in}

-- the object of this number, of the kind of an index
abbrev pub object_in : ColumnIndex → ℕ → Object
object_in (column_index.Number i) o = object.Number o
object_in (column_index.Text i) o = object.Text o

module _ {K : Type 0} where
  -- the object of a row group of a column; none if there is no such column, or no place of the row group is used
  abbrev pub object_at : Rows K → ℕ → ℕ → Option Object
  object_at r column group =
      option_and_then (λ s. option_map (object_in s) (object_of r s group))
      (slice_get r.column_indexes column)

  -- the object exists
  abbrev pub IsInUse : Rows K → Object → Type 0
  IsInUse r (object.Number o) = o < length r.number_objects.records
  IsInUse r (object.Text o) = o < length r.text_objects.records

  -- the rows after an object got one more pin
  abbrev pub after_pin : Rows K → Object → Rows K
  after_pin r (object.Number o) = record r { number_objects = after_pin_in r.number_objects o }
  after_pin r (object.Text o) = record r { text_objects = after_pin_in r.text_objects o }

  -- the rows after an object lost a pin
  abbrev pub after_unpin : Rows K → Object → Rows K
  after_unpin r (object.Number o) = record r { number_objects = after_unpin_in r.number_objects o }
  after_unpin r (object.Text o) = record r { text_objects = after_unpin_in r.text_objects o }

  -- the rows after an object is marked as hot and most recently used, if it is local
  abbrev pub after_touch : Rows K → Object → Rows K
  after_touch r (object.Number o) = record r { number_objects = after_touch_in r.number_objects o }
  after_touch r (object.Text o) = record r { text_objects = after_touch_in r.text_objects o }

  -- what pinning, unpinning, touching and compacting keep, accepted or refused: the cells, and the stores of the tickets
  pub record KeepsCells (content : K → List ℕ) (is_of : K → List ℕ → Type 0)
      (old new : Rows K) : Type 0 where
    -- each column has the same cells
    pub cells : all_cells content new ≡ all_cells content old
    -- tickets of a store remain tickets of that store
    pub number_store : (id : List ℕ) → AreHere is_of id old.number_objects
        → AreHere is_of id new.number_objects
    pub text_store : (id : List ℕ) → AreHere is_of id old.text_objects
        → AreHere is_of id new.text_objects

  -- the object has 65,535 pins
  abbrev pub pins_used : Rows K → Object → Bool × Refusal
  pins_used r (object.Number o) = pins_used_up r.number_objects o
  pins_used r (object.Text o) = pins_used_up r.text_objects o

  -- why unpinning an object is refused
  abbrev pub unpin_refusal_of : Rows K → Object → Option Refusal
  unpin_refusal_of r (object.Number o) = unpin_refusal_in r.number_objects o
  unpin_refusal_of r (object.Text o) = unpin_refusal_in r.text_objects o

  module _ (r : Rows K) (column group : ℕ) where
    -- why there is no object: there is no such column, or no place of the row group is used
    abbrev pub object_refusal : Option Refusal
    object_refusal =
        first_of (no_column r column ∷ (is_none (object_at r column group), refusal.OutOfRange)
        ∷ [])

    -- why pinning the object of a row group of a column is refused (`pin`)
    abbrev pub pin_refusal : Option Refusal
    pin_refusal =
        option_or object_refusal
        (first_of (absent_in r column group
        ∷ option_map_or (pins_used r) (object_at r column group) (false, refusal.StaleJob)
        ∷ []))

    -- why unpinning the object of a row group of a column is refused (`unpin`)
    abbrev pub unpin_refusal : Option Refusal
    unpin_refusal =
        option_or object_refusal (option_and_then (unpin_refusal_of r) (object_at r column group))
