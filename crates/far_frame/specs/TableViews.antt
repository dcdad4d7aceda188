-- The table in a world as its user sees it, and the invariant of a table and its objects.
use Rattle.std.specs.Prelude.{◌≡◌, ℕ, Bool, true, false, List, map, length}
use Rattle.std.specs.Option.{option_map_or}
use Rattle.far_types.specs.declared.cell.Kind.{Kind}
use Rattle.far_types.specs.declared.limits.Limits.{Limits}
use Rattle.far_types.specs.Bounds.{AreLimits}
use Rattle.far_types.specs.Table.{empty_table}
use Rattle.far_pointer.specs.declared.pointer.Pointer.{Pointer}
use Rattle.far_pointer.specs.declared.pointer.Pointer.TheVariants.{Local, Remote}
use Rattle.far_scopes.specs.Movement.{word_of}
use Rattle.far_rows.specs.declared.object.Object.{Object}
use Rattle.far_rows.specs.declared.object.Object.TheVariants as object
use Rattle.far_rows.specs.ColumnIndexes.{kind_of}
use Rattle.far_rows.specs.Coldest.{pins_at}
use Rattle.far_rows.specs.Moving.{object_at}
use Rattle.far_rows.specs.Places.{places_in}
use Rattle.far_rows.specs.Rows.{Rows, AreRows}
use Rattle.far_frame.specs.State.{State}
use Rattle.far_frame.specs.TableRefusals.{TableState}

-- a new table: it has no rows and no aggregates, and no chunk is away or has a pin
abbrev pub new_table : List Kind → Limits → TableState
new_table schema limits = record
    { table = empty_table schema limits; is_away = λ c g. false; pins = λ c g. 0 }

-- whether a word is remote
abbrev pub is_remote : Pointer → Bool
is_remote (Local at dirty hot far) = false
is_remote Remote = true

module _ {K : Type 0} where
  -- whether an object is away
  abbrev pub is_gone : Rows K → Object → Bool
  is_gone r (object.Number o) = option_map_or is_remote (word_of r.number_objects o) false
  is_gone r (object.Text o) = option_map_or is_remote (word_of r.text_objects o) false

  -- whether the object of a row group of a column is away; an object that does not exist is not
  abbrev pub gone_at : Rows K → ℕ → ℕ → Bool
  gone_at r c g = option_map_or (is_gone r) (object_at r c g) false

  -- the number of pins of the object of a row group of a column
  abbrev pub pins_of_group : Rows K → ℕ → ℕ → ℕ
  pins_of_group r c g = option_map_or (pins_at r) (object_at r c g) 0

  -- a table over objects, as its user sees it
  abbrev pub table_of : State K → TableState
  table_of s = record {
    table = s.table;
    is_away = gone_at s.rows;
    pins = pins_of_group s.rows;
  }

  -- the invariant of a table, its rows and their objects
  pub record IsKept (content : K → List ℕ) (s : State K) : Type 0 where
    pub limits : AreLimits s.table.limits
    pub rows : AreRows content s.rows
    pub kinds : map kind_of s.rows.column_indexes ≡ s.table.schema
    pub places : s.table.places ≡ places_in content s.rows
    pub size : s.rows.size ≡ s.table.limits.group
    pub numbers : length s.rows.number_objects.records ≡ length s.rows.number_objects.memory.words
    pub texts : length s.rows.text_objects.records ≡ length s.rows.text_objects.memory.words
