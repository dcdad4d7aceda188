-- Calls that move objects: they change neither the table nor its rows, aggregates and answers.
use Rattle.std.specs.Prelude.{◌≡◌, ℕ, List, length, IsSomeAnd}
use Rattle.far_types.specs.declared.cell.Kind.{Kind}
use Rattle.far_types.specs.declared.cell.Kind.TheVariants as kind
use Rattle.far_log.specs.Effects.{HasNoEmptyOther}
use Rattle.far_scopes.specs.Compaction.{IsCompacted}
use Rattle.far_evacuator.specs.Jobs.{CarriedEvacuation, CarriedFetch}
use Rattle.far_rows.specs.Rows.{Rows}
use Rattle.far_rows.specs.Moving.{object_at, after_pin, after_unpin, after_touch}
use Rattle.far_rows.specs.Jobs.{IsEvacAccepted, IsFetchAccepted, IsAfterInstall, HasNoSpace, after_commit, pins_by}
use Rattle.far_table.specs.State.{LiveState}
use Rattle.far_table.specs.TableRows.{TableRows}

module _ {K : Type 0} where
  -- the object of a row group of a column has one more pin
  abbrev pub IsPinned : ℕ → ℕ → Rows K → Rows K → Type 0
  IsPinned column group old new = IsSomeAnd (object_at old column group)
      (λ object. new ≡ after_pin old object)

  -- it has one pin less
  abbrev pub IsUnpinned : ℕ → ℕ → Rows K → Rows K → Type 0
  IsUnpinned column group old new = IsSomeAnd (object_at old column group)
      (λ object. new ≡ after_unpin old object)

  -- it is marked as recently used, if it is local
  abbrev pub IsTouched : ℕ → ℕ → Rows K → Rows K → Type 0
  IsTouched column group old new = IsSomeAnd (object_at old column group)
      (λ object. new ≡ after_touch old object)

  -- a carried evacuation is accepted: its object has no pin, and is evicted
  pub record IsCommitted (number_of : K → ℕ)
      (carried : CarriedEvacuation K) (old new : Rows K) : Type 0 where
    pub accepted : IsEvacAccepted number_of old carried
    pub free : pins_by old carried ≡ 0
    pub away : new ≡ after_commit old carried

  -- a carried fetch is accepted: its object fits, and is local again
  pub record IsInstalled (content : K → List ℕ) (number_of : K → ℕ)
      (fetched : CarriedFetch K) (old new : Rows K) : Type 0 where
    pub accepted : IsFetchAccepted number_of old fetched
    pub space : ¬ (HasNoSpace content old fetched)
    pub back : IsAfterInstall content old fetched new

  -- a segment of the objects of a kind is compacted
  abbrev pub IsCompactedOf : Kind → ℕ → Rows K → Rows K → Type 0
  IsCompactedOf kind.Int segment old new = IsCompacted old.number_objects.memory
      new.number_objects.memory segment
      × (new
      ≡ record old
      { number_objects = record old.number_objects { memory = new.number_objects.memory } })
  IsCompactedOf kind.Text segment old new = IsCompacted old.text_objects.memory
      new.text_objects.memory segment
      × (new
      ≡ record old
      { text_objects = record old.text_objects { memory = new.text_objects.memory } })

  -- the number of segments for the objects of a kind
  abbrev pub segments_of : Kind → Rows K → ℕ
  segments_of kind.Int r = length r.number_objects.memory.state
  segments_of kind.Text r = length r.text_objects.memory.state

  -- each segment for these objects, except this one, has a part
  abbrev pub HasNoOther : Kind → ℕ → Rows K → Type 0
  HasNoOther kind.Int segment r = HasNoEmptyOther r.number_objects.memory.state segment
  HasNoOther kind.Text segment r = HasNoEmptyOther r.text_objects.memory.state segment

  module _ (moves : Rows K → Rows K → Type 0) where
    -- the objects that hold the places move in this way, and nothing else changes
    pub record AreMoved (old new : TableRows K) : Type 0 where
      pub stays : new ≡ record old { held = new.held }
      pub held : moves old.held new.held

    -- the objects of a table move in this way, and its rows, aggregates and edits are unchanged
    pub record IsMoved (old new : LiveState K) : Type 0 where
      pub table : new.table ≡ old.table
      pub rows : moves old.rows new.rows
