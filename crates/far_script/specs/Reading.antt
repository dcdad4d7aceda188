-- What one read did: of a reader with bounds, and of an input.
use Rattle.std.specs.Prelude.{◌≡◌, ℕ, ◌+◌, ◌-◌, ◌≤◌, ◌<◌, Bool, true, false, List, [], length, take, slice_index, slice_range}
use Rattle.std.specs.Io.KnownBytes.{Consumes, Keeps}
use Rattle.std.specs.declared.io.traits.Read.{Ghosts}
use Rattle.far_script.specs.declared.bounded.Bounded.{Bounded}
use Rattle.far_script.specs.declared.input.Input.{Input}
use Rattle.far_script.specs.Faults.{IsCut}
use Rattle.far_script.specs.Flow.{Leaves, Reads, unread}
use Rattle.far_script.specs.Lines.{IsOneLine}

module _ {R : Type 0} (read : Ghosts R) where
  -- a call of the reader brought the first `count` bytes of a buffer, and none only at the end
  pub record Brings (old : Bounded R read) (buffer : List ℕ) (count : ℕ) (new : Bounded R read)
      : Type 0 where
    -- the buffer has room for them
    pub within : count ≤ length buffer
    -- they are the bytes that the reader had next
    pub came : Consumes (read.remaining old.reader) (read.remaining new.reader) (take count buffer)
    -- if none came, the end was found
    pub ended : count ≡ 0 → new.ended ≡ true
    -- if some came, the end was not found
    pub going : 0 < count → new.ended ≡ false

  -- a call of the reader failed
  pub record Fails (may_fail : Type 0) (old new : Bounded R read) : Type 0 where
    -- readers of this type may fail
    pub cause : may_fail
    -- no byte came
    pub kept : Keeps (read.remaining old.reader) (read.remaining new.reader)
    -- the end was not found
    pub going : new.ended ≡ false

  -- a read brought the first `count` bytes of a buffer. The read and the bytes are counted
  pub record IsRead (old : Bounded R read) (buffer : List ℕ) (count : ℕ) (new : Bounded R read)
      : Type 0 where
    -- what came, and whether the end was found
    pub brought : Brings old buffer count new
    -- `count` bytes fewer are allowed
    pub bytes : new.bytes + count ≡ old.bytes
    -- one read fewer is allowed, if the end was not found before
    pub reads : old.ended ≡ false → new.reads + 1 ≡ old.reads
    -- if it was, nothing comes, and nothing changes
    pub over : old.ended ≡ true → (count ≡ 0) × (new ≡ old)

  -- a read brought nothing, and the end was not found
  pub record IsCutOff (may_fail : Type 0) (old new : Bounded R read) : Type 0 where
    -- the end was not found before
    pub before : old.ended ≡ false
    -- it is not found now
    pub going : new.ended ≡ false
    -- one read fewer is allowed, if any was
    pub reads : new.reads ≡ old.reads - 1
    -- no byte is counted
    pub bytes : new.bytes ≡ old.bytes
    -- no byte came, or one past the bound, which is lost
    pub lost : Leaves (read.remaining old.reader) (read.remaining new.reader) [] new.bytes
    -- the reader failed, or the reads or the bytes are used up
    pub cause : IsCut may_fail old.reads old.bytes new.reads new.bytes (read.remaining old.reader)

  -- a read into an input, and whether bytes came
  pub record ReadsMore (old : Input R read) (more : Bool) (new : Input R read) : Type 0 where
    -- nothing was taken, and what came follows the bytes that were held
    pub reads : Reads read old [] new
    -- a read that brought bytes is counted
    pub counted : more ≡ true → new.source.reads < old.source.reads
    -- if bytes came, the end was not found
    pub going : more ≡ true → new.source.ended ≡ false
    -- if none came, the end was found
    pub ended : more ≡ false → new.source.ended ≡ true
    -- and the bytes not yet taken are the same
    pub same : more ≡ false → unread read new ≡ unread read old

  -- a read into an input brought nothing, and the end was not found
  pub record ReadsNone (may_fail : Type 0) (old new : Input R read) : Type 0 where
    -- the bytes not yet taken are the same
    pub same : unread read new ≡ unread read old
    -- what the read left, and why nothing came
    pub cut : IsCutOff may_fail old.source new.source

  -- the first line feed that is held and not yet taken is at `end`
  pub record EndsAt (input : Input R read) (end : ℕ) : Type 0 where
    -- it was not taken
    pub from : input.start ≤ end
    -- it is held
    pub within : end < length input.held
    -- it is a line feed
    pub feed : slice_index input.held end ≡ 10
    -- none is before it
    pub first : IsOneLine (slice_range input.held input.start end)
