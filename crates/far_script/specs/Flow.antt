-- The bytes that pass through a reader and a writer, and those held in between.
use Rattle.std.specs.Prelude.{◌≡◌, ℕ, ◌+◌, ◌==◌, Bool, List, [], ◌∷◌, ◌++◌, length, Option, true, false, slice_range, drop, ◌≤◌, ◌<◌, ◌⊎◌, IfSome}
use Rattle.std.specs.List.{list_any}
use Rattle.std.specs.Io.BufRead.{strip_last}
use Rattle.std.specs.Io.KnownBytes.{Appends, Consumes}
use Rattle.std.specs.declared.io.traits.Read.{Ghosts}
use Rattle.std.specs.declared.io.traits.Write.{Ghosts as Writes}
use Rattle.far_script.specs.declared.sink.Sink.{Ghosts as Sinks}
use Rattle.far_script.specs.declared.fault.ShellFault.{ShellFault}
use Rattle.far_script.specs.declared.input.Input.{Input}
use Rattle.far_script.specs.declared.input.ByteRange.{ByteRange}
use Rattle.far_script.specs.declared.input.Line.{Line}
use Rattle.far_script.specs.declared.input.Line.TheVariants as line
use Rattle.far_script.specs.declared.output.Output.{Output}
use Rattle.far_script.specs.Faults.{IfInput, IfHalted, IsCut}
use Rattle.far_script.specs.Lines.{IsOneLine}

-- a text was printed: of the bytes held before and the text, the writer got a prefix and the rest is held
abbrev pub Prints : Option (List ℕ) → List ℕ → List ℕ → Option (List ℕ) → List ℕ → Type 0
Prints old held text new left = (sent : List ℕ) × Appends old new sent
    × (held ++ text ≡ sent ++ left)

-- whether a write failed
abbrev pub has_failed : {W : Type 0} {sink : Sinks W} {write : Writes W} → Output W sink write
    → Bool
has_failed output = output.failed

-- the script, if its bytes are known, is `bytes` followed by `rest`, and `bytes` is at most 16 MiB long
abbrev pub IsFrontOf : Option (List ℕ) → List ℕ → List ℕ → Type 0
IsFrontOf known bytes rest = IfSome known (λ script. script ≡ bytes ++ rest)
    × (length bytes ≤ 16777216)

-- exactly these bytes came from a reader. Once the bound on bytes is reached, one more may be read and lost
abbrev pub Leaves : Option (List ℕ) → Option (List ℕ) → List ℕ → ℕ → Type 0
Leaves old new came bytes_left =
    (lost : List ℕ) × Consumes old new (came ++ lost)
    × (0 < bytes_left → lost ≡ [])
    × (length lost ≤ 1)

module _ {R : Type 0} (read : Ghosts R) where
  -- the bytes that were read and not yet taken
  abbrev pub unread : Input R read → List ℕ
  unread input = drop input.start input.held

  -- a byte range is within the bytes that are held
  abbrev pub Holds : Input R read → ByteRange → Type 0
  Holds input byte_range = (byte_range.from ≤ byte_range.to) × (byte_range.to ≤ length input.held)

  -- the bytes of a byte range
  abbrev pub bytes_in : Input R read → ByteRange → List ℕ
  bytes_in input byte_range = slice_range input.held byte_range.from byte_range.to

  -- `bytes` were taken from an input. Together with what is still held they are the bytes that were held before and those
  -- that came from the reader. The bytes that came are counted; each read brings at least one until the end is found, and
  -- none comes after it
  pub record Reads (old : Input R read) (bytes : List ℕ) (new : Input R read) : Type 0 where
    pub came : List ℕ
    pub consumed : Consumes (read.remaining old.source.reader) (read.remaining new.source.reader)
        came
    pub taken : unread old ++ came ≡ bytes ++ unread new
    pub counted : new.source.bytes + length came ≡ old.source.bytes
    pub made : new.source.ended ≡ false → old.source.reads ≤ new.source.reads + length came
    pub none : old.source.ended ≡ true → came ≡ []
    pub ended : old.source.ended ≡ true → new.source.ended ≡ true

  -- a line was taken: without the line feed that ends it and a carriage return before that, or the last line, which no line
  -- feed ends
  abbrev pub TakesLine : Input R read → Line → Input R read → Type 0
  TakesLine old (line.Whole byte_range) new =
      (raw : List ℕ) × (list_any (λ c. c == 10) raw ≡ false)
      × (bytes_in new byte_range ≡ strip_last 13 raw)
      × Reads old (raw ++ 10 ∷ []) new
  TakesLine old (line.Last byte_range) new =
      (list_any (λ c. c == 10) (bytes_in new byte_range) ≡ false)
      × (unread new ≡ [])
      × (new.source.ended ≡ true)
      × Reads old (bytes_in new byte_range) new

  -- the byte range of a line
  abbrev pub byte_range_of : Line → ByteRange
  byte_range_of (line.Whole byte_range) = byte_range
  byte_range_of (line.Last byte_range) = byte_range

  -- the whole script was taken
  abbrev pub IsAtEnd : Input R read → Type 0
  IsAtEnd input = (unread input ≡ []) × (input.source.ended ≡ true)

  -- more was wanted and did not come, for a reason of `IsCut`, and the end of the script was not found. The reader was
  -- called, unless no read was allowed any more
  abbrev pub IsUnseen : Type 0 → Input R read → Input R read → Type 0
  IsUnseen may_fail old new = (old.source.ended ≡ false)
      × (new.source.ended ≡ false)
      × (0 < new.source.reads → new.source.reads < old.source.reads)
      × IsCut may_fail old.source.reads old.source.bytes new.source.reads new.source.bytes
      (read.remaining old.source.reader)

  -- the end of the script was found, and no rest follows
  abbrev pub IsOver : Input R read → List ℕ → Type 0
  IsOver new rest = (new.source.ended ≡ true) × (rest ≡ [])

  -- why a load lacks bytes: the script ends within it, or no more of the script came
  abbrev pub IsShort : Type 0 → Input R read → Input R read → List ℕ → Type 0
  IsShort may_fail old new rest = IsOver new rest ⊎ IsUnseen may_fail old new

  -- what follows in the script, if it is known, is `bytes` and then `rest`. At the end of the script both are empty
  abbrev pub StartsWith : Input R read → List ℕ → List ℕ → Type 0
  StartsWith input bytes rest = IfSome (read.remaining input.source.reader)
      (λ coming. unread input ++ coming ≡ bytes ++ rest)
      × (IsAtEnd input → bytes ++ rest ≡ [])

  -- `bytes` are those held before and those that came since, and they are counted. If the end was found before, it stays
  -- found
  abbrev pub Counts : Input R read → List ℕ → Input R read → Type 0
  Counts old bytes new = (new.source.bytes + length bytes ≡ old.source.bytes + length (unread old))
      × (old.source.ended ≡ true → new.source.ended ≡ true)
      × ((came : List ℕ) × (unread old ++ came ≡ bytes)
      × Leaves (read.remaining old.source.reader) (read.remaining new.source.reader) came
      new.source.bytes)

  -- when a fault ended a script: `bytes` and then `rest` follow in it. If the fault is `Input`, `bytes` are all that came;
  -- if it is `Memory` or `Output`, they are all that was taken
  abbrev pub Gives : ShellFault → Input R read → Input R read → List ℕ → List ℕ → Type 0
  Gives why old new bytes rest =
      StartsWith old bytes rest
      × IfInput why (Counts old bytes new)
      × IfHalted why (Reads old bytes new)

  -- the fault is `Input`, and `said` holds for the bytes that came and for the rest of the script
  abbrev pub Stops : (List ℕ → List ℕ → Type 0) → Input R read → Input R read → Type 0
  Stops said old new = (bytes : List ℕ) × (rest : List ℕ) × StartsWith old bytes rest
      × Counts old bytes new
      × said bytes rest

  -- no line was taken, because of a fault
  pub record TakesNoLine (may_fail : Type 0) (why : ShellFault) (old new : Input R read)
      : Type 0 where
    -- if the fault is `Input`, the bytes that came have no line feed
    pub stopped : IfInput why (Stops (λ bytes rest. IsOneLine bytes) old new)
    -- and the end of the script was not found
    pub unseen : IfInput why (IsUnseen may_fail old new)
    -- if the fault is `Memory` or `Output`, nothing was taken
    pub kept : IfHalted why (Reads old [] new)
