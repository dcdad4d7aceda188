-- The part of a reply that is printed before a fault, and the lines that cannot be answered.
use Rattle.std.specs.Prelude.{◌≡◌, ◌⊎◌, ◌<◌, ◌≤◌, ℕ, List, [], ◌++◌, length, take, Option, Some, IsUtf8}
use Rattle.std.specs.declared.io.traits.Read.{Ghosts}
use Rattle.far_types.specs.declared.cell.Kind.{Kind}
use Rattle.far_frame.specs.State.{live}
use Rattle.far_frame.specs.Worlds.{World}
use Rattle.far_script.specs.declared.fault.ShellFault.{ShellFault}
use Rattle.far_script.specs.declared.fault.ShellFault.TheVariants as fault
use Rattle.far_script.specs.declared.input.Input.{Input}
use Rattle.far_script.specs.Flow.{Prints, Reads}
use Rattle.far_commands.specs.declared.command.Command.{Command}
use Rattle.far_commands.specs.declared.command.Command.TheVariants as command
use Rattle.far_commands.specs.Commands.{command_of}
use Rattle.far_commands.specs.Listings.{listing_of}
use Rattle.far_commands.specs.Progress.{At}

-- a prefix of a reply; it may be empty
abbrev pub IsFront : (List ℕ → Type 0) → List ℕ → Type 0
IsFront answer text = (text ≡ []) ⊎ ((rest : List ℕ) × answer (text ++ rest))

-- the part of a reply that is printed before a fault: nothing at `Input`, a prefix at `Output` or `Memory`
abbrev pub CutOff : ShellFault → (List ℕ → Type 0) → List ℕ → Type 0
CutOff fault.BadStart answer text = ⊥
CutOff fault.Input answer text = text ≡ []
CutOff fault.Output answer text = IsFront answer text
CutOff fault.Memory answer text = IsFront answer text
CutOff fault.Turns answer text = ⊥

-- at a fault, a prefix of a reply was printed
abbrev pub PrintsCut : ShellFault → (List ℕ → Type 0) → Option (List ℕ) → List ℕ → Option (List ℕ)
    → List ℕ → Type 0
PrintsCut why answer old held new left = (text : List ℕ) × Prints old held text new left
    × CutOff why answer text

-- a command is a load that lacks bytes, for a reason of `short`, or whose bytes are not valid UTF-8
abbrev pub FailsBy : Type 0 → Option Command → List ℕ → Type 0
FailsBy short asked behind = (count : ℕ) × (asked ≡ Some (command.Load count))
    × (((length behind < count) × short)
    ⊎ ((count ≤ length behind) × ¬ (IsUtf8 (take count behind))))

-- a line with the bytes after it can get no reply: it is not valid UTF-8, or it is a load as above
abbrev pub Fails : Type 0 → List Kind → List ℕ → List ℕ → Type 0
Fails short kinds line behind = ¬ (IsUtf8 line) ⊎ FailsBy short (command_of kinds line) behind

-- a line is the command `dump`, and this text is its reply
abbrev pub IsListing : {K : Type 0} → At (World K) → List ℕ → List ℕ → Type 0
IsListing at line text = (command_of at.world.state.table.schema line ≡ Some command.Dump)
    × (text ≡ listing_of (live at.world.state))

-- the bytes taken after a line when memory ran out or a write failed: none, or all rows of its load
abbrev pub IsTakenFor : Option Command → List ℕ → Type 0
IsTakenFor asked rows = (rows ≡ []) ⊎ (asked ≡ Some (command.Load (length rows)))

-- an input after a line moved on by such bytes
abbrev pub TakesFor : {R : Type 0} (read : Ghosts R) → Option Command → Input R read → Input R read
    → Type 0
TakesFor read asked old new = (rows : List ℕ) × Reads read old rows new × IsTakenFor asked rows
