-- What a call that answers a line does with the input and the page.
use Rattle.std.specs.Prelude.{◌≡◌, ℕ, List, [], ◌++◌, Option, true}
use Rattle.std.specs.declared.io.traits.Read.{Ghosts}
use Rattle.std.specs.declared.io.traits.Write.{Ghosts as Writes}
use Rattle.far_frame.specs.Worlds.{World}
use Rattle.far_script.specs.declared.sink.Sink.{Ghosts as Sinks}
use Rattle.far_script.specs.declared.fault.ShellFault.{ShellFault}
use Rattle.far_script.specs.declared.fault.ShellFault.TheVariants as fault
use Rattle.far_script.specs.declared.input.Input.{Input}
use Rattle.far_script.specs.declared.input.ByteRange.{ByteRange}
use Rattle.far_script.specs.declared.output.Output.{Output}
use Rattle.far_script.specs.Flow.{IsShort, Prints, Reads, Stops, bytes_in, has_failed}
use Rattle.far_commands.specs.declared.command.Command.{Command}
use Rattle.far_commands.specs.Commands.{command_of}
use Rattle.far_commands.specs.Cuts.{Fails, TakesFor}
use Rattle.far_commands.specs.Progress.{At}
use Rattle.far_commands.specs.Replies.{AnswersLine, Serves}
use Rattle.far_commands.specs.Rules.{Rules}

module _ {R : Type 0} (read : Ghosts R) (old : Input R read) (line : ByteRange)
    (new : Input R read) where
  -- the line is answered: the bytes of its load are taken from the input, and its reply is printed
  abbrev pub IsAnswered :
      {W : Type 0} → Rules W → At W → At W → Option (List ℕ) → List ℕ → Option (List ℕ) → List ℕ
      → Type 0
  IsAnswered rules at next written held wrote left =
      (rows : List ℕ) × (text : List ℕ) × Reads read old rows new
      × Prints written held text wrote left
      × AnswersLine rules at (bytes_in read old line) rows text next

  -- the line can get no reply, for what came after it
  abbrev pub StopsAtLine : {K : Type 0} → Type 0 → At (World K) → Type 0
  StopsAtLine may_fail at =
      Stops read
      (λ behind rest. Fails (IsShort read may_fail old new rest) at.world.state.table.schema
      (bytes_in read old line) behind) old new

  -- the bytes taken after the line are none, or all rows of its load
  abbrev pub TakesForLine : {K : Type 0} → At (World K) → Type 0
  TakesForLine at =
      TakesFor read (command_of at.world.state.table.schema (bytes_in read old line)) old new

-- a command that takes no bytes after its line is served, and its reply is added to the page
abbrev pub IsReplied : {W : Type 0} → Rules W → W → Command → W → List ℕ → List ℕ → Type 0
IsReplied rules old asked new held left = (text : List ℕ) × Serves rules old asked [] text new
    × (left ≡ held ++ text)

-- if the fault is `Output`, a write failed
abbrev pub IsOfWrite : {W : Type 0} {sink : Sinks W} {write : Writes W} → ShellFault
    → Output W sink write → Type 0
IsOfWrite why output = why ≡ fault.Output → has_failed output ≡ true
