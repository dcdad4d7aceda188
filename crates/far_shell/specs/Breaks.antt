-- What was written when a fault ends a script early.
use Rattle.std.specs.Prelude.{◌≡◌, ◌⊎◌, ◌≤◌, ℕ, Bool, IsTrue, List, [], ◌++◌, length, Option}
use Rattle.std.specs.Io.KnownBytes.{Appends}
use Rattle.far_store.specs.declared.store.FarTickets.{Ghosts as Tickets}
use Rattle.far_script.specs.declared.fault.ShellFault.{ShellFault}
use Rattle.far_script.specs.declared.fault.ShellFault.TheVariants as fault
use Rattle.far_shell.specs.LineFaults.{BreaksLater, HasNotBegun}
use Rattle.far_shell.specs.Scripts.{IsScript}
use Rattle.far_shell.specs.Sessions.{AsksSessions, IsAnswered}

-- in what follows, `unseen` says for the bytes that came why no more did, and `spent` says for the rest that it is empty
module _ {S K : Type 0} (tickets : Tickets S K) (unseen spent : List ℕ → Type 0) where
  -- the text is what is printed for these bytes of a script up to a fault. `rest` are the bytes after them
  abbrev pub IsBroken : ShellFault → List ℕ → List ℕ → List ℕ → Type 0
  IsBroken fault.BadStart bytes rest text = HasNotBegun (unseen bytes) (spent rest) fault.BadStart
      bytes rest text
  IsBroken fault.Input bytes rest text = HasNotBegun (unseen bytes) (spent rest) fault.Input bytes
      rest text
      ⊎ BreaksLater tickets (unseen bytes) (spent rest) fault.Input bytes rest text
  IsBroken fault.Output bytes rest text = HasNotBegun (unseen bytes) (spent rest) fault.Output bytes
      rest text
      ⊎ BreaksLater tickets (unseen bytes) (spent rest) fault.Output bytes rest text
  IsBroken fault.Memory bytes rest text = HasNotBegun (unseen bytes) (spent rest) fault.Memory bytes
      rest text
      ⊎ BreaksLater tickets (unseen bytes) (spent rest) fault.Memory bytes rest text
  IsBroken fault.Turns bytes rest text = (text ≡ [])
      × ((sessions : ℕ) × (edits : ℕ) × AsksSessions bytes (rest ≡ []) sessions edits)

  -- the same, for a script that is split into these bytes and the rest as `splits` says
  abbrev pub IsSplit : (ShellFault → List ℕ → List ℕ → Type 0) → ShellFault → List ℕ → List ℕ
      → List ℕ → Type 0
  IsSplit splits why bytes rest text = splits why bytes rest × IsBroken why bytes rest text

  -- the same, with `lost`, the replies that the writer did not take. It is empty unless a write failed, which happens only for
  -- writers of a type that may fail. The failed write comes after all replies to a script, or after those up to another fault
  abbrev pub EndsBy : (ShellFault → List ℕ → List ℕ → Type 0) → Bool → ShellFault → List ℕ → List ℕ
      → List ℕ → List ℕ → Type 0
  EndsBy splits may_fail fault.BadStart bytes rest text lost = IsSplit splits fault.BadStart bytes
      rest text
      × (lost ≡ [])
  EndsBy splits may_fail fault.Input bytes rest text lost = IsSplit splits fault.Input bytes rest
      text
      × (lost ≡ [])
  EndsBy splits may_fail fault.Memory bytes rest text lost = IsSplit splits fault.Memory bytes rest
      text
      × (lost ≡ [])
  EndsBy splits may_fail fault.Turns bytes rest text lost = IsSplit splits fault.Turns bytes rest
      text
      × (lost ≡ [])
  EndsBy splits may_fail fault.Output bytes rest text lost =
      IsTrue may_fail
      × ((splits fault.Output bytes rest × IsAnswered (IsScript tickets) bytes (rest ≡ []) text)
      ⊎ ((why : ShellFault) × IsSplit splits why bytes rest text))

  -- a script ended early with this fault: what was written is a prefix of the replies to its first bytes
  pub record Breaks (splits : ShellFault → List ℕ → List ℕ → Type 0) (may_fail : Bool)
      (old new : Option (List ℕ)) (why : ShellFault) : Type 0 where
    pub bytes : List ℕ
    pub rest : List ℕ
    pub text : List ℕ
    pub sent : List ℕ
    pub lost : List ℕ
    pub written : Appends old new sent
    pub said : text ≡ sent ++ lost
    pub ends : EndsBy splits may_fail why bytes rest text lost

-- why no more of a script came after these bytes: readers of this type may fail, or the bytes are at least as many as the
-- reads that a script may have
abbrev pub IsUnfinished : Type 0 → List ℕ → Type 0
IsUnfinished may_fail bytes = may_fail ⊎ (1048576 ≤ length bytes)
