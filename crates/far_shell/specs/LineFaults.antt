-- What a script has printed when a fault ends it: in its first line, and in the lines after it.
use Rattle.std.specs.Prelude.{◌≡◌, ◌⊎◌, ℕ, List, [], ◌∷◌, ◌++◌, None, Some, IsUtf8, codes}
use Rattle.far_types.specs.declared.refusal.Refusal.TheVariants as refusal
use Rattle.far_types.specs.Bounds.{IsSchema, AreLimits}
use Rattle.far_store.specs.declared.store.FarTickets.{Ghosts as Tickets}
use Rattle.far_frame.specs.Worlds.{World}
use Rattle.far_script.specs.declared.fault.ShellFault.{ShellFault}
use Rattle.far_script.specs.declared.fault.ShellFault.TheVariants as fault
use Rattle.far_commands.specs.Commands.{command_of}
use Rattle.far_commands.specs.Cuts.{Fails, IsFront, IsListing, IsTakenFor}
use Rattle.far_script.specs.Openings.{Opened, Schema, start_in}
use Rattle.far_script.specs.Printing.{refusal_text}
use Rattle.far_commands.specs.Progress.{At}
use Rattle.far_commands.specs.WorldRules.{world_rules}
use Rattle.far_script.specs.Lines.{Blank, IsOneLine, without_return}
use Rattle.far_shell.specs.Scripts.{AnswersLines, Begins, IsNew, Opens}

-- the input stops before a line that can be answered: it ends inside a line, for the reason `unseen`; or it is only a last
-- line, which is invalid, and `spent` says that nothing follows; or its first line is invalid
abbrev pub HasNoTurn : Type 0 → Type 0 → (List ℕ → List ℕ → Type 0) → List ℕ → Type 0
HasNoTurn unseen spent fails bytes = (IsOneLine bytes × (unseen ⊎ (spent × fails bytes [])))
    ⊎ ((line : List ℕ) × (behind : List ℕ) × IsOneLine line
    × (bytes ≡ line ++ 10 ∷ behind)
    × fails (without_return line) behind)

-- a line is not a valid first line, and this text is printed for it
abbrev pub IsUnknown : List ℕ → List ℕ → Type 0
IsUnknown line text = (start_in line ≡ None) × (text ≡ codes "syntax command 1\n")

-- these columns or limits are not valid, and this text is printed for them
abbrev pub IsRefused : Opened → List ℕ → Type 0
IsRefused opened text = ¬ (IsSchema opened.0 × AreLimits opened.1)
    × (text ≡ refusal_text refusal.BadSchema)

-- a first line is invalid in one of these two ways, and this text is printed for it
abbrev pub IsRejected : List ℕ → List ℕ → Type 0
IsRejected line text = IsUnknown line text
    ⊎ ((opened : Opened) × (start_in line ≡ Some (Schema opened)) × IsRefused opened text)

-- the text printed at a fault of the first line: by `why` if the line is invalid, none if memory runs out
abbrev pub Rejection : ShellFault → (List ℕ → Type 0) → List ℕ → Type 0
Rejection fault.BadStart why text = why text
Rejection fault.Input why text = ⊥
Rejection fault.Output why text = ⊥
Rejection fault.Memory why text = text ≡ []
Rejection fault.Turns why text = ⊥

-- a script has only empty lines
abbrev pub HasNoCommand : List ℕ → Type 0 → Type 0
HasNoCommand bytes spent = (blanks : List (List ℕ)) × Blank bytes blanks × spent

-- the first command of a script is invalid, and this text is printed for it; or the script has only empty lines
abbrev pub Rejects : List ℕ → Type 0 → List ℕ → Type 0
Rejects bytes spent text = ((line : List ℕ) × Begins bytes spent line × IsRejected line text)
    ⊎ (HasNoCommand bytes spent × (text ≡ []))

-- the input stops before a first command, after some empty lines: inside a line, or at a line that is not valid UTF-8
pub record HasNoStart (unseen spent : Type 0) (bytes : List ℕ) : Type 0 where
  pub blanks : List (List ℕ)
  pub blank : List ℕ
  pub empty : Blank blank blanks
  pub next : List ℕ
  pub none : HasNoTurn unseen spent (λ line behind. ¬ (IsUtf8 line)) next
  pub whole : bytes ≡ blank ++ next

-- only empty lines were taken, and at most the first command
abbrev pub IsAtStart : List ℕ → Type 0 → Type 0
IsAtStart bytes spent = ((blanks : List (List ℕ)) × Blank bytes blanks)
    ⊎ ((line : List ℕ) × Begins bytes spent line)

-- a fault comes before a first command was read and found valid, and this text is printed. At `Memory` and `Output`,
-- `bytes` is all that was taken
abbrev pub HasNotBegun : Type 0 → Type 0 → ShellFault → List ℕ → List ℕ → List ℕ → Type 0
HasNotBegun unseen spent fault.BadStart bytes rest text = Rejects bytes (rest ≡ []) text
HasNotBegun unseen spent fault.Input bytes rest text = HasNoStart unseen spent bytes × (text ≡ [])
HasNotBegun unseen spent fault.Output bytes rest text = (text ≡ []) × IsAtStart bytes (rest ≡ [])
HasNotBegun unseen spent fault.Memory bytes rest text = (text ≡ []) × IsAtStart bytes (rest ≡ [])
HasNotBegun unseen spent fault.Turns bytes rest text = ⊥

module _ {K : Type 0} where
  -- the bytes taken after a line without a complete reply, and the part of its reply that was printed. Only the reply to
  -- `dump` can be printed in part
  abbrev pub IsStopped : At (World K) → List ℕ → List ℕ → List ℕ → Type 0
  IsStopped at line rows front = IsTakenFor (command_of at.world.state.table.schema line) rows
      × IsFront (IsListing at line) front

  -- the bytes of a command without a complete reply: none, or a line with the bytes of its load, or the last line
  abbrev pub StopsIn : At (World K) → List ℕ → List ℕ → List ℕ → Type 0
  StopsIn at next rest front = ((next ≡ []) × (front ≡ []))
      ⊎ (((line : List ℕ) × (rows : List ℕ) × IsOneLine line × (next ≡ line ++ 10 ∷ rows)
      × IsStopped at (without_return line) rows front)
      ⊎ (IsOneLine next × (rest ≡ []) × IsStopped at next [] front))

  -- `next` is the command at which the fault occurred, and `front` the printed part of its reply. At `Input`, `next` is all
  -- that came after the answered lines, and has no line that can be answered: `unseen` says why no more came, `spent` that
  -- nothing follows. At `Output` and `Memory`, it is all that was taken
  abbrev pub BreaksIn :
      Type 0 → Type 0 → ShellFault → At (World K) → List ℕ → List ℕ → List ℕ → Type 0
  BreaksIn unseen spent fault.BadStart at next rest front = ⊥
  BreaksIn unseen spent fault.Input at next rest front = (front ≡ [])
      × HasNoTurn unseen spent (Fails (spent ⊎ unseen) at.world.state.table.schema) next
  BreaksIn unseen spent fault.Output at next rest front = StopsIn at next rest front
  BreaksIn unseen spent fault.Memory at next rest front = StopsIn at next rest front
  BreaksIn unseen spent fault.Turns at next rest front = ⊥

-- in what follows, `unseen` says why no more of the script came, and `spent` that nothing follows
module _ {S K : Type 0} (tickets : Tickets S K) (unseen spent : Type 0) where
  -- a script ends early after its first command: some lines are answered in full, and at most one more in part
  pub record BreaksOff (old : At (World K)) (why : ShellFault)
      (bytes rest text : List ℕ) : Type 0 where
    pub before : List ℕ
    pub printed : List ℕ
    pub mid : At (World K)
    pub answered : AnswersLines (world_rules tickets) old before printed mid
    pub next : List ℕ
    pub front : List ℕ
    pub cut : BreaksIn unseen spent why mid next rest front
    pub whole : bytes ≡ before ++ next
    pub said : text ≡ printed ++ front

  -- a script ends early after a first command for a table of these columns and limits: the table is not opened, and nothing
  -- more is read; or it is opened, and the fault comes among its lines
  abbrev pub BreaksServing : Opened → ShellFault → List ℕ → List ℕ → List ℕ → Type 0
  BreaksServing opened why bytes rest text = ((bytes ≡ []) × Rejection why (IsRefused opened) text)
      ⊎ ((at : At (World K)) × (tail : List ℕ) × IsNew (world_rules tickets) opened at
      × BreaksOff at why bytes rest tail
      × (text ≡ codes "ok\n" ++ tail))

  -- a script ends early after its first command opened a table
  pub record BreaksLater (why : ShellFault) (bytes rest text : List ℕ) : Type 0 where
    pub first : List ℕ
    pub at : At (World K)
    pub more : List ℕ
    pub tail : List ℕ
    pub opens : Opens (world_rules tickets) first (more ++ rest ≡ []) at
    pub breaks : BreaksOff at why more rest tail
    pub whole : bytes ≡ first ++ more
    pub said : text ≡ codes "ok\n" ++ tail
