-- The replies to a script of sessions on threads.
use Rattle.std.specs.Prelude.{◌≡◌, ◌⊎◌, ℕ, ◌+◌, ◌*◌, List, [], ◌∷◌, ◌++◌, Some, replicate}
use Rattle.far_sessions.specs.declared.reading.Reading.{Reading}
use Rattle.far_shell.specs.declared.sessions.outcome.Outcome.{Outcome}
use Rattle.far_shell.specs.declared.sessions.outcome.Stop.{Stop}
use Rattle.far_shell.specs.declared.sessions.outcome.Stop.TheVariants as stop
use Rattle.far_shell.specs.Runs.{all_of, total_of}
use Rattle.far_script.specs.declared.fault.ShellFault.{ShellFault}
use Rattle.far_script.specs.declared.fault.ShellFault.TheVariants as fault
use Rattle.far_script.specs.Openings.{Threads, start_in}
use Rattle.far_script.specs.Printing.{answer_text, gauge_text}
use Rattle.far_shell.specs.Scripts.{Begins}

-- the gauge line of a session
abbrev pub session_line : ℕ → Reading → List ℕ
session_line session reading = gauge_text session reading.edits reading.count reading.sum

-- the gauge lines of sessions with the numbers `session`, `session + 1` and so on
abbrev pub gauges_text : ℕ → List Reading → List ℕ
gauges_text session [] = []
gauges_text session (reading ∷ readings) = session_line session reading
    ++ gauges_text (session + 1) readings

-- the printed outcome: the gauge lines of sessions 0, 1 and so on, and the answer over all rows
abbrev pub outcome_text : Outcome → List ℕ
outcome_text o = gauges_text 0 o.gauges.items ++ answer_text o.answer

-- the gauge lines of this many sessions with this many edits each: `session s gauge N N N` for each session s, where N is
-- the number of edits
abbrev pub gauge_lines : ℕ → ℕ → List ℕ
gauge_lines sessions edits = gauges_text 0 (replicate sessions (all_of edits))

-- the text is the outcome of this many sessions with this many edits each: their gauge lines, and the answer
-- `count N sum N` over all rows, where N is the number of sessions times the number of edits
abbrev pub IsOutcomeText : ℕ → ℕ → List ℕ → Type 0
IsOutcomeText sessions edits text = text
    ≡ gauge_lines sessions edits ++ answer_text (total_of (sessions * edits))

-- the fault that ends a script whose sessions were stopped
abbrev pub fault_of : Stop → ShellFault
fault_of stop.Memory = fault.Memory
fault_of (stop.Turns given) = fault.Turns
fault_of (stop.Answers given) = fault.Turns

-- the first command of a script asks for this many sessions with this many edits each
abbrev pub AsksSessions : List ℕ → Type 0 → ℕ → ℕ → Type 0
AsksSessions bytes spent sessions edits = (line : List ℕ) × Begins bytes spent line
    × (start_in line ≡ Some (Threads sessions edits))

-- the first command of a script asks for sessions, and the text is their outcome. The bytes after that command do not
-- matter
pub record IsThreads (bytes : List ℕ) (spent : Type 0) (text : List ℕ) : Type 0 where
  pub sessions : ℕ
  pub edits : ℕ
  pub asks : AsksSessions bytes spent sessions edits
  pub printed : IsOutcomeText sessions edits text

-- the text is the reply to a script: these bytes are all of a script over a table, with the replies that `says` allows, or
-- they begin with a command for sessions
abbrev pub IsAnswered :
    (List ℕ → List ℕ → Type 0) → List ℕ → Type 0 → List ℕ → Type 0
IsAnswered says bytes spent text = (says bytes text × spent) ⊎ IsThreads bytes spent text
