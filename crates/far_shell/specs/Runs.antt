-- The outcome of sessions on threads.
use Rattle.std.specs.Prelude.{◌≡◌, ◌≢◌, ℕ, ◌*◌, ◌%◌, ◌<◌, zero, suc, pos, List, [], ◌∷◌, ◌++◌, None, replicate}
use Rattle.far_types.specs.declared.answer.Answer.{Answer}
use Rattle.far_types.specs.declared.answer.Answer.TheVariants as answer
use Rattle.far_types.specs.declared.cell.Cell.{Cell}
use Rattle.far_types.specs.declared.cell.Cell.TheVariants as cell
use Rattle.far_types.specs.declared.cell.Kind.TheVariants as kind
use Rattle.far_types.specs.declared.edit.Edit.TheVariants as edit
use Rattle.far_types.specs.declared.limits.Limits.{Limits}
use Rattle.far_types.specs.Answers.{answer_over}
use Rattle.far_types.specs.Bounds.{usual_limits}
use Rattle.far_types.specs.declared.spec.Fold.TheVariants as fold
use Rattle.far_types.specs.declared.spec.Spec.{Spec}
use Rattle.far_sessions.specs.Histories.{AllBelow, IsLegal, Planned, by_session, replay}
use Rattle.far_sessions.specs.Rule.{entry}
use Rattle.far_sessions.specs.declared.reading.Reading.{Reading}
use Rattle.far_sessions.specs.declared.view.Entry.{Entry}
use Rattle.far_shared.specs.Fours.{all_rows}
use Rattle.far_shell.specs.declared.sessions.outcome.Outcome.{Outcome}

-- how many contents the store of a run can hold
abbrev pub store_capacity : ℕ
store_capacity = 1048576

-- the row that each session inserts: the number 1
abbrev pub row_of_one : List Cell
row_of_one = cell.Int (pos 1) ∷ []

-- the limits of each stripe
abbrev pub stripe_limits : Limits
stripe_limits = usual_limits 4

-- the gauge: the count and the sum of the numbers
abbrev pub sum_of_rows : Spec
sum_of_rows = record { fold = fold.Totals; value = 0; key = None; filter = [] }

-- the plan of a table of one int column, for this many sessions
abbrev pub plan_for : ℕ → Planned
plan_for n = record
    { schema = kind.Int ∷ []; limits = stripe_limits; gauge = sum_of_rows; sessions = n }

-- this many inserts by session s
abbrev pub inserts : ℕ → ℕ → List Entry
inserts s zero = []
inserts s (suc n) = inserts s n ++ entry s (edit.Insert row_of_one) ∷ []

-- the reading of a gauge after this many inserts of the number 1
abbrev pub all_of : ℕ → Reading
all_of n = record { edits = n; count = n; sum = pos n }

-- the answer over this many rows of the number 1: one line without a key
abbrev pub total_of : ℕ → Answer
total_of n = answer.Totals ((None, n, pos n) ∷ [])

-- the history of stripe k when all sessions of a plan have ended. It is legal, and has `edits` inserts of each session
-- whose home is stripe k, and no other entries
pub record IsHistory (p : Planned) (edits k : ℕ) (log : List Entry) : Type 0 where
  pub legal : IsLegal p log
  pub home : (s : ℕ) → s < p.sessions → s % 4 ≡ k → by_session s log ≡ inserts s edits
  pub away : (s : ℕ) → s < p.sessions → s % 4 ≢ k → by_session s log ≡ []
  pub below : AllBelow p.sessions log

-- the answer of the gauge over all rows that are left after four such histories
pub record IsOverAll (p : Planned) (edits : ℕ) (answer : Answer) : Type 0 where
  pub zeroth : List Entry
  pub first : List Entry
  pub second : List Entry
  pub third : List Entry
  pub histories : IsHistory p edits 0 zeroth
      × IsHistory p edits 1 first
      × IsHistory p edits 2 second
      × IsHistory p edits 3 third
  pub is : answer
      ≡ answer_over p.gauge
      (all_rows (replay p zeroth) (replay p first) (replay p second) (replay p third))

-- all sessions of a plan have ended, each with `edits` inserts on its home stripe. The gauge there shows exactly these, and
-- the answer counts and sums exactly the rows of all sessions. The worker beside them has tried `edits` evictions
pub record IsRun (p : Planned) (edits : ℕ) (o : Outcome) : Type 0 where
  pub gauges : o.gauges.items ≡ replicate p.sessions (all_of edits)
  pub answer : IsOverAll p edits o.answer
  pub total : o.answer ≡ total_of (p.sessions * edits)
  pub tried : o.evictions.tries ≡ edits

-- the outcome of this many sessions with this many inserts each
abbrev pub IsOutcome : ℕ → ℕ → Outcome → Type 0
IsOutcome sessions edits = IsRun (plan_for sessions) edits
