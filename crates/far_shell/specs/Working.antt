-- What sessions do during a run, and what they know when the table is closed.
-- Internal: no public contract cites it.
use Rattle.std.specs.Prelude.{◌≡◌, ◌≢◌, ◌⊎◌, ℕ, ℤ, ◌%◌, false, ◌<◌, ◌≤◌, List, [], ◌∷◌, ◌++◌, Option, None, Some, OnOk, IsOk, Result, length, slice_get}
use Rattle.far_types.specs.declared.answer.Answer.{Answer}
use Rattle.far_types.specs.declared.answer.Answer.TheVariants as answer
use Rattle.far_types.specs.declared.edit.Edit.{Edit}
use Rattle.far_types.specs.declared.refusal.Refusal.{Refusal}
use Rattle.far_types.specs.declared.refusal.Refusal.TheVariants as refusal
use Rattle.far_sessions.specs.Histories.{Planned, by_session, gauge_of}
use Rattle.far_sessions.specs.Rule.{entry}
use Rattle.far_sessions.specs.declared.reading.Reading.{Reading}
use Rattle.far_sessions.specs.Known.{Known, SeesMore, at, session_number}
use Rattle.far_shared.specs.Asking.{IsAnswer}
use Rattle.far_shared.specs.Stripes.{StripeState}
use Rattle.far_shared.specs.UnderLock.{ServeFails, Serves}
use Rattle.far_shared.specs.Works.{columns_for, stripe_of}
use Rattle.far_shared.specs.declared.work.Work.{Work}
use Rattle.far_shared.specs.declared.work.Work.TheVariants as work
use Rattle.far_shell.specs.declared.sessions.outcome.Outcome.{Outcome}
use Rattle.far_shell.specs.declared.sessions.outcome.Stop.{Stop}
use Rattle.far_shell.specs.declared.sessions.outcome.Stop.TheVariants as stop
use Rattle.far_shell.specs.Runs.{inserts, sum_of_rows}
use Rattle.far_shell.specs.Tries.{is_final}

-- a plan with at most as many sessions as stripes, so that each has its own home stripe. The gauge counts and sums the rows
pub record HasHomes (p : Planned) : Type 0 where
  pub few : p.sessions ≤ 4
  pub gauge : p.gauge ≡ sum_of_rows

-- a session has made this edit at stripe k and nothing elsewhere
pub record AddsOne (k : ℕ) (e : Edit) (before after : Known) : Type 0 where
  pub by : (at after k).by ≡ (at before k).by
  pub mine : (at after k).mine ≡ (at before k).mine ++ entry (at before k).by e ∷ []
  pub others : (i : ℕ) → i < 4 → i ≢ k → at after i ≡ at before i

-- a session has made no edit at stripe k and nothing elsewhere
pub record AddsNothing (k : ℕ) (before after : Known) : Type 0 where
  pub by : (at after k).by ≡ (at before k).by
  pub mine : (at after k).mine ≡ (at before k).mine
  pub others : (i : ℕ) → i < 4 → i ≢ k → at after i ≡ at before i

-- a session has made n more inserts at stripe k and nothing elsewhere
pub record Makes (k n : ℕ) (before after : Known) : Type 0 where
  pub by : (at after k).by ≡ (at before k).by
  pub mine : (at after k).mine ≡ (at before k).mine ++ inserts (at before k).by n
  pub others : (i : ℕ) → i < 4 → i ≢ k → at after i ≡ at before i

-- the work that may let an edit succeed that a stripe refused: the object that is away is fetched, or one is evicted if space is
-- short
abbrev pub remedy_of : ℕ → Refusal → Option Work
remedy_of stripe (refusal.Absent column group) =
    Some (work.Fetch stripe record { column = column; group = group })
remedy_of stripe refusal.RegionFull = Some (work.Evacuate stripe)
remedy_of stripe _ = None

-- why a session stops after so many tries of an edit, the last of which was refused so: it gives up, or memory ran out
abbrev pub StopsAfter : ℕ → Refusal → Stop → Type 0
StopsAfter tries given stop.Memory = is_final given ≡ false
StopsAfter tries given (stop.Turns gave) = (gave.tries ≡ tries) × (gave.refusal ≡ given)
StopsAfter tries given (stop.Answers differing) = ⊥

-- a work was done, or was refused for another reason than memory
abbrev pub IsTried : {K : Type 0} → (K → ℕ) → (K → List ℕ) → (ℕ → StripeState K → Type 0) → ℕ → Work
    → Type 0
IsTried number_of content allows columns w = Serves number_of content allows w
    ⊎ ((why : Refusal) × (why ≢ refusal.NoMemory)
    × (columns_for w ≤ columns → stripe_of w < 4 → ServeFails number_of content allows w why))

-- a session that has made its edits or was stopped
pub record Ended : Type 0 where
  pub session : Known
  pub outcome : Result (Unit {0}) Stop

-- a session has made n inserts on its home stripe and nothing elsewhere, unless it was stopped
abbrev pub IsWorked : ℕ → Known → Ended → Type 0
IsWorked n me ended = OnOk ended.outcome (Makes (session_number me % 4) n me ended.session)

-- all sessions have made their inserts in this way, in order
pub record AreWorked (n : ℕ) (sessions : List Known) (worked : List Ended) : Type 0 where
  pub count : length worked ≡ length sessions
  pub each : (i : ℕ) (me : Known) (ended : Ended)
      → slice_get sessions i ≡ Some me
      → slice_get worked i ≡ Some ended
      → IsWorked n me ended

-- a session that was not stopped has read the gauge of stripe k. The reading matches all that it has seen there; elsewhere
-- it has seen nothing new
pub record Looked (p : Planned) (k : ℕ) (ended : Ended) (me : Known)
    (reading : Reading) : Type 0 where
  pub done : IsOk ended.outcome
  pub sees : SeesMore p (at ended.session k) (at me k)
  pub others : (i : ℕ) → i < 4 → i ≢ k → at me i ≡ at ended.session i
  pub is : reading ≡ gauge_of p (at me k).seen

-- a session that was not stopped has read the gauge of its home stripe
abbrev pub IsRead : Planned → Ended → Known → Reading → Type 0
IsRead p ended me reading = Looked p (session_number ended.session % 4) ended me reading

-- session s has made n inserts on its home stripe and nothing elsewhere. The reading matches what it has seen there, and
-- exactly these inserts are its own
pub record IsGauged (p : Planned) (s n : ℕ) (me : Known) (reading : Reading) : Type 0 where
  pub number : session_number me ≡ s
  pub none : (k : ℕ) → k < 4 → k ≢ s % 4 → (at me k).mine ≡ []
  pub made : (at me (s % 4)).mine ≡ inserts s n
  pub own : by_session s (at me (s % 4)).seen ≡ inserts s n
  pub is : reading ≡ gauge_of p (at me (s % 4)).seen

-- all sessions of a plan have made their inserts and read the gauge in this way, in order
pub record AreGauged (p : Planned) (n : ℕ) (sessions : List Known)
    (readings : List Reading) : Type 0 where
  pub count : length sessions ≡ p.sessions
  pub returned : length readings ≡ p.sessions
  pub each : (s : ℕ) (me : Known) (reading : Reading)
      → slice_get sessions s ≡ Some me
      → slice_get readings s ≡ Some reading
      → IsGauged p s n me reading

-- the readings and the answer after all sessions of a plan have ended and as many evictions were tried as each session made inserts. It is
-- not yet known which rows the answer counts
pub record AreLeft (p : Planned) (n : ℕ) (sessions : List Known) (o : Outcome) : Type 0 where
  pub gauged : AreGauged p n sessions o.gauges.items
  pub answer : IsAnswer p 0 o.answer
  pub tried : o.evictions.tries ≡ n

-- the answer is one line without a key, with this count and sum
abbrev pub IsLineOf : ℕ → ℤ → Answer → Type 0
IsLineOf count sum given = given ≡ answer.Totals ((None, count, sum) ∷ [])
