-- An edit of the table of a stripe: what it makes, and what the lock allows before and after it.
use Rattle.std.specs.Prelude.{◌≡◌, ℕ, ◌+◌, List, None}
use Rattle.far_types.specs.declared.edit.Edit.{Edit}
use Rattle.far_types.specs.declared.refusal.Refusal.{Refusal}
use Rattle.far_types.specs.Edits.{after_edit, edit_refusal}
use Rattle.far_frame.specs.Effects.{Accepts, WhyRefused, edit_reply}
use Rattle.far_frame.specs.State.{State}
use Rattle.far_frame.specs.declared.step.Step.TheVariants as step
use Rattle.far_sessions.specs.Histories.{Planned, folded}
use Rattle.far_sessions.specs.Sessions.{SessionState}
use Rattle.far_shared.specs.Applying.{place_of}
use Rattle.far_shared.specs.Stripes.{StripeState}
use Rattle.far_shared.specs.declared.editing.EditOutcome.{EditOutcome}

module _ {K : Type 0} (content : K → List ℕ) where
  -- an edit was accepted
  pub record IsMade (old : State K) (e : Edit) (new : State K) : Type 0 where
    -- the plain table accepts it
    pub may : edit_refusal old.table e ≡ None
    -- the plain table is edited so
    pub table : new.table ≡ after_edit e old.table
    -- the rows, the objects and the aggregates change as in the step of one thread
    pub accepted : Accepts content old (step.Edit e) (edit_reply old.table e) new

  -- an edit was accepted after `edits` others, and its outcome says so
  pub record IsChanged (p : Planned) (edits : ℕ) (old : State K) (e : Edit) (new : State K)
      (outcome : EditOutcome) : Type 0 where
    -- it was made
    pub made : IsMade old e new
    -- the place is that of the row that it appended, or the one that it names
    pub place : outcome.place ≡ place_of old.table e
    -- the reading counts it, and has the count and the sum of the gauge over the rows now
    pub after : outcome.after
        ≡ record {
          edits = edits + 1;
          count = (folded p.gauge new.table.places).0;
          sum = (folded p.gauge new.table.places).1;
        }

-- an edit was accepted under the lock of a stripe
pub record IsMadeUnder {K : Type 0} (content : K → List ℕ) (allows : StripeState K → Type 0)
    (e : Edit) (after : SessionState) : Type 0 where
  pub old : StripeState K
  pub new : StripeState K
  -- the lock allows the states before and after
  pub allowed : allows old × allows new
  -- the session has then seen the whole history after the edit
  pub seen : after.seen ≡ new.log
  -- the table made the step that a table of one thread makes
  pub made : Accepts content old.state (step.Edit e) (edit_reply old.state.table e) new.state

-- an edit was refused under the lock of a stripe, for this reason
pub record IsDueUnder {K : Type 0} (allows : StripeState K → Type 0) (e : Edit)
    (after : SessionState) (given : Refusal) : Type 0 where
  pub at : StripeState K
  -- the lock allows this state
  pub allowed : allows at
  -- the session has then seen its whole history
  pub seen : after.seen ≡ at.log
  -- a table of one thread refuses the step so, down to the column that it names
  pub due : WhyRefused at.state (step.Edit e) given
