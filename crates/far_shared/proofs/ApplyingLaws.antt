-- The effect of a session's edit, from the effect on its stripe.
use Rattle.std.proofs.Common.{◌≡◌, ℕ, List, [], ◌∷◌, ◌++◌, length, sym, ap, subst, ◌∙◌, Result, IfOk, IfErr, OnOk, OnErr}
use Rattle.std.specs.declared.result.Result.TheVariants.{Ok, Err}
use mathlib.Core.List.{IsPrefix}
use Rattle.far_types.specs.declared.edit.Edit.{Edit}
use Rattle.far_types.specs.declared.refusal.Refusal.{Refusal}
use Rattle.far_sessions.specs.Histories.{Planned, replay}
use Rattle.far_sessions.specs.Rule.{entry}
use Rattle.far_sessions.specs.Sessions.{SessionState}
use Rattle.far_sessions.specs.declared.view.Entry.{Entry}
use Rattle.far_frame.specs.Effects.{Accepts, WhyRefused, edit_reply}
use Rattle.far_frame.specs.declared.step.Step.TheVariants as step
use Rattle.far_shared.specs.Applying.{place_of, SeesAll, WhyNot, Extends, IsRefused}
use Rattle.far_shared.specs.Editing.{IsDueUnder, IsMadeUnder}
use Rattle.far_shared.specs.Stripes.{StripeState}
use Rattle.far_shared.specs.declared.stripe.Applied.{Applied}

module _ (p : Planned) (before : SessionState) (e : Edit) (after : SessionState) (log now : List Entry) (sees : SeesAll p before log after now) where
  -- an accepted edit extends the history and the session's own entries
  pub extends : (r : Result Applied Refusal) → OnOk r ((now ≡ log ++ entry before.by e ∷ []) × (after.mine ≡ before.mine ++ entry before.by e ∷ []))
      → IfOk r (λ a. a.number ≡ length now) → IfOk r (λ a. a.place ≡ place_of (replay p log) e) → IfOk r (Extends p before e after)
  extends (Ok applied) longer number place = record {
    log = log;
    more = sees.prefix;
    seen = sees.whole ∙ longer.0;
    mine = longer.1;
    by = sees.by;
    own = sees.own;
    legal = sees.legal;
    number = number ∙ ap length (sym sees.whole);
    place = place;
  }
  extends (Err given) longer number place = tt

  -- a refused edit leaves both as they are
  pub is-refused : (r : Result Applied Refusal) → OnErr r ((now ≡ log) × (after.mine ≡ before.mine)) → IfErr r (WhyNot (replay p log) e) → IfErr r (IsRefused p before e after)
  is-refused (Ok applied) unchanged why = tt
  is-refused (Err given) unchanged why =
      let seen : after.seen ≡ log = sees.whole ∙ unchanged.0 in record {
        sees = record {
          more = subst (IsPrefix before.seen) (sym seen) sees.prefix;
          legal = sees.legal;
          own = sees.own;
          mine = unchanged.1;
          by = sees.by;
        };
        why = subst (λ l. WhyNot (replay p l) e given) (sym seen) why;
      }

module _ {K A : Type 0} (content : K → List ℕ) (allows : StripeState K → Type 0) (e : Edit) (after : SessionState) (old new : StripeState K) (before : allows old) (whole : after.seen ≡ new.log) where
  -- an accepted edit was made under the lock
  pub made-under : allows new → (r : Result A Refusal) → OnOk r (Accepts content old.state (step.Edit e) (edit_reply old.state.table e) new.state) → OnOk r (IsMadeUnder content allows e after)
  made-under later (Ok x) made = record { old = old; new = new; allowed = (before, later); seen = whole; made = made }
  made-under later (Err given) made = tt

  -- a refused edit was due to be refused under the lock
  pub due-under : (r : Result A Refusal) → OnErr r (new ≡ old) → IfErr r (WhyRefused old.state (step.Edit e)) → IfErr r (IsDueUnder allows e after)
  due-under (Ok x) same due = tt
  due-under (Err given) same due = record { at = old; allowed = before; seen = whole ∙ ap (λ (h : StripeState K). h.log) same; due = due }
