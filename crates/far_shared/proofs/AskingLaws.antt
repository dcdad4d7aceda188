-- The joint answer of four stripes.
use Rattle.std.proofs.Common.{◌≡◌, inl, inr, ℕ, ◌<◌, ◌^◌, List, Option, Some, IfSome, IfOk, IfErr, OnOk, Result, refl, sym, ap, subst, ◌∙◌}
use Rattle.std.specs.Prelude.{option_map}
use Rattle.std.specs.declared.result.Result.TheVariants.{Ok, Err}
use Rattle.far_types.specs.declared.answer.Answer.{Answer}
use Rattle.far_types.specs.declared.refusal.Refusal.{Refusal}
use Rattle.far_types.specs.declared.refusal.Refusal.TheVariants as refusal
use Rattle.far_types.specs.declared.spec.Spec.{Spec}
use Rattle.far_types.specs.Answers.{answer_over}
use Rattle.far_types.specs.Table.{Table, Registered}
use Rattle.far_sessions.specs.Histories.{Planned, IsLegal, replay}
use Rattle.far_sessions.specs.declared.view.Entry.{Entry}
use Rattle.far_shared.specs.Asking.{IsAnswer, AskRefusal}
use Rattle.far_shared.specs.Fours.{AreLike, AreAlike, FourRefusal, all_rows, pending_in_all, spec_at}
use Rattle.far_shared.specs.Stripes.{IsStripe}
use Rattle.far_shared.proofs.FoursPending.{four-few, not-past}
use Rattle.far_shared.proofs.JobsRefusals.{if-err}

-- the gauge has the same specification in any two stripes
gauge-like : (p : Planned) (log more : List Entry) (one other : Table) → IsStripe p log one → IsStripe p more other → AreLike 0 one other
gauge-like p log more one other is also =
    (p.gauge, ap (option_map (λ (aggregate : Registered). aggregate.spec)) is.gauge, ap (option_map (λ (aggregate : Registered). aggregate.spec)) also.gauge, is.schema ∙ sym also.schema)

module _ (p : Planned) (zero one two three : List Entry) (t0 t1 t2 t3 : Table) (is0 : IsStripe p zero t0) (is1 : IsStripe p one t1) (is2 : IsStripe p two t2) (is3 : IsStripe p three t3) where
  gauge-left : pending_in_all 0 t0 t1 t2 t3 ≡ 0
  gauge-left = rw is0.gauge (rw is1.gauge (rw is2.gauge (rw is3.gauge refl)))

  -- the gauge answers, unless memory runs out
  pub gauge-answers : (given : Refusal) → FourRefusal 0 t0 t1 t2 t3 given → given ≡ refusal.NoMemory
  gauge-answers given (inl none) =
      absurd (none.1 (record { second = gauge-like p zero one t0 t1 is0 is1; third = gauge-like p zero two t0 t2 is0 is2; fourth = gauge-like p zero three t0 t3 is0 is3 }))
  gauge-answers given (inr (alike, inl (inl left))) = absurd (left.0 gauge-left)
  gauge-answers given (inr (alike, inl (inr memory))) = memory.1
  gauge-answers given (inr (alike, inr past)) = past.1

  -- the number of pending row groups in four stripes fits 32 bits
  pub four-left : (a : ℕ) → pending_in_all a t0 t1 t2 t3 < 2 ^ 32
  four-left a = four-few _ _ _ _ (is0.few a) (is1.few a) (is2.few a) (is3.few a)

  stripes-refuse : (a : ℕ) (given : Refusal) → FourRefusal a t0 t1 t2 t3 given → AskRefusal a t0 t1 t2 t3 given
  stripes-refuse a given (inl none) = inl none
  stripes-refuse a given (inr (alike, inl left)) = inr (alike, left)
  stripes-refuse a given (inr (alike, inr past)) = absurd (not-past (pending_in_all a t0 t1 t2 t3) (four-left a) past.0)

  rows-left : all_rows t0 t1 t2 t3 ≡ all_rows (replay p zero) (replay p one) (replay p two) (replay p three)
  rows-left = rw is0.places (rw is1.places (rw is2.places (rw is3.places refl)))

  -- the joint answer of four stripes is the answer over the rows of their histories
  pub is-answer : (a : ℕ) (answer : Answer) → IsLegal p zero → IsLegal p one → IsLegal p two → IsLegal p three → AreAlike a t0 t1 t2 t3
      → IfSome (spec_at t0 a) (λ (spec : Spec). answer ≡ answer_over spec (all_rows t0 t1 t2 t3)) → IsAnswer p a answer
  is-answer a answer l0 l1 l2 l3 alike is = record {
    zero = zero;
    one = one;
    two = two;
    three = three;
    legal = (l0, l1, l2, l3);
    spec = alike.second.0;
    gauge = gauge;
    is = returned ∙ ap (answer_over alike.second.0) rows-left;
  }
    where
      returned : answer ≡ answer_over alike.second.0 (all_rows t0 t1 t2 t3)
      returned = subst (λ (found : Option Spec). IfSome found (λ (spec : Spec). answer ≡ answer_over spec (all_rows t0 t1 t2 t3))) alike.second.1 is

      gauge : a ≡ 0 → alike.second.0 ≡ p.gauge
      gauge first =
          let here : spec_at t0 0 ≡ Some alike.second.0 = subst (λ n. spec_at t0 n ≡ Some alike.second.0) first alike.second.1 in
          let gauged : spec_at t0 0 ≡ Some p.gauge = ap (option_map (λ (aggregate : Registered). aggregate.spec)) is0.gauge in
          cc

  module _ (a : ℕ) (r : Result Answer Refusal) where
    pub answers-given : IsLegal p zero → IsLegal p one → IsLegal p two → IsLegal p three
        → IfOk r (λ answer. IfSome (spec_at t0 a) (λ (spec : Spec). answer ≡ answer_over spec (all_rows t0 t1 t2 t3))) → OnOk r (AreAlike a t0 t1 t2 t3) → IfOk r (IsAnswer p a)
    answers-given l0 l1 l2 l3 = by r
      where
        by : (r : Result Answer Refusal) → IfOk r (λ answer. IfSome (spec_at t0 a) (λ (spec : Spec). answer ≡ answer_over spec (all_rows t0 t1 t2 t3))) → OnOk r (AreAlike a t0 t1 t2 t3) → IfOk r (IsAnswer p a)
        by (Ok answer) returned alike = is-answer a answer l0 l1 l2 l3 alike returned
        by (Err e) returned alike = tt

    pub refusal-given : IfErr r (FourRefusal a t0 t1 t2 t3) → IfErr r (AskRefusal a t0 t1 t2 t3)
    refusal-given refused = if-err r (FourRefusal a t0 t1 t2 t3) (AskRefusal a t0 t1 t2 t3) (λ e h. stripes-refuse a e h) refused

    pub gauge-given : IfErr r (FourRefusal a t0 t1 t2 t3) → a ≡ 0 → IfErr r (λ e. e ≡ refusal.NoMemory)
    gauge-given refused first = if-err r (FourRefusal a t0 t1 t2 t3) (λ e. e ≡ refusal.NoMemory) (λ e h. gauge-answers e (subst (λ n. FourRefusal n t0 t1 t2 t3 e) first h)) refused
