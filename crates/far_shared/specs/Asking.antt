-- The joint answers of the four stripes.
use Rattle.std.specs.Prelude.{◌≡◌, ◌⊎◌, ℕ, List, Result, IfOk, IfErr, IfSome, OnOk}
use Rattle.far_types.specs.declared.answer.Answer.{Answer}
use Rattle.far_types.specs.declared.refusal.Refusal.{Refusal}
use Rattle.far_types.specs.declared.refusal.Refusal.TheVariants as refusal
use Rattle.far_types.specs.declared.spec.Spec.{Spec}
use Rattle.far_types.specs.Answers.{answer_over}
use Rattle.far_types.specs.Table.{Table}
use Rattle.far_sessions.specs.Histories.{Planned, IsLegal, replay}
use Rattle.far_sessions.specs.declared.view.Entry.{Entry}
use Rattle.far_shared.specs.Fours.{AreAlike, LeftRefusal, all_rows, pending_in_all, spec_at}
use Rattle.far_shared.specs.Stripes.{IsStripe}

-- an answer over all rows that four legal histories leave. Under number 0 it is the answer of the gauge
pub record IsAnswer (p : Planned) (a : ℕ) (answer : Answer) : Type 0 where
  pub zero : List Entry
  pub one : List Entry
  pub two : List Entry
  pub three : List Entry
  pub legal : IsLegal p zero × IsLegal p one × IsLegal p two × IsLegal p three
  pub spec : Spec
  pub gauge : a ≡ 0 → spec ≡ p.gauge
  pub is : answer
      ≡ answer_over spec (all_rows (replay p zero) (replay p one) (replay p two) (replay p three))

-- the table is the replay of some legal history
pub record IsLeft (p : Planned) (table : Table) : Type 0 where
  pub log : List Entry
  pub legal : IsLegal p log
  pub stripe : IsStripe p log table

-- why four stripes do not answer: their aggregates differ, or they are alike and row groups are pending or memory ran out
abbrev pub AskRefusal : ℕ → Table → Table → Table → Table → Refusal → Type 0
AskRefusal a zero one two three given = ((given ≡ refusal.NoAggregate)
    × ¬ (AreAlike a zero one two three))
    ⊎ (AreAlike a zero one two three × LeftRefusal (pending_in_all a zero one two three) given)

-- the joint answer of four tables that legal histories leave, under a number: all of them have the same aggregate there with nothing
-- pending, and the answer is over the rows of the four, one table after another. Or it is refused as for these four
pub record IsAsked (p : Planned) (a : ℕ) (result : Result Answer Refusal) : Type 0 where
  pub zero : Table
  pub one : Table
  pub two : Table
  pub three : Table
  pub left : IsLeft p zero × IsLeft p one × IsLeft p two × IsLeft p three
  pub alike : OnOk result (AreAlike a zero one two three)
  pub scanned : OnOk result (pending_in_all a zero one two three ≡ 0)
  pub answer : IfOk result (λ answer. IfSome (spec_at zero a)
      (λ spec. answer ≡ answer_over spec (all_rows zero one two three)))
  pub refused : IfErr result (AskRefusal a zero one two three)
