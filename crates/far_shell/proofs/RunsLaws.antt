-- Runs that have ended, and the histories of the tables that they closed.
use Rattle.std.proofs.Common.{◌≡◌, ℕ, zero, suc, ◌<◌, ◌≤◌, ◌%◌, List, [], ◌∷◌, ◌++◌, Option, Result, Some, length, slice_get, IfOk, IfErr, IfSome, IsOk, refl, sym, ap, ◌∙◌, subst, arith}
use Rattle.std.specs.Prelude.{IsOkAnd, option_map}
use Rattle.std.proofs.lemmas.Option.{slice_get_within}
use Rattle.std.specs.declared.result.Result.TheVariants.{Ok, Err}
use Rattle.far_types.specs.declared.answer.Answer.{Answer}
use Rattle.far_types.specs.declared.spec.Spec.{Spec}
use Rattle.far_types.specs.Answers.{answer_over}
use Rattle.far_types.specs.Table.{Registered, Table, rows_of}
use Rattle.far_sessions.specs.Histories.{Planned, IsLegal, by_session, gauge_of, replay}
use Rattle.far_sessions.specs.declared.reading.Reading.{Reading}
use Rattle.far_sessions.specs.declared.view.Entry.{Entry}
use Rattle.far_sessions.specs.Closing.{IsSeenBy, IsSettled, IsWhole}
use Rattle.far_sessions.specs.Known.{Known, at}
use Rattle.far_shared.specs.Closing.{IsClosed}
use Rattle.far_shared.specs.Fours.{all_rows, spec_at}
use Rattle.far_shell.specs.declared.sessions.outcome.Outcome.{Outcome}
use Rattle.far_shell.specs.Runs.{IsHistory, IsRun, all_of, inserts}
use Rattle.far_shell.specs.Working.{AreGauged, AreLeft, HasHomes, IsGauged}
use Rattle.far_shell.proofs.RunsGauge.{all-one, gauge-of-inserts}
use Rattle.far_shell.proofs.HistoriesOneSession.{AreBy, by-others, seen-at, seen-own}
use Rattle.far_shell.proofs.RunsTotals.{total-is}

-- a list has an element at each index below its length
there : {X : Type 0} (xs : List X) (i : ℕ) → i < length xs → (x : X) × (slice_get xs i ≡ Some x)
there [] i low = absurd (omega arith)
there (x ∷ xs) zero low = (x, refl)
there (x ∷ xs) (suc i) low = there xs i (omega arith)

module _ (p : Planned) (n : ℕ) (sessions : List Known) (readings : List Reading) (all : AreGauged p n sessions readings) where
  session-at : (s : ℕ) → s < p.sessions → (me : Known) × (slice_get sessions s ≡ Some me)
  session-at s low = there sessions s (omega (arith, all.count))

  gauged-there : (s : ℕ) (me : Known) → s < p.sessions → slice_get sessions s ≡ Some me → (reading : Reading) × IsGauged p s n me reading
  gauged-there s me low is = (let r = there readings s (omega (arith, all.returned)) in (r.0, all.each s me r.0 is r.1))

  -- the readings are of all sessions of the plan
  pub gauged-whole : IsWhole p.sessions sessions
  gauged-whole s low = (let me = session-at s low in (s, me.0, me.1, (gauged-there s me.0 low me.1).1.number))

  -- the history of a stripe has exactly the inserts of the sessions with this home
  history-of : (k : ℕ) (log : List Entry) → k < 4 → IsLegal p log → IsSettled p.sessions k log sessions → IsHistory p n k log
  history-of k log low legal settled =
      let made : (s : ℕ) (below : s < p.sessions) → by_session s log ≡ (at (session-at s below).0 k).mine = λ s below.
      let me = session-at s below in
      subst (λ (m : ℕ). by_session m log ≡ (at me.0 k).mine) (gauged-there s me.0 below me.1).1.number (seen-at k log sessions s me.0 settled.all me.1).own in record {
        legal = legal;
        home = λ s below same.
            let me = session-at s below in
            made s below ∙ subst (λ (h : ℕ). (at me.0 h).mine ≡ inserts s n) same (gauged-there s me.0 below me.1).1.made;
        away = λ s below other.
            let me = session-at s below in
            made s below ∙ (gauged-there s me.0 below me.1).1.none k low (λ same. other (sym same));
        below = settled.below;
      }

  -- at the home of session s all entries are its own
  own-home : (s : ℕ) (log : List Entry) → p.sessions ≤ 4 → s < p.sessions → IsHistory p n (s % 4) log → AreBy s log
  own-home s log few low is = by-others p.sessions s log is.below (λ t below other. is.away t below (λ same. other (omega (arith, low, below, few, same))))

  -- so each gauge read exactly what its session inserted
  read-own : (s : ℕ) (me : Known) (reading : Reading) (log : List Entry) → HasHomes p → IsLegal p log → IsSettled p.sessions (s % 4) log sessions → slice_get sessions s ≡ Some me → slice_get readings s ≡ Some reading → reading ≡ all_of n
  read-own s me reading log homes legal settled is returned =
      let gauged : IsGauged p s n me reading = all.each s me reading is returned in
      let low : s < p.sessions = subst (λ (m : ℕ). s < m) all.count (slice_get_within sessions s me is) in
      let own : AreBy s log = own-home s log homes.few low (history-of (s % 4) log (omega arith) legal settled) in
      let seen : IsSeenBy (s % 4) log me = seen-at (s % 4) log sessions s me settled.all is in
      gauged.is ∙ ap (gauge_of p) (sym (seen-own s log (at me (s % 4)).seen own seen.seen) ∙ gauged.own) ∙ gauge-of-inserts p s n homes.gauge

-- ---- the closed tables
module _ (p : Planned) (n : ℕ) (sessions : List Known) (t0 t1 t2 t3 : Table) (c0 : IsClosed p 0 sessions t0) (c1 : IsClosed p 1 sessions t1) (c2 : IsClosed p 2 sessions t2) (c3 : IsClosed p 3 sessions t3) where
  -- the history of closed stripe k
  abbrev Closed : ℕ → Type 0
  Closed k = (log : List Entry) × IsLegal p log × IsSettled p.sessions k log sessions

  closed-at : (k : ℕ) → k < 4 → Closed k
  closed-at zero low = (c0.log, c0.legal, c0.settled)
  closed-at (suc zero) low = (c1.log, c1.legal, c1.settled)
  closed-at (suc (suc zero)) low = (c2.log, c2.legal, c2.settled)
  closed-at (suc (suc (suc zero))) low = (c3.log, c3.legal, c3.settled)
  closed-at (suc (suc (suc (suc k)))) low = absurd (omega (arith, low))

  -- the answer of the gauge over the closed tables, in terms of their histories
  answer-by-histories : (answer : Answer) → IfSome (spec_at t0 0) (λ (spec : Spec). answer ≡ answer_over spec (all_rows t0 t1 t2 t3))
      → answer ≡ answer_over p.gauge (all_rows (replay p c0.log) (replay p c1.log) (replay p c2.log) (replay p c3.log))
  answer-by-histories answer returned =
      let gauge : spec_at t0 0 ≡ Some p.gauge = ap (option_map (λ (aggregate : Registered). aggregate.spec)) c0.stripe.gauge in
      let over : answer ≡ answer_over p.gauge (all_rows t0 t1 t2 t3) = subst (λ (found : Option Spec). IfSome found (λ (spec : Spec). answer ≡ answer_over spec (all_rows t0 t1 t2 t3))) gauge returned in
      over
      ∙ ap (answer_over p.gauge) (λ i. rows_of (c0.stripe.places i) ++ (rows_of (c1.stripe.places i) ++ (rows_of (c2.stripe.places i) ++ rows_of (c3.stripe.places i))))

  -- the outcome of the sessions is that of a run, if the closed tables answer so
  pub run-of : (o : Outcome) → HasHomes p → AreLeft p n sessions o → IfSome (spec_at t0 0) (λ (spec : Spec). o.answer ≡ answer_over spec (all_rows t0 t1 t2 t3)) → IsRun p n o
  run-of o homes left returned =
      let gauged : AreGauged p n sessions o.gauges.items = left.gauged in
      let each : (s : ℕ) (reading : Reading) → slice_get o.gauges.items s ≡ Some reading → reading ≡ all_of n = λ s reading read.
      let low : s < p.sessions = subst (λ (m : ℕ). s < m) gauged.returned (slice_get_within o.gauges.items s reading read) in
      let me = session-at p n sessions o.gauges.items gauged s low in
      let home = closed-at (s % 4) (omega arith) in
      read-own p n sessions o.gauges.items gauged s me.0 reading home.0 homes home.1 home.2 me.1 read in
      let h0 : IsHistory p n 0 c0.log = history-of p n sessions o.gauges.items gauged 0 c0.log (omega arith) c0.legal c0.settled in
      let h1 : IsHistory p n 1 c1.log = history-of p n sessions o.gauges.items gauged 1 c1.log (omega arith) c1.legal c1.settled in
      let h2 : IsHistory p n 2 c2.log = history-of p n sessions o.gauges.items gauged 2 c2.log (omega arith) c2.legal c2.settled in
      let h3 : IsHistory p n 3 c3.log = history-of p n sessions o.gauges.items gauged 3 c3.log (omega arith) c3.legal c3.settled in
      let answered = answer-by-histories o.answer returned in record {
        gauges = all-one o.gauges.items p.sessions (all_of n) gauged.returned each;
        answer = record { zeroth = c0.log; first = c1.log; second = c2.log; third = c3.log; histories = (h0, h1, h2, h3); is = answered };
        tried = left.tried;
        total = answered ∙ total-is p n c0.log c1.log c2.log c3.log homes.few homes.gauge h0 h1 h2 h3;
      }

-- ---- results
-- a result that cannot be an error is accepted
pub is-accepted : {A E : Type 0} (r : Result A E) (D : E → Type 0) → IfErr r D → ((e : E) → D e → ⊥) → IsOk r
is-accepted (Ok x) D err never = refl
is-accepted (Err e) D err never = absurd (never e err)

-- a property of an accepted value is a property of what was taken out
pub of-accepted : {A E : Type 0} (r : Result A E) (y : A) (C : A → Type 0) → IsOkAnd r (λ x. x ≡ y) → IfOk r C → C y
of-accepted (Ok x) y C is holds = subst C is holds
of-accepted (Err e) y C is holds = absurd is
