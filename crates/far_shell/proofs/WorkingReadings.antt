-- The readings of sessions that have made their edits.
use Rattle.std.proofs.Common.{◌≡◌, ◌≢◌, inl, inr, ℕ, zero, suc, ◌<◌, ◌%◌, List, [], ◌∷◌, ◌++◌, Result, Some, length, slice_get, refl, sym, ap, ◌∙◌, subst, arith, OnOk, IsOk, not-suc-le-zero}
use mathlib.Core.Logic.{dite}
use native.Mathlib.Decide.{ℕ_discrete}
use Rattle.std.proofs.lemmas.Bool.{cases_lt}
use Rattle.std.proofs.lemmas.List.{length-append}
use Rattle.std.proofs.lemmas.Option.{none-some, same_Some, slice_get_within}
use Rattle.std.specs.declared.result.Result.TheVariants.{Ok, Err}
use Rattle.far_sessions.specs.Histories.{Planned, by_session, gauge_of}
use Rattle.far_sessions.specs.Sessions.{SessionState, newcomer}
use Rattle.far_sessions.specs.declared.reading.Reading.{Reading}
use Rattle.far_sessions.specs.Known.{Known, at, session_number, newcomers, newcomer_at_all}
use Rattle.far_shell.specs.Runs.{inserts}
use Rattle.far_shell.specs.Working.{AreGauged, AreWorked, Ended, IsGauged, IsRead, IsWorked, Looked, Makes}

-- each session that ended well was read, in order
abbrev pub AreRead : Planned → List Ended → List Known → List Reading → Type 0
AreRead p [] [] [] = Unit {0}
AreRead p [] [] (reading ∷ readings) = ⊥
AreRead p [] (me ∷ sessions) readings = ⊥
AreRead p (ended ∷ worked) [] readings = ⊥
AreRead p (ended ∷ worked) (me ∷ sessions) [] = ⊥
AreRead p (ended ∷ worked) (me ∷ sessions) (reading ∷ readings) = IsRead p ended me reading × AreRead p worked sessions readings

module _ (p : Planned) where
  -- reading one more session
  pub read-more : (worked : List Ended) (sessions : List Known) (readings : List Reading) (ended : Ended) (me : Known) (reading : Reading) → AreRead p worked sessions readings → IsRead p ended me reading → AreRead p (worked ++ ended ∷ []) (sessions ++ me ∷ []) (readings ++ reading ∷ [])
  read-more [] [] [] ended me reading all one = (one, tt)
  read-more [] [] (r ∷ readings) ended me reading all one = absurd all
  read-more [] (m ∷ sessions) readings ended me reading all one = absurd all
  read-more (e ∷ worked) [] readings ended me reading all one = absurd all
  read-more (e ∷ worked) (m ∷ sessions) [] ended me reading all one = absurd all
  read-more (e ∷ worked) (m ∷ sessions) (r ∷ readings) ended me reading all one = (all.0, read-more worked sessions readings ended me reading all.1 one)

  read-count : (worked : List Ended) (sessions : List Known) (readings : List Reading) → AreRead p worked sessions readings → (length sessions ≡ length worked) × (length readings ≡ length worked)
  read-count [] [] [] all = (refl, refl)
  read-count [] [] (r ∷ readings) all = absurd all
  read-count [] (m ∷ sessions) readings all = absurd all
  read-count (e ∷ worked) [] readings all = absurd all
  read-count (e ∷ worked) (m ∷ sessions) [] all = absurd all
  read-count (e ∷ worked) (m ∷ sessions) (r ∷ readings) all = (let count = read-count worked sessions readings all.1 in (ap suc count.0, ap suc count.1))

  -- reading s is of the session at index s
  read-of : (worked : List Ended) (sessions : List Known) (readings : List Reading) (s : ℕ) (me : Known) (reading : Reading) → AreRead p worked sessions readings → slice_get sessions s ≡ Some me → slice_get readings s ≡ Some reading
      → (ended : Ended) × (slice_get worked s ≡ Some ended) × IsRead p ended me reading
  read-of [] [] [] s me reading all is returned = absurd (none-some me is)
  read-of [] [] (r ∷ readings) s me reading all is returned = absurd all
  read-of [] (m ∷ sessions) readings s me reading all is returned = absurd all
  read-of (e ∷ worked) [] readings s me reading all is returned = absurd all
  read-of (e ∷ worked) (m ∷ sessions) [] s me reading all is returned = absurd all
  read-of (e ∷ worked) (m ∷ sessions) (r ∷ readings) zero me reading all is returned =
      (e, refl, subst (λ (r' : Reading). IsRead p e me r') (same_Some r reading returned) (subst (λ (m' : Known). IsRead p e m' r) (same_Some m me is) all.0))
  read-of (e ∷ worked) (m ∷ sessions) (r ∷ readings) (suc s) me reading all is returned = read-of worked sessions readings s me reading all.1 is returned

-- ---- the first sessions
unchanged-at : {X : Type 0} (xs : List X) (x y : X) (i : ℕ) → slice_get xs i ≡ Some x → slice_get (xs ++ y ∷ []) i ≡ Some x
unchanged-at [] x y i is = absurd (none-some x is)
unchanged-at (z ∷ xs) x y zero is = is
unchanged-at (z ∷ xs) x y (suc i) is = unchanged-at xs x y i is

last-at : {X : Type 0} (xs : List X) (y : X) → slice_get (xs ++ y ∷ []) (length xs) ≡ Some y
last-at [] y = refl
last-at (z ∷ xs) y = last-at xs y

length-newcomers : (n : ℕ) → length (newcomers n) ≡ n
length-newcomers zero = refl
length-newcomers (suc n) = (let e = length-append (newcomers n) (newcomer_at_all n ∷ []) in let d = length-newcomers n in omega arith)

newcomer-at : (n s : ℕ) → s < n → slice_get (newcomers n) s ≡ Some (newcomer_at_all s)
newcomer-at zero s below = absurd (not-suc-le-zero below)
newcomer-at (suc n) s below = elim (cases_lt s n) [
  | inl lt ↦ unchanged-at (newcomers n) (newcomer_at_all s) (newcomer_at_all n) s (newcomer-at n s lt)
  | inr le ↦
      let is : n ≡ s = omega (arith, below, le) in
      subst (λ m. slice_get (newcomers n ++ newcomer_at_all n ∷ []) m ≡ Some (newcomer_at_all m)) is
      (subst (λ m. slice_get (newcomers n ++ newcomer_at_all n ∷ []) m ≡ Some (newcomer_at_all n)) (length-newcomers n) (last-at (newcomers n) (newcomer_at_all n)))
]

-- a session that has seen nothing is the same at each stripe
new-at : (n k : ℕ) → at (newcomer_at_all n) k ≡ newcomer n
new-at n zero = refl
new-at n (suc zero) = refl
new-at n (suc (suc zero)) = refl
new-at n (suc (suc (suc k))) = refl

-- ---- a session
not-ok : (A : Type 0) {E : Type 0} (e : E) → IsOk {T = A} {E = E} (Err e) → ⊥
not-ok A e ok = cc

of-ok : (A : Type 0) {E : Type 0} (r : Result A E) (P : Type 0) → IsOk r → OnOk r P → P
of-ok A (Ok x) P ok holds = holds
of-ok A (Err e) P ok holds = absurd (not-ok A e ok)

-- if a session keeps its number at one stripe, and everything at the others, it keeps its number
number-unchanged : (k : ℕ) (before after : Known) → (at after k).by ≡ (at before k).by → ((i : ℕ) → i < 4 → i ≢ k → at after i ≡ at before i) → session_number after ≡ session_number before
number-unchanged k before after by others =
    dite (ℕ_discrete 0 k) (λ is. subst (λ (i : ℕ). (at after i).by ≡ (at before i).by) (sym is) by) (λ other. ap (λ (s : SessionState). s.by) (others 0 (omega arith) other))

-- a new session that made its inserts at stripe k and read the gauge there
gauged-at : (p : Planned) (s n k : ℕ) (ended : Ended) (me : Known) (reading : Reading) → k ≡ s % 4 → Makes k n (newcomer_at_all s) ended.session → Looked p k ended me reading → IsGauged p s n me reading
gauged-at p s n k ended me reading home made looked =
    let new : at (newcomer_at_all s) k ≡ newcomer s = new-at s k in
    let by : (at me k).by ≡ s = looked.sees.by ∙ made.by ∙ ap (λ (s : SessionState). s.by) new in
    let mine : (at me k).mine ≡ inserts s n = looked.sees.mine ∙ made.mine ∙ ap (λ (s : SessionState). s.mine ++ inserts s.by n) new in
    record {
      number = number-unchanged k ended.session me looked.sees.by looked.others ∙ number-unchanged k (newcomer_at_all s) ended.session made.by made.others;
      none = λ i low other.
          let away : i ≢ k = subst (λ (h : ℕ). i ≢ h) (sym home) other in
          ap (λ (s : SessionState). s.mine) (looked.others i low away ∙ made.others i low away ∙ new-at s i);
      made = subst (λ (h : ℕ). (at me h).mine ≡ inserts s n) home mine;
      own = subst (λ (h : ℕ). by_session s (at me h).seen ≡ inserts s n) home (ap (λ (t : ℕ). by_session t (at me k).seen) (sym by) ∙ looked.sees.own ∙ mine);
      is = looked.is ∙ ap (λ (h : ℕ). gauge_of p (at me h).seen) home;
    }

gauged-of : (p : Planned) (s n : ℕ) (ended : Ended) (me : Known) (reading : Reading) → IsRead p ended me reading → IsWorked n (newcomer_at_all s) ended → IsGauged p s n me reading
gauged-of p s n ended me reading read worked =
    let made : Makes (s % 4) n (newcomer_at_all s) ended.session = of-ok _ ended.outcome _ read.done worked in
    let number : session_number ended.session ≡ s = number-unchanged (s % 4) (newcomer_at_all s) ended.session made.by made.others in
    gauged-at p s n (s % 4) ended me reading refl made (subst (λ (t : ℕ). Looked p (t % 4) ended me reading) number read)

-- the readings of all sessions of a plan, when each has made its inserts
pub gauged-all : (p : Planned) (n : ℕ) (worked : List Ended) (sessions : List Known) (readings : List Reading) → AreRead p worked sessions readings → AreWorked n (newcomers p.sessions) worked → AreGauged p n sessions readings
gauged-all p n worked sessions readings all done =
    let count = read-count p worked sessions readings all in
    let worked-count : length worked ≡ p.sessions = done.count ∙ length-newcomers p.sessions in record {
      count = count.0 ∙ worked-count;
      returned = count.1 ∙ worked-count;
      each = λ s me reading is returned.
          let of = read-of p worked sessions readings s me reading all is returned in
          let within : s < p.sessions = subst (λ (m : ℕ). s < m) worked-count (slice_get_within worked s of.0 of.1) in
          gauged-of p s n of.0 me reading of.2 (done.each s (newcomer_at_all s) of.0 (newcomer-at p.sessions s within) of.1);
    }
