-- Histories whose entries are all of one session.
use Rattle.std.proofs.Common.{◌≡◌, ◌≢◌, ℕ, zero, suc, ◌<◌, Bool, true, false, cond, nat_eq, List, [], ◌∷◌, ◌++◌, Some, slice_get, refl, sym, ap, ◌∙◌, subst}
use Rattle.std.proofs.lemmas.Option.{none-some, same_Some}
use mathlib.Core.List.{IsPrefix}
use mathlib.Core.Logic.{dite}
use native.Mathlib.Decide.{ℕ_discrete}
use Rattle.far_sessions.specs.Histories.{AllBelow, by_session}
use Rattle.far_sessions.specs.declared.view.Entry.{Entry}
use Rattle.far_sessions.proofs.Lists.{cond_eq}
use Rattle.far_sessions.specs.Closing.{IsSeenBy, SeenByAll}
use Rattle.far_sessions.specs.Known.{Known}

-- each entry is of session s
abbrev pub AreBy : ℕ → List Entry → Type 0
AreBy s [] = Unit {0}
AreBy s (entry ∷ log) = (entry.by ≡ s) × AreBy s log

-- the entries of session s are the whole history
pub by-one : (s : ℕ) (log : List Entry) → AreBy s log → by_session s log ≡ log
by-one s [] all = refl
by-one s (e ∷ log) all = cond_eq e.by s (e ∷ by_session s log) (by_session s log) all.0 ∙ ap (λ (l : List Entry). e ∷ l) (by-one s log all.1)

-- this is also true of a prefix of the history
by-front : (s : ℕ) (front rest : List Entry) → AreBy s (front ++ rest) → AreBy s front
by-front s [] rest all = tt
by-front s (e ∷ front) rest all = (all.0, by-front s front rest all.1)

pub seen-own : (s : ℕ) (log seen : List Entry) → AreBy s log → IsPrefix seen log → by_session s seen ≡ seen
seen-own s log seen all front = by-one s seen (by-front s seen front.0 (subst (AreBy s) (sym front.1) all))

some-none : (e : Entry) (log : List Entry) → e ∷ log ≡ [] → ⊥
some-none e log is = cc

-- a session without an entry in a history has none after the first entry
none-behind : (t : ℕ) (e : Entry) (log : List Entry) → by_session t (e ∷ log) ≡ [] → by_session t log ≡ []
none-behind t e log none = go (nat_eq e.by t) none
  where
    go : (b : Bool) → cond b (e ∷ by_session t log) (by_session t log) ≡ [] → by_session t log ≡ []
    go true is = absurd (some-none e (by_session t log) is)
    go false is = is

-- if all other sessions have no entry, each entry is of session s
pub by-others : (n s : ℕ) (log : List Entry) → AllBelow n log → ((t : ℕ) → t < n → t ≢ s → by_session t log ≡ []) → AreBy s log
by-others n s [] below none = tt
by-others n s (e ∷ log) below none =
    let own : by_session e.by (e ∷ log) ≡ e ∷ by_session e.by log = cond_eq e.by e.by (e ∷ by_session e.by log) (by_session e.by log) refl in (
      dite (ℕ_discrete e.by s) (λ is. is) (λ other. absurd (some-none e (by_session e.by log) (sym own ∙ none e.by below.0 other))),
      by-others n s log below.1 (λ t low other. none-behind t e log (none t low other)),
    )

-- if all sessions have no entry, the history is empty
pub by-none : (n : ℕ) (log : List Entry) → AllBelow n log → ((t : ℕ) → t < n → by_session t log ≡ []) → log ≡ []
by-none n [] below none = refl
by-none n (e ∷ log) below none =
    let own : by_session e.by (e ∷ log) ≡ e ∷ by_session e.by log = cond_eq e.by e.by (e ∷ by_session e.by log) (by_session e.by log) refl in
    absurd (some-none e (by_session e.by log) (sym own ∙ none e.by below.0))

-- if all sessions have seen the history, so has this one
pub seen-at : (k : ℕ) (log : List Entry) (sessions : List Known) (i : ℕ) (me : Known) → SeenByAll k log sessions → slice_get sessions i ≡ Some me → IsSeenBy k log me
seen-at k log [] i me all is = absurd (none-some me is)
seen-at k log (s ∷ sessions) zero me all is = subst (IsSeenBy k log) (same_Some s me is) all.0
seen-at k log (s ∷ sessions) (suc i) me all is = seen-at k log sessions i me all.1 is
