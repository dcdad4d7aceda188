-- Histories with one more entry.
use Rattle.std.proofs.Common.{◌≡◌, ◌≢◌, ℕ, ◌+◌, ◌<◌, ◌≤◌, List, [], ◌∷◌, ◌++◌, None, Bool, true, false, cond, nat_eq, refl, ap, ◌∙◌, arith}
use Rattle.far_types.specs.declared.edit.Edit.{Edit}
use Rattle.far_types.specs.Edits.{after_edit, edit_refusal}
use Rattle.far_types.specs.Table.{Table}
use Rattle.far_sessions.specs.Histories.{replay_on, IsLegalOn, by_session, AllBelow}
use Rattle.far_sessions.specs.Rule.{entry}
use Rattle.far_sessions.specs.declared.view.Entry.{Entry}
use Rattle.far_sessions.proofs.Lists.{cond_eq, cond_ne}

pub replay_on-push : (table : Table) (log : List Entry) (e : Entry) → replay_on table (log ++ e ∷ []) ≡ after_edit e.edit (replay_on table log)
replay_on-push table [] e = refl
replay_on-push table (x ∷ log) e = replay_on-push (after_edit x.edit table) log e

pub legal-push : (table : Table) (log : List Entry) (e : Entry) → IsLegalOn table log → edit_refusal (replay_on table log) e.edit ≡ None → IsLegalOn table (log ++ e ∷ [])
legal-push table [] e legal may = (may, tt)
legal-push table (x ∷ log) e legal may = (legal.0, legal-push (after_edit x.edit table) log e legal.1 may)

pub below-push : (n : ℕ) (log : List Entry) (e : Entry) → AllBelow n log → e.by < n → AllBelow n (log ++ e ∷ [])
below-push n [] e all lt = (lt, tt)
below-push n (x ∷ log) e all lt = (all.0, below-push n log e all.1 lt)

pub below-more : (n : ℕ) (log : List Entry) → AllBelow n log → AllBelow (n + 1) log
below-more n [] all = tt
below-more n (x ∷ log) all = (omega (arith, all.0), below-more n log all.1)

pub by_session-same : (s : ℕ) (log : List Entry) (e : Edit) → by_session s (log ++ entry s e ∷ []) ≡ by_session s log ++ entry s e ∷ []
by_session-same s [] e = cond_eq s s (entry s e ∷ []) [] refl
by_session-same s (x ∷ log) e = go (by_session-same s log e) (nat_eq x.by s)
  where
    go : by_session s (log ++ entry s e ∷ []) ≡ by_session s log ++ entry s e ∷ [] → (b : Bool) → cond b (x ∷ by_session s (log ++ entry s e ∷ [])) (by_session s (log ++ entry s e ∷ [])) ≡ cond b (x ∷ by_session s log) (by_session s log) ++ entry s e ∷ []
    go ih true = ap (λ l. x ∷ l) ih
    go ih false = ih

pub by_session-other : (s : ℕ) (log : List Entry) (e : Entry) → e.by ≢ s → by_session s (log ++ e ∷ []) ≡ by_session s log
by_session-other s [] e ne = cond_ne e.by s (e ∷ []) [] ne
by_session-other s (x ∷ log) e ne = go (by_session-other s log e ne) (nat_eq x.by s)
  where
    go : by_session s (log ++ e ∷ []) ≡ by_session s log → (b : Bool) → cond b (x ∷ by_session s (log ++ e ∷ [])) (by_session s (log ++ e ∷ [])) ≡ cond b (x ∷ by_session s log) (by_session s log)
    go ih true = ap (λ l. x ∷ l) ih
    go ih false = ih

-- a session that was not created yet has no entries
pub by_session-new : (n s : ℕ) (log : List Entry) → AllBelow n log → n ≤ s → by_session s log ≡ []
by_session-new n s [] all le = refl
by_session-new n s (x ∷ log) all le = cond_ne x.by s (x ∷ by_session s log) (by_session s log) (λ e. omega (arith, all.0, le, e)) ∙ by_session-new n s log all.1 le
