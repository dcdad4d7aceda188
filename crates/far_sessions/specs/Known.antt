-- What a session knows of the four histories.
use Rattle.std.specs.Prelude.{◌≡◌, ℕ, zero, suc, List, [], ◌∷◌, ◌++◌}
use mathlib.Core.List.{IsPrefix}
use Rattle.far_sessions.specs.Histories.{Planned, IsLegal, by_session}
use Rattle.far_sessions.specs.Sessions.{SessionState, newcomer}
use Rattle.far_sessions.specs.Cells.{four}

-- the state of one session at each of the four histories
pub record Known : Type 0 where
  pub zeroth : SessionState
  pub first : SessionState
  pub second : SessionState
  pub third : SessionState

-- the state of a session at history s
abbrev pub at : Known → ℕ → SessionState
at s = four s.zeroth s.first s.second s.third

-- the number of a session, the same at each history
abbrev pub session_number : Known → ℕ
session_number s = s.zeroth.by

-- a session that has seen nothing at any history
abbrev pub newcomer_at_all : ℕ → Known
newcomer_at_all n = record
    { zeroth = newcomer n; first = newcomer n; second = newcomer n; third = newcomer n }

-- the first n sessions, before they have seen anything
abbrev pub newcomers : ℕ → List Known
newcomers zero = []
newcomers (suc n) = newcomers n ++ newcomer_at_all n ∷ []

-- the session has seen a legal history, which begins with what it had seen before, and knows its own entries in it. It made
-- no edit
pub record SeesMore (p : Planned) (before after : SessionState) : Type 0 where
  pub more : IsPrefix before.seen after.seen
  pub legal : IsLegal p after.seen
  pub own : by_session after.by after.seen ≡ after.mine
  pub mine : after.mine ≡ before.mine
  pub by : after.by ≡ before.by
