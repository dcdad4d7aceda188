-- How sessions end.
use Rattle.std.specs.Prelude.{◌≡◌, ℕ, ◌<◌, List, [], ◌∷◌, Some, slice_get}
use mathlib.Core.List.{IsPrefix}
use Rattle.far_sessions.specs.Histories.{AllBelow, by_session}
use Rattle.far_sessions.specs.declared.view.Entry.{Entry}
use Rattle.far_sessions.specs.Known.{Known, at, session_number}

-- one of the sessions has this number
abbrev pub Has : ℕ → List Known → Type 0
Has n sessions = (i : ℕ) × (s : Known) × (slice_get sessions i ≡ Some s) × (session_number s ≡ n)

-- every number below n is a session's
abbrev pub IsWhole : ℕ → List Known → Type 0
IsWhole n sessions = (k : ℕ) → k < n → Has k sessions

-- a history begins with what a session has seen of it at stripe k, and the session knows all its own entries
pub record IsSeenBy (k : ℕ) (log : List Entry) (s : Known) : Type 0 where
  pub seen : IsPrefix (at s k).seen log
  pub own : by_session (session_number s) log ≡ (at s k).mine

-- the same for each session
abbrev pub SeenByAll : ℕ → List Entry → List Known → Type 0
SeenByAll k log [] = Unit {0}
SeenByAll k log (s ∷ sessions) = IsSeenBy k log s × SeenByAll k log sessions

-- a history begins with what each of these sessions has seen at stripe k; they know all their own entries in it, and no
-- session from n on has an entry
pub record IsSettled (n k : ℕ) (log : List Entry) (sessions : List Known) : Type 0 where
  pub all : SeenByAll k log sessions
  pub below : AllBelow n log
