-- What a session knows of a history.
use Rattle.std.specs.Prelude.{◌≡◌, ℕ, List, []}
use Rattle.far_sessions.specs.Histories.{by_session}
use Rattle.far_sessions.specs.Views.{keeper, session}
use Rattle.far_sessions.specs.declared.view.Entry.{Entry}
use Rattle.far_sessions.specs.declared.view.PassView.{PassView}

-- the session's number, the prefix of the history that it has seen, and its own entries in it
pub record SessionState : Type 0 where
  pub by : ℕ
  pub seen : List Entry
  pub mine : List Entry

-- the state of the session in a pass
abbrev pub session_state : PassView → SessionState
session_state v = record { by = v.by; seen = v.seen; mine = v.mine }

-- a session that has seen nothing
abbrev pub newcomer : ℕ → SessionState
newcomer n = record { by = n; seen = []; mine = [] }

-- a session's pass: it does not own the history, and knows exactly its own entries in the prefix that it has seen
abbrev pub IsSession : PassView → Type 0
IsSession v = (v ≡ session v.by v.seen v.mine) × (by_session v.by v.seen ≡ v.mine)

-- a pass that owns a history, and has no session
abbrev pub IsKeeper : PassView → Type 0
IsKeeper v = v ≡ keeper v.all v.given

-- a pass that owns the empty history, and has no session
abbrev pub IsGiver : PassView → Type 0
IsGiver v = v ≡ keeper [] v.given
