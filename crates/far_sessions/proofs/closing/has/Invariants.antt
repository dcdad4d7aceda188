use Rattle.std.proofs.Common.{ℕ, ◌≡◌, ◌≢◌, ◌<◌, Some}
use Rattle.std.specs.Prelude.{slice_get}
use Rattle.far_sessions.specs.Known.{Known, session_number}
use Rattle.far_sessions.proofs.closing.has.Given as goal

abbrev pub invariant-loop-session : goal.invariant-loop-session
invariant-loop-session g l = (j : ℕ) (s : Known) → j < l.session-index → slice_get l.sessions j ≡ Some s → session_number s ≢ l.number
