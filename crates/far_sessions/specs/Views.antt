-- What a pass of a cell knows, and how passes are split and joined.
use Rattle.std.specs.Prelude.{ℕ, ◌+◌, true, false, List, []}
use Rattle.far_sessions.specs.declared.view.Entry.{Entry}
use Rattle.far_sessions.specs.declared.view.PassView.{PassView}

-- a pass that owns this history, of which this many sessions were created
abbrev pub keeper : List Entry → ℕ → PassView
keeper all given = record
    { keeps = true; all = all; given = given; has_session = false; by = 0; seen = []; mine = [] }

-- a pass with a session
abbrev pub session : ℕ → List Entry → List Entry → PassView
session by seen mine = record
    { keeps = false; all = []; given = 0; has_session = true; by = by; seen = seen; mine = mine }

-- a pass with neither a history nor a session
abbrev pub no_part : PassView
no_part = record
    { keeps = false; all = []; given = 0; has_session = false; by = 0; seen = []; mine = [] }

-- the history of one pass and the session of another, in one pass
abbrev pub with_session_of : PassView → PassView → PassView
with_session_of v w = record {
  keeps = v.keeps;
  all = v.all;
  given = v.given;
  has_session = w.has_session;
  by = w.by;
  seen = w.seen;
  mine = w.mine;
}

-- the same pass without its session
abbrev pub keeper_part : PassView → PassView
keeper_part v = with_session_of v no_part

-- the same pass without its history
abbrev pub session_part : PassView → PassView
session_part v = with_session_of no_part v

-- the owner of the history after it created one more session
abbrev pub after_give : PassView → PassView
after_give v = record {
  keeps = v.keeps;
  all = v.all;
  given = v.given + 1;
  has_session = false;
  by = 0;
  seen = [];
  mine = [];
}

-- the session that this owner creates next
abbrev pub new_session : PassView → PassView
new_session v = session v.given v.all []
