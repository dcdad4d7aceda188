-- Objects when a frame is opened.
use Rattle.std.specs.Prelude.{ℕ, [], replicate}
use Rattle.far_scopes.specs.declared.limits.ObjectLimits.{ObjectLimits}
use Rattle.far_scopes.specs.Movement.{Movement}

-- the state without objects, with this frame number and these limits: no segment has a part
abbrev pub no_objects : {X K : Type 0} → ℕ → ObjectLimits → Movement X K
no_objects number limits = record {
  number = number;
  max_writes = limits.max_writes;
  leavings = limits.leavings;
  memory = record
      { words = []; state = replicate limits.segments record { parts = []; size = limits.size } };
  records = [];
  order = [];
}
