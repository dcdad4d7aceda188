use Rattle.std.proofs.Common.{◌≡◌, ◌++◌, take, drop}
use Rattle.far_log.specs.Fitting.{after_fill}
use Rattle.far_log.proofs.fitting.fill.Given as goal

abbrev pub invariant-loop-len : goal.invariant-loop-len
invariant-loop-len l = after_fill l.fn.space l.fn.waiting ≡ take l.len-index l.waiting ++ after_fill l.free (drop l.len-index l.waiting)
