use Rattle.std.proofs.Common.{◌≡◌, ◌-◌}
use Rattle.far_types.specs.FirstOf.{first_of}
use Rattle.far_frame.specs.Views.{away, absents_of}
use Rattle.far_frame.proofs.view.View.all.Given as goal

abbrev pub invariant-loop-group : goal.invariant-loop-group
invariant-loop-group g l = away l.self ≡ first_of (absents_of l.held l.group (l.group-end - l.group))
