use Rattle.std.proofs.Common.{sym, subst, Option, None}
use Rattle.std.specs.Prelude.{Box}
use Rattle.std.specs.declared.alloc.Global.{Global}
use Rattle.far_extrema.specs.Spreads.{IsTopOf}
use Rattle.far_extrema.specs.Runs.{RunState, min_maxes_of}
use Rattle.far_extrema.proofs.RunsLaws.{none_joined}
use Rattle.far_extrema.proofs.holder.top_in.Goals as goal

pub returns-in-None-clause-top : goal.returns-in-None-clause-top
returns-in-None-clause-top c = subst (λ (runs : Option (Box RunState Global)). IsTopOf (min_maxes_of runs) None) (sym c.in-None.is) none_joined
