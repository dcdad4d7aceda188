use Rattle.std.proofs.Common.{refl, subst}
use Rattle.far_extrema.specs.Runs.{IsGap}
use Rattle.far_extrema.proofs.PartsLaws.{no_gap}
use Rattle.far_extrema.proofs.runs.place_for.Goals as goal

pub unreachable-requires : goal.unreachable-requires
unreachable-requires c =
    no_gap c.ready.new.firsts.items c.args.group c.in_ok-ready.ensures.reached
    (subst (λ fs. IsGap fs c.args.group 0) c.deref.ensures.value (c.in-None.ensures.none refl))
