use Rattle.std.proofs.Common.{sym, subst}
use Rattle.far_frame.specs.declared.step.Reply.{Reply}
use Rattle.far_frame.specs.declared.step.Step.TheVariants as step
use Rattle.far_frame.specs.TableRuns.{FaultsOnlyIf}
use Rattle.far_frame.proofs.WaitingLaws.{carry-cause}
use Rattle.far_frame.proofs.world.World.carry.Goals as goal

pub returns-clause-cause : goal.returns-clause-cause
returns-clause-cause g c =
    subst (λ (given : Reply). FaultsOnlyIf g.S.FarTickets.may_fail (step.Carry c.args.n) given) (sym c.done_or.ensures) (carry-cause g.S.FarTickets.may_fail c.args.n c.carry.result c.carry.ensures.cause)
