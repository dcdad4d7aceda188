use Rattle.std.proofs.Common.{subst}
use Rattle.far_frame.specs.declared.step.Step.TheVariants as step
use Rattle.far_frame.specs.TableViews.{IsKept}
use Rattle.far_frame.specs.Worlds.{World}
use Rattle.far_frame.proofs.TableLaws.{step-table}
use Rattle.far_frame.proofs.world.World.carry_shown.Goals as goal

pub returns : goal.returns
returns g c =
    let content = g.S.FarTickets.content in
    let kept = subst (λ (w : World g.row.S-Ticket.Denot). IsKept content w.state) c.self.view_is c.keeps.ensures in
    record {
      step = c.carry.ensures.step;
      table = step-table content g.S.FarTickets.number_of c.args.self.now c.carry.new.self kept (step.Carry c.args.n) c.carry.result c.carry.ensures.step;
    }
