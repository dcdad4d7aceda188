use Rattle.std.proofs.Common.{subst}
use Rattle.far_frame.specs.TableViews.{IsKept}
use Rattle.far_frame.specs.Worlds.{World}
use Rattle.far_frame.proofs.TableLaws.{step-table}
use Rattle.far_frame.proofs.world.World.serve.Goals as goal

pub returns : goal.returns
returns g c =
    let content = g.S.FarTickets.content in
    let kept = subst (λ (w : World g.row.S-Ticket.Denot). IsKept content w.state) c.self.view_is c.keeps.ensures in
    record {
      step = c.serve_step-reply.ensures.step;
      here = c.keeps-2.ensures;
      table = step-table content g.S.FarTickets.number_of c.args.self.now c.serve_step-reply.new.self kept c.args.step c.serve_step-reply.result c.serve_step-reply.ensures.step;
      faults = c.serve_step-reply.ensures.faults;
      cause = c.serve_step-reply.ensures.cause;
    }
