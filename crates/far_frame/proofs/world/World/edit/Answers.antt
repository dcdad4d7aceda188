use Rattle.std.proofs.Common.{refl, subst}
use Rattle.far_frame.specs.declared.step.Step.TheVariants as step
use Rattle.far_frame.specs.TableRuns.{IsTableStep}
use Rattle.far_frame.specs.TableViews.{table_of}
use Rattle.far_frame.specs.Worlds.{World}
use Rattle.far_frame.proofs.WorldsLaws.{table-moved}
use Rattle.far_frame.proofs.TableLaws.{step-table}
use Rattle.far_frame.proofs.world.World.edit.Goals as goal

pub invariant_of-self : goal.invariant_of-self
invariant_of-self g c =
    let inside = c.self.inside in
    table-moved g.S.FarTickets.is_of (g.S.FarTickets.store_id inside.store) inside.frame c.edit.new.frame inside.jobs c.edit.ensures.here c.self.invariant

pub returns-clause-table : goal.returns-clause-table
returns-clause-table g c =
    let inside = c.self.inside in
    let old : World g.row.S-Ticket.Denot = record { state = inside.frame; store = g.S.FarTickets.store_id inside.store; begun = inside.begun; jobs = inside.jobs; faults = inside.meter } in
    let new : World g.row.S-Ticket.Denot = record old { state = c.edit.new.frame } in
    subst (λ (w : World g.row.S-Ticket.Denot). IsTableStep (table_of w.state) (step.Edit c.args.edit) c.edit.result (table_of c.edit.new.frame)) c.self.view_is
    (step-table g.S.FarTickets.content g.S.FarTickets.number_of old new c.keeps.ensures (step.Edit c.args.edit) c.edit.result (c.edit.ensures.changes, refl))
