use Rattle.std.proofs.Common.{◌≡◌, subst, ◌∙◌}
use Rattle.far_scopes.specs.Refusing.{refusal_in}
use Rattle.far_frame.specs.declared.step.Step.TheVariants as step
use Rattle.far_frame.specs.Lending.{lent_part}
use Rattle.far_frame.specs.TableRefusals.{due}
use Rattle.far_frame.specs.TableViews.{table_of}
use Rattle.far_frame.specs.Worlds.{World}
use Rattle.far_frame.proofs.TableDue.{lend-due}
use Rattle.far_frame.proofs.TableLaws.{lending-view}
use Rattle.far_frame.proofs.WorldsLaws.{table-moved}
use Rattle.far_frame.proofs.world.World.record_lending.Goals as goal

pub invariant_of-self : goal.invariant_of-self
invariant_of-self g c =
    let inside = c.self.inside in
    table-moved g.S.FarTickets.is_of (g.S.FarTickets.store_id inside.store) inside.frame c.record_lending.new.self inside.jobs c.record_lending.ensures.here c.self.invariant

pub returns-clause-due : goal.returns-clause-due
returns-clause-due g c =
    let result = c.record_lending.result in
    subst (λ (w : World g.row.S-Ticket.Denot). refusal_in result ≡ due (table_of w.state) (step.Lend c.args.column c.args.from c.args.to)) c.self.view_is
    (c.record_lending.ensures.refused ∙ lend-due g.S.FarTickets.content c.self.inside.frame c.keeps.ensures c.args.column c.args.from c.args.to)

pub returns-clause-table : goal.returns-clause-table
returns-clause-table g c =
    let old = c.self.inside.frame in
    subst (λ (w : World g.row.S-Ticket.Denot). table_of c.record_lending.new.self ≡ table_of w.state) c.self.view_is
    (lending-view g.S.FarTickets.content old c.record_lending.new.self c.args.column c.args.from c.args.to (lent_part old.table c.args.column c.args.from c.args.to) c.record_lending.result c.record_lending.ensures.ok c.record_lending.ensures.err)
