use Rattle.std.proofs.Common.{◌≡◌, ◌∷◌, [], subst, ◌∙◌}
use Rattle.far_types.specs.FirstOf.{first_of}
use Rattle.far_scopes.specs.Refusing.{refusal_in}
use Rattle.far_frame.specs.TableRefusals.{no_column, no_group}
use Rattle.far_frame.specs.TableViews.{table_of}
use Rattle.far_frame.specs.Worlds.{World}
use Rattle.far_frame.proofs.TableDue.{access-due}
use Rattle.far_frame.proofs.TableLaws.{saw-view}
use Rattle.far_frame.proofs.world.World.saw.Goals as goal

pub returns-clause-due : goal.returns-clause-due
returns-clause-due g c =
    let result = c.saw.result in
    subst (λ (w : World g.row.S-Ticket.Denot). refusal_in result ≡ first_of (no_column w.state.table c.args.column ∷ no_group w.state.table c.args.group ∷ [])) c.self.view_is
    (c.saw.ensures.refused ∙ access-due g.S.FarTickets.content c.self.inside.frame c.keeps.ensures c.args.column c.args.group)

pub returns-clause-table : goal.returns-clause-table
returns-clause-table g c =
    subst (λ (w : World g.row.S-Ticket.Denot). table_of c.saw.new.self ≡ table_of w.state) c.self.view_is
    (saw-view c.self.inside.frame c.saw.new.self c.args.column (c.args.group ∷ []) c.saw.result c.saw.ensures.accesses c.saw.ensures.err)
