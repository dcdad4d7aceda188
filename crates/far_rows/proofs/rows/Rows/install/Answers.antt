use Rattle.std.proofs.Common.{sym, subst, ◌∙◌}
use Rattle.far_types.specs.declared.cell.Kind.TheVariants as kind
use Rattle.far_columns.specs.Numbers.{number_lists}
use Rattle.far_texts.specs.Texts.{lists_of}
use Rattle.far_evacuator.specs.Acceptance.{DecidesInstall}
use Rattle.far_rows.specs.Jobs.{HasNoSpaceIn, IsFetchAcceptedIn}
use Rattle.far_rows.specs.Rows.{Rows}
use Rattle.far_rows.proofs.MovingCells.{numbers-moved, texts-moved, number-cells, text-cells}
use Rattle.far_rows.proofs.NamingLaws.{still-named-there}
use Rattle.far_rows.proofs.rows.Rows.install.Goals as goal

pub invariant_of-self : goal.invariant_of-self
invariant_of-self g c =
    let o = c.args.fetched.now.job.object in
    numbers-moved g.S.FarTickets.content c.self.invariant c.install.new.objects c.install.ensures.rest.lists (still-named-there c.self.inside.number_objects c.install.new.objects o (number_lists g.S.FarTickets.content c.self.inside.number_objects o) c.install.result c.install.ensures.installed c.install.ensures.err) (c.install.ensures.rest.clean c.self.invariant.clean_numbers)

pub returns-in-Int-clause-cells : goal.returns-in-Int-clause-cells
returns-in-Int-clause-cells g c = number-cells g.S.FarTickets.content c.self.view_is c.install.new.objects c.install.ensures.rest.lists

pub returns-in-Int-clause-decided : goal.returns-in-Int-clause-decided
returns-in-Int-clause-decided g c =
    let fetched = c.args.fetched.now in
    subst (λ of. DecidesInstall c.install.result (IsFetchAcceptedIn g.S.FarTickets.number_of c.args.self.now of fetched) (HasNoSpaceIn g.S.FarTickets.content c.args.self.now of fetched.job.object)) (sym c.in-Int.is ∙ c.kind.ensures)
    (subst (λ (r : Rows g.row.S-Ticket.Denot). DecidesInstall c.install.result (IsFetchAcceptedIn g.S.FarTickets.number_of r kind.Int fetched) (HasNoSpaceIn g.S.FarTickets.content r kind.Int fetched.job.object)) c.self.view_is c.install.ensures.decided)

pub invariant_of-self-in-Text : goal.invariant_of-self-in-Text
invariant_of-self-in-Text g c =
    let o = c.args.fetched.now.job.object in
    texts-moved g.S.FarTickets.content c.self.invariant c.install-in-Text.new.objects c.install-in-Text.ensures.rest.lists (still-named-there c.self.inside.text_objects c.install-in-Text.new.objects o (lists_of g.S.FarTickets.content c.self.inside.text_objects o) c.install-in-Text.result c.install-in-Text.ensures.installed c.install-in-Text.ensures.err) (c.install-in-Text.ensures.rest.clean c.self.invariant.clean_texts)

pub returns-in-Text-clause-cells : goal.returns-in-Text-clause-cells
returns-in-Text-clause-cells g c = text-cells g.S.FarTickets.content c.self.view_is c.install-in-Text.new.objects c.install-in-Text.ensures.rest.lists

pub returns-in-Text-clause-decided : goal.returns-in-Text-clause-decided
returns-in-Text-clause-decided g c =
    let fetched = c.args.fetched.now in
    subst (λ of. DecidesInstall c.install-in-Text.result (IsFetchAcceptedIn g.S.FarTickets.number_of c.args.self.now of fetched) (HasNoSpaceIn g.S.FarTickets.content c.args.self.now of fetched.job.object)) (sym c.in-Text.is ∙ c.kind.ensures)
    (subst (λ (r : Rows g.row.S-Ticket.Denot). DecidesInstall c.install-in-Text.result (IsFetchAcceptedIn g.S.FarTickets.number_of r kind.Text fetched) (HasNoSpaceIn g.S.FarTickets.content r kind.Text fetched.job.object)) c.self.view_is c.install-in-Text.ensures.decided)
