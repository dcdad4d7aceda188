use Rattle.std.proofs.Common.{◌≢◌, refl, sym, subst, ◌∙◌}
use Rattle.far_types.specs.declared.cell.Kind.TheVariants as kind
use Rattle.far_evacuator.specs.Acceptance.{DecidesCommit}
use Rattle.far_rows.specs.Jobs.{IsEvacAcceptedIn, pins_in}
use Rattle.far_rows.specs.Rows.{Rows}
use Rattle.far_rows.proofs.MovingCells.{numbers-moved, texts-moved, number-cells, text-cells}
use Rattle.far_rows.proofs.NamingLaws.{names-with, still-named}
use Rattle.far_rows.proofs.rows.Rows.commit.Goals as goal

pub invariant_of-self : goal.invariant_of-self
invariant_of-self g c = numbers-moved g.S.FarTickets.content c.self.invariant c.commit.new.objects c.commit.ensures.rest.lists (still-named _ _ _ c.commit.result c.commit.ensures.committed c.commit.ensures.err (names-with c.self.inside.number_objects.records c.args.carried.now.job.object _ (λ object_record. refl))) (c.commit.ensures.rest.clean c.self.invariant.clean_numbers)

pub returns-in-Int-clause-cells : goal.returns-in-Int-clause-cells
returns-in-Int-clause-cells g c = number-cells g.S.FarTickets.content c.self.view_is c.commit.new.objects c.commit.ensures.rest.lists

pub returns-in-Int-clause-decided : goal.returns-in-Int-clause-decided
returns-in-Int-clause-decided g c =
    let carried = c.args.carried.now in
    subst (λ of. DecidesCommit c.commit.result (IsEvacAcceptedIn g.S.FarTickets.number_of c.args.self.now of carried) (pins_in c.args.self.now of carried.job.object ≢ 0)) (sym c.in-Int.is ∙ c.kind.ensures)
    (subst (λ (r : Rows g.row.S-Ticket.Denot). DecidesCommit c.commit.result (IsEvacAcceptedIn g.S.FarTickets.number_of r kind.Int carried) (pins_in r kind.Int carried.job.object ≢ 0)) c.self.view_is c.commit.ensures.decided)

pub invariant_of-self-in-Text : goal.invariant_of-self-in-Text
invariant_of-self-in-Text g c = texts-moved g.S.FarTickets.content c.self.invariant c.commit-in-Text.new.objects c.commit-in-Text.ensures.rest.lists (still-named _ _ _ c.commit-in-Text.result c.commit-in-Text.ensures.committed c.commit-in-Text.ensures.err (names-with c.self.inside.text_objects.records c.args.carried.now.job.object _ (λ object_record. refl))) (c.commit-in-Text.ensures.rest.clean c.self.invariant.clean_texts)

pub returns-in-Text-clause-cells : goal.returns-in-Text-clause-cells
returns-in-Text-clause-cells g c = text-cells g.S.FarTickets.content c.self.view_is c.commit-in-Text.new.objects c.commit-in-Text.ensures.rest.lists

pub returns-in-Text-clause-decided : goal.returns-in-Text-clause-decided
returns-in-Text-clause-decided g c =
    let carried = c.args.carried.now in
    subst (λ of. DecidesCommit c.commit-in-Text.result (IsEvacAcceptedIn g.S.FarTickets.number_of c.args.self.now of carried) (pins_in c.args.self.now of carried.job.object ≢ 0)) (sym c.in-Text.is ∙ c.kind.ensures)
    (subst (λ (r : Rows g.row.S-Ticket.Denot). DecidesCommit c.commit-in-Text.result (IsEvacAcceptedIn g.S.FarTickets.number_of r kind.Text carried) (pins_in r kind.Text carried.job.object ≢ 0)) c.self.view_is c.commit-in-Text.ensures.decided)
