use Rattle.std.proofs.Common.{sym, subst}
use Rattle.std.specs.Prelude.{IsSomeAnd}
use Rattle.far_table.specs.FarGroups.{IsCopy}
use Rattle.far_table.proofs.OffloadingTickets.{ticket-among, same-copy}
use Rattle.far_table.proofs.copies.is_still.Goals as goal

pub same-requires-clause-b_here : goal.same-requires-clause-b_here
same-requires-clause-b_here g c =
    let found = sym c.in-Some-ticket_for.ensures in
    ticket-among (λ t. g.S.FarTickets.is_of t (g.S.FarTickets.store_id c.args.store.now)) c.args.tickets.now c.args.column c.in-Some-ticket_for.ticket.now c.requires.tickets_here found

pub returns-clause-copy : goal.returns-clause-copy
returns-clause-copy g c = λ same.
    let content = g.S.FarTickets.content in
    let ticket = c.in-Some-ticket_for.ticket.now in
    subst (λ found. IsSomeAnd found (IsCopy content c.args.rows.now c.args.group c.args.column)) c.in-Some-ticket_for.ensures
    (same-copy content c.args.rows.now c.args.group c.args.column c.in-Some.own.now ticket (c.same.ensures.content same) c.in-Some.ensures.copy)
