use Rattle.std.proofs.Common.{◌≡◌, drop, map}
use Rattle.far_table.specs.Tickets.{ticket_with}
use Rattle.far_table.proofs.offload_build.OffloadBuild.ticket_of.Given as goal

abbrev pub invariant-loop-ticket : goal.invariant-loop-ticket
invariant-loop-ticket g l =
    ticket_with g.S.FarTickets.number_of (map (λ ticket. ticket.1) (drop l.ticket-index l.tickets)) l.number
    ≡ ticket_with g.S.FarTickets.number_of (map (λ ticket. ticket.1) l.tickets) l.number
