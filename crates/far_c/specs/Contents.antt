-- The contents that the calling program keeps, by the tickets of the store.
use Rattle.std.specs.Prelude.{ℕ, List}
use Rattle.far_host.specs.HostTickets.{TicketState, HasDigestOf}

-- the bytes that the host was given for a ticket
abbrev pub content : TicketState → List ℕ
content ticket = ticket.content

-- the number under which the host keeps them
abbrev pub number_of : TicketState → ℕ
number_of ticket = ticket.number

-- bytes have the length and the digest of a ticket's content
abbrev pub matches : TicketState → List ℕ → Type 0
matches ticket bytes = HasDigestOf ticket.content bytes
