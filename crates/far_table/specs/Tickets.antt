-- The tickets whose contents an offloaded build reads.
use Rattle.std.specs.Prelude.{ℕ, ◌==◌, List, map, Option}
use Rattle.std.specs.List.{find}
use Rattle.far_table.specs.Offloading.{Build}

module _ {K : Type 0} where
  -- the tickets of a build, in order
  abbrev pub tickets_of : Build K → List K
  tickets_of build = map (λ ticket. ticket.1) build.job.tickets

  -- the first of some tickets that has a number
  abbrev pub ticket_with : (K → ℕ) → List K → ℕ → Option K
  ticket_with number_of tickets number = find (λ ticket. number_of ticket == number) tickets
