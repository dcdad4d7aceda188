-- Jobs that a host carries, and their tickets.
use Rattle.std.specs.Prelude.{ℕ, Bool, true, false, cond, List, [], ◌∷◌, Option, None, option_map, slice_get}
use Rattle.far_evacuator.specs.Jobs.{put_ticket}
use Rattle.far_table.specs.Tickets.{ticket_with, tickets_of}
use Rattle.far_frame.specs.declared.job.JobPhase.TheVariants as work
use Rattle.far_frame.specs.Jobs.{WorkOf}

module _ {K : Type 0} where
  -- whether a job's work was carried
  abbrev pub is_carried : WorkOf K → Bool
  is_carried (work.Carried carried) = true
  is_carried (work.Fetched fetched) = true
  is_carried (work.Offloaded build) = true
  is_carried _ = false

  -- the ticket that the put of a job returned: only a carried evacuation of a dirty object has one
  abbrev pub outgoing_of : WorkOf K → Option K
  outgoing_of (work.Carried carried) = put_ticket carried
  outgoing_of _ = None

  -- the tickets whose contents a job reads, or has read
  abbrev pub tickets_of_work : WorkOf K → List K
  tickets_of_work (work.Fetch fetch) = fetch.ticket ∷ []
  tickets_of_work (work.Fetched fetched) = fetched.job.ticket ∷ []
  tickets_of_work (work.Offload build) = tickets_of build
  tickets_of_work (work.Offloaded build) = tickets_of build
  tickets_of_work _ = []

  -- the ticket with this number, among those whose contents a job has yet to read
  abbrev pub wanted_of : (K → ℕ) → WorkOf K → ℕ → Option K
  wanted_of number_of (work.Fetch fetch) number = ticket_with number_of (fetch.ticket ∷ []) number
  wanted_of number_of (work.Offload build) number = ticket_with number_of (tickets_of build) number
  wanted_of number_of _ number = None

  -- the number of the ticket at an index, among those whose contents a job has yet to read
  abbrev pub number_wanted : (K → ℕ) → WorkOf K → ℕ → Option ℕ
  number_wanted number_of w index = cond (is_carried w) None
      (option_map number_of (slice_get (tickets_of_work w) index))
