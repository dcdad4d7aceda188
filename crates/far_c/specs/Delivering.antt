-- Contents that go to the host, and that the host delivers.
use Rattle.std.specs.Prelude.{◌≡◌, ◌≢◌, ◌⊎◌, ℕ, ◌+◌, List, Option, None, Some, IsSomeAnd}
use Rattle.far_types.specs.declared.refusal.Refusal.{Refusal}
use Rattle.far_types.specs.declared.refusal.Refusal.TheVariants as refusal
use Rattle.far_types.specs.Refusals.{number_of as refusal_number}
use Rattle.far_store.specs.Faults.{faults_of}
use Rattle.far_host.specs.HostTickets.{TicketState}
use Rattle.far_frame.specs.Carrying.{number_wanted, outgoing_of}
use Rattle.far_rows.specs.Copies.{copy_of}
use Rattle.far_rows.specs.Jobs.{fetch_refusal}
use Rattle.far_rows.specs.Rows.{Rows}
use Rattle.far_frame.specs.Delivering.{IsContentOf, IsOther}
use Rattle.far_frame.specs.Jobs.{JobRecord}
use Rattle.far_frame.specs.Waiting.{job_at}
use Rattle.far_c.specs.Contents.{content, matches, number_of}
use Rattle.far_c.specs.Outcomes.{IsUsedUp}
use Rattle.far_c.specs.TableState.{TableState}

-- the content that a job sends to the host, with the number of its ticket
abbrev pub IsOutgoing : Option (JobRecord TicketState) → ℕ → List ℕ → Type 0
IsOutgoing found number bytes = IsSomeAnd found
    (λ job. IsSomeAnd (outgoing_of job.work)
    (λ ticket. (number ≡ number_of ticket) × (bytes ≡ content ticket)))

-- the number of the content at an index, among those that a job has yet to read
abbrev pub IsWanted : Option (JobRecord TicketState) → ℕ → ℕ → Type 0
IsWanted found index number = IsSomeAnd found
    (λ job. IsSomeAnd (number_wanted number_of job.work index) (λ wanted. number ≡ wanted))

-- the bytes are accepted as the content of the wanted ticket. The table and its jobs are unchanged
abbrev pub IsDelivered : Option TicketState → List ℕ → TableState → TableState → Type 0
IsDelivered wanted bytes old new = IsContentOf content wanted bytes × (new ≡ old)

-- a job sends nothing to the host: it is not a carried eviction, or its content was sent before
abbrev pub HasNothingOut : ℕ → TableState → ℕ → Type 0
HasNothingOut n table code = (code ≡ 104)
    × IsSomeAnd (job_at table.world.jobs n) (λ job. outgoing_of job.work ≡ None)

-- a job has no content at an index, among those that it has yet to read
abbrev pub WantsNoMore : ℕ → ℕ → TableState → ℕ → Type 0
WantsNoMore n index table code = (code ≡ 104)
    × IsSomeAnd (job_at table.world.jobs n) (λ job. number_wanted number_of job.work index ≡ None)

-- why bytes are not accepted: none are wanted, or they are not the wanted ones, or memory ran out
-- for the wanted ones
abbrev pub WhyNotTaken : Option TicketState → List ℕ → Refusal → Type 0
WhyNotTaken wanted bytes why = ((why ≡ refusal.StaleJob) × (wanted ≡ None))
    ⊎ (((why ≡ refusal.FarFault) × IsOther matches wanted bytes)
    ⊎ ((why ≡ refusal.NoMemory) × (wanted ≢ None) × ¬ (IsOther matches wanted bytes)))

-- why bytes are not accepted for an object: it cannot be fetched, or they are not its content, or
-- memory ran out
abbrev pub WhyNoCopy : Rows TicketState → ℕ → ℕ → List ℕ → Refusal → Type 0
WhyNoCopy rows column group bytes why = (fetch_refusal rows column group ≡ Some why)
    ⊎ (((why ≡ refusal.FarFault) × IsOther matches (copy_of rows column group) bytes)
    ⊎ ((why ≡ refusal.NoMemory) × (fetch_refusal rows column group ≡ None)))

-- an object is not away, or the limit of counted faults is reached
abbrev pub IsNotAway : ℕ → ℕ → TableState → ℕ → Type 0
IsNotAway column group table code = IsUsedUp table code
    ⊎ ((code ≡ 104) × (fetch_refusal table.world.state.rows column group ≡ Some refusal.StaleJob))

-- a call that changes only the count of faults is refused for one of these reasons, which the
-- handle keeps and which has this code
abbrev pub IsCountedFor : (Refusal → Type 0) → ℕ → TableState → TableState → Type 0
IsCountedFor reason code old new = IsSomeAnd new.refusal
    (λ why. (code ≡ refusal_number why) × reason why
    × (new.world ≡ record old.world { faults = old.world.faults + faults_of why })
    × (new.answer ≡ old.answer))

-- a call that changes only the count of faults is refused for any reason, which the handle keeps
abbrev pub IsCounted : ℕ → TableState → TableState → Type 0
IsCounted code old new = IsSomeAnd new.refusal (λ why. (code ≡ refusal_number why)
    × (new.world ≡ record old.world { faults = old.world.faults + faults_of why })
    × (new.answer ≡ old.answer))
