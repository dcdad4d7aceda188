-- Jobs as C receives them.
use Rattle.std.specs.Prelude.{◌≡◌, ℕ, None}
use Rattle.std.specs.Option.{MatchOption}
use Rattle.far_host.specs.HostTickets.{TicketState}
use Rattle.far_rows.specs.Coldest.{coldest}
use Rattle.far_frame.specs.declared.job.JobKind.{JobKind}
use Rattle.far_frame.specs.declared.job.JobKind.TheVariants as kind
use Rattle.far_frame.specs.Carrying.{is_carried}
use Rattle.far_frame.specs.Jobs.{JobRecord, job_kind}
use Rattle.far_c.specs.declared.jobs.FcJob.{FcJob}
use Rattle.far_c.specs.TableState.{TableState}

-- the code of a job's kind
abbrev pub code_of : JobKind → ℕ
code_of kind.Evac = 0
code_of kind.Fetch = 1
code_of kind.Offload = 2

-- the description of a job: its kind, whether it was carried, and the object that it moves, if it
-- moves one
abbrev pub IsJobOf : JobRecord TicketState → FcJob → Type 0
IsJobOf job about = (about.kind ≡ code_of (job_kind job)) × (about.carried ≡ is_carried job.work)
    × MatchOption job.name ((about.column ≡ 0) × (about.group ≡ 0))
    (λ name. (about.column ≡ name.column) × (about.group ≡ name.group))

-- no object can be evicted: each local one has a pin
abbrev pub IsWithoutColdest : TableState → ℕ → Type 0
IsWithoutColdest table code = (code ≡ 104) × (coldest table.world.state.rows ≡ None)
