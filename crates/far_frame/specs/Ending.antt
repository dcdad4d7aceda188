-- The jobs of a world: beginning one on the coldest object, and dropping one.
use Rattle.std.specs.Prelude.{◌≡◌, ℕ, [], ◌∷◌, Option, None, Some, is_none}
use Rattle.far_types.specs.declared.refusal.Refusal.{Refusal}
use Rattle.far_types.specs.declared.refusal.Refusal.TheVariants as refusal
use Rattle.far_types.specs.FirstOf.{first_of}
use Rattle.far_rows.specs.Coldest.{coldest}
use Rattle.far_frame.specs.declared.step.Reply.TheVariants as reply
use Rattle.far_frame.specs.Jobs.{IsColdestJob}
use Rattle.far_frame.specs.Waiting.{job_at}
use Rattle.far_frame.specs.Worlds.{World, IsBegun}

module _ {K : Type 0} where
  -- there is no job with this number
  abbrev pub no_job : World K → ℕ → Option Refusal
  no_job world n = first_of ((is_none (job_at world.jobs n), refusal.StaleJob) ∷ [])

  -- the coldest object's evacuation begins, with the next job number; or there is no such object, and nothing changes
  abbrev pub IsColdestBegun : World K → Option ℕ → World K → Type 0
  IsColdestBegun old None new = (coldest old.state.rows ≡ None) × (new ≡ old)
  IsColdestBegun old (Some n) new = IsBegun (λ job. IsColdestJob old.state.rows (Some job)) old
      (reply.Job n) new
