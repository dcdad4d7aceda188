use Rattle.std.proofs.Common.{◌∙◌, ap, sym}
use Rattle.std.specs.Option.{option_copied}
use Rattle.far_frame.proofs.WorldsLaws.{job-here}
use Rattle.far_frame.proofs.world.jobs.end_build.Goals as goal

pub merge-requires-clause-job_here : goal.merge-requires-clause-job_here
merge-requires-clause-job_here g c κs within = job-here g.S.FarTickets.is_of (g.S.FarTickets.store_id c.args.store.now) c.args.jobs.now c.args.n c.in-Some.job.now c.requires.jobs_here (sym c.get.ensures ∙ ap option_copied c.in-Some.is)
