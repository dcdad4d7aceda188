use Rattle.std.proofs.Common.{◌≡◌, Option, subst, sym}
use Rattle.std.specs.Prelude.{IfSome}
use Rattle.std.proofs.lemmas.List.Elements.{All-nil}
use Rattle.far_frame.specs.Jobs.{JobRecord, IsJobAt}
use Rattle.far_frame.specs.TableViews.{table_of}
use Rattle.far_frame.specs.Waiting.{AreJobsAt}
use Rattle.far_frame.specs.Worlds.{World}
use Rattle.far_frame.proofs.TableRenewal.{migrated-view}
use Rattle.far_frame.proofs.world.World.migrate.Goals as goal

pub invariant_of-result : goal.invariant_of-result
invariant_of-result g c =
    let is_of = g.N.FarTickets.is_of in
    let id = g.N.FarTickets.store_id c.args.new_store in
    record {
      rows_at = c.in-Ok.ensures.there;
      jobs_at = subst (AreJobsAt is_of id) (sym c.new.ensures) (All-nil (λ (job : Option (JobRecord g.row.N-Ticket.Denot)). IfSome job (IsJobAt is_of id)));
    }

pub returns-in-Ok-clause-table : goal.returns-in-Ok-clause-table
returns-in-Ok-clause-table g c =
    subst (λ (w : World g.row.S-Ticket.Denot). table_of c.in-Ok.frame ≡ table_of w.state) c.self.view_is
    (migrated-view g.S.FarTickets.content g.N.FarTickets.content c.self.inside.frame c.in-Ok.frame c.in-Ok.ensures.migrated)
