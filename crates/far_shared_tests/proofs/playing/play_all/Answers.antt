use denote.Param.{param}
use Rattle.far_shared.proofs.CrossingLaws.{shared_sync}
use Rattle.far_shared_tests.proofs.playing.Stage.TheSendSync as stage
use Rattle.far_shared_tests.proofs.playing.play_all.Goals as goal

-- the closure holds a `&` to the runtime, the four tables, the store and what it shares with the other threads
pub map_vec-requires-sync-F : goal.map_vec-requires-sync-F
map_vec-requires-sync-F g c κs within =
    let all = shared_sync (param 0 g.row.N) (param 1 g.row.B) (param 2 g.row.S) (param 4 g.row.S-Ticket) g.B.CellsTag g.N.PlanTag g.B.TableTag g.S.FarTickets c.type_bounds.send-S-Ticket c.type_bounds.sync-S-Ticket in
    record {
      shared = λ x b o κ. (
        (
          ((λ q. tt), c.type_bounds.sync-R.shared x.0.now x.0.ref_ptr.0 x.0.ref_ptr.1 _),
          (
            ((λ q. tt), all.shared x.1.now x.1.ref_ptr.0 x.1.ref_ptr.1 _),
            (((λ q. tt), c.type_bounds.sync-S.shared x.2.now x.2.ref_ptr.0 x.2.ref_ptr.1 _), (((λ q. tt), stage.the_sync.shared x.3.now x.3.ref_ptr.0 x.3.ref_ptr.1 _), tt)),
          ),
        ),
        λ q. tt,
      );
    }
