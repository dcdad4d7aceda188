use denote.Param.{param}
use denote.Param.Send.{IsSync, sendable}
use denote.Plain.{UInt}
use mir.Syntax.{w32}
use Rattle.std.proofs.Crossing as heap
use Rattle.far_shared.proofs.CrossingLaws.{shared_sync}
use Rattle.far_shell.proofs.sessions.running.work_all.Goals as goal

pub map_vec-requires-sync-F : goal.map_vec-requires-sync-F
map_vec-requires-sync-F g c κs within =
    let all = shared_sync (param 0 g.row.N) (param 1 g.row.B) (param 2 g.row.S) (param 4 g.row.S-Ticket) g.B.CellsTag g.N.PlanTag g.B.TableTag g.S.FarTickets c.type_bounds.send-S-Ticket c.type_bounds.sync-S-Ticket in
    let word : IsSync (UInt w32) = search sendable in
    record {
      shared = λ x b o κ. (
        (
          ((λ q. tt), c.type_bounds.sync-R.shared x.0.now x.0.ref_ptr.0 x.0.ref_ptr.1 _),
          (
            ((λ q. tt), heap.sync.shared x.1.now x.1.ref_ptr.0 x.1.ref_ptr.1 κ),
            (
              ((λ q. tt), all.shared x.2.now x.2.ref_ptr.0 x.2.ref_ptr.1 _),
              (((λ q. tt), c.type_bounds.sync-S.shared x.3.now x.3.ref_ptr.0 x.3.ref_ptr.1 _), (((λ q. tt), word.shared x.4.now x.4.ref_ptr.0 x.4.ref_ptr.1 κ), tt)),
            ),
          ),
        ),
        λ q. tt,
      );
    }
