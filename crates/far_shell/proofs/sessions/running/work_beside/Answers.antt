use denote.Exit.{if_kept, unchanged, unseen}
use denote.Param.{param}
use denote.Param.Send.{IsSync, Quiet, sendable}
use denote.Plain.{UInt}
use mir.Syntax.{of_param, w32}
use Rattle.std.proofs.Common.{Bool, true, false, rules}
use Rattle.std.proofs.Crossing.{crosses}
use Rattle.far_shared.proofs.CrossingLaws.{shared_sync}
use Rattle.far_shell.proofs.sessions.evacuating.Evictions.TheSendSync as evictions
use Rattle.far_shell.proofs.sessions.outcome.Stop.TheSendSync as stop
use Rattle.far_shell.proofs.sessions.running.work_beside.Goals as goal

as-before : (D : Type 0) (has_pass : Bool) → Quiet (if_kept {D = D} has_pass unchanged unseen)
as-before D true = λ x w. tt
as-before D false = λ x w. tt

pub join-evictions-requires : goal.join-evictions-requires
join-evictions-requires g c =
    let all = shared_sync (param 0 g.row.N) (param 1 g.row.B) (param 2 g.row.S) (param 4 g.row.S-Ticket) g.B.CellsTag g.N.PlanTag g.B.TableTag g.S.FarTickets c.type_bounds.send-S-Ticket c.type_bounds.sync-S-Ticket in
    let word : IsSync (UInt w32) = search sendable in
    λ k. (
      record {
        owned = λ n vs vss. (
          tt,
          (
            (tt, c.type_bounds.sync-R.shared n.0.now n.0.ref_ptr.0 n.0.ref_ptr.1 _),
            (
              (tt, all.shared n.1.now n.1.ref_ptr.0 n.1.ref_ptr.1 _),
              ((tt, c.type_bounds.sync-S.shared n.2.now n.2.ref_ptr.0 n.2.ref_ptr.1 _), ((tt, word.shared n.3.now n.3.ref_ptr.0 n.3.ref_ptr.1 k.0), tt)),
            ),
          ),
        );
        leaving = λ e. as-before _ (e (of_param 1));
      },
      search (sendable, crosses, rules, evictions.the_send, stop.the_send) depth 40,
    )
