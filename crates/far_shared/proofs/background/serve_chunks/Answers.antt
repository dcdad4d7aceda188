use denote.Param.{param}
use Rattle.far_shared.proofs.CrossingLaws.{shared_sync}
use Rattle.std.proofs.Common.{◌≡◌, ◌≤◌, ◌*◌, length, get_or, subst, sym, ◌∙◌}
use Rattle.std.proofs.lemmas.Grind.{div_ceil_times}
use Rattle.far_shared.specs.UnderLock.{AreServed, IsUnder}
use Rattle.far_shared.specs.Works.{works_in}
use Rattle.far_shared.proofs.CountedLaws.{counted-chunks}
use Rattle.far_shared.proofs.ReportLaws.{counts-all}
use Rattle.far_shared.proofs.background.serve_chunks.Goals as goal

pub returns-clause-all : goal.returns-clause-all
returns-clause-all g c =
    let made = c.in_ok-reports in
    counts-all works_in c.chunk_for-size.result c.args.works.now made.reports.items (record { done = 0; refused = 0 }) c.chunk_for-size.ensures.some (sym made.reports.ok.0 ∙ made.ensures.len)
    (λ n lt. let k = (made.ensures.each n (record { done = 0; refused = 0 }) lt).1 in let report = get_or made.reports.items n (record { done = 0; refused = 0 }) in subst (λ works. works_in report ≡ length works) k.argument_is.value k.call.0)

pub returns-clause-served : goal.returns-clause-served
returns-clause-served g c =
    let made = c.in_ok-reports in
    let long : length c.args.works.now ≤ length made.reports.items * c.chunk_for-size.result = subst (λ n. length c.args.works.now ≤ n * c.chunk_for-size.result) (sym (sym made.reports.ok.0 ∙ made.ensures.len)) (div_ceil_times (length c.args.works.now) c.chunk_for-size.result c.chunk_for-size.ensures.some).0 in
    counted-chunks _ _ (λ report. report.done) (λ report. report.refused) (record { done = 0; refused = 0 }) c.chunk_for-size.result made.reports.items c.args.works.now long
    (λ n lt. let k = (made.ensures.each n (record { done = 0; refused = 0 }) lt).1 in let report = get_or made.reports.items n (record { done = 0; refused = 0 }) in subst (λ works. AreServed g.S.FarTickets.number_of g.S.FarTickets.content (IsUnder g.N.PlanTag.plan g.S.FarTickets.is_of g.B.TableTag.store) (length g.N.PlanTag.plan.schema) works report.done report.refused) k.argument_is.value k.call.1)

-- the closure holds a `&` to the runtime, the four tables and the store
pub map_chunks-requires-sync-F : goal.map_chunks-requires-sync-F
map_chunks-requires-sync-F g c κs within =
    let all = shared_sync (param 0 g.row.N) (param 1 g.row.B) (param 2 g.row.S) (param 4 g.row.S-Ticket) g.B.CellsTag g.N.PlanTag g.B.TableTag g.S.FarTickets c.type_bounds.send-S-Ticket c.type_bounds.sync-S-Ticket in
    record {
      shared = λ x b o κ. (
        (
          ((λ q. tt), c.type_bounds.sync-R.shared x.0.now x.0.ref_ptr.0 x.0.ref_ptr.1 _),
          (((λ q. tt), all.shared x.1.now x.1.ref_ptr.0 x.1.ref_ptr.1 _), (((λ q. tt), c.type_bounds.sync-S.shared x.2.now x.2.ref_ptr.0 x.2.ref_ptr.1 _), tt)),
        ),
        λ q. tt,
      );
    }
