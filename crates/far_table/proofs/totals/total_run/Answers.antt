use Rattle.std.proofs.Common.{◌≡◌, ◌+◌, ◌-◌, ◌≤◌, ◌^◌, List, length, refl, sym, ap, subst, ◌∙◌, arith}
use Rattle.far_types.specs.Answers.{Totals, totals}
use Rattle.far_types.specs.Effects.{joined_totals}
use Rattle.far_types.specs.Table.{Place}
use Rattle.far_groups.specs.Live.{TotalsState, CanJoin}
use Rattle.far_rows.specs.Places.{places_in}
use Rattle.far_rows.specs.Rows.{all_cells}
use Rattle.far_aggregates.specs.Accumulators.{pairs_here, group_pairs}
use Rattle.far_table.specs.Pieces.{run_of}
use Rattle.far_table.proofs.Places.{length-places}
use Rattle.far_table.proofs.PiecesRuns.{live_of, run-none, run-joins, run-joined}
use Rattle.far_table.proofs.totals.total_run.Goals as goal

pub loop-group-init : goal.loop-group-init
loop-group-init g c =
    let r = c.args.rows.now in
    let places = places_in g.S.FarTickets.content r in
    let none : totals (pairs_here c.args.spec.now (run_of r.size c.args.from c.args.from places)) ≡ c.new-live.result.totals = ap (λ (ps : List Place). totals (pairs_here c.args.spec.now ps)) (run-none places r.size c.args.from) ∙ sym c.new-live.ensures.empty in
    record {
      totals = (λ i. live_of (c.new-live.ensures.left i) (sym none i));
      low = omega arith;
      high = omega (arith, c.requires.order);
      meter = refl;
    }

pub total_at-requires-clause-left : goal.total_at-requires-clause-left
total_at-requires-clause-left g c κs within = λ none. absurd (omega (arith, ap (λ (live : TotalsState). live.left) c.loop-group.invariant.totals, c.loop-group-test.true, none))

pub total_at-requires-clause-can_join : goal.total_at-requires-clause-can_join
total_at-requires-clause-can_join g c κs within =
    let r = c.args.rows.now in
    let content = g.S.FarTickets.content in
    let places = places_in content r in
    let k = c.loop-group.group in
    let few : length places ≤ 2 ^ 24 = omega (arith, length-places (all_cells content r) r.alive, c.len-len.ensures.rows.places) in
    subst (λ (m : Totals). CanJoin m (totals (group_pairs c.args.spec.now r.size k places))) (sym (ap (λ (live : TotalsState). live.totals) c.loop-group.invariant.totals)) (run-joins places c.args.spec.now r.size c.args.from k few)

pub loop-group-preserved : goal.loop-group-preserved
loop-group-preserved g c =
    let r = c.args.rows.now in
    let spec = c.args.spec.now in
    let places = places_in g.S.FarTickets.content r in
    let k = c.loop-group.group in
    let inv = c.loop-group.invariant in
    let here = totals (group_pairs spec r.size k places) in
    let before = totals (pairs_here spec (run_of r.size c.args.from k places)) in
    let left : c.args.to - k - 1 ≡ c.args.to - (k + 1) = omega arith in
    record {
      totals = c.in_ok-total_at.ensures.totals
          ∙ ap (λ (live : TotalsState). live_of (live.left - 1) (joined_totals live.totals here)) inv.totals
          ∙ ap (λ n. live_of n (joined_totals before here)) left
          ∙ ap (live_of (c.args.to - (k + 1))) (run-joined places spec r.size c.args.from k inv.low);
      low = omega (arith, inv.low);
      high = omega (arith, c.loop-group-test.true);
      meter = omega (arith, c.in_ok-total_at.ensures.faults, inv.meter);
    }

pub returns-clause-totals : goal.returns-clause-totals
returns-clause-totals g c =
    let r = c.args.rows.now in
    let spec = c.args.spec.now in
    let places = places_in g.S.FarTickets.content r in
    let inv = c.loop-group.invariant in
    let last : c.loop-group.group ≡ c.args.to = omega (arith, c.loop-group-test.false, inv.high) in
    let none : c.args.to - c.args.to ≡ 0 = omega arith in
    inv.totals
    ∙ ap (λ n. live_of (c.args.to - n) (totals (pairs_here spec (run_of r.size c.args.from n places)))) last
    ∙ ap (λ n. live_of n (totals (pairs_here spec (run_of r.size c.args.from c.args.to places)))) none
