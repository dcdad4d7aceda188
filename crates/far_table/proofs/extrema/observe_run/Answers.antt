use Rattle.std.proofs.Common.{◌≡◌, List, refl, sym, ap, ◌∙◌, arith}
use Rattle.far_types.specs.Answers.{Extrema, extrema}
use Rattle.far_types.specs.Effects.{joined_extrema}
use Rattle.far_types.specs.Table.{Place}
use Rattle.far_rows.specs.Places.{places_in}
use Rattle.far_aggregates.specs.Accumulators.{pairs_here, group_pairs}
use Rattle.far_table.specs.Pieces.{run_of}
use Rattle.far_table.proofs.PiecesRuns.{run-none, run-observed}
use Rattle.far_table.proofs.extrema.observe_run.Goals as goal

pub loop-group-init : goal.loop-group-init
loop-group-init g c =
    let r = c.args.rows.now in
    let places = places_in g.S.FarTickets.content r in
    record {
      extrema = c.new-observed.ensures ∙ ap (λ (ps : List Place). extrema (pairs_here c.args.spec.now ps)) (sym (run-none places r.size c.args.from));
      low = omega arith;
      high = omega (arith, c.requires.order);
      meter = refl;
    }

pub loop-group-preserved : goal.loop-group-preserved
loop-group-preserved g c =
    let r = c.args.rows.now in
    let spec = c.args.spec.now in
    let places = places_in g.S.FarTickets.content r in
    let k = c.loop-group.group in
    let inv = c.loop-group.invariant in
    record {
      extrema = c.in_ok-observe_at.ensures.extrema
          ∙ ap (λ (m : Extrema). joined_extrema m (extrema (group_pairs spec r.size k places))) inv.extrema
          ∙ run-observed places spec r.size c.args.from k inv.low;
      low = omega (arith, inv.low);
      high = omega (arith, c.loop-group-test.true);
      meter = omega (arith, c.in_ok-observe_at.ensures.faults, inv.meter);
    }

pub returns-clause-extrema : goal.returns-clause-extrema
returns-clause-extrema g c =
    let r = c.args.rows.now in
    let spec = c.args.spec.now in
    let places = places_in g.S.FarTickets.content r in
    let inv = c.loop-group.invariant in
    let last : c.loop-group.group ≡ c.args.to = omega (arith, c.loop-group-test.false, inv.high) in
    inv.extrema ∙ ap (λ n. extrema (pairs_here spec (run_of r.size c.args.from n places))) last
