use Rattle.std.proofs.Common.{ℕ, ◌*◌, ◌≤◌, length, ap, ◌∙◌, arith}
use Rattle.std.proofs.lemmas.Result.{IfOk-weaker}
use Rattle.far_offload.specs.declared.partial.PartialDone.{PartialDone}
use Rattle.far_offload.specs.Partials.{partial_of}
use Rattle.far_rows.specs.Places.{places_in}
use Rattle.far_rows.specs.Rows.{all_cells}
use Rattle.far_aggregates.specs.Accumulators.{pairs_here}
use Rattle.far_table.specs.Pieces.{begin_of, run_of}
use Rattle.far_table.proofs.Places.{length-places}
use Rattle.far_table.proofs.PiecesRuns.{as-one}
use Rattle.far_table.proofs.piece.fold_piece.Goals as goal

pub returns : goal.returns
returns g c =
    let r = c.args.rows.now in
    let spec = c.args.spec.now in
    let content = g.S.FarTickets.content in
    let places = places_in content r in
    let count = c.args.cut.count in
    let long = c.args.cut.long in
    let i = c.args.piece in
    let run : ℕ → ℕ → PartialDone = λ from to. partial_of spec.fold (pairs_here spec (run_of r.size from to places)) in
    let all : length places ≤ count * r.size = omega (arith, length-places (all_cells content r) r.alive, c.requires.groups.all) in
    record {
      partial = IfOk-weaker c.fold_run-partial.result _ _ (λ done is.
          is
          ∙ ap (λ n. run n c.begin_of-to.result) c.begin_of-from.ensures
          ∙ ap (run (begin_of count long i)) c.begin_of-to.ensures
          ∙ as-one spec places r.size count long i all) c.fold_run-partial.ensures.partial;
      faults = omega (arith, c.fold_run-partial.ensures.faults, c.new-meter.ensures);
      cause = c.fold_run-partial.ensures.cause;
    }
