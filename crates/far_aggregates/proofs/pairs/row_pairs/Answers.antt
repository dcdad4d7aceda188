use Rattle.std.proofs.Common.{◌≡◌, length, take, ap, ◌∙◌, arith}
use Rattle.std.proofs.lemmas.List.{length-map, length-take-le}
use Rattle.far_aggregates.specs.Pairs.{change_of, row_gives}
use Rattle.far_aggregates.proofs.pairs.row_pairs.Goals as goal

pub push_pair-requires : goal.push_pair-requires
push_pair-requires g c =
    let change = change_of c.args.size c.args.place (row_gives (g.R.LendCells.cells c.args.row.now)) in
    let registry = c.args.registry.now in
    let i = c.loop-entry.entry-index in
    let many : length c.loop-entry.pairs.items ≡ i = ap length c.loop-entry.invariant.pairs ∙ length-map (take i registry) change ∙ length-take-le i registry (omega arith) in
    let capacity = c.loop-entry.invariant.capacity in
    omega arith
