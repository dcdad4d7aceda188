use Rattle.std.proofs.Common.{◌≡◌, List, ap, sym, ◌∙◌, subst, map}
use Rattle.std.proofs.lemmas.Int.{to_z-of_z}
use Rattle.far_types.specs.declared.cell.Cell.TheVariants as cell
use Rattle.far_aggregates.specs.declared.pending.Pending.{Pending}
use Rattle.far_aggregates.specs.Accumulators.{RegistryEntry}
use Rattle.far_aggregates.specs.Changed.{with_cell_at}
use Rattle.far_aggregates.specs.Pairs.{row_gives}
use Rattle.far_aggregates.specs.Replacing.{value_of, ReplacesAll}
use Rattle.far_aggregates.proofs.ReplacingLaws.{noted-replaces}
use Rattle.far_aggregates.proofs.aggregates.Aggregates.note_values.Goals as goal

pub returns-clause-replaces : goal.returns-clause-replaces
returns-clause-replaces g c = λ places there kept.
    let same : c.as_slice.result.now ≡ c.args.self.now = c.as_slice.ensures.value ∙ c.self.view_is in
    let cells = g.R.LendCells.cells c.args.row.now in
    let pending : Pending = record { group = c.group_of-group.result; applied = c.new-applied.result; to_retract = c.in_ok-to_retract.to_retract } in
    subst (λ (registry : List RegistryEntry). ReplacesAll c.args.size c.args.place c.args.column places registry pending) (sym c.self.view_is)
    (noted-replaces c.args.size c.args.place c.args.column c.args.from cells c.args.self.now pending c.requires.size c.requires.number c.requires.keys
    ((simp (to_z-of_z, c.ranges.from) at c.in_ok-to_retract.ensures.ok) ∙ ap (map (value_of c.args.column c.args.size c.args.place (row_gives (with_cell_at c.args.column (cell.Int c.args.from) cells)))) same) places there kept)
