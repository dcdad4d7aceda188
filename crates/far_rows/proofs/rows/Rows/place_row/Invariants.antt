use Rattle.std.proofs.Common.{◌≡◌, ◌/◌, map, take, drop}
use Rattle.std.specs.Prelude.{slice_index_or}
use Rattle.far_types.specs.declared.cell.Cell.TheVariants.{Missing}
use Rattle.far_types.specs.FirstOf.{first_of}
use Rattle.far_rows.specs.ColumnIndexes.{column_in}
use Rattle.far_rows.specs.Rows.{all_numbers, all_texts}
use Rattle.far_rows.specs.Refusing.{absents, absents_from}
use Rattle.far_rows.proofs.rows.Rows.place_row.Given as goal

abbrev pub invariant-loop-column : goal.invariant-loop-column
invariant-loop-column g l =
    (l.row ≡ map (λ s. slice_index_or (column_in (all_numbers g.S.FarTickets.content l.self) (all_texts g.S.FarTickets.content l.self) s) l.place Missing) (take l.column l.self.column_indexes))
    × (first_of (absents l.self (l.place / l.self.size)) ≡ first_of (absents_from l.self (l.place / l.self.size) l.column (drop l.column l.self.column_indexes)))
