use Rattle.std.proofs.Common.{◌≡◌, ◌++◌, drop, map}
use Rattle.csv.specs.Writing.{default_writer, fields_text}
use Rattle.far_commands.specs.Listings.{cell_text}
use Rattle.far_commands.proofs.listing.more_fields.Given as goal

abbrev pub invariant-loop-column : goal.invariant-loop-column
invariant-loop-column g l = l.page ++ fields_text default_writer (map cell_text (drop l.column l.row))
    ≡ l.fn.page ++ fields_text default_writer (map cell_text (drop 1 l.row))
