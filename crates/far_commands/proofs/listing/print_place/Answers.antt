use Rattle.std.proofs.Common.{List, ◌++◌, ◌∙◌, ap, sym}
use Rattle.far_types.specs.declared.cell.Cell.{Cell}
use Rattle.far_commands.specs.Listings.{row_line}
use Rattle.far_commands.proofs.ListingsFields.{cells-there}
use Rattle.far_commands.proofs.listing.print_place.Goals as goal

pub returns-clause-ok : goal.returns-clause-ok
returns-clause-ok g c = c.in_ok-print_row.ensures.ok ∙ ap (λ (cells : List Cell). c.args.page.now ++ row_line cells) (sym (cells-there c.args.view.now.table.places c.args.place c.in_ok-cells.cells c.in_ok-cells.ensures.row))
