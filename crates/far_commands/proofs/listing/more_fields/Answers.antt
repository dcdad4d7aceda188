use Rattle.std.proofs.Common.{◌∙◌, sym, ap, arith, option_map}
use Rattle.far_types.specs.Lent.{lent_cell}
use Rattle.far_commands.proofs.ListingsFields.{field-more, fields-end, fields-past}
use Rattle.far_commands.proofs.listing.more_fields.Goals as goal

pub loop-column-preserved : goal.loop-column-preserved
loop-column-preserved g c =
    field-more c.args.row.now c.loop-column.column (lent_cell c.in-Some.lent) c.loop-column.page c.cell.new.page _
    (sym c.get.ensures ∙ ap (option_map lent_cell) c.in-Some.is) (rw c.in_ok-byte.ensures.ok at c.in_ok-cell.ensures.ok) c.loop-column.invariant

pub returns-in_default : goal.returns-in_default
returns-in_default g c = record { ok = fields-end c.args.row.now c.loop-column.column c.loop-column.page _ (sym c.get.ensures ∙ ap (option_map lent_cell) c.in_default.is) c.loop-column.invariant }

pub returns : goal.returns
returns g c = record { ok = fields-past c.args.row.now c.loop-column.column c.loop-column.page _ (grind (arith, c.len-column-end.ensures, c.loop-column-test.false)) c.loop-column.invariant }
