use Rattle.std.proofs.Common.{◌==◌, ◌∙◌, sym, ap, option_map}
use Rattle.far_types.specs.Lent.{lent_cell}
use Rattle.far_commands.proofs.ListingsFields.{lone-by-length, row-none, row-some}
use Rattle.far_commands.proofs.listing.print_row.Goals.{in-None+in_ok-text-in-None, in-Some+in_ok-cell-in-Some+in_ok-more_fields-in-Some}
use Rattle.far_commands.proofs.listing.print_row.Goals as goal

pub returns : goal.returns
returns g c = record {
  ok =
      elim c.match-get.branch [
        | in-None+in_ok-text-in-None w ↦
            (rw (w.page-is, w.in_ok-text-in-None.ensures.ok) at c.in_ok-byte.ensures.ok)
            ∙ row-none c.args.page.now c.args.row.now (sym c.get.ensures ∙ ap (option_map lent_cell) w.in-None.is)
        | in-Some+in_ok-cell-in-Some+in_ok-more_fields-in-Some w ↦
            let first = sym c.get.ensures ∙ ap (option_map lent_cell) w.in-Some.is in
            (rw (w.page-is, w.in_ok-more_fields-in-Some.ensures.ok, w.in_ok-cell-in-Some.ensures.ok) at c.in_ok-byte.ensures.ok)
            ∙ row-some c.args.page.now c.args.row.now (lent_cell w.in-Some.first) (w.len.result == 1) first (lone-by-length c.args.row.now (lent_cell w.in-Some.first) w.len.result first w.len.ensures)
      ];
}
