use Rattle.std.proofs.Common.{◌-◌, drop, length, sym, take}
use Rattle.std.proofs.lemmas.List.{take_rest}
use Rattle.far_commands.proofs.PiecesLaws.{row-empty, row-whole}
use Rattle.far_commands.proofs.pieces.row.Goals as goal

pub returns-in-empty : goal.returns-in-empty
returns-in-empty g c = record { ok = rw (row-empty g.V.Value.cell c.args.values.now c.in-empty.len_below) c.text.ensures.ok }

pub returns-in_ok-more_values-in-len1-up : goal.returns-in_ok-more_values-in-len1-up
returns-in_ok-more_values-in-len1-up g c = record {
  ok =
      let values = c.args.values.now in
      let printed = rw (c.in_ok-cell-in-len1-up.ensures.ok, c.lend.ensures) at c.in_ok-more_values-in-len1-up.ensures.ok in
      rw (sym (row-whole g.V.Value.cell values (take (length values - 1) (drop 1 values)) c.first-item.result c.is_empty.result c.args.page.now c.more_values.new.page
      c.in-len1-up.len_at_least c.first-item.is (take_rest values 1) c.is_empty.ensures printed))
      c.text-in-len1-up.ensures.ok;
}
