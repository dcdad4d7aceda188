use Rattle.far_rows.proofs.RefusingTextSize.{still-short}
use Rattle.far_rows.proofs.new_row.NewRow.put.Goals as goal

pub invariant_of-self-in-Text : goal.invariant_of-self-in-Text
invariant_of-self-in-Text c = still-short c.self.inside.texts.items c.in-Text.text c.exchange.new.text c.args.cell.now c.exchange.ensures c.self.invariant c.requires.short
