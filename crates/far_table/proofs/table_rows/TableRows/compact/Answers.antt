use Rattle.std.proofs.lemmas.Result.{on_ok_weaker}
use Rattle.far_types.specs.declared.cell.Kind.TheVariants as kind
use Rattle.far_table.specs.Moving.{IsCompactedOf}
use Rattle.far_table.proofs.MovingLaws.{moved-invariant, compacted-still}
use Rattle.far_table.proofs.table_rows.TableRows.compact.Goals as goal

pub invariant_of-self : goal.invariant_of-self
invariant_of-self g c =
    let inside = c.self.inside in
    let e = c.compact_numbers.ensures in
    moved-invariant g.S.FarTickets.content inside.schema inside.limits inside.rows inside.new_row inside.edits c.args.self.now c.self.view_is c.compact_numbers.result c.compact_numbers.new.self (IsCompactedOf kind.Int c.args.segment)
    (on_ok_weaker c.compact_numbers.result (λ is. (is, e.stays)) e.compacted)
    e.err e.kept.cells (compacted-still inside.rows c.compact_numbers.new.self kind.Int c.args.segment) c.self.invariant

pub invariant_of-self-in-Text : goal.invariant_of-self-in-Text
invariant_of-self-in-Text g c =
    let inside = c.self.inside in
    let e = c.compact_texts.ensures in
    moved-invariant g.S.FarTickets.content inside.schema inside.limits inside.rows inside.new_row inside.edits c.args.self.now c.self.view_is c.compact_texts.result c.compact_texts.new.self (IsCompactedOf kind.Text c.args.segment)
    (on_ok_weaker c.compact_texts.result (λ is. (is, e.stays)) e.compacted)
    e.err e.kept.cells (compacted-still inside.rows c.compact_texts.new.self kind.Text c.args.segment) c.self.invariant
