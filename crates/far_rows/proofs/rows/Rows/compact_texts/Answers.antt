use Rattle.std.proofs.Common.{ap}
use Rattle.far_rows.specs.Naming.{names_of}
use Rattle.far_rows.proofs.MovingCells.{texts-moved, texts-unchanged}
use Rattle.far_rows.proofs.rows.Rows.compact_texts.Goals as goal

pub invariant_of-self : goal.invariant_of-self
invariant_of-self g c = texts-moved g.S.FarTickets.content c.self.invariant c.compact.new.self c.compact.ensures.keeps.lists (ap names_of c.compact.ensures.rest) (c.compact.ensures.keeps.copies.clean c.self.invariant.clean_texts)

pub returns-clause-kept : goal.returns-clause-kept
returns-clause-kept g c = texts-unchanged g.S.FarTickets.content c.self.view_is g.S.FarTickets.is_of c.compact.new.self c.compact.ensures.keeps.lists c.compact.ensures.keeps.copies.store
