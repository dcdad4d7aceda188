use Rattle.std.proofs.Common.{ap}
use Rattle.far_rows.specs.Naming.{names_of}
use Rattle.far_rows.proofs.MovingCells.{numbers-moved, numbers-unchanged}
use Rattle.far_rows.proofs.rows.Rows.compact_numbers.Goals as goal

pub invariant_of-self : goal.invariant_of-self
invariant_of-self g c = numbers-moved g.S.FarTickets.content c.self.invariant c.compact.new.self c.compact.ensures.keeps.lists (ap names_of c.compact.ensures.rest) (c.compact.ensures.keeps.copies.clean c.self.invariant.clean_numbers)

pub returns-clause-kept : goal.returns-clause-kept
returns-clause-kept g c = numbers-unchanged g.S.FarTickets.content c.self.view_is g.S.FarTickets.is_of c.compact.new.self c.compact.ensures.keeps.lists c.compact.ensures.keeps.copies.store
