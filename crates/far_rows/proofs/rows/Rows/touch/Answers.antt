use Rattle.std.proofs.Common.{ap}
use Rattle.far_rows.specs.Naming.{names_of}
use Rattle.far_rows.proofs.MovingCells.{numbers-moved, texts-moved, numbers-unchanged, texts-unchanged}
use Rattle.far_rows.proofs.rows.Rows.touch.Goals as goal

pub invariant_of-self : goal.invariant_of-self
invariant_of-self g c = numbers-moved g.S.FarTickets.content c.self.invariant c.touch.new.self c.touch.ensures.keeps.lists (ap names_of c.touch.ensures.touched) (c.touch.ensures.keeps.copies.clean c.self.invariant.clean_numbers)

pub returns-in-Number-clause-kept : goal.returns-in-Number-clause-kept
returns-in-Number-clause-kept g c = numbers-unchanged g.S.FarTickets.content c.self.view_is g.S.FarTickets.is_of c.touch.new.self c.touch.ensures.keeps.lists c.touch.ensures.keeps.copies.store

pub invariant_of-self-in-Text : goal.invariant_of-self-in-Text
invariant_of-self-in-Text g c = texts-moved g.S.FarTickets.content c.self.invariant c.touch-in-Text.new.self c.touch-in-Text.ensures.keeps.lists (ap names_of c.touch-in-Text.ensures.touched) (c.touch-in-Text.ensures.keeps.copies.clean c.self.invariant.clean_texts)

pub returns-in-Text-clause-kept : goal.returns-in-Text-clause-kept
returns-in-Text-clause-kept g c = texts-unchanged g.S.FarTickets.content c.self.view_is g.S.FarTickets.is_of c.touch-in-Text.new.self c.touch-in-Text.ensures.keeps.lists c.touch-in-Text.ensures.keeps.copies.store
