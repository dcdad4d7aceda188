use Rattle.std.proofs.Common.{refl}
use Rattle.far_rows.proofs.MovingCells.{numbers-moved, texts-moved, numbers-unchanged, texts-unchanged}
use Rattle.far_rows.proofs.NamingLaws.{names-with, still-named}
use Rattle.far_rows.proofs.rows.Rows.unpin.Goals as goal

pub invariant_of-self : goal.invariant_of-self
invariant_of-self g c = numbers-moved g.S.FarTickets.content c.self.invariant c.unpin.new.self c.unpin.ensures.keeps.lists (still-named _ _ _ c.unpin.result c.unpin.ensures.unpinned c.unpin.ensures.err (names-with c.self.inside.number_objects.records c.in-Number.o _ (λ object_record. refl))) (c.unpin.ensures.keeps.copies.clean c.self.invariant.clean_numbers)

pub returns-in-Number-clause-kept : goal.returns-in-Number-clause-kept
returns-in-Number-clause-kept g c = numbers-unchanged g.S.FarTickets.content c.self.view_is g.S.FarTickets.is_of c.unpin.new.self c.unpin.ensures.keeps.lists c.unpin.ensures.keeps.copies.store

pub invariant_of-self-in-Text : goal.invariant_of-self-in-Text
invariant_of-self-in-Text g c = texts-moved g.S.FarTickets.content c.self.invariant c.unpin-in-Text.new.self c.unpin-in-Text.ensures.keeps.lists (still-named _ _ _ c.unpin-in-Text.result c.unpin-in-Text.ensures.unpinned c.unpin-in-Text.ensures.err (names-with c.self.inside.text_objects.records c.in-Text.o _ (λ object_record. refl))) (c.unpin-in-Text.ensures.keeps.copies.clean c.self.invariant.clean_texts)

pub returns-in-Text-clause-kept : goal.returns-in-Text-clause-kept
returns-in-Text-clause-kept g c = texts-unchanged g.S.FarTickets.content c.self.view_is g.S.FarTickets.is_of c.unpin-in-Text.new.self c.unpin-in-Text.ensures.keeps.lists c.unpin-in-Text.ensures.keeps.copies.store
