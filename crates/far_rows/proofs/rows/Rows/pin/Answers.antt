use Rattle.std.proofs.Common.{refl, Some, ap, subst, ◌∙◌}
use Rattle.far_scopes.specs.Refusing.{pin_refusal as pin_refusal_in}
use Rattle.far_rows.specs.Rows.{Rows, AreRows}
use Rattle.far_rows.proofs.MovingPins.{pin-number, pin-text}
use Rattle.far_rows.proofs.MovingCells.{numbers-moved, texts-moved, numbers-unchanged, texts-unchanged}
use Rattle.far_rows.proofs.NamingLaws.{names-with, still-named}
use Rattle.far_rows.proofs.rows.Rows.pin.Goals as goal

pub invariant_of-self : goal.invariant_of-self
invariant_of-self g c = numbers-moved g.S.FarTickets.content c.self.invariant c.pin.new.self c.pin.ensures.keeps.lists (still-named _ _ _ c.pin.result c.pin.ensures.pinned c.pin.ensures.err (names-with c.self.inside.number_objects.records c.in-Number.o _ (λ object_record. refl))) (c.pin.ensures.keeps.copies.clean c.self.invariant.clean_numbers)

pub returns-in-Number-clause-kept : goal.returns-in-Number-clause-kept
returns-in-Number-clause-kept g c = numbers-unchanged g.S.FarTickets.content c.self.view_is g.S.FarTickets.is_of c.pin.new.self c.pin.ensures.keeps.lists c.pin.ensures.keeps.copies.store

pub invariant_of-self-in-Text : goal.invariant_of-self-in-Text
invariant_of-self-in-Text g c = texts-moved g.S.FarTickets.content c.self.invariant c.pin-in-Text.new.self c.pin-in-Text.ensures.keeps.lists (still-named _ _ _ c.pin-in-Text.result c.pin-in-Text.ensures.pinned c.pin-in-Text.ensures.err (names-with c.self.inside.text_objects.records c.in-Text.o _ (λ object_record. refl))) (c.pin-in-Text.ensures.keeps.copies.clean c.self.invariant.clean_texts)

pub returns-in-Text-clause-kept : goal.returns-in-Text-clause-kept
returns-in-Text-clause-kept g c = texts-unchanged g.S.FarTickets.content c.self.view_is g.S.FarTickets.is_of c.pin-in-Text.new.self c.pin-in-Text.ensures.keeps.lists c.pin-in-Text.ensures.keeps.copies.store

pub returns-in-Number-clause-refused : goal.returns-in-Number-clause-refused
returns-in-Number-clause-refused g c =
    let r = c.args.self.now in
    c.pin.ensures.refused
    ∙ ap (λ (rows : Rows g.row.S-Ticket.Denot). pin_refusal_in rows.number_objects c.in-Number.o) c.self.view_is
    ∙ pin-number g.S.FarTickets.content r (subst (AreRows g.S.FarTickets.content) c.self.view_is c.self.invariant) c.args.column c.args.group c.in-Number.o (c.in_ok-o.ensures.object ∙ ap Some c.in-Number.is)

pub returns-in-Text-clause-refused : goal.returns-in-Text-clause-refused
returns-in-Text-clause-refused g c =
    let r = c.args.self.now in
    c.pin-in-Text.ensures.refused
    ∙ ap (λ (rows : Rows g.row.S-Ticket.Denot). pin_refusal_in rows.text_objects c.in-Text.o) c.self.view_is
    ∙ pin-text g.S.FarTickets.content r (subst (AreRows g.S.FarTickets.content) c.self.view_is c.self.invariant) c.args.column c.args.group c.in-Text.o (c.in_ok-o.ensures.object ∙ ap Some c.in-Text.is)
