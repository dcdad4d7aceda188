use Rattle.std.proofs.Common.{◌≡◌, ◌++◌, ◌+◌, ◌*◌, ◌/◌, ◌<◌, ◌≤◌, ℕ, None, map, min, ap, subst, sym, ◌∙◌, arith}
use Rattle.std.specs.Prelude.{slice_range}
use Rattle.std.proofs.lemmas.Option.{none-some}
use Rattle.far_types.specs.Table.{part}
use Rattle.far_columns.specs.Pieces.{pieces_of}
use Rattle.far_table.specs.State.{LiveState}
use Rattle.far_rows.specs.Refusing.{texts_refusal}
use Rattle.far_frame.specs.Lending.{flags_of, lent_part, piece_of, text_piece}
use Rattle.far_frame.proofs.LendingLaws.{copied-texts-more, next-further, texts-part}
use Rattle.far_frame.proofs.world.lending.copied_texts.Goals as goal

pub returns-in_err-texts-2-clause-refused : goal.returns-in_err-texts-2-clause-refused
returns-in_err-texts-2-clause-refused g c =
    let s = c.args.frame.now in
    let size = c.size-size.result in
    let start = c.loop-start.start in
    let to = c.args.to in
    let end = min to ((start / size + 1) * size) in
    let more : start < to = omega (arith, c.loop-start-test.true) in
    let same = c.scope-view.ensures in
    let is : c.min-end.result ≡ end = c.min-end.ensures in
    let same_length : size ≡ s.rows.size = c.size-size.ensures.rows ∙ ap (λ (t : LiveState g.row.S-Ticket.Denot). t.rows.size) same in
    let on : start ≤ end = (let far = next-further c.args.column s.table.places size c.size-size.ensures.some start to more (lent_part s.table c.args.column c.args.from to) in omega (arith, far)) in
    let may : texts_refusal s.rows c.args.column start end ≡ None = texts-part s.rows c.args.column c.args.from to (omega (arith, same_length, c.size-size.ensures.some)) start end c.loop-start.invariant.low on (omega arith) c.loop-start.invariant.due in
    absurd (none-some c.in_err-texts-2.field-0.0 (sym (c.in_err-texts-2.ensures.refused ∙ (λ i. texts_refusal (same i).rows c.args.column start (is i)) ∙ may)))

pub loop-start-preserved : goal.loop-start-preserved
loop-start-preserved g c =
    let s = c.args.frame.now in
    let column = c.args.column in
    let places = s.table.places in
    let size = c.size-size.result in
    let start = c.loop-start.start in
    let to = c.args.to in
    let end = min to ((start / size + 1) * size) in
    let all = lent_part s.table column c.args.from to in
    let some = c.size-size.ensures.some in
    let more : start < to = omega (arith, c.loop-start-test.true) in
    let same = c.scope-view.ensures in
    let is : c.min-end.result ≡ end = c.min-end.ensures in
    let far = next-further column places size some start to more all in
    let lent = c.in_ok-texts-2.ensures in
    let cells = lent.cells ∙ (λ i. part column start (is i) (same i).table.places) in
    let flags = lent.flags ∙ (λ i. slice_range (flags_of (same i).table.places) start (is i)) in
    record {
      copies = subst (λ (mid : ℕ). map text_piece c.push.new.self.items ++ map (piece_of column) (pieces_of places size mid to) ≡ all) (sym is)
          (copied-texts-more column places size some start to more all c.loop-start.copies.items c.push.new.self.items c.in_ok-copy_texts.field-0 c.in_ok-texts-2.texts c.in_ok-push.ensures.items c.in_ok-copy_texts.ensures.copy cells flags c.loop-start.invariant.copies);
      due = c.loop-start.invariant.due;
      low = omega (arith, c.loop-start.invariant.low, far, is);
      high = omega (arith, is);
    }
