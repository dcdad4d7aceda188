use Rattle.std.proofs.Common.{◌≡◌, ◌≤◌, ◌<◌, ◌∙◌, refl, sym, codes, length, arith}
use Rattle.far_types.specs.Table.{rows_of}
use Rattle.far_frame.specs.State.{live}
use Rattle.far_script.specs.declared.fault.ShellFault.TheVariants as fault
use Rattle.far_script.specs.Printing.{numbered_text, refusal_text}
use Rattle.far_script.proofs.FlowLaws.{prints}
use Rattle.far_script.proofs.FlowStops.{handed-on}
use Rattle.far_commands.specs.Listings.{cells_at, listing_of, row_line}
use Rattle.far_commands.proofs.ListingsRows.{cut-at-once, gather-cut, gather-end, gather-memory, gather-row, gather-skip, listed-refusal, rows-cut, rows-listed}
use Rattle.far_commands.proofs.listing.dump.Goals.{then-is_live+in-Ok-print_place+in_ok-add_if_long-in-Ok-print_place, else-is_live}
use Rattle.far_commands.proofs.listing.dump.Goals as goal

pub returns-in-Err-clause-ok : goal.returns-in-Err-clause-ok
returns-in-Err-clause-ok g c =
    let s = live c.args.frame.now in
    let refused = rw c.scope-view.ensures at c.in-Err.ensures.refused in
    rw (listed-refusal s c.in-Err.refusal refused) (prints (g.W.Write.contents c.args.writer.now) c.args.output.now.page (refusal_text c.in-Err.refusal) c.add_refusal.new.self.page c.in_ok-add_refusal-in-Err.ensures.ok)

pub returns-in_err-add_refusal-in-Err-clause-err : goal.returns-in_err-add_refusal-in-Err-clause-err
returns-in_err-add_refusal-in-Err-clause-err g c =
    handed-on c.from_residual.result fault.Memory _ (rw c.in_err-add_refusal-in-Err.ensures.memory at c.from_residual.ensures.1)
    (rw c.in_err-add_refusal-in-Err.ensures.err (cut-at-once (λ said. said ≡ listing_of (live c.args.frame.now)) (g.W.Write.contents c.args.writer.now) c.args.output.now.page))

pub returns-in_err-numbered-clause-err : goal.returns-in_err-numbered-clause-err
returns-in_err-numbered-clause-err g c =
    handed-on c.from_residual-in_err-numbered.result fault.Memory _ c.from_residual-in_err-numbered.ensures.1
    (cut-at-once (λ said. said ≡ listing_of (live c.args.frame.now)) (g.W.Write.contents c.args.writer.now) c.args.output.now.page)

pub of_memory-requires : goal.of_memory-requires
of_memory-requires g c =
    let within : c.loop-place.place < length c.args.frame.now.table.places = omega (arith, c.loop-place-test.true, c.places-place-end.ensures) in
    let there : c.loop-place.place < length c.scope-view.result.table.places = rw c.scope-view.ensures within in
    c.in-Err-print_place.ensures.memory (there, c.in-Ok.ensures.here c.loop-place.place there)

pub loop-place-preserved : goal.loop-place-preserved
loop-place-preserved g c =
    let u = g.W.Write.contents c.args.writer.now in
    let held = c.args.output.now.page in
    let v = g.W.Write.contents c.loop-place.writer in
    let places = c.args.frame.now.table.places in
    let place = c.loop-place.place in
    let returned = rw c.scope-view.ensures at (sym c.is_live.ensures) in
    let front = numbered_text (codes "rows") (length (rows_of places)) in
    elim c.if-is_live.branch [
      | then-is_live+in-Ok-print_place+in_ok-add_if_long-in-Ok-print_place w ↦
          rw (w.output-is, w.writer-is) (gather-row u held front places v c.loop-place.output.page c.loop-place.output.reply place c.loop-place.invariant w.print_place.new.page (row_line (cells_at place places)) (returned ∙ w.if-is_live.true)
          (rw c.scope-view.ensures at w.in-Ok-print_place.ensures.ok) refl (g.W.Write.contents w.add_if_long.new.writer) w.add_if_long.new.output.page w.add_if_long.new.output.reply w.in_ok-add_if_long-in-Ok-print_place.ensures.ok)
      | else-is_live w ↦
          rw (w.output-is, w.writer-is) (gather-skip u held front places v c.loop-place.output.page c.loop-place.output.reply place (returned ∙ w.if-is_live.false) c.loop-place.invariant)
    ]

pub returns-in-Err-print_place-clause-err : goal.returns-in-Err-print_place-clause-err
returns-in-Err-print_place-clause-err g c =
    let places = c.args.frame.now.table.places in
    let here = rw c.scope-view.ensures at c.in-Ok.ensures.refused in
    let u = g.W.Write.contents c.args.writer.now in
    let v = g.W.Write.contents c.loop-place.writer in
    rw c.of_memory.ensures (rows-cut (live c.args.frame.now) here fault.Memory u v c.args.output.now.page c.loop-place.output.page
    (gather-memory u c.args.output.now.page (numbered_text (codes "rows") (length (rows_of places))) places v c.loop-place.output.page c.loop-place.output.reply c.loop-place.place c.loop-place.invariant))

pub returns-in_err-add_if_long-in-Ok-print_place-clause-err : goal.returns-in_err-add_if_long-in-Ok-print_place-clause-err
returns-in_err-add_if_long-in-Ok-print_place-clause-err g c =
    let places = c.args.frame.now.table.places in
    let place = c.loop-place.place in
    let returned = rw c.scope-view.ensures at (sym c.is_live.ensures) in
    let here = rw c.scope-view.ensures at c.in-Ok.ensures.refused in
    let why = c.in_err-add_if_long-in-Ok-print_place.field-0.0 in
    let u = g.W.Write.contents c.args.writer.now in
    let v = g.W.Write.contents c.loop-place.writer in
    let w = g.W.Write.contents c.add_if_long.new.writer in
    handed-on c.from_residual-in_err-add_if_long-in-Ok-print_place.result why _ c.from_residual-in_err-add_if_long-in-Ok-print_place.ensures.1
    (rows-cut (live c.args.frame.now) here why u w c.args.output.now.page c.add_if_long.new.output.page
    (gather-cut u c.args.output.now.page (numbered_text (codes "rows") (length (rows_of places))) places v c.loop-place.output.page c.loop-place.output.reply place c.loop-place.invariant
    c.print_place.new.page (row_line (cells_at place places)) (returned ∙ c.if-is_live.true) (rw c.scope-view.ensures at c.in-Ok-print_place.ensures.ok) refl why w c.add_if_long.new.output.page c.in_err-add_if_long-in-Ok-print_place.ensures.fault c.in_err-add_if_long-in-Ok-print_place.ensures.err))

pub returns-in_err-add-clause-err : goal.returns-in_err-add-clause-err
returns-in_err-add-clause-err g c =
    let places = c.args.frame.now.table.places in
    let here = rw c.scope-view.ensures at c.in-Ok.ensures.refused in
    let u = g.W.Write.contents c.args.writer.now in
    let v = g.W.Write.contents c.loop-place.writer in
    handed-on c.from_residual-in_err-add.result fault.Memory _ (rw c.in_err-add.ensures.memory at c.from_residual-in_err-add.ensures.1)
    (rw c.in_err-add.ensures.err (rows-cut (live c.args.frame.now) here fault.Memory u v c.args.output.now.page c.loop-place.output.page
    (gather-memory u c.args.output.now.page (numbered_text (codes "rows") (length (rows_of places))) places v c.loop-place.output.page c.loop-place.output.reply c.loop-place.place c.loop-place.invariant)))

pub returns-clause-ok : goal.returns-clause-ok
returns-clause-ok g c =
    let places = c.args.frame.now.table.places in
    let past : length places ≤ c.loop-place.place = omega (arith, c.loop-place-test.false, c.places-place-end.ensures) in
    let here = rw c.scope-view.ensures at c.in-Ok.ensures.refused in
    let u = g.W.Write.contents c.args.writer.now in
    let v = g.W.Write.contents c.loop-place.writer in
    rows-listed (live c.args.frame.now) here u v c.args.output.now.page c.add.new.self.page
    (gather-end u c.args.output.now.page (numbered_text (codes "rows") (length (rows_of places))) places v c.loop-place.output.page c.loop-place.output.reply c.loop-place.place c.loop-place.invariant
    c.add.new.self.page past c.in_ok-add.ensures.ok)
