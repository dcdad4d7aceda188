use Rattle.std.proofs.Common.{◌∙◌, sym, ap, length, arith}
use Rattle.far_commands.proofs.ListingsRows.{row-none, counted-more}
use Rattle.far_commands.proofs.listing.live_rows.Goals.{then-is_live, else-is_live}
use Rattle.far_commands.proofs.listing.live_rows.Goals as goal

pub loop-place-preserved : goal.loop-place-preserved
loop-place-preserved g c =
    let places = c.args.frame.now.table.places in
    let returned = rw c.scope-view.ensures at (sym c.is_live.ensures) in
    elim c.if-is_live.branch [
      | then-is_live w ↦ rw w.count-is (counted-more places c.loop-place.place c.loop-place.count (returned ∙ w.if-is_live.true) c.loop-place.invariant.0, grind (arith, c.loop-place.invariant.1))
      | else-is_live w ↦ rw w.count-is (c.loop-place.invariant.0 ∙ ap (λ rows. length rows) (sym (row-none places c.loop-place.place (returned ∙ w.if-is_live.false))), grind (arith, c.loop-place.invariant.1))
    ]
