use Rattle.std.proofs.Common.{sym, ap, ◌∙◌, subst, arith, slice_get, slice_set, refl}
use Rattle.std.proofs.lemmas.Option.{slice_get_read}
use Rattle.far_aggregates.specs.Deltas.{undo, MayUndo}
use Rattle.far_aggregates.specs.Until.{zip_until}
use Rattle.far_aggregates.proofs.UntilLaws.{zip_until-here, zip_until-next}
use Rattle.far_aggregates.proofs.deltas.undo_first.Goals as goal

pub undo_one-requires : goal.undo_one-requires
undo_one-requires c =
    let g = c.args.group in
    let here = slice_get_read c.loop-i.registry _ c.loop-i.i c.index-registry-i.result refl (omega arith) c.index-registry-i.is in
    let there = slice_get_read c.args.deltas.now _ c.loop-i.i c.index-deltas-i.result refl (omega arith) c.index-deltas-i.is in
    let was = sym (zip_until-here (undo g) c.loop-i.i c.args.registry.now c.args.deltas.now) ∙ ap (λ l. slice_get l c.loop-i.i) (sym c.loop-i.invariant) ∙ here in
    subst (λ s. MayUndo g s c.index-deltas-i.result) c.index-registry-i.is (c.requires.may c.loop-i.i c.index-registry-i.result c.index-deltas-i.result (omega arith) was there)

pub loop-i-preserved : goal.loop-i-preserved
loop-i-preserved c =
    let g = c.args.group in
    let here = slice_get_read c.loop-i.registry _ c.loop-i.i c.index-registry-i.result refl (omega arith) c.index-registry-i.is in
    let there = slice_get_read c.args.deltas.now _ c.loop-i.i c.index-deltas-i.result refl (omega arith) c.index-deltas-i.is in
    let was = sym (zip_until-here (undo g) c.loop-i.i c.args.registry.now c.args.deltas.now) ∙ ap (λ l. slice_get l c.loop-i.i) (sym c.loop-i.invariant) ∙ here in
    ap (λ l. slice_set l c.loop-i.i c.undo_one.new.entry) c.loop-i.invariant
    ∙ ap (slice_set (zip_until (undo g) c.loop-i.i c.args.registry.now c.args.deltas.now) c.loop-i.i) (c.undo_one.ensures ∙ ap (λ s. undo g s c.index-deltas-i.result) (sym c.index-registry-i.is))
    ∙ zip_until-next (undo g) c.loop-i.i c.args.registry.now c.args.deltas.now c.index-registry-i.result c.index-deltas-i.result was there
