use Rattle.std.proofs.Common.{◌≡◌, sym, ap, ◌∙◌, subst, arith, slice_get, slice_set, refl}
use Rattle.std.proofs.lemmas.Int.{to_z-of_z}
use Rattle.std.proofs.lemmas.Option.{slice_get_read}
use Rattle.far_aggregates.specs.Replacing.{after_replace, MayReplace}
use Rattle.far_aggregates.specs.Accumulators.{RegistryEntry}
use Rattle.far_aggregates.specs.Until.{zip_until}
use Rattle.far_aggregates.proofs.UntilLaws.{zip_until-here, zip_until-next, zip_until-short}
use Rattle.far_aggregates.proofs.replacing.replace_all.Goals as goal

pub replace_one-requires : goal.replace_one-requires
replace_one-requires c =
    let f = after_replace c.args.to in
    let invariant : c.loop-i.registry ≡ zip_until f c.loop-i.i c.args.registry.now c.args.pairs.now = simp (to_z-of_z, c.ranges.to) at c.loop-i.invariant in
    let here = slice_get_read c.loop-i.registry _ c.loop-i.i c.index-registry-i.result refl (omega arith) c.index-registry-i.is in
    let there = slice_get_read c.args.pairs.now _ c.loop-i.i c.index-pairs-i.result refl (omega arith) c.index-pairs-i.is in
    let was = sym (zip_until-here f c.loop-i.i c.args.registry.now c.args.pairs.now) ∙ ap (λ l. slice_get l c.loop-i.i) (sym invariant) ∙ here in
    subst (λ (s : RegistryEntry). MayReplace s c.index-pairs-i.result) c.index-registry-i.is (c.requires.may c.loop-i.i c.index-registry-i.result c.index-pairs-i.result was there)

pub loop-i-preserved : goal.loop-i-preserved
loop-i-preserved c =
    let f = after_replace c.args.to in
    let invariant : c.loop-i.registry ≡ zip_until f c.loop-i.i c.args.registry.now c.args.pairs.now = simp (to_z-of_z, c.ranges.to) at c.loop-i.invariant in
    let here = slice_get_read c.loop-i.registry _ c.loop-i.i c.index-registry-i.result refl (omega arith) c.index-registry-i.is in
    let there = slice_get_read c.args.pairs.now _ c.loop-i.i c.index-pairs-i.result refl (omega arith) c.index-pairs-i.is in
    let was = sym (zip_until-here f c.loop-i.i c.args.registry.now c.args.pairs.now) ∙ ap (λ l. slice_get l c.loop-i.i) (sym invariant) ∙ here in
    simp (to_z-of_z, c.ranges.to) (
    ap (λ l. slice_set l c.loop-i.i c.replace_one.new.entry) invariant
    ∙ ap (slice_set (zip_until f c.loop-i.i c.args.registry.now c.args.pairs.now) c.loop-i.i) ((simp (to_z-of_z, c.ranges.to) at c.replace_one.ensures) ∙ ap (λ s. f s c.index-pairs-i.result) (sym c.index-registry-i.is))
    ∙ zip_until-next f c.loop-i.i c.args.registry.now c.args.pairs.now c.index-registry-i.result c.index-pairs-i.result was there)

pub returns : goal.returns
returns c = (simp (to_z-of_z, c.ranges.to) at c.loop-i.invariant) ∙ zip_until-short (after_replace c.args.to) c.loop-i.i c.args.registry.now c.args.pairs.now (omega arith)
