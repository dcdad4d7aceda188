use Rattle.std.proofs.Common.{sym, ap, ◌∙◌, subst, arith, slice_get, slice_set, refl, []}
use Rattle.std.proofs.lemmas.Option.{slice_get_read}
use Rattle.far_aggregates.specs.Retract.{after_retract, MayRetract, IsPlain}
use Rattle.far_aggregates.specs.Accumulators.{RegistryEntry}
use Rattle.far_aggregates.specs.Until.{zip_until}
use Rattle.far_aggregates.proofs.UntilLaws.{zip_until-here, zip_until-next, zip_until-short}
use Rattle.far_aggregates.proofs.retract.retract_totals.Goals as goal

pub retract_plain-requires-clause-plain : goal.retract_plain-requires-clause-plain
retract_plain-requires-clause-plain c =
    let f = after_retract 0 [] in
    let here = slice_get_read c.loop-i.registry _ c.loop-i.i c.index-registry-i.result refl (omega arith) c.index-registry-i.is in
    let there = slice_get_read c.args.pairs.now _ c.loop-i.i c.index-pairs-i.result refl (omega arith) c.index-pairs-i.is in
    let was = sym (zip_until-here f c.loop-i.i c.args.registry.now c.args.pairs.now) ∙ ap (λ l. slice_get l c.loop-i.i) (sym c.loop-i.invariant) ∙ here in
    subst (λ (s : RegistryEntry). IsPlain s c.index-pairs-i.result) c.index-registry-i.is (c.requires.plain c.loop-i.i c.index-registry-i.result c.index-pairs-i.result was there)

pub retract_plain-requires-clause-may : goal.retract_plain-requires-clause-may
retract_plain-requires-clause-may c =
    let f = after_retract 0 [] in
    let here = slice_get_read c.loop-i.registry _ c.loop-i.i c.index-registry-i.result refl (omega arith) c.index-registry-i.is in
    let there = slice_get_read c.args.pairs.now _ c.loop-i.i c.index-pairs-i.result refl (omega arith) c.index-pairs-i.is in
    let was = sym (zip_until-here f c.loop-i.i c.args.registry.now c.args.pairs.now) ∙ ap (λ l. slice_get l c.loop-i.i) (sym c.loop-i.invariant) ∙ here in
    subst (λ (s : RegistryEntry). MayRetract 0 [] s c.index-pairs-i.result) c.index-registry-i.is (c.requires.may c.loop-i.i c.index-registry-i.result c.index-pairs-i.result was there)

pub loop-i-preserved : goal.loop-i-preserved
loop-i-preserved c =
    let f = after_retract 0 [] in
    let here = slice_get_read c.loop-i.registry _ c.loop-i.i c.index-registry-i.result refl (omega arith) c.index-registry-i.is in
    let there = slice_get_read c.args.pairs.now _ c.loop-i.i c.index-pairs-i.result refl (omega arith) c.index-pairs-i.is in
    let was = sym (zip_until-here f c.loop-i.i c.args.registry.now c.args.pairs.now) ∙ ap (λ l. slice_get l c.loop-i.i) (sym c.loop-i.invariant) ∙ here in
    ap (λ l. slice_set l c.loop-i.i c.retract_plain.new.entry) c.loop-i.invariant
    ∙ ap (slice_set (zip_until f c.loop-i.i c.args.registry.now c.args.pairs.now) c.loop-i.i) (c.retract_plain.ensures ∙ ap (λ s. f s c.index-pairs-i.result) (sym c.index-registry-i.is))
    ∙ zip_until-next f c.loop-i.i c.args.registry.now c.args.pairs.now c.index-registry-i.result c.index-pairs-i.result was there

pub returns : goal.returns
returns c = c.loop-i.invariant ∙ zip_until-short (after_retract 0 []) c.loop-i.i c.args.registry.now c.args.pairs.now (omega arith)
