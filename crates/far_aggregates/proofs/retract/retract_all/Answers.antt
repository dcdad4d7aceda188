use Rattle.std.proofs.Common.{sym, ap, ◌∙◌, subst, arith, slice_get, slice_set, refl}
use Rattle.std.proofs.lemmas.Option.{slice_get_read}
use Rattle.far_aggregates.specs.Retract.{after_retract, MayRetract}
use Rattle.far_aggregates.specs.Accumulators.{RegistryEntry, registered_in}
use Rattle.far_aggregates.specs.Lending.{EntryIsServed}
use Rattle.far_aggregates.specs.Until.{zip_until}
use Rattle.far_aggregates.proofs.ListLaws.{all-map_get}
use Rattle.far_aggregates.proofs.UntilLaws.{zip_until-here, zip_until-next, zip_until-short}
use Rattle.far_aggregates.proofs.retract.retract_all.Goals as goal

pub retract_one-requires-clause-may : goal.retract_one-requires-clause-may
retract_one-requires-clause-may g c =
    let f = after_retract c.args.number (g.G.LendGroup.places c.args.group.now) in
    let here = slice_get_read c.loop-i.registry _ c.loop-i.i c.index-registry-i.result refl (omega arith) c.index-registry-i.is in
    let there = slice_get_read c.args.to_retract.now _ c.loop-i.i c.index-to_retract-i.result refl (omega arith) c.index-to_retract-i.is in
    let was = sym (zip_until-here f c.loop-i.i c.args.registry.now c.args.to_retract.now) ∙ ap (λ l. slice_get l c.loop-i.i) (sym c.loop-i.invariant) ∙ here in
    subst (λ s. MayRetract c.args.number (g.G.LendGroup.places c.args.group.now) s c.index-to_retract-i.result) c.index-registry-i.is (c.requires.may c.loop-i.i c.index-registry-i.result c.index-to_retract-i.result was there)

pub loop-i-preserved : goal.loop-i-preserved
loop-i-preserved g c =
    let f = after_retract c.args.number (g.G.LendGroup.places c.args.group.now) in
    let here = slice_get_read c.loop-i.registry _ c.loop-i.i c.index-registry-i.result refl (omega arith) c.index-registry-i.is in
    let there = slice_get_read c.args.to_retract.now _ c.loop-i.i c.index-to_retract-i.result refl (omega arith) c.index-to_retract-i.is in
    let was = sym (zip_until-here f c.loop-i.i c.args.registry.now c.args.to_retract.now) ∙ ap (λ l. slice_get l c.loop-i.i) (sym c.loop-i.invariant) ∙ here in
    ap (λ l. slice_set l c.loop-i.i c.retract_one.new.entry) c.loop-i.invariant
    ∙ ap (slice_set (zip_until f c.loop-i.i c.args.registry.now c.args.to_retract.now) c.loop-i.i) (c.retract_one.ensures ∙ ap (λ s. f s c.index-to_retract-i.result) (sym c.index-registry-i.is))
    ∙ zip_until-next f c.loop-i.i c.args.registry.now c.args.to_retract.now c.index-registry-i.result c.index-to_retract-i.result was there

pub returns : goal.returns
returns g c = c.loop-i.invariant ∙ zip_until-short (after_retract c.args.number (g.G.LendGroup.places c.args.group.now)) c.loop-i.i c.args.registry.now c.args.to_retract.now (omega arith)

pub retract_one-requires-clause-served : goal.retract_one-requires-clause-served
retract_one-requires-clause-served g c =
    let f = after_retract c.args.number (g.G.LendGroup.places c.args.group.now) in
    let has = g.G.LendGroup.has c.args.group.now in
    let here = slice_get_read c.loop-i.registry _ c.loop-i.i c.index-registry-i.result refl (omega arith) c.index-registry-i.is in
    let was = sym (zip_until-here f c.loop-i.i c.args.registry.now c.args.to_retract.now) ∙ ap (λ l. slice_get l c.loop-i.i) (sym c.loop-i.invariant) ∙ here in
    subst (λ (s : RegistryEntry). EntryIsServed has (registered_in s)) c.index-registry-i.is (all-map_get (EntryIsServed has) registered_in c.args.registry.now c.loop-i.i c.index-registry-i.result c.requires.served was)
