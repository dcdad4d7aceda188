use Rattle.std.proofs.Common.{◌≡◌, ap, sym, subst, ◌∙◌, arith, length, map, List, []}
use Rattle.far_aggregates.specs.Retract.{after_retract, EachMayRetract}
use Rattle.far_aggregates.specs.Accumulators.{RegistryEntry, registered_in, registered_of}
use Rattle.far_aggregates.specs.Until.{zip_all}
use Rattle.far_aggregates.proofs.AccumulatorsEdits.{all-retracted_registered}
use Rattle.far_aggregates.proofs.PendingLaws.{written, shown-alike}
use Rattle.far_aggregates.proofs.RetractLaws.{each-plain_may, all-plain_retracted}
use Rattle.far_aggregates.proofs.aggregates.Aggregates.retract_totals.Goals as goal

pub retract_totals-requires-clause-may : goal.retract_totals-requires-clause-may
retract_totals-requires-clause-may c =
    let same : c.as_mut_slice.result.now ≡ c.args.self.now = c.as_mut_slice.ensures.value ∙ c.self.view_is in
    let may : EachMayRetract 0 [] c.args.self.now c.args.pending.to_retract.items = each-plain_may c.args.pending.group 0 c.requires.may.0 [] c.args.self.now c.args.pending.to_retract.items c.requires.plain c.requires.may.1.may in
    subst (λ (registry : List RegistryEntry). EachMayRetract 0 [] registry c.as_slice.result.now) (sym same)
    (subst (EachMayRetract 0 [] c.args.self.now) (sym c.as_slice.ensures.value) may)

pub returns-clause-retracted : goal.returns-clause-retracted
returns-clause-retracted c = λ here.
    let same : c.as_mut_slice.result.now ≡ c.args.self.now = c.as_mut_slice.ensures.value ∙ c.self.view_is in
    let many : length c.retract_totals.new.registry ≡ c.self.inside.registry.len = omega arith in
    c.end.ensures.same
    ∙ written c.self.inside.registry.len c.retract_totals.new.registry c.self.inside.registry.items many
    ∙ c.retract_totals.ensures
    ∙ ap (zip_all (after_retract 0 []) c.as_mut_slice.result.now) c.as_slice.ensures.value
    ∙ ap (λ (registry : List RegistryEntry). zip_all (after_retract 0 []) registry c.args.pending.to_retract.items) same
    ∙ sym (all-plain_retracted c.args.pending.group 0 here [] c.args.self.now c.args.pending.to_retract.items c.requires.plain)

pub returns-clause-registered : goal.returns-clause-registered
returns-clause-registered c =
    let same : c.as_mut_slice.result.now ≡ c.args.self.now = c.as_mut_slice.ensures.value ∙ c.self.view_is in
    let many : length c.retract_totals.new.registry ≡ c.self.inside.registry.len = omega arith in
    ap registered_of c.end.ensures.same
    ∙ ap registered_of (written c.self.inside.registry.len c.retract_totals.new.registry c.self.inside.registry.items many)
    ∙ shown-alike c.args.self.now c.retract_totals.new.registry (ap (map registered_in) c.retract_totals.ensures ∙ all-retracted_registered 0 [] c.as_mut_slice.result.now c.as_slice.result.now ∙ ap (map registered_in) same)
