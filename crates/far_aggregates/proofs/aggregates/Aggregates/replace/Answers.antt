use Rattle.std.proofs.Common.{◌≡◌, ap, sym, subst, ◌∙◌, arith, length, map, List}
use Rattle.std.proofs.lemmas.Int.{to_z-of_z}
use Rattle.far_aggregates.specs.Replacing.{after_replace, EachMayReplace}
use Rattle.far_aggregates.specs.Accumulators.{RegistryEntry, registered_in, registered_of}
use Rattle.far_aggregates.specs.Until.{zip_all}
use Rattle.far_aggregates.proofs.PendingLaws.{written, shown-alike}
use Rattle.far_aggregates.proofs.ReplacingLaws.{all-replaced_registered}
use Rattle.far_aggregates.proofs.aggregates.Aggregates.replace.Goals as goal

pub replace_all-requires-clause-may : goal.replace_all-requires-clause-may
replace_all-requires-clause-may c =
    let same : c.as_mut_slice.result.now ≡ c.args.self.now = c.as_mut_slice.ensures.value ∙ c.self.view_is in
    subst (λ (registry : List RegistryEntry). EachMayReplace registry c.as_slice.result.now) (sym same)
    (subst (EachMayReplace c.args.self.now) (sym c.as_slice.ensures.value) c.requires.may)

pub returns-clause-replaced : goal.returns-clause-replaced
returns-clause-replaced c =
    let same : c.as_mut_slice.result.now ≡ c.args.self.now = c.as_mut_slice.ensures.value ∙ c.self.view_is in
    let many : length c.replace_all.new.registry ≡ c.self.inside.registry.len = omega arith in
    c.end.ensures.same
    ∙ written c.self.inside.registry.len c.replace_all.new.registry c.self.inside.registry.items many
    ∙ (simp (to_z-of_z, c.ranges.to) at c.replace_all.ensures)
    ∙ ap (zip_all (after_replace c.args.to) c.as_mut_slice.result.now) c.as_slice.ensures.value
    ∙ ap (λ (registry : List RegistryEntry). zip_all (after_replace c.args.to) registry c.args.pending.to_retract.items) same

pub returns-clause-registered : goal.returns-clause-registered
returns-clause-registered c =
    let same : c.as_mut_slice.result.now ≡ c.args.self.now = c.as_mut_slice.ensures.value ∙ c.self.view_is in
    let many : length c.replace_all.new.registry ≡ c.self.inside.registry.len = omega arith in
    ap registered_of c.end.ensures.same
    ∙ ap registered_of (written c.self.inside.registry.len c.replace_all.new.registry c.self.inside.registry.items many)
    ∙ shown-alike c.args.self.now c.replace_all.new.registry (ap (map registered_in) (simp (to_z-of_z, c.ranges.to) at c.replace_all.ensures) ∙ all-replaced_registered c.args.to c.as_mut_slice.result.now c.as_slice.result.now ∙ ap (map registered_in) same)
