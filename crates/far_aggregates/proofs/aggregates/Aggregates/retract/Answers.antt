use Rattle.std.proofs.Common.{◌≡◌, ◌-◌, List, None, sym, ap, ◌∙◌, subst, arith, length, map}
use Rattle.std.specs.Prelude.{replicate}
use Rattle.std.specs.List.{AllByRecursion}
use Rattle.far_aggregates.specs.Accumulators.{RegistryEntry, registered_in, registered_of}
use Rattle.far_aggregates.specs.Lending.{EntryIsServed}
use Rattle.far_aggregates.proofs.ListLaws.{all-front}
use Rattle.far_aggregates.proofs.AccumulatorsEdits.{all-retracted_registered}
use Rattle.far_aggregates.proofs.PendingLaws.{written, shown-alike}
use Rattle.far_aggregates.proofs.aggregates.Aggregates.retract.Goals as goal

pub retract_all-requires-clause-served : goal.retract_all-requires-clause-served
retract_all-requires-clause-served g c =
    let has = g.G.LendGroup.has c.args.group.now in
    let same : c.as_mut_slice.result.now ≡ c.args.self.now = c.as_mut_slice.ensures.value ∙ c.self.view_is in
    subst (λ (registry : List RegistryEntry). AllByRecursion (EntryIsServed has) (map registered_in registry)) (sym same)
    (all-front (EntryIsServed has) (map registered_in c.args.self.now) (replicate (32 - length c.args.self.now) None) c.requires.served)

pub returns-clause-registered : goal.returns-clause-registered
returns-clause-registered g c =
    let same : c.as_mut_slice.result.now ≡ c.args.self.now = c.as_mut_slice.ensures.value ∙ c.self.view_is in
    let many : length c.retract_all.new.registry ≡ c.self.inside.registry.len = omega arith in
    ap registered_of c.end.ensures.same
    ∙ ap registered_of (written c.self.inside.registry.len c.retract_all.new.registry c.self.inside.registry.items many)
    ∙ shown-alike c.args.self.now c.retract_all.new.registry (ap (map registered_in) c.retract_all.ensures ∙ all-retracted_registered c.args.pending.group (g.G.LendGroup.places c.args.group.now) c.as_mut_slice.result.now _ ∙ ap (map registered_in) same)
