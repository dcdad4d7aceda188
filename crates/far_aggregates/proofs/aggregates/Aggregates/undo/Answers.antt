use Rattle.std.proofs.Common.{◌≡◌, ap, ◌∙◌, arith, length, map}
use Rattle.far_aggregates.specs.Accumulators.{registered_in, registered_of}
use Rattle.far_aggregates.proofs.AccumulatorsEdits.{all-undo_registered}
use Rattle.far_aggregates.proofs.PendingLaws.{written, shown-alike}
use Rattle.far_aggregates.proofs.aggregates.Aggregates.undo.Goals as goal

pub returns-clause-registered : goal.returns-clause-registered
returns-clause-registered c =
    let same : c.as_mut_slice.result.now ≡ c.args.self.now = c.as_mut_slice.ensures.value ∙ c.self.view_is in
    let many : length c.undo_all.new.registry ≡ c.self.inside.registry.len = omega arith in
    ap registered_of c.end.ensures.same
    ∙ ap registered_of (written c.self.inside.registry.len c.undo_all.new.registry c.self.inside.registry.items many)
    ∙ shown-alike c.args.self.now c.undo_all.new.registry (ap (map registered_in) c.undo_all.ensures ∙ all-undo_registered _ _ _ ∙ ap (map registered_in) same)
