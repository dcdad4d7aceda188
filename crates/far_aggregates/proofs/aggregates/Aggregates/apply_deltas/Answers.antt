use Rattle.std.proofs.Common.{◌≡◌, ◌/◌, List, ap, sym, ◌∙◌, subst, arith, length, map}
use Rattle.far_extrema.proofs.HoldersReserve.{err_any}
use Rattle.far_aggregates.specs.Reserve.{AreReserved}
use Rattle.far_aggregates.specs.declared.pending.Pending.{Pending}
use Rattle.far_aggregates.specs.Accumulators.{RegistryEntry, Keeps, registered_in, registered_of}
use Rattle.far_aggregates.specs.Pending.{KeepsAsBefore, UndoesAll}
use Rattle.far_aggregates.proofs.AccumulatorsEdits.{each-folds, all-added_registered}
use Rattle.far_aggregates.proofs.PendingLaws.{written, shown-alike, insert-applied, retracts-undo}
use Rattle.far_aggregates.proofs.aggregates.Aggregates.apply_deltas.Goals as goal

pub apply_deltas-requires-clause-folds : goal.apply_deltas-requires-clause-folds
apply_deltas-requires-clause-folds g c =
    let same : c.as_mut_slice-registry.result.now ≡ c.args.self.now = c.as_mut_slice-registry.ensures.value ∙ c.self.view_is in
    let before : KeepsAsBefore c.args.self.now c.reserve_all.new.registry = λ size places h. c.reserve_all.ensures.kept size places (subst (Keeps size places) (sym same) h) in
    let kept = c.requires.kept.1 in
    each-folds c.args.size c.requires.kept.0 c.reserve_all.new.registry kept.fit kept.few (before c.args.size c.requires.kept.0 kept.kept)

pub returns-in_err-applied-clause-unchanged : goal.returns-in_err-applied-clause-unchanged
returns-in_err-applied-clause-unchanged g c =
    let same : c.as_mut_slice-registry.result.now ≡ c.args.self.now = c.as_mut_slice-registry.ensures.value ∙ c.self.view_is in
    let before : KeepsAsBefore c.args.self.now c.reserve_all.new.registry = λ size places h. c.reserve_all.ensures.kept size places (subst (Keeps size places) (sym same) h) in
    let many : length c.apply_deltas.new.registry ≡ c.self.inside.registry.len = omega arith in
    let whole = written c.self.inside.registry.len c.apply_deltas.new.registry c.self.inside.registry.items many in
    err_any c.from_residual.result (λ size places h. subst (Keeps size places) (sym (whole ∙ c.in_err-applied.ensures.err)) (before size places h))

pub returns-clause-applied : goal.returns-clause-applied
returns-clause-applied g c = λ places cells count is h.
    let same : c.as_mut_slice-registry.result.now ≡ c.args.self.now = c.as_mut_slice-registry.ensures.value ∙ c.self.view_is in
    let before : KeepsAsBefore c.args.self.now c.reserve_all.new.registry = λ size places h. c.reserve_all.ensures.kept size places (subst (Keeps size places) (sym same) h) in
    let many : length c.apply_deltas.new.registry ≡ c.self.inside.registry.len = omega arith in
    let whole = written c.self.inside.registry.len c.apply_deltas.new.registry c.self.inside.registry.items many in
    subst (Keeps c.args.size _) (sym whole)
    (insert-applied c.args.size c.args.place (g.R.LendCells.cells c.args.row.now) c.args.self.now c.reserve_all.new.registry c.apply_deltas.new.registry c.requires.size (subst (λ n. AreReserved n c.reserve_all.new.registry) c.group_of-group.ensures c.reserve_all.ensures.reserved) before c.in_ok-applied.ensures.ok places cells count is h)

pub returns-clause-undo : goal.returns-clause-undo
returns-clause-undo g c =
    let same : c.as_mut_slice-registry.result.now ≡ c.args.self.now = c.as_mut_slice-registry.ensures.value ∙ c.self.view_is in
    let before : KeepsAsBefore c.args.self.now c.reserve_all.new.registry = λ size places h. c.reserve_all.ensures.kept size places (subst (Keeps size places) (sym same) h) in
    let many : length c.apply_deltas.new.registry ≡ c.self.inside.registry.len = omega arith in
    let whole = written c.self.inside.registry.len c.apply_deltas.new.registry c.self.inside.registry.items many in
    let pending : Pending = record { group = c.group_of-group.result; applied = c.in_ok-applied.applied; to_retract = c.new-to_retract.result } in
    let ensured = c.in_ok-applied.ensures in
    subst (λ (registry : List RegistryEntry). UndoesAll c.args.self.now registry pending) (sym whole)
    (retracts-undo (c.args.place / c.args.size) c.args.self.now c.reserve_all.new.registry c.apply_deltas.new.registry pending before c.group_of-group.ensures ensured.len ensured.may_undo ensured.undo)

pub returns-clause-registered : goal.returns-clause-registered
returns-clause-registered g c =
    let same : c.as_mut_slice-registry.result.now ≡ c.args.self.now = c.as_mut_slice-registry.ensures.value ∙ c.self.view_is in
    let many : length c.apply_deltas.new.registry ≡ c.self.inside.registry.len = omega arith in
    let whole = written c.self.inside.registry.len c.apply_deltas.new.registry c.self.inside.registry.items many in
    ap registered_of whole
    ∙ shown-alike c.args.self.now c.apply_deltas.new.registry (ap (map registered_in) c.in_ok-applied.ensures.ok ∙ all-added_registered _ _ _ ∙ c.reserve_all.ensures.registered ∙ ap (map registered_in) same)

pub apply_deltas-requires-clause-reserved : goal.apply_deltas-requires-clause-reserved
apply_deltas-requires-clause-reserved g c = subst (λ n. AreReserved n c.reserve_all.new.registry) c.group_of-group.ensures c.reserve_all.ensures.reserved
