use Rattle.std.proofs.Common.{◌≡◌, ◌≤◌, ◌/◌, List, Option, ap, sym, ◌∙◌, subst, arith, length, map}
use Rattle.std.proofs.lemmas.List.{length-map}
use Rattle.far_extrema.proofs.HoldersReserve.{err_any}
use Rattle.far_types.specs.Edits.{change_at, with_cell}
use Rattle.far_types.specs.Lent.{lent_cell}
use Rattle.far_aggregates.specs.Reserve.{AreReserved}
use Rattle.far_aggregates.specs.declared.pending.Pending.{Pending}
use Rattle.far_aggregates.specs.declared.deltas.Delta.{Delta}
use Rattle.far_aggregates.specs.Changed.{with_cell_at}
use Rattle.far_aggregates.specs.Pairs.{row_gives}
use Rattle.far_aggregates.specs.Accumulators.{RegistryEntry, Keeps, registered_in, registered_of}
use Rattle.far_aggregates.specs.Pending.{KeepsAsBefore, UndoesAll, RetractsAll}
use Rattle.far_aggregates.specs.LeavingOut.{EachLeftOut}
use Rattle.far_aggregates.proofs.LeavingOutLaws.{left_out-retracts}
use Rattle.far_aggregates.proofs.AccumulatorsEdits.{each-folds, all-added_registered}
use Rattle.far_aggregates.proofs.PendingLaws.{written, shown-alike, retracts-undo, set-retracts}
use Rattle.far_aggregates.proofs.aggregates.Aggregates.change_in.Goals as goal

pub apply_deltas-requires-clause-folds : goal.apply_deltas-requires-clause-folds
apply_deltas-requires-clause-folds g c =
    let same : c.as_mut_slice-registry.result.now ≡ c.args.self.now = c.as_mut_slice-registry.ensures.value ∙ c.self.view_is in
    let before : KeepsAsBefore c.args.self.now c.reserve_all.new.registry = λ size places h. c.reserve_all.ensures.kept size places (subst (Keeps size places) (sym same) h) in
    let kept = c.requires.kept.1 in
    each-folds c.args.size c.requires.kept.0 c.reserve_all.new.registry kept.fit kept.few (before c.args.size c.requires.kept.0 kept.kept)

pub returns-in_err-applied-clause-unchanged : goal.returns-in_err-applied-clause-unchanged
returns-in_err-applied-clause-unchanged g c =
    let same : c.as_mut_slice-registry.result.now ≡ c.args.self.now = c.as_mut_slice-registry.ensures.value ∙ c.self.view_is in
    let before : KeepsAsBefore c.args.self.now c.reserve_all.new.registry = λ size places h. c.reserve_all.ensures.kept size places (subst (Keeps size places) (sym same) h) in
    let many : length c.apply_deltas.new.registry ≡ c.self.inside.registry.len = omega arith in
    let whole = written c.self.inside.registry.len c.apply_deltas.new.registry c.self.inside.registry.items many in
    err_any c.from_residual-in_err-applied.result (λ size places h. subst (Keeps size places) (sym (whole ∙ c.in_err-applied.ensures.err)) (before size places h))

pub returns-in_err-to_retract-clause-unchanged : goal.returns-in_err-to_retract-clause-unchanged
returns-in_err-to_retract-clause-unchanged g c =
    let same : c.as_mut_slice-registry.result.now ≡ c.args.self.now = c.as_mut_slice-registry.ensures.value ∙ c.self.view_is in
    let before : KeepsAsBefore c.args.self.now c.reserve_all.new.registry = λ size places h. c.reserve_all.ensures.kept size places (subst (Keeps size places) (sym same) h) in
    let many : length c.reserve_all.new.registry ≡ c.self.inside.registry.len = omega arith in
    let whole = written c.self.inside.registry.len c.reserve_all.new.registry c.self.inside.registry.items many in
    err_any c.from_residual.result (λ size places h. subst (Keeps size places) (sym whole) (before size places h))

pub leave_out-to_retract-requires : goal.leave_out-to_retract-requires
leave_out-to_retract-requires g c =
    let many = ap length c.in_ok-to_retract.ensures.ok ∙ length-map c.reserve_all.new.registry _ in
    let as_many = ap length c.in_ok-applied.ensures.deltas ∙ length-map c.reserve_all.new.registry _ in
    many ∙ sym as_many ∙ sym (ap length c.as_slice.ensures.value)

pub returns-clause-retracts : goal.returns-clause-retracts
returns-clause-retracts g c = λ places there kept fit.
    let same : c.as_mut_slice-registry.result.now ≡ c.args.self.now = c.as_mut_slice-registry.ensures.value ∙ c.self.view_is in
    let before : KeepsAsBefore c.args.self.now c.reserve_all.new.registry = λ size places h. c.reserve_all.ensures.kept size places (subst (Keeps size places) (sym same) h) in
    let many : length c.apply_deltas.new.registry ≡ c.self.inside.registry.len = omega arith in
    let whole = written c.self.inside.registry.len c.apply_deltas.new.registry c.self.inside.registry.items many in
    let at = c.args.place / c.args.size in
    let pending : Pending = record { group = c.group_of-group.result; applied = c.in_ok-applied.applied; to_retract = c.in_ok-to_retract.to_retract } in
    let left : Pending = record { group = c.group_of-group.result; applied = c.in_ok-applied.applied; to_retract = c.leave_out-to_retract.result } in
    let cell = lent_cell c.args.cell in
    let gives = row_gives (with_cell_at c.args.column cell (g.R.LendCells.cells c.args.row.now)) in
    let as_many = ap length c.in_ok-to_retract.ensures.ok ∙ length-map c.reserve_all.new.registry _ in
    let as_many_new : length c.apply_deltas.new.registry ≡ length c.reserve_all.new.registry = omega arith in
    let within : length c.leave_out-to_retract.result.items ≤ length c.apply_deltas.new.registry = omega (arith, c.leave_out-to_retract.ensures.len, as_many, as_many_new) in
    let out = subst (λ (deltas : List (Option Delta)). EachLeftOut deltas c.in_ok-to_retract.to_retract.items c.leave_out-to_retract.result.items) c.as_slice.ensures.value c.leave_out-to_retract.ensures.left_out in
    subst (λ (registry : List RegistryEntry). RetractsAll c.args.size at (change_at (with_cell c.args.column cell) c.args.place places) registry left) (sym whole)
    (left_out-retracts c.args.size c.args.place gives (change_at (with_cell c.args.column cell) c.args.place places) c.reserve_all.new.registry c.apply_deltas.new.registry c.in_ok-applied.applied.items pending left (subst (λ n. AreReserved n c.reserve_all.new.registry) c.group_of-group.ensures c.reserve_all.ensures.reserved)
    c.group_of-group.ensures c.group_of-group.ensures c.in_ok-applied.ensures.deltas c.in_ok-applied.ensures.ok c.leave_out-to_retract.ensures.len as_many within out
    (set-retracts c.args.size c.args.place c.args.column cell (g.R.LendCells.cells c.args.row.now) c.args.self.now c.reserve_all.new.registry c.apply_deltas.new.registry pending c.requires.size c.requires.column (subst (λ n. AreReserved n c.reserve_all.new.registry) c.group_of-group.ensures c.reserve_all.ensures.reserved) before c.group_of-group.ensures c.in_ok-to_retract.ensures.ok c.in_ok-applied.ensures.ok places there kept fit))

pub returns-clause-undo : goal.returns-clause-undo
returns-clause-undo g c =
    let same : c.as_mut_slice-registry.result.now ≡ c.args.self.now = c.as_mut_slice-registry.ensures.value ∙ c.self.view_is in
    let before : KeepsAsBefore c.args.self.now c.reserve_all.new.registry = λ size places h. c.reserve_all.ensures.kept size places (subst (Keeps size places) (sym same) h) in
    let many : length c.apply_deltas.new.registry ≡ c.self.inside.registry.len = omega arith in
    let whole = written c.self.inside.registry.len c.apply_deltas.new.registry c.self.inside.registry.items many in
    let pending : Pending = record { group = c.group_of-group.result; applied = c.in_ok-applied.applied; to_retract = c.leave_out-to_retract.result } in
    let ensured = c.in_ok-applied.ensures in
    subst (λ (registry : List RegistryEntry). UndoesAll c.args.self.now registry pending) (sym whole)
    (retracts-undo (c.args.place / c.args.size) c.args.self.now c.reserve_all.new.registry c.apply_deltas.new.registry pending before c.group_of-group.ensures ensured.len ensured.may_undo ensured.undo)

pub returns-clause-registered : goal.returns-clause-registered
returns-clause-registered g c =
    let same : c.as_mut_slice-registry.result.now ≡ c.args.self.now = c.as_mut_slice-registry.ensures.value ∙ c.self.view_is in
    let many : length c.apply_deltas.new.registry ≡ c.self.inside.registry.len = omega arith in
    let whole = written c.self.inside.registry.len c.apply_deltas.new.registry c.self.inside.registry.items many in
    ap registered_of whole
    ∙ shown-alike c.args.self.now c.apply_deltas.new.registry (ap (map registered_in) c.in_ok-applied.ensures.ok ∙ all-added_registered _ _ _ ∙ c.reserve_all.ensures.registered ∙ ap (map registered_in) same)

pub apply_deltas-requires-clause-reserved : goal.apply_deltas-requires-clause-reserved
apply_deltas-requires-clause-reserved g c = subst (λ n. AreReserved n c.reserve_all.new.registry) c.group_of-group.ensures c.reserve_all.ensures.reserved
