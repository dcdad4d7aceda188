use Rattle.std.proofs.Common.{◌≡◌, ◌/◌, List, sym, ◌∙◌, subst, arith, length}
use Rattle.far_types.specs.Edits.{change_at, after_remove}
use Rattle.far_aggregates.specs.Reserve.{AreReserved}
use Rattle.far_aggregates.specs.declared.pending.Pending.{Pending}
use Rattle.far_aggregates.specs.Accumulators.{RegistryEntry, Keeps}
use Rattle.far_aggregates.specs.Pending.{KeepsAsBefore, RetractsAll}
use Rattle.far_aggregates.proofs.PendingLaws.{written, remove-retracts}
use Rattle.far_aggregates.proofs.aggregates.Aggregates.leave.Goals as goal

pub returns-in_err-to_retract-clause-unchanged : goal.returns-in_err-to_retract-clause-unchanged
returns-in_err-to_retract-clause-unchanged g c = λ size places h.
    let same : c.as_mut_slice-registry.result.now ≡ c.args.self.now = c.as_mut_slice-registry.ensures.value ∙ c.self.view_is in
    let before : KeepsAsBefore c.args.self.now c.reserve_all.new.registry = λ size places h. c.reserve_all.ensures.kept size places (subst (Keeps size places) (sym same) h) in
    let many : length c.reserve_all.new.registry ≡ c.self.inside.registry.len = omega arith in
    let whole = written c.self.inside.registry.len c.reserve_all.new.registry c.self.inside.registry.items many in
    subst (Keeps size places) (sym whole) (before size places h)

pub returns-clause-unchanged : goal.returns-clause-unchanged
returns-clause-unchanged g c = λ size places h.
    let same : c.as_mut_slice-registry.result.now ≡ c.args.self.now = c.as_mut_slice-registry.ensures.value ∙ c.self.view_is in
    let before : KeepsAsBefore c.args.self.now c.reserve_all.new.registry = λ size places h. c.reserve_all.ensures.kept size places (subst (Keeps size places) (sym same) h) in
    let many : length c.reserve_all.new.registry ≡ c.self.inside.registry.len = omega arith in
    let whole = written c.self.inside.registry.len c.reserve_all.new.registry c.self.inside.registry.items many in
    subst (Keeps size places) (sym whole) (before size places h)

pub returns-clause-retracts : goal.returns-clause-retracts
returns-clause-retracts g c = λ places there kept.
    let same : c.as_mut_slice-registry.result.now ≡ c.args.self.now = c.as_mut_slice-registry.ensures.value ∙ c.self.view_is in
    let before : KeepsAsBefore c.args.self.now c.reserve_all.new.registry = λ size places h. c.reserve_all.ensures.kept size places (subst (Keeps size places) (sym same) h) in
    let many : length c.reserve_all.new.registry ≡ c.self.inside.registry.len = omega arith in
    let whole = written c.self.inside.registry.len c.reserve_all.new.registry c.self.inside.registry.items many in
    let pending : Pending = record { group = c.group_of-group.result; applied = c.new-applied.result; to_retract = c.in_ok-to_retract.to_retract } in
    subst (λ (registry : List RegistryEntry). RetractsAll c.args.size (c.args.place / c.args.size) (change_at after_remove c.args.place places) registry pending) (sym whole)
    (remove-retracts c.args.size c.args.place (g.R.LendCells.cells c.args.row.now) c.args.self.now c.reserve_all.new.registry pending c.requires.size (subst (λ n. AreReserved n c.reserve_all.new.registry) c.group_of-group.ensures c.reserve_all.ensures.reserved) before c.group_of-group.ensures c.in_ok-to_retract.ensures.ok places there kept)
