use Rattle.std.specs.Prelude.{OnOk}
use Rattle.std.proofs.Common.{◌≤◌, length, refl, subst}
use Rattle.far_c.specs.Parts.{IsPartLent}
use Rattle.far_c.specs.TableState.{TableState}
use Rattle.far_c.proofs.Lending.{part-lent, part-within}
use Rattle.far_c.proofs.table.Table.record_lending.Goals as goal

pub returns-clause-lent : goal.returns-clause-lent
returns-clause-lent c =
    let inside = c.self.inside in
    let old : TableState = record { world = inside.world; answer = inside.answer; refusal = inside.refusal } in
    let new : TableState = record { world = c.record_lending.new.self; answer = inside.answer; refusal = inside.refusal } in
    subst (λ (t : TableState). OnOk c.record_lending.result (IsPartLent c.args.column c.args.from c.args.to t new)) c.self.view_is
    (part-lent c.args.column c.args.from c.args.to old new c.record_lending.result refl c.record_lending.ensures.ok)

pub returns-clause-within : goal.returns-clause-within
returns-clause-within c = subst (λ (t : TableState). OnOk c.record_lending.result (c.args.to ≤ length t.world.state.table.places)) c.self.view_is
    (part-within c.self.inside.world c.args.column c.args.from c.args.to c.record_lending.result c.record_lending.ensures.due)
