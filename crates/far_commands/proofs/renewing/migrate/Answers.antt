use Rattle.std.proofs.Common.{◌≡◌, ◌⊎◌, inl, inr, ap}
use Rattle.far_types.specs.declared.refusal.Refusal.TheVariants as refusal
use Rattle.far_frame.specs.TableViews.{table_of}
use Rattle.far_commands.specs.Renewals.{IsNotRenewed}
use Rattle.far_commands.proofs.ResultLaws.{three-errs, both-ways, came-back, each-err, moved-on}
use Rattle.far_commands.proofs.renewing.migrate.Goals as goal

pub returns-clause-renewed : goal.returns-clause-renewed
returns-clause-renewed g c =
    let moved = rw c.replace-old.ensures.value at c.migrate.ensures.migrated in
    moved-on c.put_back.result c.migrate.result c.put_back.new.place _ c.put_back.ensures.moved moved

pub returns-clause-table : goal.returns-clause-table
returns-clause-table g c =
    let old = c.args.world.now in
    let moved = rw c.replace-old.ensures.value at c.migrate.ensures.table in
    let back = rw c.replace-old.ensures.value at c.migrate.ensures.back in
    both-ways c.put_back.result (table_of c.put_back.new.place.state ≡ table_of old.state)
    (moved-on c.put_back.result c.migrate.result c.put_back.new.place (λ at. table_of at.state ≡ table_of old.state) c.put_back.ensures.moved moved)
    (came-back c.put_back.result c.migrate.result c.put_back.new.place (λ why at. table_of at.state ≡ table_of old.state) c.put_back.ensures.back
    (each-err c.migrate.result _ _ (λ e same. ap (λ at. table_of at.state) same) back))

pub returns-clause-back : goal.returns-clause-back
returns-clause-back g c =
    let may_fail = g.S.FarTickets.may_fail in
    let either : may_fail ⊎ may_fail → may_fail = λ o. elim o [ inl may ↦ may | inr may ↦ may ] in
    let cause = each-err c.migrate.result (λ e. e.0 ≡ refusal.FarFault → may_fail ⊎ may_fail) (λ e. e.0 ≡ refusal.FarFault → may_fail) (λ e may is. either (may is)) c.migrate.ensures.cause in
    let back = rw c.replace-old.ensures.value at c.migrate.ensures.back in
    came-back c.put_back.result c.migrate.result c.put_back.new.place (λ why at. IsNotRenewed g.S.FarTickets.may_fail c.args.world.now why at) c.put_back.ensures.back
    (three-errs c.migrate.result _ (λ e. e.0 ≡ refusal.FarFault → may_fail) _ c.migrate.ensures.refused cause back)
