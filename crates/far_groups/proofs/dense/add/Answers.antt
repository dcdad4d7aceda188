use Rattle.std.specs.Prelude.{Ok, Err, OnErr, Result}
use Rattle.far_groups.proofs.DensePlaces.{get_behind}
use Rattle.far_groups.proofs.dense.add.Goals as goal

on_err : {T E : Type 0} (r : Result T E) {P : Type 0} → P → OnErr r P
on_err (Ok x) h = tt
on_err (Err e) h = h

pub returns-in_err-grow-clause-only_new : goal.returns-in_err-grow-clause-only_new
returns-in_err-grow-clause-only_new c = on_err c.from_residual.result (get_behind c.args.dense.now.items c.args.place (c.add_existing.ensures.behind c.if-not-add_existing.true))
