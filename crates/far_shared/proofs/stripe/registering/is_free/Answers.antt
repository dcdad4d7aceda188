use Rattle.std.proofs.Common.{Bor}
use Rattle.far_types.specs.declared.spec.Spec.{Spec}
use Rattle.far_types.specs.Table.{Registered}
use Rattle.far_table.specs.Watching.{aggregate_at}
use Rattle.far_shared.proofs.WatchingUndo.{none-found}
use Rattle.far_shared.proofs.stripe.registering.is_free.Goals as goal

pub returns : goal.returns
returns g c = none-found c.spec.result (aggregate_at c.args.frame.now.table c.args.a) (λ (b : Bor Spec). b.now) (λ (r : Registered). r.spec) c.is_none.result c.is_none.ensures c.spec.ensures
