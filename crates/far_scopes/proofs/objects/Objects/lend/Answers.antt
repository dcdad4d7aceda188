use Rattle.std.proofs.Common.{◌≡◌, true, sym, subst}
use Rattle.far_scopes.specs.Movement.{is_local}
use Rattle.far_scopes.proofs.RefusingLaws.{local-lent}
use Rattle.far_scopes.proofs.MovementLaws.{long-read}
use Rattle.far_scopes.proofs.objects.Objects.lend.Goals as goal

pub lend-requires-clause-long : goal.lend-requires-clause-long
lend-requires-clause-long g c = λ κs le. long-read _ _ _ _ c.self.invariant c.args.o c.index.result.now (subst (λ m. is_local m c.args.o ≡ true) (sym c.self.view_is) (local-lent c.args.self.now c.args.o (sym c.in_ok-here.ensures))) c.index.ensures
