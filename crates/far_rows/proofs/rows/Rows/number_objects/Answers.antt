use Rattle.std.proofs.Common.{◌≡◌, subst}
use Rattle.std.specs.Prelude.{Some, slice_get}
use Rattle.far_rows.specs.Naming.{names_of}
use Rattle.far_rows.specs.Rows.{AreRows}
use Rattle.far_rows.proofs.NamingObjects.{numbers-spelled, number-owned}
use Rattle.far_rows.proofs.rows.Rows.number_objects.Goals as goal

pub returns-clause-spelled : goal.returns-clause-spelled
returns-clause-spelled g c = numbers-spelled g.S.FarTickets.content _ c.self.invariant c.number-number.ensures.tracked.same_length

pub returns-clause-owned : goal.returns-clause-owned
returns-clause-owned g c = λ o name at. number-owned g.S.FarTickets.content c.args.self.now (subst (AreRows g.S.FarTickets.content) c.self.view_is c.self.invariant) o name (subst (λ r. slice_get (names_of r.number_objects) o ≡ Some name) c.self.view_is at)
