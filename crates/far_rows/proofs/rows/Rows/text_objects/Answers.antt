use Rattle.std.proofs.Common.{◌≡◌, subst}
use Rattle.std.specs.Prelude.{Some, slice_get}
use Rattle.far_rows.specs.Naming.{names_of}
use Rattle.far_rows.specs.Rows.{AreRows}
use Rattle.far_rows.proofs.NamingObjects.{texts-spelled, text-owned}
use Rattle.far_rows.proofs.rows.Rows.text_objects.Goals as goal

pub returns-clause-spelled : goal.returns-clause-spelled
returns-clause-spelled g c = texts-spelled g.S.FarTickets.content _ c.self.invariant c.number-number.ensures.tracked.same_length

pub returns-clause-owned : goal.returns-clause-owned
returns-clause-owned g c = λ o name at. text-owned g.S.FarTickets.content c.args.self.now (subst (AreRows g.S.FarTickets.content) c.self.view_is c.self.invariant) o name (subst (λ r. slice_get (names_of r.text_objects) o ≡ Some name) c.self.view_is at)
