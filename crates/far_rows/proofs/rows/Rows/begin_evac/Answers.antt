use Rattle.std.proofs.Common.{ℕ, ℤ, Option, IfOk, subst}
use Rattle.far_types.specs.declared.cell.Kind.TheVariants as kind
use Rattle.far_codec.specs.FarForm.{ints_form}
use Rattle.far_scopes.specs.Movement.{Movement}
use Rattle.far_evacuator.specs.Beginning.{IsBegunEvac}
use Rattle.far_rows.proofs.rows.Rows.begin_evac.Goals as goal

pub returns-in-Number-clause-begun : goal.returns-in-Number-clause-begun
returns-in-Number-clause-begun g c =
    rw c.in-Number.is (subst (λ (m : Movement (Option ℤ) g.row.S-Ticket.Denot). IfOk c.begin_evac.result (IsBegunEvac ints_form m c.in-Number.o kind.Int)) c.number_objects.ensures.objects c.begin_evac.ensures.begun)

pub returns-in-Text-clause-begun : goal.returns-in-Text-clause-begun
returns-in-Text-clause-begun g c =
    rw c.in-Text.is (subst (λ (m : Movement ℕ g.row.S-Ticket.Denot). IfOk c.begin_evac-in-Text.result (IsBegunEvac (λ bytes. bytes) m c.in-Text.o kind.Text)) c.text_objects.ensures.objects c.begin_evac-in-Text.ensures.begun)
