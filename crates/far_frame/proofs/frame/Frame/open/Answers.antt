use Rattle.std.proofs.Common.{arith, sym, subst}
use Rattle.far_rows.specs.Jobs.{AreAt}
use Rattle.far_table.specs.State.{AreChecked}
use Rattle.far_frame.proofs.LiveEdits.{none-checked}
use Rattle.far_frame.proofs.frame.Frame.open.Goals as goal

pub invariant_of-result : goal.invariant_of-result
invariant_of-result g c =
    let rows = c.in_ok-rows.rows in
    record {
      registrations_few = omega arith;
      kept = c.new-3.ensures.kept rows.limits.group rows.places;
      checked = subst (AreChecked rows.schema) (sym c.new-3.ensures.registered) (none-checked rows.schema 32);
    }

-- a new table has no objects, so it holds no ticket
pub returns-clause-here : goal.returns-clause-here
returns-clause-here g c = λ id. subst (AreAt g.S.FarTickets.is_of id) (sym c.in_ok-rows.ensures.opened.held) record { numbers = λ o. tt; texts = λ o. tt }
