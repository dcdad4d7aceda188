use Rattle.std.proofs.Common.{None, sym, subst}
use Rattle.far_table.specs.State.{AreChecked}
use Rattle.far_table.proofs.WatchingLaws.{checked-put}
use Rattle.far_frame.proofs.frame.Frame.unwatch.Goals as goal

pub invariant_of-self : goal.invariant_of-self
invariant_of-self g c =
    let rows = c.self.inside.rows in
    record {
      registrations_few = c.self.invariant.registrations_few;
      kept = c.forget.ensures.kept rows.limits.group rows.places c.self.invariant.kept;
      checked = subst (AreChecked rows.schema) (sym c.forget.ensures.registered) (checked-put rows.schema _ c.args.a None c.self.invariant.checked tt);
    }
