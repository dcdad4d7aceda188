use Rattle.far_table.specs.Moving.{IsUnpinned}
use Rattle.far_frame.proofs.LiveMoved.{moved-live, moved-state}
use Rattle.far_frame.proofs.frame.Frame.unpin.Goals as goal

pub invariant_of-self : goal.invariant_of-self
invariant_of-self g c =
    let inside = c.self.inside in
    let e = c.unpin.ensures in
    moved-live inside.rows c.unpin.new.self inside.registrations inside.aggregates c.unpin.result (IsUnpinned c.args.column c.args.group) e.unpinned e.err c.self.invariant

pub returns-clause-unpinned : goal.returns-clause-unpinned
returns-clause-unpinned g c =
    let inside = c.self.inside in
    let e = c.unpin.ensures in
    moved-state inside.rows c.unpin.new.self inside.registrations inside.aggregates c.unpin.result (IsUnpinned c.args.column c.args.group) e.unpinned e.err inside.prefetcher c.args.self.now c.self.view_is
