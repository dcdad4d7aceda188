use Rattle.far_table.specs.Moving.{IsPinned}
use Rattle.far_frame.proofs.LiveMoved.{moved-live, moved-state}
use Rattle.far_frame.proofs.frame.Frame.pin.Goals as goal

pub invariant_of-self : goal.invariant_of-self
invariant_of-self g c =
    let inside = c.self.inside in
    let e = c.pin.ensures in
    moved-live inside.rows c.pin.new.self inside.registrations inside.aggregates c.pin.result (IsPinned c.args.column c.args.group) e.pinned e.err c.self.invariant

pub returns-clause-pinned : goal.returns-clause-pinned
returns-clause-pinned g c =
    let inside = c.self.inside in
    let e = c.pin.ensures in
    moved-state inside.rows c.pin.new.self inside.registrations inside.aggregates c.pin.result (IsPinned c.args.column c.args.group) e.pinned e.err inside.prefetcher c.args.self.now c.self.view_is
