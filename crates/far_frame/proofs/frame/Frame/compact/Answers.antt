use Rattle.far_table.specs.Moving.{IsCompactedOf}
use Rattle.far_frame.proofs.LiveMoved.{moved-live, moved-state}
use Rattle.far_frame.proofs.frame.Frame.compact.Goals as goal

pub invariant_of-self : goal.invariant_of-self
invariant_of-self g c =
    let inside = c.self.inside in
    let e = c.compact.ensures in
    moved-live inside.rows c.compact.new.self inside.registrations inside.aggregates c.compact.result (IsCompactedOf c.args.kind c.args.segment) e.compacted e.err c.self.invariant

pub returns-clause-compacted : goal.returns-clause-compacted
returns-clause-compacted g c =
    let inside = c.self.inside in
    let e = c.compact.ensures in
    moved-state inside.rows c.compact.new.self inside.registrations inside.aggregates c.compact.result (IsCompactedOf c.args.kind c.args.segment) e.compacted e.err inside.prefetcher c.args.self.now c.self.view_is
