use Rattle.far_types.specs.Table.{in_group}
use Rattle.far_aggregates.proofs.RecountingLaws.{may-merge, merged-scanned}
use Rattle.far_aggregates.proofs.ScansLaws.{may_scan, entry-scanned}
use Rattle.far_aggregates.proofs.recounting.merge_next.Goals as goal

pub merge_in-requires : goal.merge_in-requires
merge_in-requires c =
    let a = c.args.aggregate.now in
    let m = c.requires.may in
    may-merge a.spec c.args.number (in_group c.args.size c.args.number m.0) a.accumulator m.3.0 c.args.partial m.2 (may_scan c.args.size m.0 a a.accumulator c.args.number c.requires.pending m.1 m.3.1)

pub returns-clause-kept : goal.returns-clause-kept
returns-clause-kept c = λ places is holds.
    let a = c.args.aggregate.now in
    let here = in_group c.args.size c.args.number places in
    entry-scanned c.args.size places a c.args.number c.clear.new.self c.merge_in.new.accumulator c.requires.pending c.requires.size holds c.clear.ensures
    (merged-scanned a.spec c.args.number here a.accumulator holds.0 c.args.partial is c.merge_in.new.accumulator c.in_ok-merge_in.ensures.ok)
