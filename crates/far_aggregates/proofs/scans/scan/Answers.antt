use Rattle.std.proofs.lemmas.Result.{on_ok_weaker}
use Rattle.far_aggregates.proofs.RecountingLaws.{may-merge, merged-scanned}
use Rattle.far_aggregates.proofs.scans.scan.Goals as goal

pub merge_in-requires : goal.merge_in-requires
merge_in-requires g c =
    let here = g.G.LendGroup.places c.args.group.now in
    may-merge c.args.spec.now c.args.number here c.args.accumulator.now c.requires.fold c.in_ok-partial.partial c.in_ok-partial.ensures.partial c.requires.may_scan

pub returns-clause-ok : goal.returns-clause-ok
returns-clause-ok g c =
    let here = g.G.LendGroup.places c.args.group.now in
    on_ok_weaker c.merge_in.result (merged-scanned c.args.spec.now c.args.number here c.args.accumulator.now c.requires.fold c.in_ok-partial.partial c.in_ok-partial.ensures.partial c.merge_in.new.accumulator) c.merge_in.ensures.ok
