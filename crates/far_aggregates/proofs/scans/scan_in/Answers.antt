use Rattle.std.proofs.Common.{◌≡◌, true, sym, ap, ◌∙◌, subst, arith, length}
use Rattle.far_types.specs.Table.{is_pending}
use Rattle.far_aggregates.specs.Accumulators.{RegistryEntry, KeepsEntry, registered_in}
use Rattle.far_aggregates.specs.Lending.{EntryIsServed}
use Rattle.far_aggregates.specs.Scans.{has_pending, IsScanned, AccumulatorMayScan, EntryMayScan}
use Rattle.far_aggregates.proofs.ScansLaws.{group-length, may_scan, entry-scanned, entry-same}
use Rattle.far_aggregates.proofs.scans.scan_in.Goals as goal

pub scan-requires-clause-few : goal.scan-requires-clause-few
scan-requires-clause-few g c =
    let m = subst (EntryMayScan c.args.size c.args.number (g.G.LendGroup.places c.args.group.now)) c.in-Some.is c.requires.may in
    let same : length (g.G.LendGroup.places c.args.group.now) ≡ _ = ap length m.1 in
    let few = group-length c.args.size c.args.number m.0 in
    let most = m.2 in
    omega arith

pub scan-requires-clause-served : goal.scan-requires-clause-served
scan-requires-clause-served g c = subst (λ (s : RegistryEntry). EntryIsServed (g.G.LendGroup.has c.args.group.now) (registered_in s)) c.in-Some.is c.requires.served

pub scan-requires-clause-fold : goal.scan-requires-clause-fold
scan-requires-clause-fold g c =
    let m = subst (EntryMayScan c.args.size c.args.number (g.G.LendGroup.places c.args.group.now)) c.in-Some.is c.requires.may in
    m.3.0

pub scan-requires-clause-may_scan : goal.scan-requires-clause-may_scan
scan-requires-clause-may_scan g c =
    let a = c.in-Some.aggregate in
    let m = subst (EntryMayScan c.args.size c.args.number (g.G.LendGroup.places c.args.group.now)) c.in-Some.is c.requires.may in
    let there : is_pending a.pending c.args.number ≡ true = ap (has_pending c.args.number) (sym c.in-Some.is) ∙ c.requires.pending in
    subst (λ here. AccumulatorMayScan a.spec c.args.number here a.accumulator) (sym m.1) (may_scan c.args.size m.0 a a.accumulator c.args.number there m.2 m.3.1)

pub returns-in_ok-scan-clause-kept : goal.returns-in_ok-scan-clause-kept
returns-in_ok-scan-clause-kept g c = λ ps here h.
    let a = c.in-Some.aggregate in
    let there : is_pending a.pending c.args.number ≡ true = ap (has_pending c.args.number) (sym c.in-Some.is) ∙ c.requires.pending in
    let holds = subst (KeepsEntry c.args.size ps) c.in-Some.is h in
    let scanned = subst (λ l. IsScanned a.spec c.args.number l a.accumulator c.scan.new.accumulator) here c.in_ok-scan.ensures.ok in
    entry-scanned c.args.size ps a c.args.number c.clear.new.self c.scan.new.accumulator there c.requires.size holds c.clear.ensures scanned

pub returns-in_err-scan-clause-kept : goal.returns-in_err-scan-clause-kept
returns-in_err-scan-clause-kept g c = λ ps here h.
    let a = c.in-Some.aggregate in
    entry-same c.args.size ps a c.scan.new.accumulator c.in_err-scan.ensures.err (subst (KeepsEntry c.args.size ps) c.in-Some.is h)
