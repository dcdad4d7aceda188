use Rattle.std.proofs.Common.{◌<◌, sym, ap, ◌∙◌, refl, length, option_map, slice_set}
use Rattle.std.proofs.lemmas.Option.{slice_get_read}
use Rattle.far_aggregates.specs.Accumulators.{registered_in, registered_of}
use Rattle.far_aggregates.specs.Aggregates.{after_scan, flattened}
use Rattle.far_aggregates.proofs.AccumulatorsRegistry.{registered-set, registered-like}
use Rattle.far_aggregates.proofs.ScansLaws.{has-below}
use Rattle.far_extrema.proofs.HoldersReserve.{err_any}
use Rattle.far_aggregates.proofs.scans.scan_at.Goals as goal

pub returns-clause-registered : goal.returns-clause-registered
returns-clause-registered g c =
    let registry = c.args.registry.now.items in
    let l : c.args.a < length registry = has-below registry c.args.number c.args.a c.requires.pending in
    let here = slice_get_read registry _ c.args.a c.index_mut.result.now refl l c.index_mut.ensures.value in
    registered-set registry c.args.a c.scan_in.new.entry l
    ∙ ap (slice_set (registered_of registry) c.args.a) (c.in_ok-scan_in.ensures.registered ∙ ap (λ s. option_map (after_scan c.args.number) (registered_in s)) (ap flattened (sym here)))

pub returns-in_err-scan_in-clause-unchanged : goal.returns-in_err-scan_in-clause-unchanged
returns-in_err-scan_in-clause-unchanged g c =
    let registry = c.args.registry.now.items in
    let l : c.args.a < length registry = has-below registry c.args.number c.args.a c.requires.pending in
    let here = slice_get_read registry _ c.args.a c.index_mut.result.now refl l c.index_mut.ensures.value in
    err_any c.from_residual.result (registered-like registry c.args.a c.index_mut.result.now c.scan_in.new.entry here c.in_err-scan_in.ensures.unchanged)
