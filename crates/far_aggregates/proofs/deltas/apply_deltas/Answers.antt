use Rattle.std.proofs.Common.{◌≡◌, ◌<◌, ◌≤◌, ◌/◌, ◌++◌, ◌∷◌, [], List, Option, None, length, map, take, get_or, refl, ap, sym, ◌∙◌, subst, arith, slice_get, slice_set}
use Rattle.std.proofs.lemmas.List.{map_more, take_all, length-map, length-take-le}
use Rattle.std.proofs.lemmas.Option.{slice_get_read, get_or_from_slice_get}
use Rattle.far_aggregates.specs.declared.deltas.Delta.{Delta}
use Rattle.far_aggregates.specs.Accumulators.{RegistryEntry}
use Rattle.far_aggregates.specs.Pairs.{row_gives, Folds}
use Rattle.far_aggregates.specs.Deltas.{row_delta, with_delta, undo, EachMayUndo}
use Rattle.far_aggregates.specs.Reserve.{IsReserved}
use Rattle.far_aggregates.specs.Until.{zip_until, zip_all}
use Rattle.far_aggregates.proofs.ListLaws.{all-get, get-map, set_same}
use Rattle.far_aggregates.proofs.UntilLaws.{zip_until-here, zip_until-next, zip_until-all, length-zip_until}
use Rattle.far_aggregates.proofs.DeltasLaws.{next-may_undo, next-undone, applied-may_undo, applied-undone}
use Rattle.far_aggregates.proofs.deltas.apply_deltas.Goals as goal

pub apply_next-requires-clause-folds : goal.apply_next-requires-clause-folds
apply_next-requires-clause-folds g c =
    let at = c.args.place / c.args.size in
    let delta = row_delta c.args.size c.args.place (row_gives (g.R.LendCells.cells c.args.row.now)) in
    let registry = c.args.registry.now in
    let here = slice_get_read c.loop-i.registry _ c.loop-i.i c.index-registry-i.result refl (omega arith) c.index-registry-i.is in
    let was = sym (zip_until-here (with_delta at) c.loop-i.i registry (map delta registry)) ∙ ap (λ (l : List RegistryEntry). slice_get l c.loop-i.i) (sym c.loop-i.invariant.registry) ∙ here in
    subst Folds c.index-registry-i.is (c.requires.folds c.loop-i.i c.index-registry-i.result was)

pub apply_next-requires-clause-reserved : goal.apply_next-requires-clause-reserved
apply_next-requires-clause-reserved g c =
    let at = c.args.place / c.args.size in
    let delta = row_delta c.args.size c.args.place (row_gives (g.R.LendCells.cells c.args.row.now)) in
    let registry = c.args.registry.now in
    let here = slice_get_read c.loop-i.registry _ c.loop-i.i c.index-registry-i.result refl (omega arith) c.index-registry-i.is in
    let was = sym (zip_until-here (with_delta at) c.loop-i.i registry (map delta registry)) ∙ ap (λ (l : List RegistryEntry). slice_get l c.loop-i.i) (sym c.loop-i.invariant.registry) ∙ here in
    subst (IsReserved at) c.index-registry-i.is (all-get (IsReserved at) registry c.loop-i.i c.index-registry-i.result c.requires.reserved was)

pub apply_next-requires-clause-place : goal.apply_next-requires-clause-place
apply_next-requires-clause-place g c =
    let at = c.args.place / c.args.size in
    let delta = row_delta c.args.size c.args.place (row_gives (g.R.LendCells.cells c.args.row.now)) in
    let registry = c.args.registry.now in
    let i = c.loop-i.i in
    let within : i < length registry = omega (arith, length-zip_until (with_delta at) i registry (map delta registry), ap length c.loop-i.invariant.registry) in
    let many : length c.loop-i.deltas.items ≡ i = ap length c.loop-i.invariant.deltas ∙ length-map (take i registry) delta ∙ length-take-le i registry (omega arith) in
    let capacity = c.loop-i.invariant.capacity in
    omega arith

pub loop-i-preserved : goal.loop-i-preserved
loop-i-preserved g c =
    let at = c.args.place / c.args.size in
    let delta = row_delta c.args.size c.args.place (row_gives (g.R.LendCells.cells c.args.row.now)) in
    let registry = c.args.registry.now in
    let i = c.loop-i.i in
    let entry = c.index-registry-i.result in
    let here = slice_get_read c.loop-i.registry _ i entry refl (omega arith) c.index-registry-i.is in
    let was = sym (zip_until-here (with_delta at) i registry (map delta registry)) ∙ ap (λ (l : List RegistryEntry). slice_get l i) (sym c.loop-i.invariant.registry) ∙ here in
    let within : i < length registry = omega (arith, length-zip_until (with_delta at) i registry (map delta registry), ap length c.loop-i.invariant.registry) in
    record {
      registry =
          ap (λ (l : List RegistryEntry). slice_set l i c.apply_next.new.entry) c.loop-i.invariant.registry
          ∙ ap (slice_set (zip_until (with_delta at) i registry (map delta registry)) i) (c.in-Ok.ensures.ok ∙ ap (λ (s : RegistryEntry). with_delta at s (delta s)) (sym c.index-registry-i.is))
          ∙ zip_until-next (with_delta at) i registry (map delta registry) entry (delta entry) was (get-map delta registry i entry was);
      capacity = let more = c.in-Ok.ensures.capacity in let capacity = c.loop-i.invariant.capacity in omega arith;
      deltas =
          c.in-Ok.ensures.deltas
          ∙ ap (λ (s : RegistryEntry). c.loop-i.deltas.items ++ delta s ∷ []) (sym c.index-registry-i.is ∙ sym (get_or_from_slice_get registry i entry None was))
          ∙ ap (λ (l : List (Option Delta)). l ++ delta (get_or registry i None) ∷ []) c.loop-i.invariant.deltas
          ∙ sym (map_more delta registry i None within);
    }

pub undo_first-requires-clause-may : goal.undo_first-requires-clause-may
undo_first-requires-clause-may g c =
    let at = c.args.place / c.args.size in
    let gives = row_gives (g.R.LendCells.cells c.args.row.now) in
    let delta = row_delta c.args.size c.args.place gives in
    let registry = c.args.registry.now in
    let i = c.loop-i.i in
    let entry = c.index-registry-i.result in
    let here = slice_get_read c.loop-i.registry _ i entry refl (omega arith) c.index-registry-i.is in
    let within : i < length registry = omega (arith, length-zip_until (with_delta at) i registry (map delta registry), ap length c.loop-i.invariant.registry) in
    let same = ap (slice_set c.loop-i.registry i) (c.in-Err.ensures.err ∙ sym c.index-registry-i.is) ∙ set_same c.loop-i.registry i entry here ∙ c.loop-i.invariant.registry in
    let may = next-may_undo c.args.size c.args.place gives registry c.requires.folds c.requires.reserved i within c.apply_next.new.deltas.items (c.in-Err.ensures.before ∙ c.loop-i.invariant.deltas) in
    subst (λ n. EachMayUndo n i (slice_set c.loop-i.registry i c.apply_next.new.entry) c.as_slice.result.now) (sym c.requires.group)
    (subst (λ (l : List RegistryEntry). EachMayUndo at i l c.as_slice.result.now) (sym same) (subst (λ (l : List (Option Delta)). EachMayUndo at i (zip_until (with_delta at) i registry (map delta registry)) l) (sym c.as_slice.ensures.value) may))

pub returns-in-Err-clause-err : goal.returns-in-Err-clause-err
returns-in-Err-clause-err g c =
    let at = c.args.place / c.args.size in
    let gives = row_gives (g.R.LendCells.cells c.args.row.now) in
    let delta = row_delta c.args.size c.args.place gives in
    let registry = c.args.registry.now in
    let i = c.loop-i.i in
    let entry = c.index-registry-i.result in
    let here = slice_get_read c.loop-i.registry _ i entry refl (omega arith) c.index-registry-i.is in
    let within : i < length registry = omega (arith, length-zip_until (with_delta at) i registry (map delta registry), ap length c.loop-i.invariant.registry) in
    let same = ap (slice_set c.loop-i.registry i) (c.in-Err.ensures.err ∙ sym c.index-registry-i.is) ∙ set_same c.loop-i.registry i entry here ∙ c.loop-i.invariant.registry in
    c.undo_first.ensures
    ∙ ap (λ n. zip_until (undo n) i (slice_set c.loop-i.registry i c.apply_next.new.entry) c.as_slice.result.now) c.requires.group
    ∙ ap (λ (l : List RegistryEntry). zip_until (undo at) i l c.as_slice.result.now) same
    ∙ ap (zip_until (undo at) i (zip_until (with_delta at) i registry (map delta registry))) c.as_slice.ensures.value
    ∙ next-undone c.args.size c.args.place gives registry c.requires.folds c.requires.reserved i within c.apply_next.new.deltas.items (c.in-Err.ensures.before ∙ c.loop-i.invariant.deltas)

pub returns-clause-ok : goal.returns-clause-ok
returns-clause-ok g c =
    let at = c.args.place / c.args.size in
    let delta = row_delta c.args.size c.args.place (row_gives (g.R.LendCells.cells c.args.row.now)) in
    let registry = c.args.registry.now in
    let all = length-zip_until (with_delta at) c.loop-i.i registry (map delta registry) in
    c.loop-i.invariant.registry ∙ zip_until-all (with_delta at) c.loop-i.i registry (map delta registry) (omega (arith, all, ap length c.loop-i.invariant.registry))

pub returns-clause-may_undo : goal.returns-clause-may_undo
returns-clause-may_undo g c =
    let at = c.args.place / c.args.size in
    let gives = row_gives (g.R.LendCells.cells c.args.row.now) in
    let delta = row_delta c.args.size c.args.place gives in
    let registry = c.args.registry.now in
    let many : length registry ≤ c.loop-i.i = omega (arith, length-zip_until (with_delta at) c.loop-i.i registry (map delta registry), ap length c.loop-i.invariant.registry) in
    let is = c.loop-i.invariant.deltas ∙ ap (map delta) (take_all c.loop-i.i registry many) in
    let applied = c.loop-i.invariant.registry ∙ zip_until-all (with_delta at) c.loop-i.i registry (map delta registry) many ∙ ap (zip_all (with_delta at) registry) (sym is) in
    applied-may_undo c.args.size c.args.place gives registry c.loop-i.registry c.loop-i.deltas.items is applied c.requires.folds c.requires.reserved

pub returns-clause-undo : goal.returns-clause-undo
returns-clause-undo g c =
    let at = c.args.place / c.args.size in
    let gives = row_gives (g.R.LendCells.cells c.args.row.now) in
    let delta = row_delta c.args.size c.args.place gives in
    let registry = c.args.registry.now in
    let many : length registry ≤ c.loop-i.i = omega (arith, length-zip_until (with_delta at) c.loop-i.i registry (map delta registry), ap length c.loop-i.invariant.registry) in
    let is = c.loop-i.invariant.deltas ∙ ap (map delta) (take_all c.loop-i.i registry many) in
    let applied = c.loop-i.invariant.registry ∙ zip_until-all (with_delta at) c.loop-i.i registry (map delta registry) many ∙ ap (zip_all (with_delta at) registry) (sym is) in
    applied-undone c.args.size c.args.place gives registry c.loop-i.registry c.loop-i.deltas.items is applied c.requires.folds c.requires.reserved
