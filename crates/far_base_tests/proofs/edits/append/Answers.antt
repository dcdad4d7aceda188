use Rattle.std.proofs.Common.{◌≡◌, ◌≤◌, ◌+◌, ◌^◌, ◌++◌, ◌∷◌, [], List, FitsSigned, pos, length, true, refl, sym, ap, ◌∙◌, subst, arith, rules, length-append}
use Rattle.std.specs.Int.{w64}
use Rattle.far_types.specs.declared.cell.Cell.{Cell}
use Rattle.far_types.specs.declared.cell.Cell.TheVariants as cell
use Rattle.far_types.specs.Cells.{RowFits}
use Rattle.far_types.specs.Table.{Place}
use Rattle.far_aggregates.specs.Accumulators.{RegistryEntry, PlacesFit}
use Rattle.far_aggregates.specs.Pending.{AreUpToDate}
use Rattle.far_base_tests.proofs.edits.append.Goals as goal

fit_more : (places : List Place) (place : Place) → PlacesFit places → RowFits place.cells → PlacesFit (places ++ place ∷ [])
fit_more [] place h fits = (fits, tt)
fit_more (first ∷ places) place h fits = (h.0, fit_more places place h.1 fits)

fits_five : FitsSigned w64 (pos 5)
fits_five = search rules

pub returns : goal.returns
returns c =
    let places = c.requires.kept.0 in
    let many = c.requires.kept.1 in
    let kept = c.requires.kept.2 in
    let cells : List Cell = cell.Text c.args.sale.now.name.now ∷ cell.Int (pos 5) ∷ [] in
    let place : Place = record { cells = cells; alive = true } in
    let more : length (places ++ place ∷ []) ≡ c.args.place + 1 = length-append places (place ∷ []) ∙ ap (λ n. n + 1) many in
    let few : length (places ++ place ∷ []) ≤ 2 ^ 24 = omega (arith, more, c.requires.few) in
    subst (λ (registry : List RegistryEntry). (all : List Place) × (length all ≡ c.args.place + 1) × AreUpToDate 4 all registry) (sym c.end.ensures.same)
    (places ++ place ∷ [], more, record { kept = c.in_ok-pending.ensures.applied places cells many refl kept.kept; few = few; fit = fit_more places place kept.fit (tt, (fits_five, tt)) })
