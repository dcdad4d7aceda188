-- The pairs of the rows are the pairs that the places contribute.
use Rattle.std.proofs.Common.{◌≡◌, true, false, cond, List, [], ◌∷◌, map, filter, refl, ap, ◌∙◌, None}
use Rattle.std.specs.List.{filter_map, cons_option}
use Rattle.far_types.specs.declared.cell.Cell.{Cell}
use Rattle.far_types.specs.declared.spec.Spec.{Spec}
use Rattle.far_types.specs.Cells.{cells_of}
use Rattle.far_types.specs.Filters.{keeps}
use Rattle.far_types.specs.Pairs.{pair_in, pair_of, pairs_of}
use Rattle.far_types.specs.Table.{Place, rows_of, place_pair}

-- the rows that a filter keeps, in order
abbrev pub kept : Spec → List (List Cell) → List (List Cell)
kept spec rows = filter (λ row. keeps spec.filter (cells_of row)) rows

pairs_of-cons : (spec : Spec) (row : List Cell) (rows : List (List Cell)) → pairs_of spec (row ∷ rows) ≡ cons_option (pair_of spec (cells_of row)) (pairs_of spec rows)
pairs_of-cons spec row rows =
    elim (keeps spec.filter (cells_of row)) as (λ b. filter_map (λ r. pair_in spec (cells_of r)) (cond b (row ∷ kept spec rows) (kept spec rows)) ≡ cons_option (cond b (pair_in spec (cells_of row)) None) (pairs_of spec rows)) [ true ↦ refl | false ↦ refl ]

pub pairs_of-rows : (spec : Spec) (places : List Place) → pairs_of spec (rows_of places) ≡ filter_map (place_pair spec) places
pairs_of-rows spec [] = refl
pairs_of-rows spec (place ∷ places) =
    elim place.alive as (λ b. pairs_of spec (map (λ (p : Place). p.cells) (cond b (place ∷ filter (λ (p : Place). p.alive) places) (filter (λ (p : Place). p.alive) places))) ≡ cons_option (cond b (pair_of spec (cells_of place.cells)) None) (pairs_of spec (rows_of places))) [
      | true ↦ pairs_of-cons spec place.cells (rows_of places)
      | false ↦ refl
    ]
    ∙ ap (cons_option (place_pair spec place)) (pairs_of-rows spec places)
