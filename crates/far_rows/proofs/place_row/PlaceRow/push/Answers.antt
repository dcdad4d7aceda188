use Rattle.std.proofs.Common.{◌∙◌, ◌<◌, ◌++◌, ◌∷◌, [], length, ap, arith}
use Rattle.std.proofs.lemmas.List.{length-set}
use Rattle.far_rows.specs.PlaceRows.{place_cell}
use Rattle.far_types.proofs.LentLaws.{shown-more, length-shown}
use Rattle.far_rows.proofs.place_row.PlaceRow.push.Goals as goal

pub bounds-self-inside-self-inside : goal.bounds-self-inside-self-inside
bounds-self-inside-self-inside c =
    omega (arith, c.requires, ap length c.self.view_is, length-shown place_cell c.self.inside.cells c.self.inside.width (omega (arith, c.self.invariant.0, c.self.invariant.1)))

pub invariant_of-self : goal.invariant_of-self
invariant_of-self c =
    let lt : c.self.inside.width < 16 = omega (arith, c.requires, ap length c.self.view_is, length-shown place_cell c.self.inside.cells c.self.inside.width (omega (arith, c.self.invariant.0, c.self.invariant.1))) in
    (omega (arith, lt), length-set c.self.inside.cells c.self.inside.width c.args.cell ∙ c.self.invariant.1)

pub returns : goal.returns
returns c =
    let lt : c.self.inside.width < 16 = omega (arith, c.requires, ap length c.self.view_is, length-shown place_cell c.self.inside.cells c.self.inside.width (omega (arith, c.self.invariant.0, c.self.invariant.1))) in
    shown-more place_cell c.self.inside.cells c.self.inside.width c.args.cell (omega (arith, lt, c.self.invariant.1))
    ∙ ap (λ row. row ++ place_cell c.args.cell ∷ []) c.self.view_is
