use Rattle.std.proofs.Common.{◌≡◌, ℤ, sym, ap, ◌∙◌}
use Rattle.std.proofs.lemmas.Bool.{false≢true}
use Rattle.far_types.specs.declared.cell.Cell.TheVariants as cell
use Rattle.far_types.specs.declared.cell.Cell.TheVariants.{Missing}
use Rattle.far_types.specs.Lent.{int_cell}
use Rattle.far_offload.proofs.LentCells.{int_here}
use Rattle.far_offload.proofs.under.LentIntsNumberKeys.is_at.Goals as goal

no_number : (n : ℤ) → Missing ≡ cell.Int n → ⊥
no_number n h = cc

pub returns-in-None : goal.returns-in-None
returns-in-None c =
    let missing = int_here c.args.self.now c.args.place ∙ ap int_cell (sym c.in-None.ensures.number) in
    (λ f. absurd (false≢true f), λ is. absurd (no_number c.args.number.now (sym missing ∙ is)))
