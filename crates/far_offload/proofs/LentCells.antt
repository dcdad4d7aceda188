-- The cell at a place, given the value there.
use Rattle.std.proofs.Common.{◌≡◌, ℕ, zero, suc, ℤ, List, [], ◌∷◌, map, get_or, Option, refl}
use Rattle.std.specs.Prelude.{slice_get}
use Rattle.std.specs.Option.{option_and_then}
use Rattle.far_types.specs.declared.cell.Cell.TheVariants.{Missing}
use Rattle.far_types.specs.Lent.{int_cell, text_cell}

pub int_here : (numbers : List (Option ℤ)) (place : ℕ) → get_or (map int_cell numbers) place Missing ≡ int_cell (option_and_then (λ number. number) (slice_get numbers place))
int_here [] place = refl
int_here (number ∷ numbers) zero = refl
int_here (number ∷ numbers) (suc place) = int_here numbers place

pub text_here : (texts : List (Option (List ℕ))) (place : ℕ) → get_or (map text_cell texts) place Missing ≡ text_cell (option_and_then (λ text. text) (slice_get texts place))
text_here [] place = refl
text_here (text ∷ texts) zero = refl
text_here (text ∷ texts) (suc place) = text_here texts place
