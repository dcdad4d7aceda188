-- Refusals in their order.
use Rattle.std.specs.Prelude.{Bool, cond, List, [], ◌∷◌, Option, None, Some}
use Rattle.far_types.specs.declared.refusal.Refusal.{Refusal}

-- the first refusal whose condition holds
abbrev pub first_of : List (Bool × Refusal) → Option Refusal
first_of [] = None
first_of (case ∷ cases) = cond case.0 (Some case.1) (first_of cases)
