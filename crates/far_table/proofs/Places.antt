-- The places of a table, from its columns and flags.
use Rattle.std.proofs.Common.{◌≡◌, ℕ, zero, suc, ◌+◌, Bool, List, [], ◌∷◌, map, length, Option, None, Some, refl, sym, ap, ◌∙◌, arith}
use Rattle.std.specs.Prelude.{option_map, slice_get}
use Rattle.std.specs.List.{enumerate_from}
use Rattle.std.proofs.lemmas.List.{length-map}
use Rattle.std.proofs.lemmas.List.FromFn.{length-enumerate_from}
use Rattle.far_types.specs.declared.cell.Cell.{Cell}
use Rattle.far_types.specs.Table.{Place}
use Rattle.far_rows.specs.Places.{row_at, places_of}

pub length-places : (columns : List (List Cell)) (flags : List Bool) → length (places_of columns flags) ≡ length flags
length-places columns flags = length-map (enumerate_from 0 flags) (λ (at : ℕ × Bool). record { cells = row_at columns at.0; alive = at.1 }) ∙ length-enumerate_from 0 flags

abbrev placed : (ℕ → List Cell) → ℕ → List Bool → List Place
placed rows n flags = map (λ (at : ℕ × Bool). record { cells = rows at.0; alive = at.1 }) (enumerate_from n flags)

placed-get : (f : ℕ → List Cell) (n p : ℕ) (flags : List Bool) → slice_get (placed f n flags) p ≡ option_map (λ flag. record { cells = f (n + p); alive = flag }) (slice_get flags p)
placed-get f n p [] = refl
placed-get f n zero (flag ∷ flags) = let e : n ≡ n + 0 = omega arith in λ i. Some (record { cells = f (e i); alive = flag })
placed-get f n (suc p) (flag ∷ flags) =
    let e : n + 1 + p ≡ n + suc p = omega arith in
    placed-get f (n + 1) p flags ∙ (λ i. option_map (λ b. record { cells = f (e i); alive = b }) (slice_get flags p))

-- place p has flag p and row p
pub place-get : (columns : List (List Cell)) (flags : List Bool) (p : ℕ) → slice_get (places_of columns flags) p ≡ option_map (λ flag. record { cells = row_at columns p; alive = flag }) (slice_get flags p)
place-get columns flags p = let e : 0 + p ≡ p = omega arith in placed-get (row_at columns) 0 p flags ∙ (λ i. option_map (λ b. record { cells = row_at columns (e i); alive = b }) (slice_get flags p))

back : (row : List Cell) (flag : Option Bool) → option_map (λ (place : Place). place.alive) (option_map (λ b. record { cells = row; alive = b }) flag) ≡ flag
back row None = refl
back row (Some b) = refl

pub alive-get : (columns : List (List Cell)) (flags : List Bool) (p : ℕ) → option_map (λ (place : Place). place.alive) (slice_get (places_of columns flags) p) ≡ slice_get flags p
alive-get columns flags p = ap (option_map (λ (place : Place). place.alive)) (place-get columns flags p) ∙ back (row_at columns p) (slice_get flags p)

pub cells-get : (columns : List (List Cell)) (flags : List Bool) (p : ℕ) (flag : Bool) → slice_get flags p ≡ Some flag → option_map (λ (place : Place). place.cells) (slice_get (places_of columns flags) p) ≡ Some (row_at columns p)
cells-get columns flags p flag at = ap (option_map (λ (place : Place). place.cells)) (place-get columns flags p ∙ ap (option_map (λ b. record { cells = row_at columns p; alive = b })) at)

-- a place that exists has its flag
pub flag-there : (columns : List (List Cell)) (flags : List Bool) (p : ℕ) (place : Place) → slice_get (places_of columns flags) p ≡ Some place → slice_get flags p ≡ Some place.alive
flag-there columns flags p place at = sym (alive-get columns flags p) ∙ ap (option_map (λ (q : Place). q.alive)) at
