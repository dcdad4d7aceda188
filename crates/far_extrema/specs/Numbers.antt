-- The holdings of numbers: a tree has the numbers below 0, a list has the numbers from 0 on, and another tree has the numbers above it.
-- Internal: no public contract cites it.
use Rattle.std.specs.Prelude.{◌≡◌, ◌==◌, ◌≤◌, ℕ, suc, ℤ, pos, ◌<ℤ◌, List, [], ◌∷◌, ◌++◌, length, slice_get, cond, false, Option, None, Some}
use Rattle.std.specs.Coded.{Coded, coded×, coded_ℤ, coded_list}
use Rattle.std.specs.Map.{lookup}
use Rattle.std.specs.Ordering.{int_cmp}
use Rattle.std.specs.BTreeMap.{is_at}
use Rattle.far_extrema.specs.Holders.{Holding, coded_holding, AreLike, AreCleared}
use Rattle.far_extrema.specs.Entries.{Entries, numbered}

-- numbers with their holdings
abbrev pub Numbers : Type 0
Numbers = List (ℤ × Holding)

-- the code of numbers with their holdings
abbrev pub coded_numbers : Coded Numbers
coded_numbers = coded_list (coded× coded_ℤ coded_holding)

-- the holding of a number
abbrev pub number_at : Numbers → ℤ → Option Holding
number_at numbers n = lookup (is_at (int_cmp n)) numbers

-- the numbers of a list with their holdings, if the list begins with this number
abbrev pub placed : ℕ → List Holding → Numbers
placed first [] = []
placed first (holding ∷ holdings) = (pos first, holding) ∷ placed (suc first) holdings

-- the numbers of a list from 0 on with their holdings, as entries by key
abbrev pub of_places : List Holding → Entries
of_places holdings = numbered (placed 0 holdings)

-- the numbers of both trees and the list with their holdings, ascending
abbrev pub numbers_in : Numbers → List Holding → Numbers → Numbers
numbers_in below small above = below ++ (placed 0 small ++ above)

-- whether no number is in two of the three: the two trees and the list
pub record AreApart (below : Numbers) (small : List Holding) (above : Numbers) : Type 0 where
  pub under : (k : ℕ) → number_at below (pos k) ≡ None
  pub few : length small ≤ 2048
  pub over : (n : ℤ) → n <ℤ pos 2048 → number_at above n ≡ None

-- whether a number has this holding, or none, and all other numbers are unchanged
abbrev pub IsSetAt : Numbers → ℤ → Option Holding → Numbers → Type 0
IsSetAt old n o new = (m : ℤ)
    → number_at new m ≡ cond (is_at (int_cmp n) m) o (number_at old m)

-- whether all numbers but this one are unchanged
abbrev pub KeepsOtherNumbers : Numbers → ℤ → Numbers → Type 0
KeepsOtherNumbers old n new = (m : ℤ) → is_at (int_cmp n) m ≡ false
    → number_at new m ≡ number_at old m

-- whether a number has this holding, or none, and all other numbers are unchanged, up to vacant holdings
abbrev pub IsNumberPut : Numbers → ℤ → Option Holding → Numbers → Type 0
IsNumberPut old n o new = (m : ℤ)
    → AreLike (cond (is_at (int_cmp n) m) o (number_at old m)) (number_at new m)

-- whether all numbers are unchanged, up to vacant holdings
abbrev pub AreNumbersLike : Numbers → Numbers → Type 0
AreNumbersLike old new = (m : ℤ) → AreLike (number_at old m) (number_at new m)

-- whether a row group is removed from all numbers
abbrev pub AreNumbersCleared : ℕ → Numbers → Numbers → Type 0
AreNumbersCleared group old new = (m : ℤ) → AreCleared group (number_at old m) (number_at new m)

-- whether a place of a list has this holding, and all other places are unchanged, up to vacant holdings
abbrev pub IsPlacePut : List Holding → ℕ → Holding → List Holding → Type 0
IsPlacePut old place holding new = (k : ℕ)
    → AreLike (cond (k == place) (Some holding) (slice_get old k)) (slice_get new k)

-- whether all places are unchanged, up to vacant holdings
abbrev pub ArePlacesLike : List Holding → List Holding → Type 0
ArePlacesLike old new = (k : ℕ) → AreLike (slice_get old k) (slice_get new k)

-- whether a row group is removed from all places
abbrev pub ArePlacesCleared : ℕ → List Holding → List Holding → Type 0
ArePlacesCleared group old new = (k : ℕ) → AreCleared group (slice_get old k) (slice_get new k)

-- whether no number without a holding gets one
abbrev pub HasNoNewNumber : Numbers → Numbers → Type 0
HasNoNewNumber old new = (m : ℤ) → number_at old m ≡ None → number_at new m ≡ None
