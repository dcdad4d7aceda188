-- The extrema of one key, with one more place.
use Rattle.std.proofs.Common.{◌≡◌, ℕ, ◌+◌, ◌<◌, Bool, true, false, cond, List, [], ◌++◌, length, get_or, map, take, Option, None, Some, refl, sym, ap, ◌∙◌}
use Rattle.std.specs.Prelude.{ℤ, option_map}
use Rattle.std.specs.FinMap as fin
use Rattle.std.specs.List.{cons_option}
use Rattle.std.specs.Option.{option_and_then}
use Rattle.std.specs.Ordering.{eq_by_cmp}
use Rattle.std.proofs.lemmas.List.{append-nil}
use Rattle.far_types.specs.declared.cell.Cell.{Cell}
use Rattle.far_types.specs.declared.cell.Cell.TheVariants as cell
use Rattle.far_types.specs.declared.cell.Cell.TheVariants.{Missing}
use Rattle.far_types.specs.declared.key.Key.{Key}
use Rattle.far_types.specs.declared.key.Key.TheVariants as keys
use Rattle.far_types.specs.declared.spec.Spec.{Spec}
use Rattle.far_types.specs.Cells.{key_in}
use Rattle.far_types.specs.Lent.{int_cell}
use Rattle.far_types.specs.Keys.{line_cmp}
use Rattle.far_types.specs.KeyOrder.{line_total}
use Rattle.far_types.specs.Pairs.{Pair, key_under}
use Rattle.far_types.specs.Answers.{Extrema, extrema}
use Rattle.far_types.specs.Effects.{min_max_with, with_observed}
use Rattle.far_types.proofs.AnswersGrouping.{same_key}
use Rattle.far_types.proofs.AnswersByKeyMaps.{get_inserted}
use Rattle.far_offload.specs.Columns.{Columns, column_of, cell_of, cells_at, AreKeys}
use Rattle.far_offload.specs.Partials.{pairs_over, value_at, IsWithin}
use Rattle.far_offload.proofs.PartialsLaws.{extrema-more, within-unchanged, pair-is, pairs-next, pairs-valueless}

-- a pair with another key does not change this key's extrema
elsewhere : (m : Extrema) (pair : Pair) (key : Option Key) → (pair.0 ≡ key → ⊥) → fin.get (with_observed m pair) key ≡ fin.get m key
elsewhere m pair key h =
    fin.get-insert line_total m pair.0 (min_max_with pair.1 (fin.get m pair.0)) key
    ∙ elim (eq_by_cmp line_cmp key pair.0) as (λ b. eq_by_cmp line_cmp key pair.0 ≡ b → cond b (Some (min_max_with pair.1 (fin.get m pair.0))) (fin.get m key) ≡ fin.get m key) [
      | true ↦ λ e. absurd (h (sym (same_key key pair.0 e)))
      | false ↦ λ e. refl
    ] refl

not-under : (pairs : List Pair) (key : Option Key) (under : Option (Option Key)) (value : Option ℤ) → (under ≡ Some key → ⊥) → fin.get (extrema (pairs ++ cons_option (option_and_then {U = Pair} (λ v. option_map (λ k. (k, v)) under) value) [])) key ≡ fin.get (extrema pairs) key
not-under pairs key under None h = ap (λ l. fin.get (extrema l) key) (append-nil pairs)
not-under pairs key None (Some v) h = ap (λ l. fin.get (extrema l) key) (append-nil pairs)
not-under pairs key (Some k) (Some v) h = ap (λ m. fin.get m key) (extrema-more pairs (k, v)) ∙ elsewhere (extrema pairs) (k, v) key (λ e. h (ap Some e))

module _ (spec : Spec) (columns : Columns) (flags : List Bool) (i : ℕ) (flag : Bool) (key : Option Key) (within : i < length flags) (is : get_or flags i false ≡ flag) where
  abbrev pairs : List Pair
  pairs = pairs_over spec columns (take i flags)

  abbrev there : Option Pair
  there = option_and_then {U = Pair} (λ v. option_map (λ k. (k, v)) (key_under spec.key (cells_at columns i))) (value_at spec columns (i, flag))

  next : pairs_over spec columns (take (i + 1) flags) ≡ pairs ++ cons_option there []
  next = pairs-next spec columns flags i flag there within is (pair-is spec columns (i, flag))

  -- a place with another key, or without one
  pub min_max-elsewhere : (key_under spec.key (cells_at columns i) ≡ Some key → ⊥) → fin.get (extrema (pairs_over spec columns (take (i + 1) flags))) key ≡ fin.get (extrema pairs) key
  min_max-elsewhere h = ap (λ l. fin.get (extrema l) key) next ∙ not-under pairs key (key_under spec.key (cells_at columns i)) (value_at spec columns (i, flag)) h

  -- a place with the key and a value
  pub min_max-there : (value : ℤ) → key_under spec.key (cells_at columns i) ≡ Some key → Some value ≡ value_at spec columns (i, flag) → fin.get (extrema (pairs_over spec columns (take (i + 1) flags))) key ≡ Some (min_max_with value (fin.get (extrema pairs) key))
  min_max-there value under has =
      ap (λ l. fin.get (extrema l) key) next
      ∙ ap (λ (o : Option ℤ). fin.get (extrema (pairs ++ cons_option (option_and_then {U = Pair} (λ v. option_map (λ k. (k, v)) (key_under spec.key (cells_at columns i))) o) [])) key) (sym has)
      ∙ ap (λ (u : Option (Option Key)). fin.get (extrema (pairs ++ cons_option (option_map {U = Pair} (λ k. (k, value)) u) [])) key) under
      ∙ ap (λ m. fin.get m key) (extrema-more pairs (key, value))
      ∙ get_inserted (extrema pairs) key (min_max_with value (fin.get (extrema pairs) key))

  -- a place with the key, whose value is missing or within the extrema
  pub min_max-within : (min_max : Option (ℤ × ℤ)) → min_max ≡ fin.get (extrema pairs) key → key_under spec.key (cells_at columns i) ≡ Some key → IsWithin min_max (value_at spec columns (i, flag)) → fin.get (extrema (pairs_over spec columns (take (i + 1) flags))) key ≡ fin.get (extrema pairs) key
  min_max-within min_max before under = elim (value_at spec columns (i, flag)) as (λ (o : Option ℤ). o ≡ value_at spec columns (i, flag) → IsWithin min_max o → fin.get (extrema (pairs_over spec columns (take (i + 1) flags))) key ≡ fin.get (extrema pairs) key) [
    | None ↦ λ e h. ap (λ l. fin.get (extrema l) key) (pairs-valueless spec columns flags i flag within is e)
    | Some value ↦ λ e h. min_max-there value under e ∙ within-unchanged value min_max (fin.get (extrema pairs) key) before h
  ] refl

-- a cell whose key is a number is that number
number_key : (c : Cell) (n : ℤ) → option_map {U = Option Key} Some (key_in (Some c)) ≡ Some (Some (keys.Int n)) → c ≡ cell.Int n
number_key (cell.Int m) n h = cc
number_key (cell.Text t) n h = cc
number_key Missing n h = cc

under_column : (key : Option ℕ) (columns : Columns) (place : ℕ) (column : ℕ × List Cell) → option_and_then (column_of columns) key ≡ Some column → key_under key (cells_at columns place) ≡ option_map Some (key_in (Some (cell_of place column)))
under_column None columns place column h = cc
under_column (Some k) columns place column h = ap (λ (o : Option (ℕ × List Cell)). option_map Some (key_in (option_map (cell_of place) o))) h

-- a place has a number as its key exactly if the key column has the number there
pub number_under : (spec : Spec) (columns : Columns) (numbers : List (Option ℤ)) (place : ℕ) (n : ℤ) → AreKeys columns spec.key numbers → (get_or (map int_cell numbers) place Missing ≡ cell.Int n → key_under spec.key (cells_at columns place) ≡ Some (Some (keys.Int n))) × (key_under spec.key (cells_at columns place) ≡ Some (Some (keys.Int n)) → get_or (map int_cell numbers) place Missing ≡ cell.Int n)
number_under spec columns numbers place n are =
    let column = are.0 in
    let under = under_column spec.key columns place column are.1 in
    let here : cell_of place column ≡ get_or (map int_cell numbers) place Missing = ap (λ (cells : List Cell). get_or cells place Missing) are.2 in (
      λ is. under ∙ ap (λ (c : Cell). option_map {U = Option Key} Some (key_in (Some c))) (here ∙ is),
      λ there. sym here ∙ number_key (cell_of place column) n (sym under ∙ there),
    )
