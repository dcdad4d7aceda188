-- The refusal of lending every place, in a user's words.
use Rattle.std.proofs.Common.{◌≡◌, ℕ, zero, suc, ◌+◌, ◌++◌, true, List, refl, ap}
use Rattle.std.specs.List.{flat_map, range_with_len}
use Rattle.far_types.specs.FirstOf.{first_of}
use Rattle.far_table.specs.Watching.{group_count}
use Rattle.far_frame.specs.State.{State, live}
use Rattle.far_frame.specs.TableRefusals.{TableState, all_away, any_away}
use Rattle.far_frame.specs.TableViews.{table_of, IsKept}
use Rattle.far_frame.specs.Views.{absents_of, away}
use Rattle.far_frame.proofs.TableDue.{absents-are}

module _ {K : Type 0} (content : K → List ℕ) (s : State K) (kept : IsKept content s) where
  abbrev seen : TableState
  seen = table_of s

  groups-from : (g count : ℕ) → absents_of s.rows g count ≡ flat_map (any_away seen (λ c. true)) (range_with_len g count)
  groups-from g zero = refl
  groups-from g (suc count) = λ i. absents-are content s kept g i ++ groups-from (g + 1) count i

  -- the first chunk that is away
  pub all-due : away (live s) ≡ first_of (all_away seen)
  all-due = ap first_of (groups-from 0 (group_count s.table))
