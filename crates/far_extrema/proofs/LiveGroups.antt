-- The joined extrema of row groups are the extrema of all their pairs.
use Rattle.std.proofs.Common.{◌≡◌, ℕ, zero, suc, ◌≤◌, length, arith, refl, List, [], ◌∷◌, ◌++◌, map, sym, ap, ◌∙◌}
use Rattle.std.specs.Prelude.{fold}
use Rattle.std.specs.List.{flat_map}
use Rattle.std.proofs.lemmas.List.{append-nil, append_assoc}
use Rattle.far_types.specs.Pairs.{Pair}
use Rattle.std.specs.FinMap as fin
use Rattle.far_types.specs.Answers.{Extrema, extrema}
use Rattle.far_types.specs.Effects.{joined_extrema}
use Rattle.far_types.proofs.EffectsLaws.{extrema-append}
use Rattle.far_extrema.specs.Live.{all_groups, group_at}

-- joining row groups to the extrema of some pairs
joined_on : (ps : List Pair) (groups : List (List Pair)) → fold joined_extrema (extrema ps) (map extrema groups) ≡ extrema (ps ++ flat_map (λ (pairs : List Pair). pairs) groups)
joined_on ps [] = ap extrema (sym (append-nil ps))
joined_on ps (qs ∷ groups) =
    ap (λ m. fold joined_extrema m (map extrema groups)) (sym (extrema-append ps qs))
    ∙ joined_on (ps ++ qs) groups
    ∙ ap extrema (append_assoc ps qs (flat_map (λ (pairs : List Pair). pairs) groups))

pub all_groups-extrema : (groups : List (List Pair)) → all_groups (map extrema groups) ≡ extrema (flat_map (λ pairs. pairs) groups)
all_groups-extrema groups = joined_on [] groups

-- a row group that is not reserved has no rows
pub past_reserved : (groups : List Extrema) (group : ℕ) → length groups ≤ group → group_at groups group ≡ fin.empty
past_reserved [] group h = refl
past_reserved (extrema ∷ groups) zero h = absurd (omega arith)
past_reserved (extrema ∷ groups) (suc group) h = past_reserved groups group (omega arith)
