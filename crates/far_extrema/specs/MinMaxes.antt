-- How extrema change when the min-max under a key changes.
use Rattle.std.specs.Prelude.{ℤ, List, Option, None, Some}
use Rattle.std.specs.Option.{option_map_or}
use Rattle.std.specs.FinMap as fin
use Rattle.far_types.specs.declared.key.Key.{Key}
use Rattle.far_types.specs.Answers.{Extrema}
use Rattle.far_types.specs.Effects.{join_min_maxes}

-- the extrema from entries
abbrev pub extrema_of : List (Option Key × (ℤ × ℤ)) → Extrema
extrema_of entries = fin.from_entries entries

-- extrema with a min-max joined to the one under a key
abbrev pub with_min_max : Extrema → Option Key → ℤ × ℤ → Extrema
with_min_max extrema key more = fin.insert extrema key
    (option_map_or (λ min_max. join_min_maxes min_max more) (fin.get extrema key) more)

-- extrema with this min-max under a key: None removes the key
abbrev pub put_min_max : Extrema → Option Key → Option (ℤ × ℤ) → Extrema
put_min_max extrema key None = fin.remove extrema key
put_min_max extrema key (Some min_max) = fin.insert extrema key min_max
