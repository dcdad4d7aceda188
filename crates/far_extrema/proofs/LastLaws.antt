-- One row group apart from the others.
use Rattle.std.proofs.Common.{ℕ, ◌∷◌, refl, Option, None, Some}
use Rattle.std.specs.Prelude.{ℤ}
use Rattle.far_types.specs.Effects.{join_min_maxes, merge_two}
use Rattle.far_extrema.specs.Spreads.{MinMaxes, IsTopOf}
use Rattle.far_extrema.specs.Runs.{with_last, value_of, IsApart}
use Rattle.far_extrema.proofs.RunsLaws.{top_added}

pub top_with_last : (last : Option (ℕ × (ℤ × ℤ))) (mm : MinMaxes) (top : Option (ℤ × ℤ)) → IsApart last mm → IsTopOf mm top → IsTopOf (with_last last mm) (merge_two join_min_maxes top (value_of last))
top_with_last None mm None a t = t
top_with_last None mm (Some x) a t = t
top_with_last (Some l) mm top a t = top_added mm (l ∷ mm) l.0 l.1 top a (λ q. refl) t
