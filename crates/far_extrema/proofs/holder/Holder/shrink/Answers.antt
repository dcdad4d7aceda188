use Rattle.std.proofs.Common.{refl, sym, subst, Option}
use Rattle.std.specs.Prelude.{ℤ, ◌<ℤ◌}
use Rattle.std.proofs.lemmas.Int.{to_z-of_z}
use Rattle.far_extrema.specs.Spreads.{at, IsSet}
use Rattle.far_extrema.proofs.MinMaxesRemoval.{left-inside}
use Rattle.far_extrema.proofs.SpreadsLaws.{put-again}
use Rattle.far_extrema.proofs.holder.Holder.shrink.Goals as goal

pub returns-then-is_strictly_within-clause-left : goal.returns-then-is_strictly_within-clause-left
returns-then-is_strictly_within-clause-left g c =
    let fits = c.ranges.value in
    let min_max = c.in-Some.min_max in
    let inside : (min_max.0 <ℤ c.args.value) × (c.args.value <ℤ min_max.1) = simp to_z-of_z at c.if-is_strictly_within.ensures.0 refl in
    left-inside c.args.value (g.R.RowsLeft.extremes c.args.rows.now) (at c.args.self.now.min_maxes c.args.group) min_max c.requires.previous c.in-Some.ensures inside.0 inside.1

pub returns-then-is_strictly_within-clause-min_maxes : goal.returns-then-is_strictly_within-clause-min_maxes
returns-then-is_strictly_within-clause-min_maxes g c =
    let fits = c.ranges.value in
    let min_max = c.in-Some.min_max in
    let min_maxes = c.args.self.now.min_maxes in
    let inside : (min_max.0 <ℤ c.args.value) × (c.args.value <ℤ min_max.1) = simp to_z-of_z at c.if-is_strictly_within.ensures.0 refl in
    let left = left-inside c.args.value (g.R.RowsLeft.extremes c.args.rows.now) (at min_maxes c.args.group) min_max c.requires.previous c.in-Some.ensures inside.0 inside.1 in
    subst (λ (o : Option (ℤ × ℤ)). IsSet min_maxes c.args.group o min_maxes) left (put-again min_maxes c.args.group min_max (sym c.in-Some.ensures))
