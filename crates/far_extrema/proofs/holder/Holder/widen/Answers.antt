use Rattle.std.proofs.Common.{◌≡◌, refl, sym, subst, Some}
use Rattle.std.specs.Prelude.{ℤ, ◌≤ℤ◌}
use Rattle.std.proofs.lemmas.Int.{to_z-of_z}
use Rattle.far_types.specs.Effects.{min_max_with}
use Rattle.far_extrema.specs.Spreads.{IsSet}
use Rattle.far_extrema.proofs.HoldersLaws.{widened_within}
use Rattle.far_extrema.proofs.SpreadsLaws.{put-again}
use Rattle.far_extrema.proofs.holder.Holder.widen.Goals as goal

pub returns-then-is_within-clause-min_maxes : goal.returns-then-is_within-clause-min_maxes
returns-then-is_within-clause-min_maxes c =
    let fits = c.ranges.value in
    let min_maxes = c.args.self.now.min_maxes in
    let within : (c.args.previous.0 ≤ℤ c.args.value) × (c.args.value ≤ℤ c.args.previous.1) = simp to_z-of_z at c.if-is_within.ensures.0 refl in
    subst (λ (x : ℤ × ℤ). IsSet min_maxes c.args.group (Some x) min_maxes) (sym (widened_within c.args.value c.args.previous within.0 within.1)) (put-again min_maxes c.args.group c.args.previous c.requires)

pub returns-clause-min_maxes : goal.returns-clause-min_maxes
returns-clause-min_maxes c =
    let fits = c.ranges.value in
    let joined : c.with.result ≡ min_max_with c.args.value (Some c.args.previous) = simp to_z-of_z at c.with.ensures in
    subst (λ (x : ℤ × ℤ). IsSet c.args.self.now.min_maxes c.args.group (Some x) c.put.new.self.min_maxes) joined c.put.ensures.min_maxes
