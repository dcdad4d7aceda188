use Rattle.std.proofs.Common.{subst, Option, Some}
use Rattle.std.specs.Prelude.{ℤ}
use Rattle.std.proofs.lemmas.Int.{to_z-of_z}
use Rattle.far_types.specs.Effects.{min_max_with}
use Rattle.far_extrema.specs.Spreads.{IsSet}
use Rattle.far_extrema.proofs.holder.Holder.observe.Goals as goal

pub returns-in-Some-clause-ok : goal.returns-in-Some-clause-ok
returns-in-Some-clause-ok c =
    let fits = c.ranges.value in
    subst (λ (o : Option (ℤ × ℤ)). IsSet c.args.self.now.min_maxes c.args.group (Some (min_max_with c.args.value o)) c.widen.new.self.min_maxes) c.in-Some.ensures (simp to_z-of_z at c.widen.ensures.min_maxes)

pub returns-in_ok-add-in-None-clause-ok : goal.returns-in_ok-add-in-None-clause-ok
returns-in_ok-add-in-None-clause-ok c =
    let fits = c.ranges.value in
    subst (λ (o : Option (ℤ × ℤ)). IsSet c.args.self.now.min_maxes c.args.group (Some (min_max_with c.args.value o)) c.add.new.self.min_maxes) c.in-None.ensures
    (subst (λ (x : ℤ × ℤ). IsSet c.args.self.now.min_maxes c.args.group (Some x) c.add.new.self.min_maxes) (simp to_z-of_z at c.of.ensures) c.in_ok-add-in-None.ensures.ok)
