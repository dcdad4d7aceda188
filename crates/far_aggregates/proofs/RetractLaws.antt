-- Pairs that are retracted only from totals: the result depends on no row.
use Rattle.std.proofs.Common.{◌≡◌, ℕ, suc, List, [], ◌∷◌, refl, ap, None, Some}
use Rattle.far_types.specs.declared.spec.Spec.{Spec}
use Rattle.far_types.specs.Pairs.{Pair}
use Rattle.far_types.specs.Table.{Place}
use Rattle.far_aggregates.specs.declared.aggregate.Accumulator.{Accumulator}
use Rattle.far_aggregates.specs.declared.aggregate.Accumulator.TheVariants as accumulator
use Rattle.far_aggregates.specs.Accumulators.{RegistryEntry, Change}
use Rattle.far_aggregates.specs.Retract.{AccumulatorMayRetract, MayRetract, EachMayRetract, accumulator_less, after_retract, AccumulatorIsPlain, IsPlain, EachIsPlain}
use Rattle.far_aggregates.specs.Until.{zip_all}

module _ (g h : ℕ) (here there : List Place) where
  accumulator-plain_may : (spec : Spec) (k : Accumulator) (pair : Pair) → AccumulatorIsPlain k → AccumulatorMayRetract spec g here k pair → AccumulatorMayRetract spec h there k pair
  accumulator-plain_may spec (accumulator.Totals live) pair plain may = may
  accumulator-plain_may spec (accumulator.Extrema live) pair plain may = absurd plain

  plain_may : (s : RegistryEntry) (c : Change) → IsPlain s c → MayRetract g here s c → MayRetract h there s c
  plain_may None c plain may = tt
  plain_may (Some a) None plain may = tt
  plain_may (Some a) (Some pair) plain may = accumulator-plain_may a.spec a.accumulator pair plain may

  pub each-plain_may : (registry : List RegistryEntry) (cs : List Change) → EachIsPlain registry cs → EachMayRetract g here registry cs → EachMayRetract h there registry cs
  each-plain_may registry cs plain may k s c at is = plain_may s c (plain k s c at is) (may k s c at is)

  accumulator-plain_less : (spec : Spec) (k : Accumulator) (pair : Pair) → AccumulatorIsPlain k → accumulator_less spec g here k pair ≡ accumulator_less spec h there k pair
  accumulator-plain_less spec (accumulator.Totals live) pair plain = refl
  accumulator-plain_less spec (accumulator.Extrema live) pair plain = absurd plain

  plain_retracted : (s : RegistryEntry) (c : Change) → IsPlain s c → after_retract g here s c ≡ after_retract h there s c
  plain_retracted None c plain = refl
  plain_retracted (Some a) None plain = refl
  plain_retracted (Some a) (Some pair) plain = ap (λ (k : Accumulator). Some (record a { accumulator = k })) (accumulator-plain_less a.spec a.accumulator pair plain)

  pub all-plain_retracted : (registry : List RegistryEntry) (cs : List Change) → EachIsPlain registry cs → zip_all (after_retract g here) registry cs ≡ zip_all (after_retract h there) registry cs
  all-plain_retracted [] cs plain = refl
  all-plain_retracted (s ∷ registry) [] plain = refl
  all-plain_retracted (s ∷ registry) (c ∷ cs) plain = λ i. plain_retracted s c (plain 0 s c refl refl) i ∷ all-plain_retracted registry cs (λ k. plain (suc k)) i
