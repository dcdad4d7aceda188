use Rattle.std.proofs.Common.{◌≡◌, ◌<◌, ℕ, zero, suc, List, [], ◌∷◌, Option, length, refl, sym, ap, ◌∙◌, subst, arith, Some}
use Rattle.std.specs.Prelude.{ℤ, ◌≤ℤ◌, slice_set}
use Rattle.std.proofs.lemmas.Int.{to_z-of_z}
use Rattle.std.specs.FinMap as fin
use Rattle.far_types.specs.declared.key.Key.{Key}
use Rattle.far_types.specs.Answers.{Extrema}
use Rattle.far_types.specs.Effects.{with_observed, min_max_with}
use Rattle.far_extrema.specs.Live.{ExtremaState, group_at}
use Rattle.far_extrema.specs.Holders.{Holders, min_max_at, groups_in, AreReserved, IsPut}
use Rattle.far_extrema.proofs.MinMaxesRemoval.{put-same}
use Rattle.far_extrema.proofs.HoldersLaws.{get-group_at, length-groups_in, observed-in, reserved-put, widened_within, same-reserved}
use Rattle.far_extrema.proofs.live_extrema.LiveExtrema.observe_over.Goals as goal

-- the min-max that a row group has under a key is the min-max that the key has in it
previous : (h : Holders) (count g : ℕ) (gs : List Extrema) (key : Option Key) (s : ℤ × ℤ) → groups_in h count ≡ gs → AreReserved count h → fin.get (group_at gs g) key ≡ Some s → min_max_at h g key ≡ Some s
previous h count g gs key s groups reserved is = sym (get-group_at h count g key reserved) ∙ ap (λ l. fin.get (group_at l g) key) groups ∙ is

-- a value within the min-max under its key changes nothing
observed_within : (m : Extrema) (key : Option Key) (v : ℤ) (s : ℤ × ℤ) → fin.get m key ≡ Some s → s.0 ≤ℤ v → v ≤ℤ s.1 → with_observed m (key, v) ≡ m
observed_within m key v s is low high = ap (λ o. fin.insert m key (min_max_with v o)) is ∙ ap (fin.insert m key) (widened_within v s low high) ∙ put-same m key s is

set_own : (gs : List Extrema) (g : ℕ) → slice_set gs g (group_at gs g) ≡ gs
set_own [] g = refl
set_own (m ∷ gs) zero = refl
set_own (m ∷ gs) (suc g) = ap (λ l. m ∷ l) (set_own gs g)

pub set_in-requires : goal.set_in-requires
set_in-requires c = λ none.
    let m = c.self.inside.holders in
    let groups = ap (λ (live : ExtremaState). live.groups) c.self.view_is in
    let there = previous m c.self.inside.reserved_groups c.args.group c.args.self.now.groups c.args.key.now c.args.previous groups c.self.invariant c.requires.previous in
    absurd cc

pub invariant_of-self : goal.invariant_of-self
invariant_of-self c =
    let m = c.self.inside.holders in
    let groups = ap (λ (live : ExtremaState). live.groups) c.self.view_is in
    let less : c.args.group < c.self.inside.reserved_groups = omega (arith, ap length groups, length-groups_in m c.self.inside.reserved_groups, c.requires.reserved) in
    reserved-put m c.set_in.new.holders c.self.inside.reserved_groups c.args.group c.args.key.now (Some c.with-wide.result) c.self.invariant less c.set_in.ensures.min_maxes

pub returns-then-is_within : goal.returns-then-is_within
returns-then-is_within c =
    let fits = c.ranges.value in
    let groups = c.args.self.now.groups in
    let within : (c.args.previous.0 ≤ℤ c.args.value) × (c.args.value ≤ℤ c.args.previous.1) = simp to_z-of_z at c.if-is_within.ensures.0 refl in
    let new = sym (ap (slice_set groups c.args.group) (observed_within (group_at groups c.args.group) c.args.key.now c.args.value c.args.previous c.requires.previous within.0 within.1) ∙ set_own groups c.args.group) in
    λ i. record { left = c.args.self.now.left; groups = new i; reserved = c.args.self.now.reserved }

pub returns : goal.returns
returns c =
    let m = c.self.inside.holders in
    let fits = c.ranges.value in
    let left = ap (λ (live : ExtremaState). live.left) c.self.view_is in
    let groups = ap (λ (live : ExtremaState). live.groups) c.self.view_is in
    let less : c.args.group < c.self.inside.reserved_groups = omega (arith, ap length groups, length-groups_in m c.self.inside.reserved_groups, c.requires.reserved) in
    let there = previous m c.self.inside.reserved_groups c.args.group c.args.self.now.groups c.args.key.now c.args.previous groups c.self.invariant c.requires.previous in
    let joined : c.with-wide.result ≡ min_max_with c.args.value (Some c.args.previous) = simp to_z-of_z at c.with-wide.ensures in
    let put = subst (λ (x : ℤ × ℤ). IsPut m c.args.group c.args.key.now (Some x) c.set_in.new.holders) joined c.set_in.ensures.min_maxes in
    let new =
    observed-in m c.set_in.new.holders c.self.inside.reserved_groups c.args.group c.args.key.now c.args.value (Some c.args.previous) c.self.invariant there less put
    ∙ ap (λ gs. slice_set gs c.args.group (with_observed (group_at gs c.args.group) (c.args.key.now, c.args.value))) groups in
    let reserved = same-reserved m c.set_in.new.holders c.set_in.ensures.reserved ∙ ap (λ (live : ExtremaState). live.reserved) c.self.view_is in
    λ i. record { left = left i; groups = new i; reserved = reserved i }
