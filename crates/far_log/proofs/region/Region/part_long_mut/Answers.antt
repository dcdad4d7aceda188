use Rattle.std.proofs.Common.{◌≡◌, ◌≤◌, ◌+◌, ℕ, List, length, Option, Some, None, refl, sym, ap, subst, ◌∙◌, arith}
use Rattle.std.specs.Prelude.{IsSome, IsSomeAnd, slice_range}
use Rattle.far_log.specs.RegionState.{RegionState, IsRegion, part_of}
use Rattle.far_log.proofs.RegionStateLayouts.{layout-after_write, whole-range}
use Rattle.far_log.proofs.RegionStateLaws.{region-set, layout-segment, part-there, writes-whole}
use Rattle.far_log.proofs.SkippingLaws.{skip-after_write}
use Rattle.far_log.proofs.region.Region.part_long_mut.Goals as goal

some-long : {A : Type 0} (P : A → Type 0) (o : Option A) → IsSomeAnd o P → IsSome o
some-long P (Some x) h = refl
some-long P None h = absurd h

long-is : {X : Type 0} (o : Option (List X)) (len : ℕ) (range : List X) → IsSomeAnd o (λ list. length list ≡ len) → IsSomeAnd o (λ list. range ≡ slice_range list 0 len) → o ≡ Some range
long-is (Some list) len range long is = whole-range (Some list) list range refl (is ∙ ap (slice_range list 0) (sym long))
long-is None len range long is = absurd long

some-within : {X : Type 0} (o : Option (List X)) (len : ℕ) → IsSomeAnd o (λ list. length list ≡ len) → IsSomeAnd o (λ list. len ≤ length list)
some-within (Some list) len long = omega (arith, long)
some-within None len long = absurd long

pub range_mut-requires-clause-within : goal.range_mut-requires-clause-within
range_mut-requires-clause-within g c = rw c.self.view_is (some-within (part_of c.args.self.now c.args.at) c.args.len c.requires)

pub invariant_of-self-lent : goal.invariant_of-self-lent
invariant_of-self-lent g c w =
    let state : RegionState g.row.T.Denot = c.self.inside.segments in
    let lt = part-there state c.args.at (subst (λ r. IsSome (part_of r c.args.at)) (sym c.self.view_is) (some-long _ (part_of c.args.self.now c.args.at) c.requires)) in
    record {
      region = region-set state c.args.at.segment _ c.self.invariant.region lt refl (layout-after_write _ (c.args.at.offset + 0) w (layout-segment state c.args.at.segment c.self.invariant.region lt));
      skipped = skip-after_write state c.self.inside.skip c.self.invariant.skipped c.args.at.segment (c.args.at.offset + 0) w lt;
    }

pub returns : goal.returns
returns g c =
    let state : RegionState g.row.T.Denot = c.args.self.now in
    let value : IsSomeAnd (part_of state c.args.at) (λ list. c.range_mut.result.now ≡ slice_range list 0 c.args.len) = subst (λ r. IsSomeAnd (part_of r c.args.at) (λ list. c.range_mut.result.now ≡ slice_range list 0 c.args.len)) c.self.view_is c.range_mut.ensures.value in
    let lent : part_of state c.args.at ≡ Some c.range_mut.result.now = long-is (part_of state c.args.at) c.args.len c.range_mut.result.now c.requires value in
    let region : IsRegion state = rw (← c.self.view_is) c.self.invariant.region in
    ((refl, λ w. rw c.self.view_is refl), record { writes_back = tt; lent = lent; alone = λ left long. writes-whole state c.args.at left c.range_mut.result.now region lent long })
