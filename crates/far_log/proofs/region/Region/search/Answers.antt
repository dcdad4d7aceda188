use Rattle.std.proofs.Common.{◌≡◌, ◌⊎◌, ◌+◌, ◌<◌, ◌≤◌, inl, inr, length, sym, ap, ◌∙◌, arith}
use Rattle.std.proofs.lemmas.Bool.{cases_lt}
use Rattle.far_log.specs.RegionState.{RegionState, space_in, segment_of}
use Rattle.far_log.proofs.SkippingLaws.{no-space-longer, lowest-is, none-takes, skip-known, before-first, passed-more, skip-found}
use Rattle.far_log.proofs.region.Region.search.Goals as goal

pub loop-number-init : goal.loop-number-init
loop-number-init g c =
    let known = skip-known c.self.inside.segments c.args.self.now c.self.view_is c.self.inside.skip c.for_list-known.result c.self.invariant.skipped c.for_list-known.ensures.known in
    record { first = omega arith; least = omega arith; most = c.for_list-known.ensures.long; passed = before-first c.args.self.now c.for_list-known.result known }

pub loop-number-preserved : goal.loop-number-preserved
loop-number-preserved g c =
    let state : RegionState g.row.T.Denot = c.args.self.now in
    let known = skip-known c.self.inside.segments c.args.self.now c.self.view_is c.self.inside.skip c.for_list-known.result c.self.invariant.skipped c.for_list-known.ensures.known in
    let n = c.loop-number.number in
    let next = c.for_list-known.result.next in
    let space : c.space-space.result ≡ space_in (segment_of state n) = c.space-space.ensures.space ∙ ap (λ r. space_in (segment_of r n)) c.self.view_is in
    let reach : (c.max-number.result ≤ n + 1) ⊎ (c.max-number.result ≤ next) = elim (cases_lt n next) [
      | inl lt ↦ inr (omega (arith, lt, c.max-number.ensures))
      | inr le ↦ inl (omega (arith, le, c.max-number.ensures))
    ] in
    record {
      first = omega (arith, c.loop-number.invariant.first, c.max-number.ensures);
      least = omega (arith, c.loop-number.invariant.least, c.max-more.ensures);
      most = omega (arith, c.loop-number.invariant.most, c.max-more.ensures, c.if-len-space.false);
      passed = passed-more state c.for_list-known.result known n c.loop-number.more c.max-number.result c.loop-number.invariant.first c.loop-number.invariant.least c.loop-number.invariant.passed reach c.max-more.result (omega (arith, c.max-more.ensures)) (omega (arith, c.max-more.ensures, space));
    }

pub returns-then-len-space : goal.returns-then-len-space
returns-then-len-space g c =
    let state : RegionState g.row.T.Denot = c.args.self.now in
    let known = skip-known c.self.inside.segments c.args.self.now c.self.view_is c.self.inside.skip c.for_list-known.result c.self.invariant.skipped c.for_list-known.ensures.known in
    let n = c.loop-number.number in
    let next = c.for_list-known.result.next in
    let there : n < length state = omega (arith, c.loop-number-test.true, c.len.ensures, ap length c.self.view_is) in
    let space : c.space-space.result ≡ space_in (segment_of state n) = c.space-space.ensures.space ∙ ap (λ r. space_in (segment_of r n)) c.self.view_is in
    let takes : c.args.len ≤ space_in (segment_of state n) = omega (arith, c.if-len-space.true, space) in
    let reach : (c.max.result ≤ n) ⊎ (c.max.result ≤ next) = elim (cases_lt n next) [
      | inl lt ↦ inr (omega (arith, lt, c.max.ensures))
      | inr le ↦ inl (omega (arith, le, c.max.ensures))
    ] in
    record {
      lowest = sym (lowest-is state n c.args.len (no-space-longer state n c.loop-number.more c.args.len c.loop-number.invariant.passed c.loop-number.invariant.most) there takes);
      passed = skip-found state c.for_list-known.result known n c.loop-number.more c.max.result c.loop-number.invariant.first c.loop-number.invariant.least c.loop-number.invariant.passed (omega (arith, c.max.ensures)) reach;
      sound = rw (← c.self.view_is) c.self.invariant.region;
    }

pub returns : goal.returns
returns g c =
    let state : RegionState g.row.T.Denot = c.args.self.now in
    let n = c.loop-number.number in
    let past : length state ≤ n = omega (arith, c.loop-number-test.false, c.len.ensures, ap length c.self.view_is) in
    record {
      lowest = sym (none-takes state n c.args.len (no-space-longer state n c.loop-number.more c.args.len c.loop-number.invariant.passed c.loop-number.invariant.most) past);
      passed = tt;
      sound = rw (← c.self.view_is) c.self.invariant.region;
    }
