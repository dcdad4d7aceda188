use Rattle.std.proofs.Common.{◌≡◌, ◌+◌, ◌<◌, ◌≤◌, ◌∷◌, [], length, map, drop, sym, ap, subst, ◌∙◌, inl, inr, arith, rules}
use Rattle.std.proofs.lemmas.List.{drop_more, drop_all}
use Rattle.far_log.specs.declared.skip.Skip.{Skip}
use Rattle.far_log.specs.RegionState.{RegionState, space_in, segment_of, spaces_of}
use Rattle.far_log.specs.Fitting.{waiting_fit}
use Rattle.far_log.specs.Skipping.{IsSkip}
use Rattle.far_log.proofs.SkippingLaws.{AreLong, skip-nothing, before-first, skipped-fit, long-all, long-any, long-after_fill}
use Rattle.far_log.proofs.FittingLaws.{after_fill-first, none-left, none-waiting, all-waiting}
use Rattle.far_log.proofs.region.Region.fits_in_order.Goals as goal

pub loop-number-init : goal.loop-number-init
loop-number-init g c =
    let state : RegionState g.row.T.Denot = c.args.self.now in
    let skip = c.for_lists-skip.result in
    let same : c.copy_from_slice.new.self ≡ c.args.lens.now = search rules in
    let known : IsSkip state skip = elim c.for_lists-skip.ensures [
      | inl none ↦ subst (IsSkip state) (sym none) (skip-nothing state)
      | inr is ↦ subst (IsSkip state) (sym is.0) (rw (← c.self.view_is) c.self.invariant.skipped)
    ] in
    let long : AreLong skip.len c.args.lens.now = elim c.for_lists-skip.ensures [
      | inl none ↦ subst (λ (s : Skip). AreLong s.len c.args.lens.now) (sym none) (long-any c.args.lens.now)
      | inr is ↦ subst (λ (s : Skip). AreLong s.len c.args.lens.now) (sym is.0) (long-all c.self.inside.skip.len c.args.lens.now is.1)
    ] in
    record {
      first = omega arith;
      long = rw same long;
      fits = rw same (skipped-fit state 0 skip.first skip.len c.args.lens.now (λ k least less. before-first state skip known k less) (omega arith) long);
    }

pub returns-then-none_waits : goal.returns-then-none_waits
returns-then-none_waits g c =
    let state : RegionState g.row.T.Denot = c.args.self.now in
    sym (sym (all-waiting (spaces_of state) c.args.lens.now c.requires.some) ∙ c.loop-number.invariant.fits
    ∙ none-waiting (map space_in (drop c.loop-number.number state)) c.loop-number.waiting (sym c.none_waits.ensures ∙ c.if-none_waits.true))

pub loop-number-preserved : goal.loop-number-preserved
loop-number-preserved g c =
    let state : RegionState g.row.T.Denot = c.args.self.now in
    let skip = c.for_lists-skip.result in
    let known : IsSkip state skip = elim c.for_lists-skip.ensures [
      | inl none ↦ subst (IsSkip state) (sym none) (skip-nothing state)
      | inr is ↦ subst (IsSkip state) (sym is.0) (rw (← c.self.view_is) c.self.invariant.skipped)
    ] in
    let i = c.loop-number.number in
    let space : c.space.result ≡ space_in (segment_of state i) = c.space.ensures.space ∙ ap (λ r. space_in (segment_of r i)) c.self.view_is in
    let there : i < length state = omega (arith, c.loop-number-test.true, c.len.ensures, ap length c.self.view_is) in
    let next : drop i state ≡ segment_of state i ∷ drop (i + 1) state = drop_more state i record { parts = []; size = 0 } there in
    let long = long-after_fill c.space.result skip.len c.loop-number.waiting c.loop-number.invariant.long in
    record {
      first = omega (arith, c.loop-number.invariant.first, c.max-number.ensures);
      long = rw c.fill.ensures long;
      fits = c.loop-number.invariant.fits ∙ ap (λ l. waiting_fit (map space_in l) c.loop-number.waiting) next
          ∙ after_fill-first (space_in (segment_of state i)) (map space_in (drop (i + 1) state)) c.loop-number.waiting
          ∙ rw (c.fill.ensures, ← space) (skipped-fit state (i + 1) c.max-number.result skip.len _ (λ k least less. known.full k (omega (arith, least, less, c.max-number.ensures)) (λ e. omega (arith, e, least, c.loop-number.invariant.first))) (omega (arith, c.max-number.ensures)) long);
    }

pub returns : goal.returns
returns g c =
    let state : RegionState g.row.T.Denot = c.args.self.now in
    let past : length state ≤ c.loop-number.number = omega (arith, c.loop-number-test.false, c.len.ensures, ap length c.self.view_is) in
    let over : drop c.loop-number.number state ≡ [] = drop_all c.loop-number.number state past in
    c.none_waits-2.ensures ∙ sym (sym (all-waiting (spaces_of state) c.args.lens.now c.requires.some) ∙ c.loop-number.invariant.fits
    ∙ ap (λ l. waiting_fit (map space_in l) c.loop-number.waiting) over ∙ none-left c.loop-number.waiting)
