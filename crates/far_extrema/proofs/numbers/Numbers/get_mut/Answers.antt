use Rattle.std.proofs.Common.{◌∙◌, refl, IsSome, Some, sym, ap, subst, arith}
use Rattle.std.specs.Prelude.{ℤ, slice_set, pos}
use Rattle.std.proofs.lemmas.List.{length-set}
use Rattle.far_extrema.specs.Numbers.{Numbers, number_at, numbers_in, IsSetAt}
use Rattle.far_extrema.proofs.NumbersLaws.{at_below, at_small, at_above, set_below, set_small, set_above, keyless, item_mut, within_some}
use Rattle.far_extrema.proofs.numbers.Numbers.get_mut.Goals as goal

pub invariant_of-self-lent : goal.invariant_of-self-lent
invariant_of-self-lent c _ =
    let h = c.self.inside in
    let lent = c.get_mut.follows in (
      λ w. record { under = λ k. keyless h.below.entries (lent.lender w).entries (lent.holds w).1 (pos k) (c.self.invariant.under k); few = c.self.invariant.few; over = c.self.invariant.over },
      record { under = λ k. ap (λ m. number_at m.entries (pos k)) lent.holds-at-none ∙ c.self.invariant.under k; few = c.self.invariant.few; over = c.self.invariant.over },
    )

pub invariant_of-self-lent-in-At : goal.invariant_of-self-lent-in-At
invariant_of-self-lent-in-At c _ = (
  λ w. record { under = c.self.invariant.under; few = omega (arith, length-set c.self.inside.small.items c.in-At.place w, c.self.invariant.few); over = c.self.invariant.over },
  c.self.invariant,
)

pub invariant_of-self-lent-in-Above : goal.invariant_of-self-lent-in-Above
invariant_of-self-lent-in-Above c _ =
    let h = c.self.inside in
    let lent = c.get_mut-in-Above.follows in (
      λ w. record { under = c.self.invariant.under; few = c.self.invariant.few; over = λ n less. keyless h.above.entries (lent.lender w).entries (lent.holds w).1 n (c.self.invariant.over n less) },
      record { under = c.self.invariant.under; few = c.self.invariant.few; over = λ n less. ap (λ m. number_at m.entries n) lent.holds-at-none ∙ c.self.invariant.over n less },
    )

pub returns-in-Below : goal.returns-in-Below
returns-in-Below c =
    let h = c.self.inside in
    let n = c.args.number.now in
    let lent = c.get_mut.follows in
    let here = sym (at_below h.below.entries h.small.items h.above.entries n c.self.invariant c.in-Below.ensures) ∙ ap (λ (ns : Numbers). number_at ns n) c.self.view_is in (
      (
        refl,
        λ w there. subst (λ (ns : Numbers). IsSetAt ns n (Some w) (numbers_in (lent.lender w).entries h.small.items h.above.entries)) c.self.view_is
            (set_below h.below.entries h.small.items h.above.entries (lent.lender w).entries n (Some w) c.self.invariant c.in-Below.ensures ((lent.holds w).3 (subst IsSome (sym here) there)).0),
        (λ i. numbers_in (lent.holds-at-none i).entries h.small.items h.above.entries) ∙ c.self.view_is,
      ),
      record { writes_back = tt; value = c.get_mut.ensures.value ∙ here },
    )

pub returns-in-At : goal.returns-in-At
returns-in-At c =
    let h = c.self.inside in
    let j = c.in-At.place in
    let here = sym (at_small h.below.entries h.small.items h.above.entries j c.self.invariant c.in-At.ensures.1) ∙ (λ i. number_at (c.self.view_is i) (sym c.in-At.ensures.0 i)) in (
      (
        refl,
        λ w there. subst (λ (old : Numbers × ℤ). IsSetAt old.0 old.1 (Some w) (numbers_in h.below.entries (slice_set h.small.items j w) h.above.entries)) (λ i. (c.self.view_is i, sym c.in-At.ensures.0 i))
            (set_small h.below.entries h.small.items h.above.entries j w c.self.invariant c.in-At.ensures.1 (within_some h.small.items j (subst IsSome (sym here) there)) (omega (arith, length-set h.small.items j w, c.self.invariant.few))),
        c.self.view_is,
      ),
      record { writes_back = tt; value = item_mut c.get_mut-in-At.result h.small.items j c.get_mut-in-At.ensures.item.3 c.get_mut-in-At.ensures.item.1 ∙ here },
    )

pub returns-in-Above : goal.returns-in-Above
returns-in-Above c =
    let h = c.self.inside in
    let n = c.args.number.now in
    let lent = c.get_mut-in-Above.follows in
    let here = sym (at_above h.below.entries h.small.items h.above.entries n c.self.invariant c.in-Above.ensures) ∙ ap (λ (ns : Numbers). number_at ns n) c.self.view_is in (
      (
        refl,
        λ w there. subst (λ (ns : Numbers). IsSetAt ns n (Some w) (numbers_in h.below.entries h.small.items (lent.lender w).entries)) c.self.view_is
            (set_above h.below.entries h.small.items h.above.entries (lent.lender w).entries n (Some w) c.self.invariant c.in-Above.ensures ((lent.holds w).3 (subst IsSome (sym here) there)).0),
        (λ i. numbers_in h.below.entries h.small.items (lent.holds-at-none i).entries) ∙ c.self.view_is,
      ),
      record { writes_back = tt; value = c.get_mut-in-Above.ensures.value ∙ here },
    )
