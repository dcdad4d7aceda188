use Rattle.std.proofs.Common.{◌≡◌, ◌+◌, suc, refl, sym, ap, ◌∙◌, subst, arith}
use Rattle.far_groups.proofs.LivePairs.{AreFew, AreFew-empty, AreFew-with_pair}
use Rattle.far_base_tests.proofs.accumulators.totals.add_all.Goals as goal

pub loop-name-init : goal.loop-name-init
loop-name-init c = record { left = refl; few = subst (λ m. AreFew m 0) (sym c.requires) AreFew-empty }

pub loop-name-preserved : goal.loop-name-preserved
loop-name-preserved c =
    let more = c.in_ok-add.ensures.ok in
    let n = c.loop-name.name-index in
    let next : suc n ≡ n + 1 = omega arith in
    record {
      left = ap (λ live. live.left) more ∙ c.loop-name.invariant.left;
      few = subst (AreFew c.add.new.self.totals) next (subst (λ m. AreFew m (suc n)) (sym (ap (λ live. live.totals) more)) (AreFew-with_pair c.loop-name.live.totals _ n c.loop-name.invariant.few));
    }
