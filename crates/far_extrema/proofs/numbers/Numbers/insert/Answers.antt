use Rattle.std.proofs.Common.{◌≡◌, ◌∙◌, Some, sym, ap, subst}
use Rattle.std.specs.Prelude.{ℤ}
use Rattle.far_extrema.specs.Numbers.{Numbers, number_at, numbers_in, IsSetAt, IsNumberPut, AreNumbersLike, IsPlacePut, ArePlacesLike}
use Rattle.far_extrema.proofs.NumbersLaws.{like_same, apart_below, apart_above, apart_small, set_below, set_above, set_put, put_small, like_small}
use Rattle.far_extrema.proofs.HoldersReserve.{on_ok, on_err}
use Rattle.far_extrema.proofs.numbers.Numbers.insert.Goals as goal

pub invariant_of-self : goal.invariant_of-self
invariant_of-self c =
    let h = c.self.inside in
    apart_below h.below.entries h.small.items h.above.entries c.put.new.tree.entries c.args.number.now c.self.invariant c.in-Below.ensures c.put.ensures.others

pub returns-in-Below-clause-ok : goal.returns-in-Below-clause-ok
returns-in-Below-clause-ok c =
    let h = c.self.inside in
    let n = c.args.number.now in
    let new = c.put.new.tree.entries in
    on_ok c.put.result (λ (set : IsSetAt h.below.entries n (Some c.args.holder) new).
    subst (λ (ns : Numbers). IsNumberPut ns n (Some c.args.holder) (numbers_in new h.small.items h.above.entries)) c.self.view_is
    (set_put _ n (Some c.args.holder) _ (set_below h.below.entries h.small.items h.above.entries new n (Some c.args.holder) c.self.invariant c.in-Below.ensures set))) c.put.ensures.ok

pub returns-in-Below-clause-err : goal.returns-in-Below-clause-err
returns-in-Below-clause-err c =
    let h = c.self.inside in
    let new = c.put.new.tree.entries in
    on_err c.put.result (λ (same : new ≡ h.below.entries) (m : ℤ).
    like_same _ _ (ap (λ (ns : Numbers). number_at ns m) (sym ((λ i. numbers_in (same i) h.small.items h.above.entries) ∙ c.self.view_is)))) c.put.ensures.err

pub invariant_of-self-in-Above : goal.invariant_of-self-in-Above
invariant_of-self-in-Above c =
    let h = c.self.inside in
    apart_above h.below.entries h.small.items h.above.entries c.put-in-Above.new.tree.entries c.args.number.now c.self.invariant c.in-Above.ensures c.put-in-Above.ensures.others

pub returns-in-Above-clause-ok : goal.returns-in-Above-clause-ok
returns-in-Above-clause-ok c =
    let h = c.self.inside in
    let n = c.args.number.now in
    let new = c.put-in-Above.new.tree.entries in
    on_ok c.put-in-Above.result (λ (set : IsSetAt h.above.entries n (Some c.args.holder) new).
    subst (λ (ns : Numbers). IsNumberPut ns n (Some c.args.holder) (numbers_in h.below.entries h.small.items new)) c.self.view_is
    (set_put _ n (Some c.args.holder) _ (set_above h.below.entries h.small.items h.above.entries new n (Some c.args.holder) c.self.invariant c.in-Above.ensures set))) c.put-in-Above.ensures.ok

pub returns-in-Above-clause-err : goal.returns-in-Above-clause-err
returns-in-Above-clause-err c =
    let h = c.self.inside in
    let new = c.put-in-Above.new.tree.entries in
    on_err c.put-in-Above.result (λ (same : new ≡ h.above.entries) (m : ℤ).
    like_same _ _ (ap (λ (ns : Numbers). number_at ns m) (sym ((λ i. numbers_in h.below.entries h.small.items (same i)) ∙ c.self.view_is)))) c.put-in-Above.ensures.err

pub invariant_of-self-in-At : goal.invariant_of-self-in-At
invariant_of-self-in-At c =
    let h = c.self.inside in
    apart_small h.below.entries h.small.items h.above.entries c.put-in-At.new.dense.items c.self.invariant (c.put-in-At.ensures.few c.self.invariant.few)

pub returns-in-At-clause-ok : goal.returns-in-At-clause-ok
returns-in-At-clause-ok c =
    let h = c.self.inside in
    let j = c.in-At.place in
    let new = c.put-in-At.new.dense.items in
    on_ok c.put-in-At.result (λ (put : IsPlacePut h.small.items j c.args.holder new).
    subst (λ (old : Numbers × ℤ). IsNumberPut old.0 old.1 (Some c.args.holder) (numbers_in h.below.entries new h.above.entries)) (λ i. (c.self.view_is i, sym c.in-At.ensures.0 i))
    (put_small h.below.entries h.small.items h.above.entries new j c.args.holder c.self.invariant c.in-At.ensures.1 (c.put-in-At.ensures.few c.self.invariant.few) put)) c.put-in-At.ensures.ok

pub returns-in-At-clause-err : goal.returns-in-At-clause-err
returns-in-At-clause-err c =
    let h = c.self.inside in
    let new = c.put-in-At.new.dense.items in
    on_err c.put-in-At.result (λ (like : ArePlacesLike h.small.items new).
    subst (λ (ns : Numbers). AreNumbersLike ns (numbers_in h.below.entries new h.above.entries)) c.self.view_is
    (like_small h.below.entries h.small.items h.above.entries new c.self.invariant (c.put-in-At.ensures.few c.self.invariant.few) like)) c.put-in-At.ensures.err
