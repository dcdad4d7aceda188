use Rattle.std.proofs.Common.{◌≡◌, ◌∙◌, ◌∷◌, [], refl, IsSome, sym, ap, subst, Option, Some, None, cond, true}
use Rattle.std.specs.Prelude.{ℤ, IfOk}
use Rattle.std.specs.FinMap as fin
use Rattle.std.proofs.lemmas.Int.{to_z-of_z}
use Rattle.far_types.specs.Effects.{min_max_with}
use Rattle.far_extrema.specs.Spreads.{at, IsSet}
use Rattle.far_extrema.specs.Holders.{Holders, min_max_in, min_max_at, reserved_in, IsPut, HaveSameReserved, AreAlike}
use Rattle.far_extrema.proofs.EntriesLaws.{alike_same}
use Rattle.far_extrema.proofs.HoldersLaws.{put-set, put-new, put-same}
use Rattle.far_extrema.proofs.HoldersReserve.{put-alike, reserved-alike, reserved-insert, on_ok, on_err, ok_any, err_any}
use Rattle.far_extrema.proofs.holders.observe_in.Goals as goal

pub returns-in-Some-clause-previous : goal.returns-in-Some-clause-previous
returns-in-Some-clause-previous c =
    let there = ap (λ o. min_max_in o c.args.group) (c.in-Some.ensures.value) in
    subst (λ (o : Option (ℤ × ℤ)). IfOk c.observe.result (λ (previous : Option (ℤ × ℤ)). previous ≡ o)) there c.observe.ensures.previous

pub returns-in-Some-clause-ok : goal.returns-in-Some-clause-ok
returns-in-Some-clause-ok c =
    let fits = c.ranges.value in
    let holds = subst IsSome c.in-Some.ensures.value refl in
    let written = c.find_mut.follows.holds c.observe.new.self holds in
    let m = c.args.holders.now in
    let entry = sym c.in-Some.ensures.value in
    let there = sym (ap (λ o. min_max_in o c.args.group) entry) in
    let wide = min_max_with c.args.value (min_max_at m c.args.group c.args.key.now) in
    on_ok c.observe.result (λ (set : IsSet c.in-Some.holder.now.min_maxes c.args.group (Some (min_max_with c.args.value (at c.in-Some.holder.now.min_maxes c.args.group))) c.observe.new.self.min_maxes).
    subst (λ n. IsPut m c.args.group c.args.key.now (Some wide) n) (sym written)
    (put-set m c.args.key.now c.in-Some.holder.now c.observe.new.self c.args.group (Some wide) entry
    (subst (λ (o : Option (ℤ × ℤ)). IsSet c.in-Some.holder.now.min_maxes c.args.group (Some (min_max_with c.args.value o)) c.observe.new.self.min_maxes) there set)))
    (simp to_z-of_z at c.observe.ensures.ok)

pub returns-in-Some-clause-reserved : goal.returns-in-Some-clause-reserved
returns-in-Some-clause-reserved c =
    let holds = subst IsSome c.in-Some.ensures.value refl in
    let written = c.find_mut.follows.holds c.observe.new.self holds in
    let m = c.args.holders.now in
    let entry = sym c.in-Some.ensures.value in
    ok_any c.observe.result (subst (HaveSameReserved m) (sym written) (reserved-insert m c.args.key.now c.observe.new.self (ap (λ b. cond b (Some true) None) c.observe.ensures.reserved ∙ sym (ap reserved_in entry))))

pub returns-in-Some-clause-err : goal.returns-in-Some-clause-err
returns-in-Some-clause-err c =
    let holds = subst IsSome c.in-Some.ensures.value refl in
    let written = c.find_mut.follows.holds c.observe.new.self holds in
    let m = c.args.holders.now in
    on_err c.observe.result (λ (unchanged : c.observe.new.self ≡ c.in-Some.holder.now).
    alike_same m _ (sym (written ∙ put-same m c.args.key.now c.observe.new.self (sym c.in-Some.ensures.value ∙ ap Some (sym unchanged)))))
    c.observe.ensures.err

pub returns-in-Some-clause-only_new : goal.returns-in-Some-clause-only_new
returns-in-Some-clause-only_new c =
    let there = ap (λ o. min_max_in o c.args.group) (sym c.in-Some.ensures.value) in
    on_err c.observe.result (λ (none : at c.in-Some.holder.now.min_maxes c.args.group ≡ None). there ∙ none) c.observe.ensures.only_new

pub returns-in_ok-insert-in-None-clause-previous : goal.returns-in_ok-insert-in-None-clause-previous
returns-in_ok-insert-in-None-clause-previous c = sym (ap (λ o. min_max_in o c.args.group) (sym c.in-None.ensures.value))

pub returns-in_ok-insert-in-None-clause-ok : goal.returns-in_ok-insert-in-None-clause-ok
returns-in_ok-insert-in-None-clause-ok c =
    let fits = c.ranges.value in
    let alike = subst (λ (n : Holders). AreAlike (fin.insert n c.args.key.now c.new.result) c.insert.new.self) c.find_mut.follows.holds-at-none c.in_ok-insert-in-None.ensures.ok in
    let m = c.args.holders.now in
    let absent = sym c.in-None.ensures.value in
    let none = ap (λ o. min_max_in o c.args.group) absent in
    put-alike m _ _ c.args.group c.args.key.now (Some (min_max_with c.args.value (min_max_at m c.args.group c.args.key.now)))
    (subst (λ (o : Option (ℤ × ℤ)). IsPut m c.args.group c.args.key.now (Some (min_max_with c.args.value o)) (fin.insert m c.args.key.now c.new.result)) (sym none)
    (put-new m c.args.key.now c.new.result c.args.group (c.args.value, c.args.value) absent (c.new.ensures.min_maxes ∙ ap (λ (x : ℤ × ℤ). (c.args.group, x) ∷ []) (simp to_z-of_z at c.of.ensures)))) alike

pub returns-in_ok-insert-in-None-clause-reserved : goal.returns-in_ok-insert-in-None-clause-reserved
returns-in_ok-insert-in-None-clause-reserved c =
    let alike = subst (λ (n : Holders). AreAlike (fin.insert n c.args.key.now c.new.result) c.insert.new.self) c.find_mut.follows.holds-at-none c.in_ok-insert-in-None.ensures.ok in
    let m = c.args.holders.now in
    let absent = sym c.in-None.ensures.value in
    reserved-alike m _ _ (reserved-insert m c.args.key.now c.new.result (ap (λ b. cond b (Some true) None) c.new.ensures.reserved ∙ sym (ap reserved_in absent))) alike

pub returns-in_err-insert-in-None-clause-err : goal.returns-in_err-insert-in-None-clause-err
returns-in_err-insert-in-None-clause-err c =
    err_any c.from_residual.result (subst (λ (n : Holders). AreAlike n c.insert.new.self) c.find_mut.follows.holds-at-none c.in_err-insert-in-None.ensures.err)

pub returns-in_err-insert-in-None-clause-only_new : goal.returns-in_err-insert-in-None-clause-only_new
returns-in_err-insert-in-None-clause-only_new c =
    err_any c.from_residual.result (ap (λ o. min_max_in o c.args.group) (sym c.in-None.ensures.value))
