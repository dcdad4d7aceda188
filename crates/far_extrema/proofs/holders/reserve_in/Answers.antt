use Rattle.std.proofs.Common.{◌≢◌, ◌∙◌, refl, IsSome, sym, ap, subst, None}
use Rattle.std.specs.FinMap as fin
use Rattle.far_extrema.specs.Spreads.{at}
use Rattle.far_extrema.specs.Holders.{Holding, Holders, min_max_in, reserved_at, HaveSameMinMaxes, KeepsReserved, AreAlike}
use Rattle.far_extrema.proofs.HoldersReserve.{min_maxes-alike, keeps-alike, had-alike, min_maxes-insert, keeps-insert, reserved-made, reserved-had, either, on_ok}
use Rattle.far_extrema.proofs.holders.reserve_in.Goals as goal

pub returns-in-Some-clause-min_maxes : goal.returns-in-Some-clause-min_maxes
returns-in-Some-clause-min_maxes c =
    let there = subst IsSome c.in-Some.ensures.value refl in
    let written = c.find_mut.follows.holds c.reserve.new.self there in
    let m = c.args.holders.now in
    let previous = sym c.in-Some.ensures.value in
    subst (HaveSameMinMaxes m) (sym written)
    (min_maxes-insert m c.args.key.now c.reserve.new.self (λ g. c.reserve.ensures.min_maxes g ∙ sym (ap (λ o. min_max_in o g) previous)))

pub returns-in-Some-clause-kept : goal.returns-in-Some-clause-kept
returns-in-Some-clause-kept c =
    let there = subst IsSome c.in-Some.ensures.value refl in
    let written = c.find_mut.follows.holds c.reserve.new.self there in
    let m = c.args.holders.now in
    let previous = sym c.in-Some.ensures.value in
    subst (KeepsReserved m) (sym written)
    (keeps-insert m c.args.key.now c.reserve.new.self (λ had. either c.reserve.result (λ made. made) (λ same. ap (λ (h : Holding). h.reserved) same ∙ reserved-had m c.args.key.now c.in-Some.holder.now previous had) c.reserve.ensures.reserved c.reserve.ensures.err))

pub returns-in-Some-clause-reserved : goal.returns-in-Some-clause-reserved
returns-in-Some-clause-reserved c =
    let there = subst IsSome c.in-Some.ensures.value refl in
    let written = c.find_mut.follows.holds c.reserve.new.self there in
    let m = c.args.holders.now in
    on_ok c.reserve.result (λ made. subst (λ (n : Holders). reserved_at n c.args.key.now ≢ None) (sym written) (reserved-made m c.args.key.now c.reserve.new.self made)) c.reserve.ensures.reserved

pub returns-in_ok-insert-in-None-clause-min_maxes : goal.returns-in_ok-insert-in-None-clause-min_maxes
returns-in_ok-insert-in-None-clause-min_maxes c =
    let alike = subst (λ (n : Holders). AreAlike (fin.insert n c.args.key.now c.with_place.result) c.insert.new.self) c.find_mut.follows.holds-at-none c.in_ok-insert-in-None.ensures.ok in
    let m = c.args.holders.now in
    let absent = sym c.in-None.ensures.value in
    min_maxes-alike m _ _
    (min_maxes-insert m c.args.key.now c.with_place.result (λ g. ap (λ s. at s g) c.with_place.ensures.min_maxes ∙ sym (ap (λ o. min_max_in o g) absent))) alike

pub returns-in_ok-insert-in-None-clause-kept : goal.returns-in_ok-insert-in-None-clause-kept
returns-in_ok-insert-in-None-clause-kept c =
    let alike = subst (λ (n : Holders). AreAlike (fin.insert n c.args.key.now c.with_place.result) c.insert.new.self) c.find_mut.follows.holds-at-none c.in_ok-insert-in-None.ensures.ok in
    let m = c.args.holders.now in
    keeps-alike m _ _ (keeps-insert m c.args.key.now c.with_place.result (λ had. c.with_place.ensures.reserved)) alike

pub returns-in_ok-insert-in-None-clause-reserved : goal.returns-in_ok-insert-in-None-clause-reserved
returns-in_ok-insert-in-None-clause-reserved c =
    let alike = subst (λ (n : Holders). AreAlike (fin.insert n c.args.key.now c.with_place.result) c.insert.new.self) c.find_mut.follows.holds-at-none c.in_ok-insert-in-None.ensures.ok in
    let m = c.args.holders.now in
    had-alike _ _ c.args.key.now (reserved-made m c.args.key.now c.with_place.result c.with_place.ensures.reserved) alike

pub returns-in_err-insert-in-None-clause-min_maxes : goal.returns-in_err-insert-in-None-clause-min_maxes
returns-in_err-insert-in-None-clause-min_maxes c =
    (subst (λ (n : Holders). AreAlike n c.insert.new.self) c.find_mut.follows.holds-at-none c.in_err-insert-in-None.ensures.err).0

pub returns-in_err-insert-in-None-clause-kept : goal.returns-in_err-insert-in-None-clause-kept
returns-in_err-insert-in-None-clause-kept c =
    let alike = subst (λ (n : Holders). AreAlike n c.insert.new.self) c.find_mut.follows.holds-at-none c.in_err-insert-in-None.ensures.err in
    keeps-alike c.args.holders.now _ _ (λ q had. had) alike
