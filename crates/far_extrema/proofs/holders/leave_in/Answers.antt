use Rattle.std.proofs.Common.{◌∙◌, refl, IsSome, sym, ap, subst, None, Some, cond, true}
use Rattle.std.specs.FinMap as fin
use Rattle.far_types.proofs.AnswersByKeyMaps.{get_inserted}
use Rattle.far_extrema.specs.Holders.{Holders, min_max_in, reserved_in, IsPut, HaveSameReserved, IsVacant}
use Rattle.far_extrema.proofs.HoldersLaws.{put-set}
use Rattle.far_extrema.proofs.HoldersReserve.{put-alike, reserved-alike, reserved-insert, reserved-vacant, put-vacant}
use Rattle.far_extrema.proofs.holders.leave_in.Goals as goal

pub leave-requires : goal.leave-requires
leave-requires c = λ e. c.requires (ap (λ o. min_max_in o c.args.group) (sym c.in-Some.ensures.value) ∙ e)

pub unreachable-requires : goal.unreachable-requires
unreachable-requires c = c.requires (ap (λ o. min_max_in o c.args.group) (sym c.in-None.ensures.value))

pub returns-then-not-is_vacant-clause-min_maxes : goal.returns-then-not-is_vacant-clause-min_maxes
returns-then-not-is_vacant-clause-min_maxes c =
    let there = subst IsSome c.in-Some.ensures.value refl in
    let written = c.find_mut.follows.holds c.leave.new.self there in
    let m = c.args.holders.now in
    let previous = sym c.in-Some.ensures.value in
    subst (λ n. IsPut m c.args.group c.args.key.now None n) (sym written)
    (put-set m c.args.key.now c.in-Some.holder.now c.leave.new.self c.args.group None previous c.leave.ensures.min_maxes)

pub returns-then-not-is_vacant-clause-reserved : goal.returns-then-not-is_vacant-clause-reserved
returns-then-not-is_vacant-clause-reserved c =
    let there = subst IsSome c.in-Some.ensures.value refl in
    let written = c.find_mut.follows.holds c.leave.new.self there in
    let m = c.args.holders.now in
    let previous = sym c.in-Some.ensures.value in
    subst (HaveSameReserved m) (sym written) (reserved-insert m c.args.key.now c.leave.new.self (ap (λ b. cond b (Some true) None) c.leave.ensures.reserved ∙ sym (ap reserved_in previous)))

pub returns-clause-min_maxes : goal.returns-clause-min_maxes
returns-clause-min_maxes c =
    let there = subst IsSome c.in-Some.ensures.value refl in
    let written = c.find_mut.follows.holds c.leave.new.self there in
    let removed = ap (λ n. fin.remove n c.args.key.now) written in
    let m = c.args.holders.now in
    let previous = sym c.in-Some.ensures.value in
    put-alike m _ _ c.args.group c.args.key.now None (subst (λ n. IsPut m c.args.group c.args.key.now None n) (sym removed)
    (put-vacant m c.args.key.now c.in-Some.holder.now c.leave.new.self c.args.group previous c.leave.ensures.min_maxes (c.if-not-is_vacant.ensures.min_maxes refl))) c.remove.ensures

pub returns-clause-reserved : goal.returns-clause-reserved
returns-clause-reserved c =
    let there = subst IsSome c.in-Some.ensures.value refl in
    let written = c.find_mut.follows.holds c.leave.new.self there in
    let removed = ap (λ n. fin.remove n c.args.key.now) written in
    let m = c.args.holders.now in
    let previous = sym c.in-Some.ensures.value in
    reserved-alike m _ _ (subst (HaveSameReserved m) (sym removed) (reserved-vacant m c.args.key.now c.in-Some.holder.now c.leave.new.self previous c.leave.ensures.reserved (c.if-not-is_vacant.ensures.reserved refl))) c.remove.ensures

pub remove-requires : goal.remove-requires
remove-requires c =
    let there = subst IsSome c.in-Some.ensures.value refl in
    let written = c.find_mut.follows.holds c.leave.new.self there in
    let m = c.args.holders.now in
    subst IsVacant (sym (ap (λ (n : Holders). fin.get n c.args.key.now) written ∙ get_inserted m c.args.key.now c.leave.new.self)) (c.if-not-is_vacant.ensures.min_maxes refl, c.if-not-is_vacant.ensures.reserved refl)
