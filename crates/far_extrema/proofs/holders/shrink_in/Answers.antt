use Rattle.std.proofs.Common.{◌∙◌, refl, IsSome, sym, ap, subst, Option, None, Some, cond, true, arith}
use Rattle.std.specs.Prelude.{ℤ}
use Rattle.std.specs.FinMap as fin
use Rattle.std.proofs.lemmas.Int.{to_z-of_z}
use Rattle.far_extrema.specs.Spreads.{IsSet}
use Rattle.far_types.proofs.AnswersByKeyMaps.{get_inserted}
use Rattle.far_extrema.specs.Holders.{Holders, min_max_in, reserved_in, IsPut, HaveSameReserved, IsVacant}
use Rattle.far_extrema.proofs.HoldersLaws.{put-set}
use Rattle.far_extrema.proofs.HoldersReserve.{put-alike, reserved-alike, reserved-insert, reserved-vacant, put-vacant, none-vacant}
use Rattle.far_extrema.proofs.holders.shrink_in.Goals as goal

pub shrink-left-requires-clause-previous : goal.shrink-left-requires-clause-previous
shrink-left-requires-clause-previous g c =
    let fits = c.ranges.value in
    let there = ap (λ o. min_max_in o c.args.group) (sym c.in-Some.ensures.value) in
    let previous = sym there ∙ c.requires.previous in
    grind (arith, to_z-of_z, previous)

pub unreachable-requires : goal.unreachable-requires
unreachable-requires g c =
    let none = ap (λ o. min_max_in o c.args.group) (sym c.in-None.ensures.value) in
    let both = sym none ∙ c.requires.previous in
    cc

pub returns-then-not-is_vacant-clause-min_maxes : goal.returns-then-not-is_vacant-clause-min_maxes
returns-then-not-is_vacant-clause-min_maxes g c =
    let there = subst IsSome c.in-Some.ensures.value refl in
    let written = c.find_mut.follows.holds c.shrink-left.new.self there in
    let m = c.args.holders.now in
    let left = g.R.RowsLeft.extremes c.args.rows.now in
    let previous = sym c.in-Some.ensures.value in
    subst (λ (n : Holders). IsPut m c.args.group c.args.key.now left n) (sym written)
    (put-set m c.args.key.now c.in-Some.holder.now c.shrink-left.new.self c.args.group left previous c.shrink-left.ensures.min_maxes)

pub returns-then-not-is_vacant-clause-reserved : goal.returns-then-not-is_vacant-clause-reserved
returns-then-not-is_vacant-clause-reserved g c =
    let there = subst IsSome c.in-Some.ensures.value refl in
    let written = c.find_mut.follows.holds c.shrink-left.new.self there in
    let m = c.args.holders.now in
    let previous = sym c.in-Some.ensures.value in
    subst (HaveSameReserved m) (sym written) (reserved-insert m c.args.key.now c.shrink-left.new.self (ap (λ b. cond b (Some true) None) c.shrink-left.ensures.reserved ∙ sym (ap reserved_in previous)))

pub returns-clause-left : goal.returns-clause-left
returns-clause-left g c =
    sym (none-vacant c.in-Some.holder.now.min_maxes c.shrink-left.new.self.min_maxes c.args.group (g.R.RowsLeft.extremes c.args.rows.now) c.shrink-left.ensures.min_maxes (c.if-not-is_vacant.ensures.min_maxes refl))

pub returns-clause-min_maxes : goal.returns-clause-min_maxes
returns-clause-min_maxes g c =
    let there = subst IsSome c.in-Some.ensures.value refl in
    let written = c.find_mut.follows.holds c.shrink-left.new.self there in
    let removed = ap (λ n. fin.remove n c.args.key.now) written in
    let m = c.args.holders.now in
    let min_maxes = c.in-Some.holder.now.min_maxes in
    let previous = sym c.in-Some.ensures.value in
    let vacant = c.if-not-is_vacant.ensures.min_maxes refl in
    let none = none-vacant min_maxes c.shrink-left.new.self.min_maxes c.args.group (g.R.RowsLeft.extremes c.args.rows.now) c.shrink-left.ensures.min_maxes vacant in
    let set = subst (λ (o : Option (ℤ × ℤ)). IsSet min_maxes c.args.group o c.shrink-left.new.self.min_maxes) none c.shrink-left.ensures.min_maxes in
    let put = put-alike m _ _ c.args.group c.args.key.now None (subst (λ (n : Holders). IsPut m c.args.group c.args.key.now None n) (sym removed)
    (put-vacant m c.args.key.now c.in-Some.holder.now c.shrink-left.new.self c.args.group previous set vacant)) c.remove.ensures in
    subst (λ (o : Option (ℤ × ℤ)). IsPut m c.args.group c.args.key.now o c.remove.new.self) (sym none) put

pub returns-clause-reserved : goal.returns-clause-reserved
returns-clause-reserved g c =
    let there = subst IsSome c.in-Some.ensures.value refl in
    let written = c.find_mut.follows.holds c.shrink-left.new.self there in
    let removed = ap (λ n. fin.remove n c.args.key.now) written in
    let m = c.args.holders.now in
    let previous = sym c.in-Some.ensures.value in
    reserved-alike m _ _ (subst (HaveSameReserved m) (sym removed) (reserved-vacant m c.args.key.now c.in-Some.holder.now c.shrink-left.new.self previous c.shrink-left.ensures.reserved (c.if-not-is_vacant.ensures.reserved refl))) c.remove.ensures

pub remove-requires : goal.remove-requires
remove-requires g c =
    let there = subst IsSome c.in-Some.ensures.value refl in
    let written = c.find_mut.follows.holds c.shrink-left.new.self there in
    let m = c.args.holders.now in
    subst IsVacant (sym (ap (λ (n : Holders). fin.get n c.args.key.now) written ∙ get_inserted m c.args.key.now c.shrink-left.new.self)) (c.if-not-is_vacant.ensures.min_maxes refl, c.if-not-is_vacant.ensures.reserved refl)
