use Rattle.std.proofs.Common.{◌∙◌, refl, IsSome, sym, ap, subst, Some}
use Rattle.far_extrema.specs.Holders.{min_max_in, reserved_in, reserved_at, IsPut}
use Rattle.far_extrema.proofs.HoldersLaws.{put-set}
use Rattle.far_extrema.proofs.HoldersReserve.{reserved-had, reserved-other}
use Rattle.far_extrema.proofs.holders.fill_in.Goals as goal

pub fill-requires-clause-reserved : goal.fill-requires-clause-reserved
fill-requires-clause-reserved c = reserved-had c.args.holders.now c.args.key.now c.in-Some.holder.now (sym c.in-Some.ensures.value) c.requires.reserved

pub fill-requires-clause-new : goal.fill-requires-clause-new
fill-requires-clause-new c = sym (ap (λ o. min_max_in o c.args.group) (sym c.in-Some.ensures.value)) ∙ c.requires.new

pub unreachable-requires : goal.unreachable-requires
unreachable-requires c = c.requires.reserved (ap reserved_in (sym c.in-None.ensures.value))

pub returns-clause-min_maxes : goal.returns-clause-min_maxes
returns-clause-min_maxes c =
    let there = subst IsSome c.in-Some.ensures.value refl in
    let written = c.find_mut.follows.holds c.fill.new.self there in
    let m = c.args.holders.now in
    let previous = sym c.in-Some.ensures.value in
    subst (λ n. IsPut m c.args.group c.args.key.now (Some c.args.min_max) n) (sym written)
    (put-set m c.args.key.now c.in-Some.holder.now c.fill.new.self c.args.group (Some c.args.min_max) previous c.fill.ensures)

pub returns-clause-reserved : goal.returns-clause-reserved
returns-clause-reserved c =
    let there = subst IsSome c.in-Some.ensures.value refl in
    let written = c.find_mut.follows.holds c.fill.new.self there in
    let m = c.args.holders.now in
    λ q other. ap (λ n. reserved_at n q) written ∙ reserved-other m c.args.key.now c.fill.new.self q other
