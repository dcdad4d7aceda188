use Rattle.std.proofs.Common.{◌≡◌, ◌+◌, ◌-◌, suc, refl, sym, subst, length, take, drop, arith}
use Rattle.far_extrema.specs.Spreads.{IsTopOf}
use Rattle.far_extrema.specs.Runs.{RiseFrom, AreParts, whole, JoinsOthers}
use Rattle.far_extrema.proofs.RunsLaws.{rest_of}
use Rattle.far_extrema.proofs.ApartLaws.{rise_take, parts_take, rise_drop, parts_drop, joins_others}
use Rattle.far_extrema.proofs.runs.joined_others.Goals as goal

pub joined_runs-requires-clause-rise : goal.joined_runs-requires-clause-rise
joined_runs-requires-clause-rise c = rise_take 0 c.args.firsts.now c.args.place c.requires.rise

pub joined_runs-requires-clause-parts : goal.joined_runs-requires-clause-parts
joined_runs-requires-clause-parts c = parts_take c.args.firsts.now c.args.runs.now c.args.place c.requires.parts

pub joined_runs-requires-2-clause-rise : goal.joined_runs-requires-2-clause-rise
joined_runs-requires-2-clause-rise c =
    let fs = c.args.firsts.now in
    subst (RiseFrom 0) (sym (rest_of fs fs (take (length fs - (c.args.place + 1)) (drop (c.args.place + 1) fs)) (c.args.place + 1) refl refl)) (rise_drop 0 fs (c.args.place + 1) c.requires.rise)

pub joined_runs-requires-2-clause-parts : goal.joined_runs-requires-2-clause-parts
joined_runs-requires-2-clause-parts c =
    let fs = c.args.firsts.now in
    let rs = c.args.runs.now in
    let n = c.args.place + 1 in
    subst (λ ss. AreParts (take (length fs - n) (drop n fs)) ss) (sym (rest_of rs rs (take (length rs - n) (drop n rs)) n refl refl))
    (subst (λ gs. AreParts gs (drop n rs)) (sym (rest_of fs fs (take (length fs - n) (drop n fs)) n refl refl)) (parts_drop fs rs n c.requires.parts))

pub returns : goal.returns
returns c =
    let fs = c.args.firsts.now in
    let rs = c.args.runs.now in
    let n = c.args.place + 1 in
    let one : n ≡ suc c.args.place = omega arith in
    let behind = subst (λ k. IsTopOf (whole (drop k rs)) c.joined_runs-2.result) one
    (subst (λ ss. IsTopOf (whole ss) c.joined_runs-2.result) (rest_of rs rs (take (length rs - n) (drop n rs)) n refl refl) c.joined_runs-2.ensures) in
    subst (JoinsOthers fs rs c.args.place) (sym c.either.ensures) (joins_others fs rs c.args.place c.joined_runs.result c.joined_runs-2.result c.requires.rise c.requires.parts c.requires.in_runs c.joined_runs.ensures behind)
