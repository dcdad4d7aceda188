use Rattle.std.proofs.Common.{refl, IsSome, sym, ap, ◌∙◌, subst}
use Rattle.std.specs.Prelude.{is_some}
use Rattle.std.specs.FinMap as fin
use Rattle.far_types.specs.Effects.{join_min_maxes}
use Rattle.far_types.proofs.AnswersByKeyMaps.{with_more, get_at, set_inserts}
use Rattle.far_extrema.specs.MinMaxes.{extrema_of}
use Rattle.far_extrema.proofs.min_maxes.widen.Goals as goal

pub returns-in-Some-clause-there : goal.returns-in-Some-clause-there
returns-in-Some-clause-there c = ap is_some (c.in-Some.ensures.value ∙ sym (get_at c.args.min_maxes.now.entries c.args.key.now))

pub returns-in-None-clause-there : goal.returns-in-None-clause-there
returns-in-None-clause-there c = ap is_some (c.in-None.ensures.value ∙ sym (get_at c.args.min_maxes.now.entries c.args.key.now))

pub returns-in-Some-clause-widened : goal.returns-in-Some-clause-widened
returns-in-Some-clause-widened c _ =
    let there = subst IsSome c.in-Some.ensures.value refl in
    let written = c.get_mut.follows.holds c.merge_two.result in
    set_inserts c.args.min_maxes.now.entries (c.get_mut.follows.lender c.merge_two.result).entries c.args.key.now c.merge_two.result (written.3 there).0
    ∙ ap (fin.insert (extrema_of c.args.min_maxes.now.entries) c.args.key.now) (c.merge_two.ensures ∙ ap (with_more join_min_maxes c.args.more) (c.in-Some.ensures.value ∙ sym (get_at c.args.min_maxes.now.entries c.args.key.now)))
