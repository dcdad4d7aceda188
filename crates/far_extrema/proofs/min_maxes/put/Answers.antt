use Rattle.std.proofs.Common.{refl, IsSome, sym, ap, ◌∙◌, subst}
use Rattle.far_types.proofs.AnswersByKeyMaps.{get_at, set_inserts, set_removes}
use Rattle.far_extrema.specs.MinMaxes.{extrema_of, put_min_max}
use Rattle.far_extrema.proofs.min_maxes.put.Goals as goal

pub returns-in-None : goal.returns-in-None
returns-in-None c =
    set_removes c.args.min_maxes.now.entries c.remove.new.self.entries c.args.key.now c.remove.ensures.updates.0
    ∙ ap (put_min_max (extrema_of c.args.min_maxes.now.entries) c.args.key.now) (sym c.in-None.is)

pub returns-in-Some-get_mut : goal.returns-in-Some-get_mut
returns-in-Some-get_mut c =
    let there = subst IsSome c.in-Some-get_mut.ensures.value refl in
    let written = c.get_mut.follows.holds c.in-Some.min_max in
    set_inserts c.args.min_maxes.now.entries (c.get_mut.follows.lender c.in-Some.min_max).entries c.args.key.now c.in-Some.min_max (written.3 there).0
    ∙ ap (put_min_max (extrema_of c.args.min_maxes.now.entries) c.args.key.now) (sym c.in-Some.is)

pub unreachable-requires : goal.unreachable-requires
unreachable-requires c = c.requires (get_at c.args.min_maxes.now.entries c.args.key.now ∙ sym c.in-None-get_mut.ensures.value)
