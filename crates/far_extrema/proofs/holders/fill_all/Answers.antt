use Rattle.std.proofs.Common.{sym, subst}
use Rattle.far_types.proofs.AnswersByKeyMaps.{sorted_distinct}
use Rattle.far_extrema.proofs.HoldersReserve.{IsFilling, next-reserved, next-new, filled-next, filled-none, filled-all}
use Rattle.far_extrema.proofs.holders.fill_all.Goals as goal

pub fill_in-requires-clause-reserved : goal.fill_in-requires-clause-reserved
fill_in-requires-clause-reserved c =
    let old = c.args.holders.now in
    let now = c.loop-key.holders in
    next-reserved old now c.args.group c.args.min_maxes.now.entries (c.in-Some.key.now, c.in-Some.min_max.now) c.next.new.self
    (subst (IsFilling old now c.args.group c.args.min_maxes.now.entries) c.in-Some.ensures.steps c.loop-key.invariant.filling)

pub fill_in-requires-clause-new : goal.fill_in-requires-clause-new
fill_in-requires-clause-new c =
    let old = c.args.holders.now in
    let now = c.loop-key.holders in
    next-new old now c.args.group c.args.min_maxes.now.entries (c.in-Some.key.now, c.in-Some.min_max.now) c.next.new.self
    (subst (IsFilling old now c.args.group c.args.min_maxes.now.entries) c.in-Some.ensures.steps c.loop-key.invariant.filling)

pub loop-key-preserved : goal.loop-key-preserved
loop-key-preserved c =
    let old = c.args.holders.now in
    let now = c.loop-key.holders in
    record {
      filling = filled-next old now c.fill_in.new.holders c.args.group c.args.min_maxes.now.entries (c.in-Some.key.now, c.in-Some.min_max.now) c.next.new.self
          (subst (IsFilling old now c.args.group c.args.min_maxes.now.entries) c.in-Some.ensures.steps c.loop-key.invariant.filling)
          c.fill_in.ensures.min_maxes c.fill_in.ensures.reserved;
    }

pub loop-key-init : goal.loop-key-init
loop-key-init c =
    let m = c.args.holders.now in
    record {
      filling = subst (IsFilling m m c.args.group c.args.min_maxes.now.entries) (sym c.into_iter-key-iterator.ensures.into_iter_gives.0)
          (filled-none m c.args.group c.args.min_maxes.now.entries (sorted_distinct c.args.min_maxes.now.entries c.into_iter-key-iterator.ensures.into_iter_gives.5) c.requires.reserved c.requires.new);
    }

pub returns : goal.returns
returns c =
    let old = c.args.holders.now in
    let now = c.loop-key.holders in
    filled-all old now c.args.group c.args.min_maxes.now.entries
    (subst (IsFilling old now c.args.group c.args.min_maxes.now.entries) c.in-None.ensures.steps.0 c.loop-key.invariant.filling)
