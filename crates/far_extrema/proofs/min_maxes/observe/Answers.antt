use Rattle.std.proofs.Common.{refl, sym, ◌∙◌}
use Rattle.far_types.specs.Effects.{join_min_maxes}
use Rattle.far_types.proofs.AnswersByKeyMaps.{inserted_new}
use Rattle.far_extrema.proofs.min_maxes.observe.Goals as goal

pub returns-in_ok-insert-clause-ok : goal.returns-in_ok-insert-clause-ok
returns-in_ok-insert-clause-ok c =
    inserted_new join_min_maxes c.args.min_maxes.now.entries c.widen.new.min_maxes.entries c.insert.new.self.entries c.args.key c.args.key c.args.more
    (c.widen.ensures.absent c.if-not-widen.true) refl (sym c.widen.ensures.there ∙ c.if-not-widen.true) c.in_ok-insert.ensures.updates.0
