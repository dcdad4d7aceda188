use Rattle.std.proofs.Common.{refl, sym, ap, ◌∙◌}
use Rattle.far_types.proofs.AnswersByKeyMaps.{get_at}
use Rattle.far_types.proofs.AnswersByKeyMaps as map_in
use Rattle.far_extrema.proofs.HoldersReserve.{reserved-next}
use Rattle.far_extrema.proofs.holders.reserve_all.Goals as goal

pub loop-key-init : goal.loop-key-init
loop-key-init c = record {
  min_maxes = λ g q. refl;
  reserved = λ q there gone. absurd (there (ap (λ es. map_in.at es q) (sym c.into_iter-key-iterator.ensures.into_iter_gives.0) ∙ gone));
}

pub loop-key-preserved : goal.loop-key-preserved
loop-key-preserved c = record {
  min_maxes = λ g q. c.in_ok-reserve_in.ensures.min_maxes g q ∙ c.loop-key.invariant.min_maxes g q;
  reserved = reserved-next c.loop-key.holders c.reserve_in.new.holders c.args.min_maxes.now.entries (c.in-Some.key.now, c.in-Some.field-0-1.now) c.next.new.self
      (λ q there gone. c.loop-key.invariant.reserved q there (ap (λ es. map_in.at es q) c.in-Some.ensures.steps ∙ gone))
      c.in_ok-reserve_in.ensures.kept c.in_ok-reserve_in.ensures.reserved;
}

pub returns-clause-reserved : goal.returns-clause-reserved
returns-clause-reserved c = λ q there. c.loop-key.invariant.reserved q (λ none. there (get_at c.args.min_maxes.now.entries q ∙ none)) (ap (λ es. map_in.at es q) c.in-None.ensures.steps.0)
