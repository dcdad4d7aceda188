use Rattle.std.proofs.Common.{ℕ, IsSome, subst}
use Rattle.std.specs.Prelude.{All}
use Rattle.std.proofs.lemmas.List.{take_all}
use Rattle.std.proofs.lemmas.List.Elements.{All-more}
use Rattle.far_log.specs.RegionState.{segment_of, list_at}
use Rattle.far_base_tests.proofs.log.order.are_parts.Goals as goal

pub loop-offset-preserved : goal.loop-offset-preserved
loop-offset-preserved g c = All-more (λ (offset : ℕ). IsSome (list_at (segment_of c.args.region.now c.args.segment).parts offset)) c.args.order.now c.loop-offset.offset-index 0 c.loop-offset-test.true c.loop-offset.invariant (c.holds.ensures.0 c.if-not-holds.false)

pub returns : goal.returns
returns g c = λ _. subst (λ offsets. All (λ (offset : ℕ). IsSome (list_at (segment_of c.args.region.now c.args.segment).parts offset)) offsets) (take_all c.loop-offset.offset-index c.args.order.now c.loop-offset-test.false) c.loop-offset.invariant
