use Rattle.std.proofs.Common.{◌<◌, ◌-◌, length, ◌∙◌, arith}
use Rattle.std.proofs.lemmas.List.Elements.{All-get_or}
use Rattle.far_scopes.proofs.EnteringPins.{undo-one}
use Rattle.far_scopes.proofs.objects.Objects.unpin_all.Goals as goal

pub loop-left-preserved : goal.loop-left-preserved
loop-left-preserved g c = (
  omega (arith, c.loop-left.invariant.0),
  c.take_pin.ensures.long ∙ c.loop-left.invariant.1,
  λ m is. undo-one m c.loop-left.self c.take_pin.new.self c.args.objects.now c.loop-left.left c.take_pin.result c.loop-left-test.true c.loop-left.invariant.0 (omega (arith, c.loop-left.invariant.1, All-get_or (λ o. o < length c.args.self.now.records) c.args.objects.now (c.loop-left.left - 1) 0 (omega (arith, c.loop-left-test.true, c.loop-left.invariant.0)) c.requires)) (c.loop-left.invariant.2 m is) c.take_pin.ensures.none c.take_pin.ensures.taken,
)
