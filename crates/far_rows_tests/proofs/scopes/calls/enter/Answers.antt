use Rattle.std.proofs.Common.{length, ap, ◌∙◌}
use Rattle.far_scopes.proofs.EnteringPins.{length-after_pin_all}
use Rattle.far_rows_tests.proofs.scopes.calls.enter.Goals as goal

pub returns-clause-count : goal.returns-clause-count
returns-clause-count g c = ap (λ m. length m.records) c.in_ok-scope.ensures.pinned ∙ length-after_pin_all c.args.objects.now c.args.listed.now
