use Rattle.far_rows_tests.proofs.scopes.calls.pin_together.Goals as goal

pub returns : goal.returns
returns g c = λ id here. c.close.ensures.keeps.copies.store id (c.in_ok-scope.ensures.store id here)
