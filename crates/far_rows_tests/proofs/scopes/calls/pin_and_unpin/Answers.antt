use Rattle.far_rows_tests.proofs.scopes.calls.pin_and_unpin.Goals as goal

pub returns : goal.returns
returns g c = λ id here. c.close.ensures.keeps.copies.store id (c.unpin_one.ensures.store id (c.in_ok-scope.ensures.store id here))
