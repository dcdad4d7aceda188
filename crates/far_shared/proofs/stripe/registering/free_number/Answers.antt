use Rattle.std.proofs.Common.{sym, ◌∙◌, arith}
use Rattle.far_shared.proofs.WatchingUndo.{free-end, free-here, free-past}
use Rattle.far_shared.proofs.stripe.registering.free_number.Goals as goal

pub loop-a-preserved : goal.loop-a-preserved
loop-a-preserved g c =
    let all = c.args.frame.now.table.aggregates in
    sym (free-past all c.loop-a.a (omega (arith, c.requires.all, c.loop-a-test.true)) (sym c.is_free.ensures ∙ c.if-is_free.false)) ∙ c.loop-a.invariant

pub returns-then-is_free : goal.returns-then-is_free
returns-then-is_free g c =
    let all = c.args.frame.now.table.aggregates in
    sym (free-here all c.loop-a.a (omega (arith, c.requires.all, c.loop-a-test.true)) (sym c.is_free.ensures ∙ c.if-is_free.true)) ∙ c.loop-a.invariant

pub returns : goal.returns
returns g c = sym (free-end c.args.frame.now.table.aggregates c.loop-a.a (omega (arith, c.requires.all, c.loop-a-test.false))) ∙ c.loop-a.invariant
