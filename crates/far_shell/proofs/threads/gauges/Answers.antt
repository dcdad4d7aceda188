use Rattle.far_shell.proofs.SessionsLaws.{gauges-end, gauges-more}
use Rattle.far_shell.proofs.threads.gauges.Goals as goal

pub loop-session-preserved : goal.loop-session-preserved
loop-session-preserved c =
    gauges-more c.args.readings.now c.loop-session.session _ c.loop-session.page c.gauge_line.new.page _ c.loop-session-test.true c.in_ok-gauge_line.ensures.ok c.loop-session.invariant

pub returns : goal.returns
returns c = record { ok = gauges-end c.args.readings.now c.loop-session.session c.loop-session.page _ c.loop-session-test.false c.loop-session.invariant }
