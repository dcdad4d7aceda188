use Rattle.std.proofs.Common.{◌≡◌, List, sym, ◌∙◌, subst}
use Rattle.std.proofs.lemmas.List.{map-id}
use Rattle.std.proofs.lemmas.Iterator.Adapters.{YieldsList-from_vec}
use Rattle.std.proofs.lemmas.Iterator.Consumers.{YieldsList-end}
use Rattle.far_shell.specs.Working.{Ended}
use Rattle.far_shell.proofs.WorkingReadings.{AreRead, gauged-all, read-more}
use Rattle.far_shell.proofs.sessions.reading.read_gauges.Goals as goal
use Rattle.far_shell.proofs.sessions.reading.read_gauges.Goals.{After-drop-one-iterator-2}

pub loop-one-init : goal.loop-one-init
loop-one-init g c = rw (c.new-sessions.ensures.items, c.new-readings.ensures.items) tt

pub loop-one-preserved : goal.loop-one-preserved
loop-one-preserved g c =
    rw (c.in_ok-push.ensures.items, c.in_ok-push-2.ensures.items)
    (read-more g.N.PlanTag.plan c.loop-one.yielded c.loop-one.sessions.items c.loop-one.readings.items c.in-Some.one c.in_ok-me.me c.in_ok-me.reading c.loop-one.invariant c.in_ok-me.ensures)

-- after the loop all sessions are read
all-read : (g : _) (c : After-drop-one-iterator-2 g) → AreRead g.N.PlanTag.plan c.args.worked.items c.loop-one.sessions.items c.loop-one.readings.items
all-read g c =
    let end = YieldsList-end (YieldsList-from_vec c.args.worked.items (cc) (cc)) c.loop-one.yielded c.loop-one.one-iterator c.loop-one.yielded_by c.next.result c.next.new.self c.in-None.is c.next.ensures.steps in
    let all : c.loop-one.yielded ≡ c.args.worked.items = sym (map-id c.loop-one.yielded) ∙ end.0 in
    subst (λ (worked : List Ended). AreRead g.N.PlanTag.plan worked c.loop-one.sessions.items c.loop-one.readings.items) all c.loop-one.invariant

pub returns : goal.returns
returns g c = gauged-all g.N.PlanTag.plan c.args.edits c.args.worked.items _ _ (all-read g c) c.requires
