use Rattle.std.proofs.Common.{◌≡◌, ◌∙◌, sym, subst}
use Rattle.std.specs.Prelude.{IfSome}
use Rattle.far_types.specs.declared.answer.Answer.{Answer}
use Rattle.far_types.specs.Answers.{answer_over}
use Rattle.far_shared.specs.Fours.{all_rows, spec_at}
use Rattle.far_shell.specs.Working.{AreLeft}
use Rattle.far_shell.proofs.RunsLaws.{gauged-whole, run-of}
use Rattle.far_shell.proofs.sessions.ending.end.Goals as goal
use Rattle.far_shell.proofs.sessions.ending.end.Goals.{In_ok-sessions}

-- the outcome of the sessions
left : (g : _) (c : In_ok-sessions g) → AreLeft g.N.PlanTag.plan c.args.edits c.in_ok-sessions.sessions.items c.in_ok-sessions.outcome
left g c = rw c.in_ok-sessions.was at c.requires.left

pub close_all-frames-requires-clause-whole : goal.close_all-frames-requires-clause-whole
close_all-frames-requires-clause-whole g c κs within = gauged-whole g.N.PlanTag.plan c.args.edits c.in_ok-sessions.sessions.items _ (left g c).gauged

pub returns : goal.returns
returns g c =
    let there : AreLeft g.N.PlanTag.plan c.args.edits c.in_ok-sessions.sessions.items c.in_ok-sessions.outcome = rw c.in_ok-sessions.was at c.requires.left in
    let frames = c.close_all-frames in
    let same = c.have_same_line.ensures.0 c.if-not-have_same_line.false in
    run-of g.N.PlanTag.plan c.args.edits c.in_ok-sessions.sessions.items _ _ _ _ frames.ensures.zero frames.ensures.one frames.ensures.two frames.ensures.three c.in_ok-sessions.outcome c.requires.homes there
    (subst (λ (returned : Answer). IfSome (spec_at frames.result.zero.table 0) (λ spec. returned ≡ answer_over spec (all_rows frames.result.zero.table frames.result.one.table frames.result.two.table frames.result.three.table))) (same.3 ∙ sym same.2) c.in_ok-closed.ensures.ok)
