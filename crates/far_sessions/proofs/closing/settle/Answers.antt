use Rattle.std.proofs.Common.{◌≡◌, List, ◌∙◌, refl}
use Rattle.far_sessions.specs.Known.{Known}
use Rattle.far_sessions.proofs.ClosingSessions.{all-taken}
use Rattle.far_sessions.proofs.closing.settle.Goals as goal

pub loop-session-preserved : goal.loop-session-preserved
loop-session-preserved g c =
    let i = c.loop-session.invariant in
    let numbers = c.session.invariant in
    let s = c.session.inside in
    let y : Known = record { zeroth = s.zero; first = s.one; second = s.two; third = s.three } in
    let xs : List Known = c.loop-session.yielded in
    let x : Known = c.in-Some.session in
    let is : y ≡ x = c.session.view_is in record {
      zero = c.end_session.ensures.history ∙ i.zero;
      one = c.end_session-in-loop-session.ensures.history ∙ i.one;
      two = c.end_session-in-loop-session-2.ensures.history ∙ i.two;
      three = c.end_session-in-loop-session-3.ensures.history ∙ i.three;
      all_zero = all-taken 0 _ _ _ xs y x i.zero is refl i.all_zero c.end_session.ensures.seen c.end_session.ensures.own;
      all_one = all-taken 1 _ _ _ xs y x i.one is numbers.1 i.all_one c.end_session-in-loop-session.ensures.seen c.end_session-in-loop-session.ensures.own;
      all_two = all-taken 2 _ _ _ xs y x i.two is numbers.2 i.all_two c.end_session-in-loop-session-2.ensures.seen c.end_session-in-loop-session-2.ensures.own;
      all_three = all-taken 3 _ _ _ xs y x i.three is numbers.3 i.all_three c.end_session-in-loop-session-3.ensures.seen c.end_session-in-loop-session-3.ensures.own;
    }
