use Rattle.far_shared.proofs.AskingLaws.{answers-given, gauge-given, refusal-given}
use Rattle.far_shared.proofs.stripe.asking.answer_stripes.Goals as goal

pub returns-clause-answer : goal.returns-clause-answer
returns-clause-answer g c =
    let zero = c.zero.inside in
    let one = c.one.inside in
    let two = c.two.inside in
    let three = c.three.inside in
    answers-given g.N.PlanTag.plan zero.keeper one.keeper two.keeper three.keeper zero.frame.table one.frame.table two.frame.table three.frame.table
    c.zero.invariant.0 c.one.invariant.0 c.two.invariant.0 c.three.invariant.0
    c.args.a c.answer_four.result c.known.ensures.legal c.known-2.ensures.legal c.known-3.ensures.legal c.known-4.ensures.legal
    c.answer_four.ensures.answer c.answer_four.ensures.alike

pub returns-clause-asked : goal.returns-clause-asked
returns-clause-asked g c =
    let zero = c.zero.inside in
    let one = c.one.inside in
    let two = c.two.inside in
    let three = c.three.inside in
    let returned = c.answer_four.ensures in record {
      zero = zero.frame.table;
      one = one.frame.table;
      two = two.frame.table;
      three = three.frame.table;
      left = (
        record { log = zero.keeper; legal = c.known.ensures.legal; stripe = c.zero.invariant.0 },
        record { log = one.keeper; legal = c.known-2.ensures.legal; stripe = c.one.invariant.0 },
        record { log = two.keeper; legal = c.known-3.ensures.legal; stripe = c.two.invariant.0 },
        record { log = three.keeper; legal = c.known-4.ensures.legal; stripe = c.three.invariant.0 },
      );
      alike = returned.alike;
      scanned = returned.scanned;
      answer = returned.answer;
      refused = refusal-given g.N.PlanTag.plan zero.keeper one.keeper two.keeper three.keeper zero.frame.table one.frame.table two.frame.table three.frame.table
          c.zero.invariant.0 c.one.invariant.0 c.two.invariant.0 c.three.invariant.0 c.args.a c.answer_four.result returned.refused;
    }

pub returns-clause-gauge : goal.returns-clause-gauge
returns-clause-gauge g c =
    let zero = c.zero.inside in
    let one = c.one.inside in
    let two = c.two.inside in
    let three = c.three.inside in
    gauge-given g.N.PlanTag.plan zero.keeper one.keeper two.keeper three.keeper zero.frame.table one.frame.table two.frame.table three.frame.table
    c.zero.invariant.0 c.one.invariant.0 c.two.invariant.0 c.three.invariant.0
    c.args.a c.answer_four.result c.answer_four.ensures.refused
