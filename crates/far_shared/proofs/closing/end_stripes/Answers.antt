use Rattle.far_shared.proofs.closing.end_stripes.Goals as goal

pub returns-clause-zero : goal.returns-clause-zero
returns-clause-zero g c = record { log = c.into_parts-frame_zero.result.1; legal = c.end.ensures.zero.0; stripe = c.into_parts-frame_zero.ensures.stripe; settled = c.end.ensures.zero.1 }

pub returns-clause-one : goal.returns-clause-one
returns-clause-one g c = record { log = c.into_parts-frame_one.result.1; legal = c.end.ensures.one.0; stripe = c.into_parts-frame_one.ensures.stripe; settled = c.end.ensures.one.1 }

pub returns-clause-two : goal.returns-clause-two
returns-clause-two g c = record { log = c.into_parts-frame_two.result.1; legal = c.end.ensures.two.0; stripe = c.into_parts-frame_two.ensures.stripe; settled = c.end.ensures.two.1 }

pub returns-clause-three : goal.returns-clause-three
returns-clause-three g c = record { log = c.into_parts-frame_three.result.1; legal = c.end.ensures.three.0; stripe = c.into_parts-frame_three.ensures.stripe; settled = c.end.ensures.three.1 }
