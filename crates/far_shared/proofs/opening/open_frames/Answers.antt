use Rattle.far_shared.specs.declared.opening.Four.{Four}
use Rattle.far_shared.proofs.OpenLaws.{kept}
use Rattle.far_shared.proofs.opening.open_frames.Goals as goal

pub returns-clause-zero : goal.returns-clause-zero
returns-clause-zero g c = kept _ (λ (four : Four _). four.zero) _ _ c.all_four.ensures.zero c.open_frame.ensures.ok

pub returns-clause-one : goal.returns-clause-one
returns-clause-one g c = kept _ (λ (four : Four _). four.one) _ _ c.all_four.ensures.one c.open_frame-2.ensures.ok

pub returns-clause-two : goal.returns-clause-two
returns-clause-two g c = kept _ (λ (four : Four _). four.two) _ _ c.all_four.ensures.two c.open_frame-3.ensures.ok

pub returns-clause-three : goal.returns-clause-three
returns-clause-three g c = kept _ (λ (four : Four _). four.three) _ _ c.all_four.ensures.three c.open_frame-4.ensures.ok
