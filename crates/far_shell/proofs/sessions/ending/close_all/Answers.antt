use Rattle.far_shell.proofs.RunsLaws.{is-accepted, of-accepted}
use Rattle.far_shell.proofs.sessions.ending.close_all.Goals as goal

pub accepted-requires : goal.accepted-requires
accepted-requires g c = is-accepted c.close.result _ c.close.ensures.missing (λ refused missing. missing.1 c.requires.whole)

pub returns-clause-zero : goal.returns-clause-zero
returns-clause-zero g c = of-accepted c.close.result c.accepted.result _ c.accepted.ensures c.close.ensures.zero

pub returns-clause-one : goal.returns-clause-one
returns-clause-one g c = of-accepted c.close.result c.accepted.result _ c.accepted.ensures c.close.ensures.one

pub returns-clause-two : goal.returns-clause-two
returns-clause-two g c = of-accepted c.close.result c.accepted.result _ c.accepted.ensures c.close.ensures.two

pub returns-clause-three : goal.returns-clause-three
returns-clause-three g c = of-accepted c.close.result c.accepted.result _ c.accepted.ensures c.close.ensures.three
