use Rattle.far_table.proofs.GroupsAway.{not-at-hand}
use Rattle.far_table.proofs.copies.away_copy.Goals as goal

pub returns-clause-all : goal.returns-clause-all
returns-clause-all g c = λ wanted away.
    c.copy_of.ensures.away (not-at-hand g.S.FarTickets.content c.args.rows.now c.len-len.ensures.rows c.args.spec.now c.args.column c.args.group c.requires.inside c.requires.begun away)
