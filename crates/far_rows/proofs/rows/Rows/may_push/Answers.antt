use Rattle.std.proofs.Common.{◌∙◌}
use Rattle.far_rows.proofs.PlainLaws.{push-plain}
use Rattle.far_rows.proofs.ByKindLaws.{push-kinds}
use Rattle.far_rows.proofs.rows.Rows.may_push.Goals as goal

pub returns-clause-refused : goal.returns-clause-refused
returns-clause-refused g c = c.may_push_values.ensures ∙ push-kinds g.S.FarTickets.content c.args.self.now c.len-len.ensures.rows c.args.row.now c.requires.texts c.texts-texts.ensures.short

pub returns-clause-plain : goal.returns-clause-plain
returns-clause-plain g c = λ limits of.
    c.may_push_values.ensures
    ∙ push-kinds g.S.FarTickets.content c.args.self.now c.len-len.ensures.rows c.args.row.now c.requires.texts c.texts-texts.ensures.short
    ∙ push-plain g.S.FarTickets.content c.args.self.now c.len-len.ensures.rows limits of c.args.row.now c.requires.texts
