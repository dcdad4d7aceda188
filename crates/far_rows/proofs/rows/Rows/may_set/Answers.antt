use Rattle.std.proofs.Common.{◌∙◌}
use Rattle.far_rows.proofs.PlainSet.{set-plain}
use Rattle.far_rows.proofs.rows.Rows.may_set.Goals as goal

pub returns-clause-plain : goal.returns-clause-plain
returns-clause-plain g c = λ limits of. c.may_set_value.ensures ∙ set-plain g.S.FarTickets.content c.args.self.now c.len-len.ensures.rows limits of c.args.column c.args.place c.requires.place c.args.value.now c.requires.of_kind c.requires.short
