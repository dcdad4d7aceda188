use Rattle.std.proofs.lemmas.Option.{IfSome_then}
use Rattle.far_table.proofs.FarGroupsCopies.{copied}
use Rattle.far_table.proofs.copies.copy_of.Goals as goal

pub returns-clause-copy : goal.returns-clause-copy
returns-clause-copy g c = IfSome_then c.copy.result c.copy.ensures.form (λ ticket. copied g.S.FarTickets.content c.args.rows.now c.len-len.ensures.rows c.args.column c.args.group ticket.now)
