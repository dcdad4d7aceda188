use Rattle.far_rows.proofs.JobsBeginning.{number-named}
use Rattle.far_rows.proofs.rows.Rows.coldest_number.Goals as goal

pub returns-clause-evictable : goal.returns-clause-evictable
returns-clause-evictable g c = number-named g.S.FarTickets.content c.args.self.now c.len-len.ensures.rows c.in_ok-o.o c.name.result c.number_objects-objects.result.now c.number_objects-objects.ensures.objects c.number_objects-objects.ensures.owned c.name.ensures c.in_ok-o.ensures.local
