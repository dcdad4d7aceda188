use Rattle.far_rows.proofs.JobsBeginning.{text-named}
use Rattle.far_rows.proofs.rows.Rows.coldest_text.Goals as goal

pub returns-clause-evictable : goal.returns-clause-evictable
returns-clause-evictable g c = text-named g.S.FarTickets.content c.args.self.now c.len-len.ensures.rows c.in_ok-o.o c.name.result c.text_objects-objects.result.now c.text_objects-objects.ensures.objects c.text_objects-objects.ensures.owned c.name.ensures c.in_ok-o.ensures.local
