use Rattle.far_log.proofs.StorageEntries.{extents-relinked, links-behind}
use Rattle.far_log.proofs.links.set_behind.Goals as goal

pub returns-clause-extents : goal.returns-clause-extents
returns-clause-extents c = rw c.set.ensures (extents-relinked c.args.table.now c.args.number c.get-entry.result _ c.get-entry.ensures)

pub returns-clause-links : goal.returns-clause-links
returns-clause-links c = rw c.set.ensures (links-behind c.args.table.now c.args.number c.args.behind c.get-entry.result c.get-entry.ensures)
