use Rattle.far_commands.proofs.ListingsNumbers.{missing-field}
use Rattle.far_commands.proofs.listing.cell.Goals as goal

pub returns-in-Missing : goal.returns-in-Missing
returns-in-Missing c = record { ok = rw (c.in-Missing.is, missing-field c.args.is_lone) c.text.ensures.ok }
