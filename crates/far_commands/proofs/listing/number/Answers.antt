use Rattle.std.proofs.lemmas.Int.{to_z-of_z}
use Rattle.far_commands.proofs.ListingsNumbers.{signed-field}
use Rattle.far_commands.proofs.listing.number.Goals as goal

pub returns : goal.returns
returns c = record { ok = rw (signed-field c.args._is_lone c.args.value) (simp (to_z-of_z, c.ranges.value) at c.signed.ensures.ok) }
