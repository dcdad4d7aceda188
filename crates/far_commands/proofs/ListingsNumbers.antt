-- The csv writer prints a number, and the mark of a missing value, without quotes: they have no byte that needs them.
use Rattle.std.proofs.Common.{◌≡◌, Bool, true, false, refl}
use Rattle.std.specs.Prelude.{ℤ}
use Rattle.std.specs.Fmt.{signed_decimal}
use Rattle.far_script.specs.Fields.{missing_mark}
use Rattle.far_script.proofs.PrintingNumbers as digits
use Rattle.far_script.proofs.PrintingLaws.{lone-same}
use Rattle.far_commands.specs.Listings.{field_in_record}

pub signed-field : (is_lone : Bool) (z : ℤ) → field_in_record is_lone (signed_decimal z) ≡ signed_decimal z
signed-field true z = digits.signed-record z
signed-field false z = digits.signed-field z

pub missing-field : (is_lone : Bool) → field_in_record is_lone missing_mark ≡ missing_mark
missing-field true = lone-same missing_mark refl
missing-field false = refl
