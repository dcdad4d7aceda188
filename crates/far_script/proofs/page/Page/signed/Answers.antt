use Rattle.std.proofs.Common.{◌≡◌, ◌∷◌, decimal, to_z-of_z}
use Rattle.std.specs.Fmt.{signed_decimal}
use Rattle.itoa.proofs.Decimal.{minus_first}
use Rattle.far_script.proofs.DigitLaws.{with-minus}
use Rattle.far_script.proofs.page.Page.signed.Goals as goal

pub returns : goal.returns
returns c = record {
  ok =
      let back = to_z-of_z c.ranges.number in
      let digits : 45 ∷ decimal c.unsigned_abs-2.result ≡ signed_decimal c.args.number = rw (c.unsigned_abs-2.ensures.value, back) (minus_first c.args.number (rw back at c.if-number-ge0.false)) in
      rw (with-minus c.args.self.now c.byte.new.self c.unsigned_abs-2.result c.args.number c.in_ok-byte.ensures.ok digits) at c.number-2.ensures.ok;
}
