use Rattle.std.proofs.Common.{◌∙◌, arith, refl, rules}
use Rattle.std.proofs.lemmas.Fmt.{length-decimal-le}
use Rattle.far_script.proofs.DigitLaws.{digits-stay}
use Rattle.far_script.proofs.page.Page.long_number.Goals as goal

pub write_digits-start-requires : goal.write_digits-start-requires
write_digits-start-requires c = (omega (arith, length-decimal-le 20 c.args.number (omega arith) (omega arith) c.ranges.number.fits), search rules)

pub returns : goal.returns
returns c = record {
  ok =
      c.truncate.ensures ∙ digits-stay c.args.self.now _ _ c.write_digits-start.new.buf _ c.bytes.new.self c.write_digits-start.result c.len.result c.write_digits-start.ensures.start c.write_digits-start.ensures.written (search rules) refl c.in_ok-bytes.ensures.ok c.len.ensures;
}
