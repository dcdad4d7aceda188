use Rattle.std.proofs.Common.{◌≡◌, ◌∙◌, true, sym, slice_index, below_more, arith}
use Rattle.std.specs.Char.{is_ascii_digit}
use Rattle.far_script.proofs.NumbersFirst.{one-digit-more, digit-small}
use Rattle.far_script.proofs.number.first_digits.Goals as goal

pub loop-at-preserved : goal.loop-at-preserved
loop-at-preserved c =
    let i = c.loop-at.invariant in
    let text = c.args.text.now in
    let digit : is_ascii_digit (slice_index text c.loop-at.at) ≡ true = sym c.is_ascii_digit.ensures.value ∙ c.if-not-is_ascii_digit.false in
    record {
      small = omega (arith, c.from.ensures, c.if-number-ge-MANY.false, digit-small (slice_index text c.loop-at.at) digit);
      number = rw c.from.ensures (one-digit-more text c.loop-at.at c.loop-at.number c.loop-at-test.true digit i.number);
      digits = below_more _ _ i.digits digit;
    }
