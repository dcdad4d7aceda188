use Rattle.std.proofs.Common.{arith}
use Rattle.itoa.proofs.Decimal.{length_four}
use Rattle.far_script.proofs.page.numbers.digit_count.Goals as goal

pub returns-clause-count : goal.returns-clause-count
returns-clause-count c =
    let more = length_four c.args.number (omega arith) (omega arith) in
    omega (arith, more, c.short_count-2.ensures.count)
