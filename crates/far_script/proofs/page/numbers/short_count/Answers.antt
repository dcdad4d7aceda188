use Rattle.std.proofs.Common.{◌≡◌, ◌/◌, decimal, length, sym, arith}
use Rattle.itoa.proofs.Decimal.{length_one, length_two, length_pair}
use Rattle.far_script.proofs.page.numbers.short_count.Goals as goal

pub returns-then-number-lt10-clause-count : goal.returns-then-number-lt10-clause-count
returns-then-number-lt10-clause-count c = sym (length_one c.args.number (omega arith))

pub returns-else-number-lt10-clause-count : goal.returns-else-number-lt10-clause-count
returns-else-number-lt10-clause-count c = sym (length_two c.args.number (omega arith) (omega arith))

pub returns-then-number-lt1000-clause-count : goal.returns-then-number-lt1000-clause-count
returns-then-number-lt1000-clause-count c =
    let one : length (decimal (c.args.number / 100)) ≡ 1 = length_one (c.args.number / 100) (omega arith) in
    let more = length_pair c.args.number (omega arith) (omega arith) in
    omega (arith, one, more)

pub returns-else-number-lt1000-clause-count : goal.returns-else-number-lt1000-clause-count
returns-else-number-lt1000-clause-count c =
    let two : length (decimal (c.args.number / 100)) ≡ 2 = length_two (c.args.number / 100) (omega arith) (omega arith) in
    let more = length_pair c.args.number (omega arith) (omega arith) in
    omega (arith, two, more)
