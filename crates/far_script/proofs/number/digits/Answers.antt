use Rattle.std.proofs.Common.{arith, sym, ◌∙◌, ap, ◌^◌, ◌≤◌, ◌*◌, ◌+◌, ◌-◌, slice_index}
use Rattle.far_script.specs.Numbers.{below}
use Rattle.far_script.proofs.NumbersLaws.{overflows, digits_of-nonempty, whole}
use Rattle.far_script.proofs.number.digits.Goals as goal

pub returns-in_err-checked_mul : goal.returns-in_err-checked_mul
returns-in_err-checked_mul c =
    let start = digits_of-nonempty c.args.text.now (sym c.if-is_empty.ensures) in
    let large : 2 ^ 64 ≤ c.loop-byte.number * 10 + (slice_index c.args.text.now c.loop-byte.byte-index - 48) = grind (arith, c.in_err-checked_mul.ensures) in
    let none = overflows c.loop-byte.number c.loop-byte.byte-index c.args.text.now c.loop-byte-test.true large in
    c.from_residual.ensures ∙ sym none ∙ sym (ap (below (2 ^ 64)) (start ∙ c.loop-byte.invariant.read))

pub returns-in_err-number : goal.returns-in_err-number
returns-in_err-number c =
    let start = digits_of-nonempty c.args.text.now (sym c.if-is_empty.ensures) in
    let large : 2 ^ 64 ≤ c.loop-byte.number * 10 + (slice_index c.args.text.now c.loop-byte.byte-index - 48) = grind (arith, c.in_err-number.ensures) in
    let none = overflows c.loop-byte.number c.loop-byte.byte-index c.args.text.now c.loop-byte-test.true large in
    c.from_residual-in_err-number.ensures ∙ sym none ∙ sym (ap (below (2 ^ 64)) (start ∙ c.loop-byte.invariant.read))

pub returns : goal.returns
returns c =
    let start = digits_of-nonempty c.args.text.now (sym c.if-is_empty.ensures) in
    whole c.loop-byte.number c.loop-byte.byte-index c.args.text.now c.loop-byte-test.false c.loop-byte.invariant.small ∙ sym (ap (below (2 ^ 64)) (start ∙ c.loop-byte.invariant.read))
