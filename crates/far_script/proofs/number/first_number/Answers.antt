use Rattle.std.proofs.Common.{◌≡◌, ◌==◌, ◌<◌, arith}
use Rattle.std.specs.List.{position_or_len}
use Rattle.far_script.proofs.NumbersFirst.{first-ends, first-size}
use Rattle.far_script.proofs.number.first_number.Goals.{else-len-text-via-then-len-text+else-text-len, else-len-text-via-else-len-text}
use Rattle.far_script.proofs.number.first_number.Goals as goal

pub returns : goal.returns
returns c =
    let f = c.first_digits-number.ensures in
    let text = c.args.text.now in
    let len = c.first_digits-number.result.1 in
    let some : 0 < len = grind (arith, c.if-len-eq0.false) in
    let ends : len ≡ position_or_len (λ b. b == c.args.end) text = elim c.else-len-text.branch [
      | else-len-text-via-then-len-text+else-text-len w ↦ first-ends c.args.end text len c.requires f.within f.digits (λ low. w.if-text-len.false)
      | else-len-text-via-else-len-text w ↦ first-ends c.args.end text len c.requires f.within f.digits (λ low. absurd (omega (arith, low, w.if-len-text.false)))
    ] in
    (f.small, ends, f.within, first-size c.args.end text len c.first_digits-number.result.0 some f.within ends f.number)
