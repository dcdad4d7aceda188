use Rattle.std.proofs.Common.{◌≡◌, ◌+◌, ◌-◌, ◌*◌, ◌%◌, ◌^◌, ℕ, length, sym, ap, ◌∙◌, arith}
use Rattle.std.proofs.lemmas.Nat.{shl_whole}
use Rattle.far_types.specs.Prefixes.{AreBytes}
use Rattle.far_types.proofs.PrefixesLaws.{four, of_some}
use Rattle.far_types.proofs.prefix.prefix_of.Goals as goal

pub returns-then-len-lt8-clause-value : goal.returns-then-len-lt8-clause-value
returns-then-len-lt8-clause-value c =
    let bytes = c.args.bytes.now in
    let shift = 64 - length bytes * 8 in
    let fits : AreBytes bytes = λ i. omega (arith, c.type_inv.bytes i) in
    let first : c.from-first-2.result ≡ four bytes 0 = c.from-first-2.ensures ∙ c.four_from.ensures in
    let last : c.from-then-len-lt8.result ≡ four bytes (length bytes - 4) = c.from-then-len-lt8.ensures ∙ c.four_from-then-len-lt8.ensures in
    let head : c.from-first-2.result * 2 ^ 32 % 2 ^ 64 ≡ c.from-first-2.result * 2 ^ 32 = omega (arith, c.four_from.type_inv, c.from-first-2.ensures) in
    let tail : c.from-then-len-lt8.result * 2 ^ shift % 2 ^ 64 ≡ c.from-then-len-lt8.result * 2 ^ shift =
    shl_whole c.from-then-len-lt8.result 32 shift 64 (omega (arith, c.four_from-then-len-lt8.type_inv, c.from-then-len-lt8.ensures)) (omega (arith, c.if-len-lt4.false)) in
    let whole = of_some bytes fits (omega (arith, c.if-len-lt4.false)) c.if-len-lt8.true in
    (λ i. (head ∙ ap (λ (n : ℕ). n * 2 ^ 32) first) i + (ap (λ (n : ℕ). n % 2 ^ 32) (tail ∙ ap (λ (n : ℕ). n * 2 ^ shift) last)) i) ∙ sym whole
