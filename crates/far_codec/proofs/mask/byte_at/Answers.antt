use Rattle.std.proofs.Common.{◌≡◌, ◌-◌, ◌+◌, ◌*◌, ◌≤◌, Bool, true, false, length, get_or, drop, refl, sym, ap, ◌∙◌, arith}
use Rattle.std.proofs.lemmas.List.{length-take, length-drop}
use Rattle.far_codec.specs.FarForm.{mask_byte}
use Rattle.far_codec.specs.MaskLaws.{bit}
use Rattle.far_codec.proofs.FarFormMaskBytes.{eight, length-eight, byte_more, byte_none, byte_small}
use Rattle.far_codec.proofs.mask.byte_at.Goals as goal
use mir.Val.{bool_byte}

as_byte : (b : Bool) → bool_byte b ≡ bit b
as_byte true = refl
as_byte false = refl

bit_small : (b : Bool) → bool_byte b ≤ 1
bit_small true = omega arith
bit_small false = omega arith

pub loop-i-init : goal.loop-i-init
loop-i-init g c =
    let flags = g.F.Flags.flags c.args.flags.now in
    let few : length (eight flags c.args.k) ≡ c.min-i.result = length-eight flags c.args.k c.min-i.result c.requires (c.min-i.ensures ∙ omega (arith, c.count.ensures)) in
    record { in_range = omega (arith, few); byte_is = sym (byte_none flags c.args.k) ∙ ap (λ n. mask_byte (drop n (eight flags c.args.k))) few }

pub overflow_mul-byte : goal.overflow_mul-byte
overflow_mul-byte g c = omega (arith, byte_small (g.F.Flags.flags c.args.flags.now) c.args.k c.loop-i.i c.loop-i-test.true, c.loop-i.invariant.byte_is)

pub is_missing-requires : goal.is_missing-requires
is_missing-requires g c =
    let flags = g.F.Flags.flags c.args.flags.now in
    omega (arith, c.loop-i.invariant.in_range, c.loop-i-test.true, length-take 8 (drop (8 * c.args.k) flags), length-drop (8 * c.args.k) flags, c.requires)

pub overflow_add-byte : goal.overflow_add-byte
overflow_add-byte g c = omega (arith, byte_small (g.F.Flags.flags c.args.flags.now) c.args.k c.loop-i.i c.loop-i-test.true, c.loop-i.invariant.byte_is, bit_small c.is_missing.result, c.from.ensures)

pub loop-i-preserved : goal.loop-i-preserved
loop-i-preserved g c =
    let flags = g.F.Flags.flags c.args.flags.now in
    let k = c.args.k in
    let i = c.loop-i.i - 1 in
    let next : i + 1 ≡ c.loop-i.i = omega (arith, c.loop-i-test.true) in
    let flag : c.from.result ≡ bit (get_or flags (8 * k + i) false) = c.from.ensures ∙ as_byte c.is_missing.result ∙ ap bit c.is_missing.ensures in
    let rest : c.loop-i.byte ≡ mask_byte (drop (i + 1) (eight flags k)) = c.loop-i.invariant.byte_is ∙ ap (λ n. mask_byte (drop n (eight flags k))) (sym next) in
    record {
      in_range = omega (arith, c.loop-i.invariant.in_range);
      byte_is = omega (arith, flag, rest, byte_more flags k i (omega (arith, c.loop-i.invariant.in_range, next)));
    }
