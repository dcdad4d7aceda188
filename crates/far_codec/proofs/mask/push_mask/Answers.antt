use Rattle.std.proofs.Common.{◌≡◌, ◌+◌, ◌/◌, ◌++◌, ℕ, List, [], ◌∷◌, length, map, sym, ap, ◌∙◌, arith, append_assoc}
use Rattle.std.specs.List.{range_with_len}
use Rattle.std.proofs.lemmas.List.FromFn.{map-range_with_len_more}
use Rattle.far_codec.specs.MaskLaws.{part}
use Rattle.far_codec.proofs.FarFormMaskBytes.{mask_is_parts, ceil_is}
use Rattle.far_codec.proofs.mask.push_mask.Goals as goal

pub loop-k-preserved : goal.loop-k-preserved
loop-k-preserved g c =
    let flags = g.F.Flags.flags c.args.flags.now in
    let k = c.loop-k.k in
    let form = c.args.form.now.items in
    c.in_ok-push.ensures.items
    ∙ ap (λ (l : List ℕ). l ++ c.byte_at.result ∷ []) c.loop-k.invariant
    ∙ append_assoc form (map (part flags) (range_with_len 0 k)) (c.byte_at.result ∷ [])
    ∙ ap (λ (b : ℕ). form ++ (map (part flags) (range_with_len 0 k) ++ b ∷ [])) c.byte_at.ensures
    ∙ ap (λ (l : List ℕ). form ++ l) (sym (map-range_with_len_more (part flags) 0 k k (omega arith)))

pub returns : goal.returns
returns g c =
    let flags = g.F.Flags.flags c.args.flags.now in
    let n : c.loop-k.k ≡ (length flags + 7) / 8 = omega (arith, c.loop-k.auto.k-end, c.loop-k-test.false, c.div_ceil-k-end.ensures, ceil_is (length flags), c.count.ensures) in
    c.loop-k.invariant ∙ ap (λ (j : ℕ). c.args.form.now.items ++ map (part flags) (range_with_len 0 j)) n ∙ ap (λ (l : List ℕ). c.args.form.now.items ++ l) (sym (mask_is_parts flags))
