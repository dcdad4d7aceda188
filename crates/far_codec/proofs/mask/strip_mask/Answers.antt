use Rattle.std.proofs.Common.{◌≡◌, ◌++◌, ℕ, List, length, get_or, take, sym, ap, ◌∙◌, arith}
use Rattle.std.specs.List.{list_any}
use Rattle.std.proofs.lemmas.Bool.{false≢true}
use Rattle.std.proofs.lemmas.List.{length-append, take-append-drop}
use Rattle.far_codec.specs.FarForm.{mask_bytes}
use Rattle.far_codec.specs.MaskLaws.{part}
use Rattle.far_codec.proofs.ReadingMasks.{is_set}
use Rattle.far_codec.proofs.FarFormMaskBits.{bytes_tell}
use Rattle.far_codec.proofs.FarFormMaskBytes.{flags_in, missing_any, mask_len, mask_same, mask_front, mask_back, front_byte}
use Rattle.far_codec.proofs.mask.strip_mask.Goals as goal
use borrow.Author.Count.{below_more}

pub returns-then-bytes-length-clause-only : goal.returns-then-bytes-length-clause-only
returns-then-bytes-length-clause-only g c rest e any =
    absurd (omega (arith, mask_len c.args.values.now c.div_ceil-length.result c.div_ceil-length.ensures, length-append (mask_bytes (flags_in c.args.values.now)) rest, ap length e))

pub returns-then-mask-k-clause-only : goal.returns-then-mask-k-clause-only
returns-then-mask-k-clause-only g c rest e any =
    let values = c.args.values.now in
    let len = c.div_ceil-length.result in
    let k = c.loop-k.k in
    let front = mask_front values c.args.bytes.now c.split_at.result.0.now rest len c.div_ceil-length.ensures e c.split_at.ensures.front in
    absurd (c.if-mask-k.true (front_byte values c.split_at.result.0.now len k c.div_ceil-length.ensures front c.loop-k-test.true ∙ sym (c.byte_at.ensures)))

pub loop-k-preserved : goal.loop-k-preserved
loop-k-preserved g c =
    let values = c.args.values.now in
    let k = c.loop-k.k in
    below_more (λ j. get_or c.split_at.result.0.now j 0 ≡ part (flags_in values) j) k c.loop-k.invariant (c.if-mask-k.false ∙ c.byte_at.ensures)

-- the mask has a bit where a value is missing
pub returns-then-not-has_bit-clause-only : goal.returns-then-not-has_bit-clause-only
returns-then-not-has_bit-clause-only g c rest e any =
    let values = c.args.values.now in
    let front = mask_front values c.args.bytes.now c.split_at.result.0.now rest c.div_ceil-length.result c.div_ceil-length.ensures e c.split_at.ensures.front in
    absurd (false≢true (sym c.if-not-has_bit.true ∙ c.has_bit.ensures ∙ ap (list_any is_set) front ∙ bytes_tell (flags_in values) ∙ sym (missing_any values) ∙ any))

pub returns-clause-found : goal.returns-clause-found
returns-clause-found g c =
    let values = c.args.values.now in
    let bytes = c.args.bytes.now in
    let front = c.split_at.result.0.now in
    let back = c.split_at.result.1.now in
    let len = c.div_ceil-length.result in
    let same = mask_same values front len c.div_ceil-length.ensures c.split_at.ensures.front_len (λ j h. c.loop-k.invariant j (omega (arith, c.loop-k-test.false))) in
    let parts : front ++ back ≡ bytes = ap (λ (l : List ℕ). l ++ back) c.split_at.ensures.front ∙ ap (λ (l : List ℕ). take len bytes ++ l) c.split_at.ensures.back ∙ take-append-drop len bytes in (
      sym parts ∙ ap (λ (l : List ℕ). l ++ back) same,
      missing_any values ∙ sym (bytes_tell (flags_in values)) ∙ ap (list_any is_set) (sym same) ∙ sym c.has_bit.ensures ∙ c.if-not-has_bit.false,
    )

pub returns-clause-only : goal.returns-clause-only
returns-clause-only g c rest e any =
    mask_back c.args.values.now c.args.bytes.now c.split_at.result.1.now rest c.div_ceil-length.result c.div_ceil-length.ensures e c.split_at.ensures.back
