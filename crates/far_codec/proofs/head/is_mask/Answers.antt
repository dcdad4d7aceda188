use Rattle.std.proofs.Common.{sym, ◌∙◌, arith, inl, inr}
use Rattle.std.proofs.lemmas.Bool.{cases_Bool, false≢true}
use Rattle.far_codec.proofs.PlainNumbersWords.{IsBytes}
use Rattle.far_codec.proofs.ReadingMasks.{HasNoSpare, no_spare, mask_again, bit_tells, spare_zero, first_set, no_bit}
use Rattle.far_codec.proofs.head.is_mask.Goals as goal
use Rattle.far_codec.proofs.head.is_mask.Goals.{else-spare-ne0-via-then-spare-ne0+else-mask-count-ne0, else-spare-ne0-via-else-spare-ne0}

pub returns-then-mask-count-ne0 : goal.returns-then-mask-count-ne0
returns-then-mask-count-ne0 c =
    let not_zero = c.if-mask-count-ne0.true in
    let some = c.if-spare-ne0.true in
    (λ h. absurd (false≢true h), λ h. absurd (not_zero (spare_zero c.args.mask.now c.args.count h.0 h.1 (omega arith))))

pub returns : goal.returns
returns c =
    let mask = c.args.mask.now in
    let count = c.args.count in
    let fits : IsBytes mask = λ i. omega (arith, c.type_inv.mask i) in
    let spare : HasNoSpare mask count = no_spare mask count (λ h.
    elim c.else-spare-ne0.branch [ else-spare-ne0-via-then-spare-ne0+else-mask-count-ne0 w ↦ w.if-mask-count-ne0.false | else-spare-ne0-via-else-spare-ne0 w ↦ absurd (let none = w.if-spare-ne0.false in omega arith) ]) in
    let is = c.has_bit.ensures in (
      λ h.
          let k = first_set mask (sym is ∙ h) in
          let any = bit_tells mask count k.0 fits spare (let len = c.requires in omega (arith, k.1)) k.2 in
          (mask_again mask count fits c.requires spare any, any),
      λ h.
          elim (cases_Bool c.has_bit.result) [
            | inl set ↦ set
            | inr none ↦ absurd (false≢true (sym (no_bit mask count (sym is ∙ none)) ∙ h.1))
          ],
    )
