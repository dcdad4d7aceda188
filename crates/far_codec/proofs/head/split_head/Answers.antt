use Rattle.std.proofs.Common.{◌≡◌, ◌++◌, ℕ, List, [], sym, ap, ◌∙◌, arith, inl, inr}
use Rattle.far_codec.specs.FarForm.{head}
use Rattle.far_codec.specs.Reading.{flags_of}
use Rattle.far_codec.specs.MaskLaws.{no_mask}
use Rattle.far_codec.proofs.PlainNumbersWords.{IsBytes}
use Rattle.far_codec.proofs.ReadingMasks.{length-flags_of}
use Rattle.far_codec.proofs.FarFormHeads.{head_found, head_cells, count_below, version_1, version_2, version_either, version_of_none, version_of_some, none_missing, some_with, some_and_with}
use Rattle.far_codec.proofs.head.split_head.Goals as goal

pub returns-then-bytes-lt6-clause-only : goal.returns-then-bytes-lt6-clause-only
returns-then-bytes-lt6-clause-only c flags rest few e =
    let cells = head_cells c.args.bytes.now c.args.kind flags rest few e in absurd (omega arith)

pub returns-then-bytes-kind-clause-only : goal.returns-then-bytes-kind-clause-only
returns-then-bytes-kind-clause-only c flags rest few e =
    let cells = head_cells c.args.bytes.now c.args.kind flags rest few e in absurd (c.if-bytes-kind.true cells.second)

pub returns-then-bytes-eq1-clause-found : goal.returns-then-bytes-eq1-clause-found
returns-then-bytes-eq1-clause-found c =
    let bytes = c.args.bytes.now in
    let count = c.from_le_bytes-count.result in
    let flags = flags_of [] count in
    let fits : IsBytes bytes = λ i. omega (arith, c.type_inv.bytes i) in
    let none = none_missing count in
    let back = sym c.split_at.ensures.back ∙ ap (λ (m : List ℕ). m ++ c.split_at.result.1.now) (sym (no_mask flags none)) in (
      omega (arith, c.from_le_bytes-count.ensures, count_below bytes fits),
      head_found bytes c.args.kind count flags c.split_at.result.1.now fits (omega arith) (c.if-bytes-eq1.true ∙ version_of_none flags none) c.if-bytes-kind.false c.from_le_bytes-count.ensures (length-flags_of [] count) back,
    )

pub returns-then-bytes-eq1-clause-only : goal.returns-then-bytes-eq1-clause-only
returns-then-bytes-eq1-clause-only c flags rest few e =
    let cells = head_cells c.args.bytes.now c.args.kind flags rest few e in
    let none = version_1 flags (sym cells.first ∙ c.if-bytes-eq1.true) in
    let empty = no_mask flags none in
    (c.from_le_bytes-count.ensures ∙ cells.count, sym empty, c.split_at.ensures.back ∙ cells.back ∙ ap (λ (m : List ℕ). m ++ rest) empty)

pub returns-then-bytes-eq2-clause-found : goal.returns-then-bytes-eq2-clause-found
returns-then-bytes-eq2-clause-found c =
    let bytes = c.args.bytes.now in
    let count = c.from_le_bytes-count.result in
    let fits : IsBytes bytes = λ i. omega (arith, c.type_inv.bytes i) in
    some_with c.split_mask.result _ _ (λ m h.
    let flags = flags_of m.mask.now count in
    let whole : bytes ≡ head c.args.kind flags ++ m.fields.now = head_found bytes c.args.kind count flags m.fields.now fits (omega arith) (c.if-bytes-eq2.true ∙ version_of_some flags h.2) c.if-bytes-kind.false c.from_le_bytes-count.ensures (length-flags_of m.mask.now count) (sym c.split_at.ensures.back ∙ h.1) in
    (omega (arith, h.0, c.from_le_bytes-count.ensures, count_below bytes fits), whole ∙ ap (λ (n : ℕ). head c.args.kind (flags_of m.mask.now n) ++ m.fields.now) (sym h.0))) c.split_mask.ensures.found

pub returns-then-bytes-eq2-clause-only : goal.returns-then-bytes-eq2-clause-only
returns-then-bytes-eq2-clause-only c flags rest few e =
    let cells = head_cells c.args.bytes.now c.args.kind flags rest few e in
    let any = version_2 flags (sym cells.first ∙ c.if-bytes-eq2.true) in
    let count = c.from_le_bytes-count.ensures ∙ cells.count in
    some_and_with c.split_mask.result _ _ (λ m h. (h.0 ∙ count, h.1, h.2)) (c.split_mask.ensures.only flags rest (sym count) any (c.split_at.ensures.back ∙ cells.back))

pub returns-clause-only : goal.returns-clause-only
returns-clause-only c flags rest few e =
    let cells = head_cells c.args.bytes.now c.args.kind flags rest few e in
    let not_1 = c.if-bytes-eq1.false in
    let not_2 = c.if-bytes-eq2.false in
    absurd (elim (version_either flags) [ inl one ↦ not_1 (cells.first ∙ one) | inr two ↦ not_2 (cells.first ∙ two) ])
