use Rattle.std.proofs.Common.{◌≡◌, ◌++◌, ℕ, true, List, length, sym, ap, ◌∙◌, arith}
use Rattle.std.proofs.lemmas.List.{length-map}
use Rattle.std.specs.Prelude.{is_none}
use Rattle.far_codec.specs.FarForm.{some_missing}
use Rattle.far_codec.specs.MaskLaws.{masked}
use Rattle.far_codec.proofs.Compared.{same_if_not_ne, differ_if_ne}
use Rattle.far_codec.proofs.FarFormHeads.{masked_front, head_split, head_join, some_with}
use Rattle.far_codec.proofs.FarFormMaskBytes.{flags_in, missing_any}
use Rattle.far_codec.proofs.mask.strip_head.Goals as goal

pub returns-then-bytes-lt6-clause-only : goal.returns-then-bytes-lt6-clause-only
returns-then-bytes-lt6-clause-only g c rest e any =
    let parts = head_split c.args.bytes.now c.args.kind (flags_in c.args.values.now) rest e in absurd (omega arith)

pub returns-then-ne-clause-only : goal.returns-then-ne-clause-only
returns-then-ne-clause-only g c rest e any =
    let values = c.args.values.now in
    let flags = flags_in values in
    let parts = head_split c.args.bytes.now c.args.kind flags rest e in
    let made = masked_front c.args.kind (length values) flags c.to_le_bytes-count.result (sym (missing_any values) ∙ any) c.to_le_bytes-count.ensures (sym (length-map values is_none)) in
    differ_if_ne c.ne.result c.split_at.result.0.now c.as_slice.result.now c.ne.ensures c.if-ne.true (c.split_at.ensures.front ∙ parts.front ∙ sym (c.as_slice.ensures ∙ made))

pub returns-clause-found : goal.returns-clause-found
returns-clause-found g c =
    let values = c.args.values.now in
    let flags = flags_in values in
    let front = same_if_not_ne c.ne.result c.split_at.result.0.now c.as_slice.result.now c.ne.ensures c.if-ne.false ∙ c.as_slice.ensures in
    some_with c.strip_mask.result _ _ (λ rest h.
    let any : some_missing flags ≡ true = sym (missing_any values) ∙ h.1 in
    let made = masked_front c.args.kind (length values) flags c.to_le_bytes-count.result any c.to_le_bytes-count.ensures (sym (length-map values is_none)) in
    (head_join c.args.bytes.now c.args.kind flags rest.now (sym c.split_at.ensures.front ∙ front ∙ made) (sym c.split_at.ensures.back ∙ h.0 ∙ ap (λ (m : List ℕ). m ++ rest.now) (sym (masked flags any))), h.1)) c.strip_mask.ensures.found

pub returns-clause-only : goal.returns-clause-only
returns-clause-only g c rest e any =
    let values = c.args.values.now in
    let flags = flags_in values in
    let parts = head_split c.args.bytes.now c.args.kind flags rest e in
    c.strip_mask.ensures.only rest (c.split_at.ensures.back ∙ parts.back ∙ ap (λ (m : List ℕ). m ++ rest) (masked flags (sym (missing_any values) ∙ any))) any
