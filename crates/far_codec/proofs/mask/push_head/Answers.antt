use Rattle.std.proofs.Common.{◌≡◌, ◌∷◌, ◌++◌, ℕ, true, false, List, length, sym, ap, ◌∙◌, append_assoc}
use Rattle.std.specs.Int.{w32, to_le_bytes}
use Rattle.std.proofs.lemmas.List.{append-nil}
use Rattle.far_codec.specs.FarForm.{version, mask_bytes, some_missing}
use Rattle.far_codec.specs.MaskLaws.{masked, no_mask}
use Rattle.far_codec.proofs.FarFormHeads.{front_made, head_is}
use Rattle.far_codec.proofs.mask.push_head.Goals as goal

pub returns-in_ok-push_mask : goal.returns-in_ok-push_mask
returns-in_ok-push_mask g c =
    let flags = g.F.Flags.flags c.args.flags.now in
    let form = c.args.form.now.items in
    let front = version flags ∷ c.args.kind ∷ to_le_bytes w32 (length flags) in
    let made = front_made c.args.kind c.version.result c.count.result flags c.to_le_bytes-count.result c.any_missing-masked.result c.version.ensures c.any_missing-masked.ensures c.to_le_bytes-count.ensures c.count.ensures in
    let any : some_missing flags ≡ true = sym c.any_missing-masked.ensures ∙ c.if-masked.true in
    c.in_ok-push_mask.ensures
    ∙ ap (λ (l : List ℕ). l ++ mask_bytes flags) (c.in_ok-extend_from_slice.ensures.items ∙ ap (λ (l : List ℕ). form ++ l) made)
    ∙ append_assoc form front (mask_bytes flags)
    ∙ ap (λ (m : List ℕ). form ++ (front ++ m)) (sym (masked flags any))
    ∙ ap (λ (l : List ℕ). form ++ l) (sym (head_is c.args.kind flags))

pub returns-else-masked : goal.returns-else-masked
returns-else-masked g c =
    let flags = g.F.Flags.flags c.args.flags.now in
    let form = c.args.form.now.items in
    let front = version flags ∷ c.args.kind ∷ to_le_bytes w32 (length flags) in
    let made = front_made c.args.kind c.version.result c.count.result flags c.to_le_bytes-count.result c.any_missing-masked.result c.version.ensures c.any_missing-masked.ensures c.to_le_bytes-count.ensures c.count.ensures in
    let none : some_missing flags ≡ false = sym c.any_missing-masked.ensures ∙ c.if-masked.false in
    c.in_ok-extend_from_slice.ensures.items
    ∙ ap (λ (l : List ℕ). form ++ l) (made ∙ sym (append-nil front) ∙ ap (λ (m : List ℕ). front ++ m) (sym (no_mask flags none)) ∙ sym (head_is c.args.kind flags))
