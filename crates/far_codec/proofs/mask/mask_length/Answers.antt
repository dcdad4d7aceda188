use Rattle.std.proofs.Common.{◌≡◌, ◌+◌, ◌/◌, true, false, cond, length, sym, ap, ◌∙◌}
use Rattle.std.specs.Prelude.{is_none}
use Rattle.std.specs.List.{list_any}
use Rattle.far_codec.proofs.FarFormMaskBytes.{missing_any, ceil_is}
use Rattle.far_codec.proofs.mask.mask_length.Goals as goal

pub returns-then-any_missing : goal.returns-then-any_missing
returns-then-any_missing g c =
    let values = c.args.values.now in
    let any : list_any is_none values ≡ true = missing_any values ∙ sym c.any_missing.ensures ∙ c.if-any_missing.true in
    c.div_ceil.ensures ∙ ceil_is (length values) ∙ ap (λ b. cond b ((length values + 7) / 8) 0) (sym any)

pub returns-else-any_missing : goal.returns-else-any_missing
returns-else-any_missing g c =
    let values = c.args.values.now in
    let none : list_any is_none values ≡ false = missing_any values ∙ sym c.any_missing.ensures ∙ c.if-any_missing.false in
    ap (λ b. cond b ((length values + 7) / 8) 0) (sym none)
