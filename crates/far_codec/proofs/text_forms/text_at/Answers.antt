use Rattle.std.proofs.Common.{sym, ap, ◌∙◌}
use Rattle.std.specs.Prelude.{slice_get, option_and_then}
use Rattle.far_codec.specs.TextForm.{texts_of, ends_in}
use Rattle.far_codec.proofs.FarFormHeads.{some_with}
use Rattle.far_codec.proofs.FormsMeaning.{texts_meant, is_texts_form, lent_there}
use Rattle.far_codec.proofs.text_forms.text_at.Goals as goal

pub returns-clause-found : goal.returns-clause-found
returns-clause-found c =
    let p = c.in_ok-parts.parts in
    let bytes = c.args.bytes.now in
    let texts = texts_of p.mask.now (ends_in p.ends.now) p.body.now in
    let found = c.in_ok-parts.ensures.found in
    let meant = texts_meant bytes texts found.0 found.1 in
    some_with c.text_in.result _ _ (λ text h. (is_texts_form bytes texts found.0 found.1, ap (λ l. slice_get l c.args.i) meant ∙ h)) (lent_there c.text_in.result texts c.args.i c.text_in.ensures)

pub returns-clause-only : goal.returns-clause-only
returns-clause-only c form =
    let p = c.in_ok-parts.parts in
    let bytes = c.args.bytes.now in
    let texts = texts_of p.mask.now (ends_in p.ends.now) p.body.now in
    let found = c.in_ok-parts.ensures.found in
    c.text_in.ensures ∙ ap (λ l. option_and_then (λ text. text) (slice_get l c.args.i)) (sym (texts_meant bytes texts found.0 found.1))
