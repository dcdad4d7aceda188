use Rattle.std.proofs.Common.{◌≡◌, ◌/◌, length, None, Some, sym, ap, ◌∙◌}
use Rattle.std.specs.Option.{option_or}
use Rattle.std.proofs.lemmas.Result.{err_from_is_err_and}
use Rattle.far_types.specs.FirstOf.{first_of}
use Rattle.far_columns.specs.NumbersTogether.{push_numbers_refusal}
use Rattle.far_texts.specs.RefusingTogether.{push_texts_refusal}
use Rattle.far_rows.specs.Refusing.{absents}
use Rattle.far_rows.proofs.rows.Rows.may_push_values.Goals as goal

pub returns-in_err-here : goal.returns-in_err-here
returns-in_err-here g c =
    let r = c.args.self.now in
    let values = c.args.row.now in
    let p = err_from_is_err_and c.from_residual.result c.from_residual.ensures.1 in
    let later = option_or (push_texts_refusal g.S.FarTickets.content r.text_objects r.texts values.texts) (push_numbers_refusal r.number_objects r.numbers) in
    let due : Some c.in_err-here.field-0.0 ≡ first_of (absents r (length r.alive / r.size)) = c.in_err-here.ensures ∙ ap (λ n. first_of (absents r n)) c.quotient-group.ensures ∙ (λ k. first_of (absents r (c.len-len.ensures.len k / (c.self.view_is k).size))) in
    rw (p.1, p.2) (ap (λ o. option_or o later) due)

pub returns-in_err-may_push_all_texts : goal.returns-in_err-may_push_all_texts
returns-in_err-may_push_all_texts g c =
    let content = g.S.FarTickets.content in
    let r = c.args.self.now in
    let values = c.args.row.now in
    let p = err_from_is_err_and c.from_residual-in_err-may_push_all_texts.result c.from_residual-in_err-may_push_all_texts.ensures.1 in
    let texts = push_texts_refusal content r.text_objects r.texts values.texts in
    let numbers = push_numbers_refusal r.number_objects r.numbers in
    let here : first_of (absents r (length r.alive / r.size)) ≡ None = sym (c.in_ok-here.ensures ∙ ap (λ n. first_of (absents r n)) c.quotient-group.ensures ∙ (λ k. first_of (absents r (c.len-len.ensures.len k / (c.self.view_is k).size)))) in
    let due : Some c.in_err-may_push_all_texts.field-0.0 ≡ texts =
    c.in_err-may_push_all_texts.ensures
    ∙ (λ k. push_texts_refusal content c.self.inside.text_objects (c.deref.ensures.value k) (c.texts.ensures.texts k))
    ∙ ap (λ rows. push_texts_refusal content rows.text_objects rows.texts values.texts) c.self.view_is in
    rw (p.1, p.2) (ap (λ o. option_or o numbers) due ∙ sym (ap (λ o. option_or o (option_or texts numbers)) here))

pub returns : goal.returns
returns g c =
    let content = g.S.FarTickets.content in
    let r = c.args.self.now in
    let values = c.args.row.now in
    let texts = push_texts_refusal content r.text_objects r.texts values.texts in
    let numbers = push_numbers_refusal r.number_objects r.numbers in
    let here : first_of (absents r (length r.alive / r.size)) ≡ None = sym (c.in_ok-here.ensures ∙ ap (λ n. first_of (absents r n)) c.quotient-group.ensures ∙ (λ k. first_of (absents r (c.len-len.ensures.len k / (c.self.view_is k).size)))) in
    let free : texts ≡ None = sym (
    c.in_ok-may_push_all_texts.ensures
    ∙ (λ k. push_texts_refusal content c.self.inside.text_objects (c.deref.ensures.value k) (c.texts.ensures.texts k))
    ∙ ap (λ rows. push_texts_refusal content rows.text_objects rows.texts values.texts) c.self.view_is) in
    c.may_push_numbers.ensures
    ∙ ap (push_numbers_refusal c.self.inside.number_objects) c.deref-2.ensures.value
    ∙ ap (λ rows. push_numbers_refusal rows.number_objects rows.numbers) c.self.view_is
    ∙ sym (ap (λ o. option_or o numbers) free)
    ∙ sym (ap (λ o. option_or o (option_or texts numbers)) here)
