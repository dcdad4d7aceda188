use Rattle.std.proofs.Common.{◌≡◌, inl, ◌∙◌}
use Rattle.std.proofs.lemmas.Result.{IfOk-weaker}
use Rattle.far_codec.specs.Lent.{IsForm}
use Rattle.far_codec.proofs.FormsMeaning.{is_ints_form}
use Rattle.far_base_tests.proofs.offload.rows.put_ints.Goals as goal

pub returns-clause-form : goal.returns-clause-form
returns-clause-form g c =
    let content = g.S.FarTickets.content in
    let spelled = c.in_ok-form.ensures.spelled in
    IfOk-weaker c.put.result (λ ticket. content ticket ≡ c.deref.result.now) (λ ticket. IsForm (content ticket)) (λ ticket is. inl (is_ints_form (content ticket) c.args.numbers.now spelled.1 (is ∙ c.deref.ensures.value ∙ spelled.0))) c.put.ensures.content
