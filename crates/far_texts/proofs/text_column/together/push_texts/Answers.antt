use Rattle.std.proofs.Common.{◌≡◌, inl, None, Some, sym}
use Rattle.std.specs.Prelude.{◌⊎◌}
use Rattle.far_types.specs.declared.refusal.Refusal.TheVariants.{NoMemory}
use Rattle.far_types.specs.FirstOf.{first_of}
use Rattle.far_scopes.proofs.RefusingReplacements.{err-handed}
use Rattle.far_texts.specs.RefusingTogether.{first_tests, push_texts_refusal}
use Rattle.far_texts.proofs.RefusingTogetherLaws.{due-first}
use Rattle.far_texts.proofs.text_column.together.push_texts.Goals as goal

pub returns-in_err-may_make_forms-clause-refused : goal.returns-in_err-may_make_forms-clause-refused
returns-in_err-may_make_forms-clause-refused g c =
    let content = g.S.FarTickets.content in
    let m = c.args.objects.now in
    let columns = c.args.columns.now in
    let texts = c.args.texts.now in
    err-handed c.from_residual.result c.in_err-may_make_forms.field-0.0
    (λ e. (push_texts_refusal content m columns texts ≡ Some e) ⊎ ((first_of (first_tests content m columns texts) ≡ None) × (e ≡ NoMemory)))
    (inl (due-first content m columns texts c.in_err-may_make_forms.field-0.0 c.in_err-may_make_forms.ensures)) c.from_residual.ensures.1

pub make_forms-requires-clause-first : goal.make_forms-requires-clause-first
make_forms-requires-clause-first g c κs within = sym c.in_ok-may_make_forms.ensures
