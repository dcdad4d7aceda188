use Rattle.far_types.specs.FirstOf.{first_of}
use Rattle.far_texts.specs.RefusingTogether.{first_tests, push_texts_refusal}
use Rattle.far_texts.proofs.RefusingTogetherAcceptance.{first-free, only-memory}
use Rattle.far_texts.proofs.text_column.together.fill_texts.Goals as goal

pub make_forms-requires-clause-first : goal.make_forms-requires-clause-first
make_forms-requires-clause-first g c κs within = first-free g.S.FarTickets.content c.args.objects.now c.args.columns.now c.args.texts.now c.requires.free

pub returns-clause-memory : goal.returns-clause-memory
returns-clause-memory g c =
    let content = g.S.FarTickets.content in
    let m = c.args.objects.now in
    only-memory c.make_forms.result (push_texts_refusal content m c.args.columns.now c.args.texts.now) (first_of (first_tests content m c.args.columns.now c.args.texts.now)) c.requires.free c.make_forms.ensures.refused
