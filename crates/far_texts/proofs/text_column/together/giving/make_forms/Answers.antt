use Rattle.std.proofs.Common.{ap, ◌∙◌}
use Rattle.std.proofs.lemmas.List.Sums.{list_all-from_AllPass}
use Rattle.far_texts.specs.Texts.{Lists, lists_of}
use Rattle.far_texts.specs.Effects.{begins_group}
use Rattle.far_texts.specs.Together.{forms_of}
use Rattle.far_texts.proofs.TogetherChecks.{all-begin}
use Rattle.far_texts.proofs.RefusingTogetherAcceptance.{none-full, all-here}
use Rattle.far_texts.proofs.text_column.together.giving.make_forms.Goals as goal

pub next_form-requires-clause-few : goal.next_form-requires-clause-few
next_form-requires-clause-few g c κs within =
    let columns = c.args.columns.now in
    let old : Lists = lists_of g.S.FarTickets.content c.args.objects.now in
    λ k d below begins. c.requires.few (list_all-from_AllPass begins_group columns (all-begin old columns c.requires.are c.next_objects_are_unused.ensures.groups k d below begins))

pub next_form-requires-clause-here : goal.next_form-requires-clause-here
next_form-requires-clause-here g c κs within = all-here g.S.FarTickets.content c.args.objects.now c.args.columns.now c.args.texts.now c.requires.first c.requires.are c.next_objects_are_unused.ensures.groups

pub next_form-requires-clause-short : goal.next_form-requires-clause-short
next_form-requires-clause-short g c κs within = none-full g.S.FarTickets.content c.args.objects.now c.args.columns.now c.args.texts.now c.requires.first

pub give_forms-given-requires-clause-made : goal.give_forms-given-requires-clause-made
give_forms-given-requires-clause-made g c κs _ = record {
  are = c.requires.are;
  same_length = c.requires.same_length;
  few = c.requires.few;
  objects = c.next_objects_are_unused.ensures.objects;
  groups = c.next_objects_are_unused.ensures.groups;
  fresh = c.next_objects_are_unused.ensures.fresh;
  here = all-here g.S.FarTickets.content c.args.objects.now c.args.columns.now c.args.texts.now c.requires.first c.requires.are c.next_objects_are_unused.ensures.groups;
  free = c.requires.first;
  given = ap forms_of c.from_ref.ensures.value ∙ c.in_ok-form.ensures.form;
  valid = c.in_ok-form.ensures.valid;
}

pub next_forms-requires-clause-few : goal.next_forms-requires-clause-few
next_forms-requires-clause-few g c κs within =
    let columns = c.args.columns.now in
    let old : Lists = lists_of g.S.FarTickets.content c.args.objects.now in
    λ k d below begins. c.requires.few (list_all-from_AllPass begins_group columns (all-begin old columns c.requires.are c.next_objects_are_unused.ensures.groups k d below begins))

pub next_forms-requires-clause-here : goal.next_forms-requires-clause-here
next_forms-requires-clause-here g c κs within = all-here g.S.FarTickets.content c.args.objects.now c.args.columns.now c.args.texts.now c.requires.first c.requires.are c.next_objects_are_unused.ensures.groups

pub next_forms-requires-clause-short : goal.next_forms-requires-clause-short
next_forms-requires-clause-short g c κs within = none-full g.S.FarTickets.content c.args.objects.now c.args.columns.now c.args.texts.now c.requires.first

pub give_forms-requires-clause-made : goal.give_forms-requires-clause-made
give_forms-requires-clause-made g c κs _ = record {
  are = c.requires.are;
  same_length = c.requires.same_length;
  few = c.requires.few;
  objects = c.next_objects_are_unused.ensures.objects;
  groups = c.next_objects_are_unused.ensures.groups;
  fresh = c.next_objects_are_unused.ensures.fresh;
  here = all-here g.S.FarTickets.content c.args.objects.now c.args.columns.now c.args.texts.now c.requires.first c.requires.are c.next_objects_are_unused.ensures.groups;
  free = c.requires.first;
  given = ap forms_of c.deref.ensures.value ∙ c.in_ok-forms.ensures.forms;
  valid = c.in_ok-forms.ensures.valid;
}
