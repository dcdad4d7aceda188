use Rattle.std.proofs.Common.{◌≡◌, None, sym, ◌∙◌}
use Rattle.std.specs.Prelude.{All}
use Rattle.std.specs.List.{slice_index_or}
use Rattle.std.proofs.lemmas.List.Sums.{AllPass-from_list_all}
use Rattle.far_types.specs.FirstOf.{first_of}
use Rattle.far_scopes.specs.Refusing.{absent}
use Rattle.far_scopes.proofs.FirstOfCases.{none-due}
use Rattle.far_texts.specs.Texts.{Texts, lists_of}
use Rattle.far_texts.specs.Effects.{begins_group, last_object}
use Rattle.far_texts.specs.Refusing.{next_length_refusal}
use Rattle.far_texts.specs.Together.{all_begin}
use Rattle.far_texts.specs.RefusingTogether.{any_too_long, absents}
use Rattle.far_texts.proofs.TogetherChecks.{none-begin, here-begun, here-longer}
use Rattle.far_texts.proofs.RefusingTogetherForms.{away-asked, begun-asked, ok-follows}
use Rattle.far_texts.proofs.text_column.together.checking.may_measure_forms.Goals as goal

pub all_here-requires-clause-begun : goal.all_here-requires-clause-begun
all_here-requires-clause-begun g c κs within = none-begin (lists_of g.S.FarTickets.content c.args.objects.now) c.args.columns.now c.requires c.all_have_groups.ensures (sym c.all_begin.ensures ∙ c.if-all_begin.false)

pub returns-then-all_begin-clause-refused : goal.returns-then-all_begin-clause-refused
returns-then-all_begin-clause-refused g c = begun-asked (any_too_long c.args.texts.now) (absents c.args.objects.now c.args.columns.now) (all_begin c.args.columns.now) c.in_ok-all_short.ensures (sym c.all_begin.ensures ∙ c.if-all_begin.true)

pub returns-then-all_begin-clause-here : goal.returns-then-all_begin-clause-here
returns-then-all_begin-clause-here g c = λ k d below.
    here-begun c.args.objects.now g.S.FarTickets.content (slice_index_or c.args.columns.now k d) (AllPass-from_list_all begins_group c.args.columns.now (sym c.all_begin.ensures ∙ c.if-all_begin.true) k d below)

pub returns-clause-refused : goal.returns-clause-refused
returns-clause-refused g c = c.all_here.ensures ∙ away-asked (any_too_long c.args.texts.now) (absents c.args.objects.now c.args.columns.now) (all_begin c.args.columns.now) c.in_ok-all_short.ensures (sym c.all_begin.ensures ∙ c.if-all_begin.false)

pub returns-clause-here : goal.returns-clause-here
returns-clause-here g c =
    let m = c.args.objects.now in
    let columns = c.args.columns.now in
    let begun = none-begin (lists_of g.S.FarTickets.content m) columns c.requires c.all_have_groups.ensures (sym c.all_begin.ensures ∙ c.if-all_begin.false) in
    ok-follows c.all_here.result (first_of (absents m columns)) (All (λ (d : Texts). next_length_refusal g.S.FarTickets.content m d ≡ None) columns) c.all_here.ensures
    (λ free k d below. here-longer m g.S.FarTickets.content (slice_index_or columns k d) (begun k d below) (none-due (λ (t : Texts). absent m (last_object t)) columns free k d below))
