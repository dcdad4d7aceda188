use Rattle.std.proofs.Common.{◌∷◌, [], sym, ap, ◌∙◌}
use Rattle.std.specs.Option.{option_or}
use Rattle.std.proofs.lemmas.Result.{err_from_is_err_and}
use Rattle.far_types.specs.FirstOf.{first_of}
use Rattle.far_columns.specs.Numbers.{number_lists}
use Rattle.far_columns.specs.NumbersTogether.{some_written_out}
use Rattle.far_columns.proofs.NumbersTogether.{none-begin, due-begun}
use Rattle.far_columns.proofs.int_column.together.may_push_numbers.Goals as goal

pub all_here-requires-clause-begun : goal.all_here-requires-clause-begun
all_here-requires-clause-begun g c κs within = none-begin (number_lists g.S.FarTickets.content c.args.objects.now) c.args.columns.now c.requires.are c.all_are_shaped.ensures (sym c.if-all_begin.ensures)

pub returns-in_err-all_here : goal.returns-in_err-all_here
returns-in_err-all_here g c =
    let p = err_from_is_err_and c.from_residual.result c.from_residual.ensures.1 in
    let m = c.args.objects.now in
    rw (p.1, p.2) (sym (due-begun m c.args.columns.now (sym c.if-all_begin.ensures) ∙ ap (λ r. option_or r (first_of (some_written_out m c.args.columns.now ∷ []))) (sym c.in_err-all_here.ensures)))

pub all_writable-requires-clause-begun : goal.all_writable-requires-clause-begun
all_writable-requires-clause-begun g c κs within = none-begin (number_lists g.S.FarTickets.content c.args.objects.now) c.args.columns.now c.requires.are c.all_are_shaped.ensures (sym c.if-all_begin.ensures)

pub returns : goal.returns
returns g c =
    let m = c.args.objects.now in
    sym (due-begun m c.args.columns.now (sym c.if-all_begin.ensures) ∙ ap (λ r. option_or r (first_of (some_written_out m c.args.columns.now ∷ []))) (sym c.in_ok-all_here.ensures) ∙ sym c.all_writable.ensures.refused)
