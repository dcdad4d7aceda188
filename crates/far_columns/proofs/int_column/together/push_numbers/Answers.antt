use Rattle.std.proofs.Common.{◌≡◌, ◌∷◌, [], length, inl, sym, ap, subst, ◌∙◌}
use Rattle.std.specs.Prelude.{AllPairs}
use Rattle.std.specs.Option.{option_or}
use Rattle.std.proofs.lemmas.Result.{err_from_is_err_and}
use Rattle.far_types.specs.FirstOf.{first_of}
use Rattle.far_columns.specs.Numbers.{number_lists}
use Rattle.far_columns.specs.NumbersTogether.{some_written_out}
use Rattle.far_scopes.proofs.Outcomes.{by-outcomes}
use Rattle.far_columns.proofs.NumbersTogether.{none-begin, same_length-pushed, due-begun}
use Rattle.far_columns.proofs.NumbersChanges.{changes-nothing}
use Rattle.far_columns.proofs.int_column.together.push_numbers.Goals as goal

pub returns-then-all_begin-clause-are : goal.returns-then-all_begin-clause-are
returns-then-all_begin-clause-are g c =
    by-outcomes c.begin_groups.result c.begin_groups.ensures.all_disjoint c.begin_groups.ensures.pushed c.begin_groups.ensures.err c.begin_groups.ensures.err
    (λ all_disjoint pushed. record {
      all_disjoint = all_disjoint;
      same_length = subst (AllPairs (λ c d. (c.size ≡ d.size) × (c.len ≡ d.len))) (sym pushed.columns) (same_length-pushed (length c.args.objects.now.records) c.args.columns.now c.requires.are.same_length);
    })
    (λ same _. rw (same.0, same.1) c.requires.are)

pub returns-then-all_begin-clause-keeps : goal.returns-then-all_begin-clause-keeps
returns-then-all_begin-clause-keeps g c =
    by-outcomes c.begin_groups.result c.begin_groups.ensures.keeps c.begin_groups.ensures.pushed c.begin_groups.ensures.err c.begin_groups.ensures.err
    (λ keeps _. keeps)
    (λ same _. rw (same.0, same.1) (changes-nothing g.S.FarTickets.content c.args.objects.now c.args.columns.now g.S.FarTickets.is_of))

pub all_here-requires-clause-begun : goal.all_here-requires-clause-begun
all_here-requires-clause-begun g c κs within = none-begin (number_lists g.S.FarTickets.content c.args.objects.now) c.args.columns.now c.requires.are c.all_are_shaped.ensures (sym c.if-all_begin.ensures)

pub returns-in_err-all_here-clause-refused : goal.returns-in_err-all_here-clause-refused
returns-in_err-all_here-clause-refused g c =
    let p = err_from_is_err_and c.from_residual.result c.from_residual.ensures.1 in
    let m = c.args.objects.now in
    rw (p.1, p.2) (inl (due-begun m c.args.columns.now (sym c.if-all_begin.ensures) ∙ ap (λ r. option_or r (first_of (some_written_out m c.args.columns.now ∷ []))) (sym c.in_err-all_here.ensures)))

pub all_writable-requires-clause-begun : goal.all_writable-requires-clause-begun
all_writable-requires-clause-begun g c κs within = none-begin (number_lists g.S.FarTickets.content c.args.objects.now) c.args.columns.now c.requires.are c.all_are_shaped.ensures (sym c.if-all_begin.ensures)

pub returns-in_err-all_writable-clause-refused : goal.returns-in_err-all_writable-clause-refused
returns-in_err-all_writable-clause-refused g c =
    let p = err_from_is_err_and c.from_residual-in_err-all_writable.result c.from_residual-in_err-all_writable.ensures.1 in
    let m = c.args.objects.now in
    rw (p.1, p.2) (inl (due-begun m c.args.columns.now (sym c.if-all_begin.ensures) ∙ ap (λ r. option_or r (first_of (some_written_out m c.args.columns.now ∷ []))) (sym c.in_ok-all_here.ensures) ∙ sym c.in_err-all_writable.ensures.refused))

pub fill_numbers-requires-clause-free : goal.fill_numbers-requires-clause-free
fill_numbers-requires-clause-free g c κs within =
    let m = c.args.objects.now in
    due-begun m c.args.columns.now (sym c.if-all_begin.ensures) ∙ ap (λ r. option_or r (first_of (some_written_out m c.args.columns.now ∷ []))) (sym c.in_ok-all_here.ensures) ∙ sym c.in_ok-all_writable.ensures.refused
