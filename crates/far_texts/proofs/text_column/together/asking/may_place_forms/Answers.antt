use Rattle.std.proofs.Common.{◌≡◌, ◌<◌, [], ◌∷◌, Bool, true, false, cond, length, sym, ap, subst, ◌∙◌}
use Rattle.std.specs.Prelude.{All, not}
use Rattle.std.proofs.lemmas.Result.{err_from_is_err_and}
use Rattle.far_types.specs.FirstOf.{first_of}
use Rattle.far_types.specs.declared.refusal.Refusal.TheVariants as refusal
use Rattle.far_log.specs.RegionState.{spaces_of, fit_in_order}
use Rattle.far_texts.specs.Texts.{Lists, lists_of}
use Rattle.far_texts.specs.Together.{all_begin, next_forms}
use Rattle.far_scopes.proofs.FirstOfCases.{first-append, first-none}
use Rattle.far_texts.specs.RefusingTogether.{any_full, some_written_out, last_tests}
use Rattle.far_texts.proofs.TogetherChecks.{none-begin}
use Rattle.far_texts.proofs.RefusingTogetherForms.{lens-from, lens-some, any-out, space-longer, first-asked}
use Rattle.far_texts.proofs.text_column.together.asking.may_place_forms.Goals as goal

pub fits_in_order-requires-clause-some : goal.fits_in_order-requires-clause-some
fits_in_order-requires-clause-some g c κs within =
    subst (All (λ len. 0 < len)) (sym (c.in_ok-lens.ensures.lens 0)) (lens-some (lists_of g.S.FarTickets.content c.args.objects.now) 0 c.args.columns.now c.args.texts.now)

pub all_writable-requires-clause-begun : goal.all_writable-requires-clause-begun
all_writable-requires-clause-begun g c κs within =
    none-begin (lists_of g.S.FarTickets.content c.args.objects.now) c.args.columns.now c.requires.are c.all_have_groups.ensures (sym c.all_begin.ensures ∙ c.if-all_begin.false)

pub returns : goal.returns
returns g c =
    let m = c.args.objects.now in
    let lists : Lists = lists_of g.S.FarTickets.content m in
    let columns = c.args.columns.now in
    let n = length m.records in
    let forms = next_forms lists n columns c.args.texts.now in
    let fits : fit_in_order (spaces_of m.memory.state) (lens-from lists n columns c.args.texts.now) ≡ true = ap (fit_in_order (spaces_of m.memory.state)) (sym (c.in_ok-lens.ensures.lens n)) ∙ sym c.if-not-fits_in_order.ensures in
    let begins : all_begin columns ≡ false = sym c.all_begin.ensures ∙ c.if-all_begin.false in
    let begun = none-begin lists columns c.requires.are c.all_have_groups.ensures begins in
    c.all_writable.ensures
    ∙ ap (λ (b : Bool). first_of ((b, refusal.EditsUsedUp) ∷ [])) (any-out m lists n columns c.args.texts.now c.requires.same_length begun)
    ∙ space-longer (some_written_out m forms) (fit_in_order (spaces_of m.memory.state) (lens-from lists n columns c.args.texts.now)) (all_begin columns) fits begins
    ∙ sym (first-none (any_full lists columns c.args.texts.now) (last_tests g.S.FarTickets.content m columns c.args.texts.now) c.in_ok-lens.ensures.refused)

pub returns-in_err-lens : goal.returns-in_err-lens
returns-in_err-lens g c =
    let p = err_from_is_err_and c.from_residual.result c.from_residual.ensures.1 in
    let content = g.S.FarTickets.content in
    let m = c.args.objects.now in
    let columns = c.args.columns.now in
    let texts = c.args.texts.now in
    let full = any_full (lists_of content m) columns texts in
    let last = last_tests content m columns texts in
    rw (p.1, p.2) (first-asked (first_of (full ∷ last)) (first_of (full ∷ [])) (first_of last) c.in_err-lens.field-0.0 (first-append (full ∷ []) last) c.in_err-lens.ensures.refused)

pub returns-then-not-fits_in_order : goal.returns-then-not-fits_in_order
returns-then-not-fits_in_order g c =
    let content = g.S.FarTickets.content in
    let m = c.args.objects.now in
    let lists : Lists = lists_of content m in
    let columns = c.args.columns.now in
    let texts = c.args.texts.now in
    let n = length m.records in
    let used = some_written_out m (next_forms lists n columns texts) in
    let out : fit_in_order (spaces_of m.memory.state) (lens-from lists n columns texts) ≡ false = ap (fit_in_order (spaces_of m.memory.state)) (sym (c.in_ok-lens.ensures.lens n)) ∙ sym c.if-not-fits_in_order.ensures in
    sym (first-none (any_full lists columns texts) (last_tests content m columns texts) c.in_ok-lens.ensures.refused
    ∙ ap (λ (b : Bool). first_of ((not b, refusal.RegionFull) ∷ cond (all_begin columns) [] (used ∷ []))) out)

pub returns-then-all_begin : goal.returns-then-all_begin
returns-then-all_begin g c =
    let content = g.S.FarTickets.content in
    let m = c.args.objects.now in
    let lists : Lists = lists_of content m in
    let columns = c.args.columns.now in
    let texts = c.args.texts.now in
    let n = length m.records in
    let used = some_written_out m (next_forms lists n columns texts) in
    let fits : fit_in_order (spaces_of m.memory.state) (lens-from lists n columns texts) ≡ true = ap (fit_in_order (spaces_of m.memory.state)) (sym (c.in_ok-lens.ensures.lens n)) ∙ sym c.if-not-fits_in_order.ensures in
    let begins : all_begin columns ≡ true = sym c.all_begin.ensures ∙ c.if-all_begin.true in
    sym (first-none (any_full lists columns texts) (last_tests content m columns texts) c.in_ok-lens.ensures.refused
    ∙ ap (λ (b : Bool). first_of ((not b, refusal.RegionFull) ∷ cond (all_begin columns) [] (used ∷ []))) fits
    ∙ ap (λ (b : Bool). first_of (cond b [] (used ∷ []))) begins)
