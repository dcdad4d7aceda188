use Rattle.std.proofs.Common.{◌+◌, get_or, rules, ap, ◌∙◌}
use Rattle.std.specs.Prelude.{slice_range}
use Rattle.far_scopes.specs.Refusing.{first_absent}
use Rattle.far_texts.proofs.LendingLaws.{range-next, away-first, here-first}
use Rattle.far_texts.proofs.text_column.TextColumn.all_here.Goals as goal

pub returns-in_err-_form : goal.returns-in_err-_form
returns-in_err-_form g c =
    let m = c.args.objects.now in
    let os = c.args.self.now.objects in
    let group = c.loop-group.group in
    let all = c.loop-group.invariant ∙ ap (first_absent m) (range-next os group c.args.end c.loop-group-test.true c.requires.begun) ∙ away-first m (get_or os group 0) (slice_range os (group + 1) c.args.end) c.in_err-_form.field-0.0 c.in_err-_form.ensures.refused in
    rw all (search rules)

pub loop-group-preserved : goal.loop-group-preserved
loop-group-preserved g c =
    let m = c.args.objects.now in
    let os = c.args.self.now.objects in
    let group = c.loop-group.group in
    c.loop-group.invariant ∙ ap (first_absent m) (range-next os group c.args.end c.loop-group-test.true c.requires.begun)
    ∙ here-first m (get_or os group 0) (slice_range os (group + 1) c.args.end) c.in_ok-_form.ensures.refused
