use Rattle.std.proofs.Common.{◌<◌, ◌≤◌, Some, ap, sym, ◌∙◌, arith}
use Rattle.std.specs.Prelude.{slice_get}
use Rattle.far_types.specs.Table.{part}
use Rattle.far_frame.specs.Lending.{lent_part}
use Rattle.far_frame.proofs.LendingReplies.{ints-given, texts-given}
use Rattle.far_frame.proofs.LendingLaws.{lends-ints, lends-low, lends-texts}
use Rattle.far_frame.proofs.frame.Frame.may_lend.Goals as goal

pub returns-in_ok-_lents-in-Some-Int-clause-given : goal.returns-in_ok-_lents-in-Some-Int-clause-given
returns-in_ok-_lents-in-Some-Int-clause-given g c =
    let view = c.scope-view.result in
    let table = c.args.self.now.table in
    let column = c.args.column in
    let from = c.args.from in
    let to = c.args.to in
    let same = c.scope-view.ensures in
    let some : 0 < table.limits.group = omega (arith, c.size-size.ensures.some, c.size-size.ensures.limit, ap (λ s. s.table.limits.group) same) in
    let due = sym c.in_ok-_lents-in-Some-Int.ensures.refused in
    let is = c.in-Some-Int.is ∙ ap Some c.in-Some-Int.field-0-is in
    let low : from ≤ to = lends-low view.rows column from to (sym (lends-ints view.rows column from to (sym c.kind.ensures.column_index ∙ is)) ∙ due) in
    ints-given table some column from to low c.ranges.to.fits c.in_ok-_lents-in-Some-Int._lents (c.in_ok-_lents-in-Some-Int.ensures.lent ∙ ap (λ s. lent_part s.table column from to) same)
    (sym (ap (λ s. slice_get s.table.schema column) same) ∙ sym c.kind.ensures.schema ∙ is)

pub returns-in_ok-_texts-in-Some-Text-clause-given : goal.returns-in_ok-_texts-in-Some-Text-clause-given
returns-in_ok-_texts-in-Some-Text-clause-given g c =
    let view = c.scope-view.result in
    let table = c.args.self.now.table in
    let column = c.args.column in
    let from = c.args.from in
    let to = c.args.to in
    let same = c.scope-view.ensures in
    let some : 0 < table.limits.group = omega (arith, c.size-size.ensures.some, c.size-size.ensures.limit, ap (λ s. s.table.limits.group) same) in
    let due = sym c.in_ok-_texts-in-Some-Text.ensures.refused in
    let is = c.in-Some-Text.is ∙ ap Some c.in-Some-Text.field-0-is in
    let low : from ≤ to = lends-low view.rows column from to (sym (lends-texts view.rows column from to (sym c.kind.ensures.column_index ∙ is)) ∙ due) in
    texts-given table some column from to low c.ranges.to.fits c.in_ok-_texts-in-Some-Text._texts (c.in_ok-_texts-in-Some-Text.ensures.cells ∙ ap (λ s. part column from to s.table.places) same)
    (sym (ap (λ s. slice_get s.table.schema column) same) ∙ sym c.kind.ensures.schema ∙ is)
