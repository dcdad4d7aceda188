use Rattle.std.proofs.Common.{◌<◌, length, refl, sym, subst, ◌∙◌}
use Rattle.std.proofs.lemmas.Option.{slice_get_read}
use Rattle.far_rows.proofs.MovementInUse.{number-in-use}
use Rattle.far_rows.proofs.rows.Rows.number_object.Goals as goal

pub returns-clause-in_use : goal.returns-clause-in_use
returns-clause-in_use g c =
    let columns = c.self.inside.numbers.items in
    let within : c.args.number < length columns = subst (λ rows. c.args.number < length rows.numbers) (sym c.self.view_is) c.requires in
    let there = slice_get_read columns (length columns) c.args.number c.index.result.now refl within c.index.ensures in
    let used = number-in-use g.S.FarTickets.content _ c.self.inside.number_objects c.number-number.ensures.tracked columns c.self.invariant.numbers c.args.number c.index.result.now there c.args.group c.in_ok-object.field-0 (sym c.object.ensures ∙ c.in_ok-object.was) in
    subst (λ rows. c.in_ok-object.field-0 < length rows.number_objects.records) c.self.view_is used
