use Rattle.std.proofs.Common.{◌<◌, length, refl, sym, subst, ◌∙◌}
use Rattle.std.proofs.lemmas.Option.{slice_get_read}
use Rattle.far_rows.proofs.MovementInUse.{text-in-use}
use Rattle.far_rows.proofs.rows.Rows.text_object.Goals as goal

pub returns-clause-in_use : goal.returns-clause-in_use
returns-clause-in_use g c =
    let columns = c.self.inside.texts.items in
    let within : c.args.text < length columns = subst (λ rows. c.args.text < length rows.texts) (sym c.self.view_is) c.requires in
    let there = slice_get_read columns (length columns) c.args.text c.index.result.now refl within c.index.ensures in
    let used = text-in-use g.S.FarTickets.content _ c.self.inside.text_objects c.number-number.ensures.tracked columns c.self.invariant.texts c.args.text c.index.result.now there c.args.group c.in_ok-object.field-0 (sym c.object.ensures ∙ c.in_ok-object.was) in
    subst (λ rows. c.in_ok-object.field-0 < length rows.text_objects.records) c.self.view_is used
