use Rattle.std.proofs.Common.{◌≡◌, ◌+◌, ◌*◌, arith}
use Rattle.far_texts.proofs.LendingLaws.{group-here}
use Rattle.far_texts.proofs.text_column.cursor.Cursor.entered.Goals as goal

pub form_here-form-requires-clause-here : goal.form_here-form-requires-clause-here
form_here-form-requires-clause-here g c κs within =
    let column = c.args.column.now in
    let cursor = c.requires.cursor in
    let has = c.size.ensures.groups in
    let at : c.args.self.place ≡ (c.args.self.group + 1) * column.size + 0 = omega (arith, cursor.at, cursor.within, c.if-self-size.false, c.size.ensures.size) in
    (group-here g.S.FarTickets.content c.args.objects.now column c.args.self.place (c.args.self.group + 1) 0 has has.some at c.requires.here).1
