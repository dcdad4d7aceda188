use Rattle.std.proofs.Common.{sym, ◌∙◌}
use Rattle.far_columns.proofs.MovementInUse.{in-use}
use Rattle.far_texts.specs.Texts.{IsGroupForm}
use Rattle.far_rows.proofs.rows.reading.texts_are_here.Goals as goal

pub here-requires-after_bounds : goal.here-requires-after_bounds
here-requires-after_bounds g c κs within =
    in-use (λ bytes. bytes) g.S.FarTickets.content _ c.args.objects.now c.number-number.ensures.tracked c.in-Some.o (IsGroupForm c.args.column.now c.args.group)
    (c.requires.each c.args.group c.in-Some.o (sym c.object.ensures ∙ c.in-Some.is))
