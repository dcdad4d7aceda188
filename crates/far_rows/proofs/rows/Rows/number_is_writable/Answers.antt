use Rattle.std.proofs.Common.{◌≡◌, ℤ, ◌<◌, length, get_or, Option, Some, refl, sym, ap, subst, ◌∙◌}
use Rattle.std.specs.Prelude.{slice_get}
use Rattle.std.proofs.lemmas.Option.{slice_get-get_or, slice_get_read}
use Rattle.far_scopes.specs.Refusing.{write_refusal}
use Rattle.far_columns.specs.Vector.{Vector, object_at}
use Rattle.far_rows.proofs.MovementInUse.{number-in-use}
use Rattle.far_rows.proofs.RefusingNumbers.{group-there, group-writable}
use Rattle.far_rows.proofs.rows.Rows.number_is_writable.Goals as goal

pub unreachable-requires : goal.unreachable-requires
unreachable-requires g c =
    let r = c.args.self.now in
    let v : Vector (Option ℤ) = c.index.result.now in
    let read : v ≡ get_or r.numbers c.args.i v = c.index.ensures ∙ ap (λ rows. get_or rows.numbers c.args.i v) c.self.view_is in
    let column : slice_get r.numbers c.args.i ≡ Some v = slice_get-get_or r.numbers c.args.i v c.requires.within ∙ ap Some (sym read) in
    c.in_default.not-Some (object_at v c.args.place) (c.object.ensures ∙ group-there g.S.FarTickets.content r c.len-len.ensures.rows c.args.i c.args.place c.args.group v column c.requires.place c.requires.group)

pub may_write-requires-after_bounds : goal.may_write-requires-after_bounds
may_write-requires-after_bounds g c κs within =
    let columns = c.self.inside.numbers.items in
    let below : c.args.i < length columns = subst (λ rows. c.args.i < length rows.numbers) (sym c.self.view_is) c.requires.within in
    let there = slice_get_read columns (length columns) c.args.i c.index.result.now refl below c.index.ensures in
    number-in-use g.S.FarTickets.content _ c.self.inside.number_objects c.number-number.ensures.tracked columns c.self.invariant.numbers c.args.i c.index.result.now there c.args.group c.in-Some.o (sym c.object.ensures ∙ c.in-Some.is)

pub returns : goal.returns
returns g c =
    let r = c.args.self.now in
    let v : Vector (Option ℤ) = c.index.result.now in
    let read : v ≡ get_or r.numbers c.args.i v = c.index.ensures ∙ ap (λ rows. get_or rows.numbers c.args.i v) c.self.view_is in
    let column : slice_get r.numbers c.args.i ≡ Some v = slice_get-get_or r.numbers c.args.i v c.requires.within ∙ ap Some (sym read) in
    c.may_write.ensures
    ∙ ap (λ rows. write_refusal rows.number_objects c.in-Some.o) c.self.view_is
    ∙ group-writable g.S.FarTickets.content r c.len-len.ensures.rows c.args.i c.args.place c.args.group v column c.requires.place c.requires.group c.in-Some.o (sym c.in-Some.is ∙ c.object.ensures)
