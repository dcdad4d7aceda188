use Rattle.std.proofs.Common.{◌≡◌, ◌/◌, ◌+◌, ◌<◌, ◌≤◌, [], ◌∷◌, length, map, get_or, Option, None, Some, refl, sym, ap, subst, ◌∙◌}
use Rattle.std.specs.Prelude.{ℤ, option_map, slice_get, slice_set}
use Rattle.std.specs.Option.{option_map_or}
use Rattle.std.proofs.lemmas.Option.{slice_get-get_or, slice_get-map, get_or_from_slice_get}
use Rattle.far_scopes.specs.Movement.{Movement, AreHere, version_of}
use Rattle.far_columns.specs.Vector.{Vector, IsVector, object_at}
use Rattle.far_columns.specs.Effects.{after_write_range}
use Rattle.far_columns.specs.Refusing.{set_refusal}
use Rattle.far_columns.specs.Numbers.{number_lists, numbers_in}
use Rattle.far_columns.specs.NumbersTogether.{NumberColumns}
use Rattle.far_rows.specs.declared.column_index.ColumnIndex.TheVariants as column_index
use Rattle.far_rows.specs.declared.new_cell.NewCell.TheVariants as new
use Rattle.far_rows.specs.Naming.{names_of}
use Rattle.far_rows.specs.Rows.{Rows, all_numbers}
use Rattle.far_rows.specs.Setting.{set_in}
use Rattle.far_rows.proofs.NamingLaws.{names-after_write}
use Rattle.far_rows.proofs.RowsObjects.{rows-kept, number-column-at}
use Rattle.far_rows.proofs.EffectsVersions.{after_write-once}
use Rattle.far_rows.proofs.SettingColumns.{numbers-still, numbers-set}
use Rattle.far_rows.proofs.RefusingNumbers.{size-same, free-column, place-of}
use Rattle.far_rows.proofs.rows.Rows.set_number.Goals as goal

pub group_of-group-requires-after_bounds : goal.group_of-group-requires-after_bounds
group_of-group-requires-after_bounds g c κs bounds = place-of g.S.FarTickets.content c.args.self.now c.len-len.ensures.rows c.args.i c.args.place c.requires.within c.requires.free

pub set_in_group-requires-clause-is : goal.set_in_group-requires-clause-is
set_in_group-requires-clause-is g c κs bounds =
    let columns : NumberColumns = c.self.inside.numbers.items in
    let below = subst (λ r. c.args.i < length r.numbers) (sym c.self.view_is) c.requires.within in
    subst (IsVector (number_lists g.S.FarTickets.content c.self.inside.number_objects)) (sym c.index.ensures) (c.self.invariant.numbers.all_disjoint.each c.args.i c.index.result.now below)

pub set_in_group-requires-clause-group : goal.set_in_group-requires-clause-group
set_in_group-requires-clause-group g c κs bounds =
    let r = c.args.self.now in
    let v : Vector (Option ℤ) = c.index.result.now in
    let column : slice_get r.numbers c.args.i ≡ Some v = slice_get-get_or r.numbers c.args.i v c.requires.within ∙ ap Some (sym (c.index.ensures ∙ ap (λ rows. get_or rows.numbers c.args.i v) c.self.view_is)) in
    c.group_of-group.ensures ∙ ap (λ n. c.args.place / n) (sym (size-same g.S.FarTickets.content r c.len-len.ensures.rows c.args.i c.args.place v column))

pub set_in_group-requires-clause-free : goal.set_in_group-requires-clause-free
set_in_group-requires-clause-free g c κs bounds =
    let r = c.args.self.now in
    let v : Vector (Option ℤ) = c.index.result.now in
    let column : slice_get r.numbers c.args.i ≡ Some v = slice_get-get_or r.numbers c.args.i v c.requires.within ∙ ap Some (sym (c.index.ensures ∙ ap (λ rows. get_or rows.numbers c.args.i v) c.self.view_is)) in
    subst (λ (rows : Rows g.row.S-Ticket.Denot). set_refusal rows.number_objects v c.args.place ≡ None) (sym c.self.view_is) (free-column g.S.FarTickets.content r c.len-len.ensures.rows c.args.i c.args.place v column c.requires.free)

pub invariant_of-self : goal.invariant_of-self
invariant_of-self g c =
    let content = g.S.FarTickets.content in
    let v : Vector (Option ℤ) = c.index.result.now in
    let m = c.self.inside.number_objects in
    let now = c.set_in_group.new.objects in
    let inv = c.self.invariant in
    let done = c.set_in_group.ensures in
    let at = number-column-at c.self.view_is c.args.i c.requires.within c.index.ensures in
    let names : names_of now ≡ names_of m = ap names_of done.written ∙ names-after_write m (object_at v c.args.place) in
    let numbers = numbers-still (number_lists content m) (number_lists content now) c.self.inside.numbers.items inv.numbers c.args.i v at done.changes.is done.changes.others in
    rows-kept content content _ now c.self.inside.text_objects inv names numbers (done.keeps.copies.clean inv.clean_numbers) refl inv.texts inv.clean_texts

pub returns-clause-moved : goal.returns-clause-moved
returns-clause-moved g c =
    let columns : NumberColumns = c.self.inside.numbers.items in
    let v : Vector (Option ℤ) = c.index.result.now in
    let m = c.self.inside.number_objects in
    let place = c.args.place in
    let done = c.set_in_group.ensures in
    let at = number-column-at c.self.view_is c.args.i c.requires.within c.index.ensures in
    let put : Vector (Option ℤ) → Movement (Option ℤ) g.row.S-Ticket.Denot = λ w. after_write_range m w place (c.args.number ∷ []) in
    let written : c.set_in_group.new.objects ≡ option_map_or put (slice_get columns c.args.i) m = done.written ∙ sym (ap (λ o. option_map_or put o m) at) in
    (λ j. record {
      column_indexes = c.self.inside.column_indexes.items;
      size = c.self.inside.size;
      numbers = columns;
      texts = c.self.inside.texts.items;
      number_objects = written j;
      text_objects = c.self.inside.text_objects;
      alive = c.self.inside.alive;
    })
    ∙ ap (λ r. set_in g.S.FarTickets.content r (column_index.Number c.args.i) place (new.Number c.args.number)) c.self.view_is

pub returns-clause-numbers : goal.returns-clause-numbers
returns-clause-numbers g c =
    let content = g.S.FarTickets.content in
    let columns : NumberColumns = c.self.inside.numbers.items in
    let v : Vector (Option ℤ) = c.index.result.now in
    let m = c.self.inside.number_objects in
    let now = c.set_in_group.new.objects in
    let place = c.args.place in
    let number = c.args.number in
    let i = c.args.i in
    let inv = c.self.invariant in
    let done = c.set_in_group.ensures in
    let at = number-column-at c.self.view_is i c.requires.within c.index.ensures in
    let was = map (numbers_in content m) columns in
    let here : numbers_in content m v ≡ get_or was i [] = sym (get_or_from_slice_get was i (numbers_in content m v) [] (slice_get-map (numbers_in content m) columns i ∙ ap (option_map (numbers_in content m)) at)) in
    let own : numbers_in content now v ≡ slice_set (get_or was i []) place number = done.elements ∙ ap (λ l. slice_set l place number) here in
    numbers-set (number_lists content m) (number_lists content now) columns inv.numbers i v at done.changes.is done.changes.others
    ∙ ap (slice_set was i) own
    ∙ ap (λ r. slice_set (all_numbers content r) i (slice_set (get_or (all_numbers content r) i []) place number)) c.self.view_is

pub returns-clause-store : goal.returns-clause-store
returns-clause-store g c = λ id here. c.set_in_group.ensures.keeps.copies.store id (subst (λ r. AreHere g.S.FarTickets.is_of id r.number_objects) (sym c.self.view_is) here)

pub returns-clause-versions : goal.returns-clause-versions
returns-clause-versions g c = λ o.
    let v : Vector (Option ℤ) = c.index.result.now in
    let m = c.self.inside.number_objects in
    subst (λ r. version_of c.set_in_group.new.objects o ≤ version_of r.number_objects o + 1) c.self.view_is
    (subst (λ (now : Movement (Option ℤ) g.row.S-Ticket.Denot). version_of now o ≤ version_of m o + 1) (sym c.set_in_group.ensures.written) (after_write-once m (object_at v c.args.place) o))
