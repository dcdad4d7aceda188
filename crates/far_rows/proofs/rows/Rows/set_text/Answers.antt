use Rattle.std.proofs.Common.{◌≡◌, ℕ, ◌+◌, ◌<◌, ◌≤◌, arith, List, [], length, map, get_or, Option, None, refl, sym, ap, subst, ◌∙◌}
use Rattle.std.specs.Prelude.{option_map, slice_get, slice_set}
use Rattle.std.specs.Option.{option_map_or, option_and_then}
use Rattle.std.proofs.lemmas.Option.{slice_get-get_or, slice_get-map, get_or_from_slice_get}
use Rattle.far_types.specs.declared.refusal.Refusal.{Refusal}
use Rattle.far_codec.specs.TextForm.{texts_form}
use Rattle.far_scopes.specs.Movement.{Movement, AreHere, version_of}
use Rattle.far_texts.specs.Texts.{Texts, Lists, IsTextColumn, lists_of, texts_in, object_at}
use Rattle.far_texts.specs.Effects.{group_with, set_in as text_set_in}
use Rattle.far_texts.specs.Refusing.{set_refusal}
use Rattle.far_texts.proofs.EffectsSet.{set-below}
use Rattle.far_scopes.proofs.Outcomes.{by-outcome, on-ok}
use Rattle.far_rows.specs.declared.column_index.ColumnIndex.TheVariants as column_index
use Rattle.far_rows.specs.declared.new_cell.NewCell.TheVariants as new
use Rattle.far_rows.specs.Naming.{names_of}
use Rattle.far_rows.specs.Rows.{all_texts}
use Rattle.far_rows.specs.Setting.{set_in}
use Rattle.far_rows.proofs.NamingLaws.{names-after_replace, still-named}
use Rattle.far_rows.proofs.RowsObjects.{rows-kept, text-column-at}
use Rattle.far_rows.proofs.EffectsVersions.{replaced-version}
use Rattle.far_rows.proofs.SettingColumns.{texts-still, texts-set}
use Rattle.far_rows.proofs.rows.Rows.set_text.Goals as goal

pub set_accepted-requires-clause-is : goal.set_accepted-requires-clause-is
set_accepted-requires-clause-is g c κs within =
    let columns : List Texts = c.self.inside.texts.items in
    let below = subst (λ r. c.args.i < length r.texts) (sym c.self.view_is) c.requires.within in
    subst (IsTextColumn (lists_of g.S.FarTickets.content c.self.inside.text_objects)) (sym c.index.ensures) (c.self.invariant.texts.all_disjoint.each c.args.i c.index.result.now below)

pub set_accepted-requires-clause-free : goal.set_accepted-requires-clause-free
set_accepted-requires-clause-free g c κs within =
    let content = g.S.FarTickets.content in
    let columns : List Texts = c.self.inside.texts.items in
    let v : Texts = c.index.result.now in
    let m = c.self.inside.text_objects in
    let text = c.args.text.now in
    let at = text-column-at c.self.view_is c.args.i c.requires.within c.index.ensures in
    let due : Texts → Option Refusal = λ w. set_refusal content m w c.args.place text in
    sym (ap (option_and_then due) at)
    ∙ ap (λ r. option_and_then (λ w. set_refusal content r.text_objects w c.args.place text) (slice_get r.texts c.args.i)) c.self.view_is
    ∙ c.requires.free

pub overflow_cast-place : goal.overflow_cast-place
overflow_cast-place g c =
    let content = g.S.FarTickets.content in
    let columns : List Texts = c.self.inside.texts.items in
    let m = c.self.inside.text_objects in
    let text = c.args.text.now in
    let none : Texts = record { column = 0; size = 0; limit = 0; objects = []; len = 0 } in
    let v : Texts = get_or columns c.args.i none in
    let below = subst (λ r. c.args.i < length r.texts) (sym c.self.view_is) c.requires.within in
    let due : Texts → Option Refusal = λ w. set_refusal content m w c.args.place text in
    let free : set_refusal content m v c.args.place text ≡ None =
    sym (ap (option_and_then due) (slice_get-get_or columns c.args.i none below))
    ∙ ap (λ r. option_and_then (λ w. set_refusal content r.text_objects w c.args.place text) (slice_get r.texts c.args.i)) c.self.view_is
    ∙ c.requires.free in
    omega (arith, set-below content m v c.args.place text (sym free), (c.self.invariant.same_length_texts c.args.i none below).1, c.self.invariant.places)

pub invariant_of-self : goal.invariant_of-self
invariant_of-self g c =
    let content = g.S.FarTickets.content in
    let v : Texts = c.index.result.now in
    let m = c.self.inside.text_objects in
    let now = c.set_accepted.new.objects in
    let inv = c.self.invariant in
    let done = c.set_accepted.ensures in
    let at = text-column-at c.self.view_is c.args.i c.requires.within c.index.ensures in
    let form : List ℕ = texts_form (group_with (lists_of content m) v c.args.place c.args.text.now) in
    let names : names_of now ≡ names_of m = still-named m now (text_set_in content m v c.args.place c.args.text.now) c.set_accepted.result (on-ok c.set_accepted.result done.set (λ set. set.moved)) done.err (names-after_replace m (object_at v c.args.place) form) in
    let texts = texts-still (lists_of content m) (lists_of content now) c.self.inside.texts.items inv.texts c.args.i v at done.changes.is done.changes.others in
    rows-kept content content _ c.self.inside.number_objects now inv refl inv.numbers inv.clean_numbers names texts (done.copies.clean inv.clean_texts)

pub returns-clause-moved : goal.returns-clause-moved
returns-clause-moved g c =
    let content = g.S.FarTickets.content in
    let columns : List Texts = c.self.inside.texts.items in
    let v : Texts = c.index.result.now in
    let m = c.self.inside.text_objects in
    let at = text-column-at c.self.view_is c.args.i c.requires.within c.index.ensures in
    let put : Texts → Movement ℕ g.row.S-Ticket.Denot = λ w. text_set_in content m w c.args.place c.args.text.now in
    on-ok c.set_accepted.result c.set_accepted.ensures.set (λ set.
    let written : c.set_accepted.new.objects ≡ option_map_or put (slice_get columns c.args.i) m = set.moved ∙ sym (ap (λ o. option_map_or put o m) at) in
    (λ j. record {
      column_indexes = c.self.inside.column_indexes.items;
      size = c.self.inside.size;
      numbers = c.self.inside.numbers.items;
      texts = columns;
      number_objects = c.self.inside.number_objects;
      text_objects = written j;
      alive = c.self.inside.alive;
    })
    ∙ ap (λ r. set_in content r (column_index.Text c.args.i) c.args.place (new.Text c.args.text.now)) c.self.view_is)

pub returns-clause-texts : goal.returns-clause-texts
returns-clause-texts g c =
    let content = g.S.FarTickets.content in
    let columns : List Texts = c.self.inside.texts.items in
    let v : Texts = c.index.result.now in
    let m = c.self.inside.text_objects in
    let now = c.set_accepted.new.objects in
    let old_lists : Lists = lists_of content m in
    let new_lists : Lists = lists_of content now in
    let i = c.args.i in
    let text = c.args.text.now in
    let at = text-column-at c.self.view_is i c.requires.within c.index.ensures in
    let was = map (texts_in old_lists) columns in
    let here : texts_in old_lists v ≡ get_or was i [] = sym (get_or_from_slice_get was i (texts_in old_lists v) [] (slice_get-map (texts_in old_lists) columns i ∙ ap (option_map (texts_in old_lists)) at)) in
    on-ok c.set_accepted.result c.set_accepted.ensures.set (λ set.
    texts-set old_lists new_lists columns c.self.invariant.texts i v at c.set_accepted.ensures.changes.is c.set_accepted.ensures.changes.others
    ∙ ap (slice_set was i) (set.texts ∙ ap (λ l. slice_set l c.args.place text) here)
    ∙ ap (λ r. slice_set (all_texts content r) i (slice_set (get_or (all_texts content r) i []) c.args.place text)) c.self.view_is)

pub returns-clause-store : goal.returns-clause-store
returns-clause-store g c = λ id here. c.set_accepted.ensures.copies.store id (subst (λ r. AreHere g.S.FarTickets.is_of id r.text_objects) (sym c.self.view_is) here)

pub returns-clause-versions : goal.returns-clause-versions
returns-clause-versions g c = λ o.
    let v : Texts = c.index.result.now in
    let m = c.self.inside.text_objects in
    let form : List ℕ = texts_form (group_with (lists_of g.S.FarTickets.content m) v c.args.place c.args.text.now) in
    subst (λ r. version_of c.set_accepted.new.objects o ≤ version_of r.text_objects o + 1) c.self.view_is
    (by-outcome c.set_accepted.result c.set_accepted.ensures.set c.set_accepted.ensures.err
    (λ set. subst (λ (now : Movement ℕ g.row.S-Ticket.Denot). version_of now o ≤ version_of m o + 1) (sym set.moved) (replaced-version m (object_at v c.args.place) (length form) o))
    (λ is. subst (λ (now : Movement ℕ g.row.S-Ticket.Denot). version_of now o ≤ version_of m o + 1) (sym is) (omega arith)))
