use Rattle.std.proofs.Common.{◌≡◌, ◌≢◌, ◌%◌, ◌<◌, true, length, sym, ap, subst, ◌∙◌}
use Rattle.std.specs.Prelude.{All}
use Rattle.std.proofs.lemmas.Bool.{eqb-true, eqb-false}
use Rattle.std.proofs.lemmas.List.{with_items_is, length_push}
use Rattle.far_scopes.specs.Movement.{AreHere}
use Rattle.far_columns.specs.NumbersTogether.{all_begin}
use Rattle.far_columns.specs.Vector.{IsShaped}
use Rattle.far_texts.specs.Texts.{HasGroups}
use Rattle.far_rows.specs.Appending.{MayTakeNumbers, MayTakeTexts}
use Rattle.far_rows.proofs.PushedRows.{numbers-as-many, texts-as-many, number-columns, may-take-numbers, may-take-texts, rows-pushed, is-pushed, number-once, text-once}
use Rattle.far_rows.proofs.RowsGroupStarts.{numbers-begin, numbers-begun}
use Rattle.far_rows.proofs.rows.Rows.push_row.Goals as goal

pub push_values-pushed-requires-clause-begin : goal.push_values-pushed-requires-clause-begin
push_values-pushed-requires-clause-begin g c κs within begins =
    let size = c.self.inside.size in
    let len = length c.self.inside.alive in
    let divides : len % size ≡ 0 = ap (λ n. n % size) (sym c.len.ensures) ∙ sym c.remainder-index.ensures ∙ eqb-true c.remainder-index.result 0 begins in
    ap all_begin c.deref_mut.ensures.value ∙ numbers-begin size len c.self.inside.numbers.items c.self.invariant.some divides (number-columns _ c.self.invariant)

pub push_values-pushed-requires-clause-begun : goal.push_values-pushed-requires-clause-begun
push_values-pushed-requires-clause-begun g c κs within begun more =
    let size = c.self.inside.size in
    let len = length c.self.inside.alive in
    let not_divides : len % size ≢ 0 = λ divides. eqb-false c.remainder-index.result 0 begun (c.remainder-index.ensures ∙ ap (λ n. n % size) c.len.ensures ∙ divides) in
    let some = subst (λ cs. 0 < length cs) c.deref_mut.ensures.value more in
    ap all_begin c.deref_mut.ensures.value ∙ numbers-begun size len c.self.inside.numbers.items c.self.invariant.some not_divides some (number-columns _ c.self.invariant)

pub push_values-pushed-requires-clause-numbers : goal.push_values-pushed-requires-clause-numbers
push_values-pushed-requires-clause-numbers g c κs within =
    let content = g.S.FarTickets.content in
    let values = c.args.row.now in
    subst (λ cs. MayTakeNumbers content c.self.inside.number_objects cs values.numbers) (sym c.deref_mut.ensures.value)
    (may-take-numbers content _ c.args.self.now c.self.view_is c.self.invariant values c.requires.row c.requires.free c.requires.few c.number-number.ensures.tracked.few)

pub push_values-pushed-requires-clause-texts : goal.push_values-pushed-requires-clause-texts
push_values-pushed-requires-clause-texts g c κs within =
    let content = g.S.FarTickets.content in
    let values = c.args.row.now in
    subst (λ cs. MayTakeTexts content c.self.inside.text_objects cs values.texts) (sym c.deref_mut-2.ensures.value)
    (may-take-texts content _ c.args.self.now c.self.view_is c.self.invariant values c.requires.row c.requires.free c.requires.few c.number-number-2.ensures.tracked.few)

pub invariant_of-self-2 : goal.invariant_of-self-2
invariant_of-self-2 g c =
    let new = c.push_values-pushed.new in
    let done = c.in_default.ensures in
    let kept = c.push_values-pushed.ensures in
    let numbers_is = with_items_is c.self.inside.numbers new.numbers (numbers-as-many done.numbers ∙ ap length c.deref_mut.ensures.value ∙ sym c.self.inside.numbers.ok.0) in
    let texts_is = with_items_is c.self.inside.texts new.texts (texts-as-many done.texts ∙ ap length c.deref_mut-2.ensures.value ∙ sym c.self.inside.texts.ok.0) in
    let more = ap length c.in_ok-push.ensures.ok ∙ length_push c.self.inside.alive true in
    let shaped = subst (All IsShaped) (c.deref.ensures.value ∙ numbers_is) c.all_are_shaped.ensures in
    let grouped = subst (All HasGroups) (c.deref-2.ensures.value ∙ texts_is) c.all_have_groups.ensures in
    rw (numbers_is, texts_is) (rows-pushed g.S.FarTickets.content _ c.args.self.now c.self.view_is c.self.invariant c.args.row.now c.requires.row new.numbers new.number_objects c.deref_mut.ensures.value done.numbers new.texts new.text_objects c.deref_mut-2.ensures.value done.texts
    c.push.new.self more c.requires.few kept.numbers_are kept.texts_are shaped grouped (kept.number_copies.clean c.self.invariant.clean_numbers) (kept.text_copies.clean c.self.invariant.clean_texts))

pub returns-clause-pushed : goal.returns-clause-pushed
returns-clause-pushed g c =
    let new = c.push_values-pushed.new in
    let done = c.in_default.ensures in
    let numbers_is = with_items_is c.self.inside.numbers new.numbers (numbers-as-many done.numbers ∙ ap length c.deref_mut.ensures.value ∙ sym c.self.inside.numbers.ok.0) in
    let texts_is = with_items_is c.self.inside.texts new.texts (texts-as-many done.texts ∙ ap length c.deref_mut-2.ensures.value ∙ sym c.self.inside.texts.ok.0) in
    rw (numbers_is, texts_is) (is-pushed g.S.FarTickets.content _ c.args.self.now c.self.view_is c.self.invariant c.args.row.now c.requires.row new.numbers new.number_objects c.deref_mut.ensures.value done.numbers new.texts new.text_objects c.deref_mut-2.ensures.value done.texts
    c.push.new.self c.in_ok-push.ensures.ok)

pub returns-clause-kept : goal.returns-clause-kept
returns-clause-kept g c =
    let content = g.S.FarTickets.content in
    let new = c.push_values-pushed.new in
    let done = c.in_default.ensures in
    let kept = c.push_values-pushed.ensures in
    record {
      number_store = λ id here. kept.number_copies.store id (subst (λ r. AreHere g.S.FarTickets.is_of id r.number_objects) (sym c.self.view_is) here);
      text_store = λ id here. kept.text_copies.store id (subst (λ r. AreHere g.S.FarTickets.is_of id r.text_objects) (sym c.self.view_is) here);
      number_versions = number-once content _ c.args.self.now c.self.view_is c.self.invariant c.args.row.now c.requires.row new.numbers new.number_objects c.deref_mut.ensures.value done.numbers new.texts new.text_objects c.deref_mut-2.ensures.value done.texts;
      text_versions = text-once content _ c.args.self.now c.self.view_is c.self.invariant c.args.row.now c.requires.row new.numbers new.number_objects c.deref_mut.ensures.value done.numbers new.texts new.text_objects c.deref_mut-2.ensures.value done.texts;
    }
