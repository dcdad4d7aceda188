use Rattle.std.proofs.Common.{◌≡◌, ◌/◌, ◌<◌, length, get_or, None, Some, sym, ap, subst, ◌∙◌}
use Rattle.std.specs.Prelude.{slice_get}
use Rattle.std.specs.Option.{option_and_then, option_or}
use Rattle.std.proofs.lemmas.Option.{slice_get-get_or, get_or_from_slice_get}
use Rattle.std.proofs.lemmas.Result.{err_from_is_err_and}
use Rattle.far_types.specs.FirstOf.{first_of}
use Rattle.far_texts.specs.Texts.{Texts, IsTextColumn, lists_of}
use Rattle.far_texts.specs.Refusing.{set_refusal as text_refusal}
use Rattle.far_rows.specs.declared.column_index.ColumnIndex.{ColumnIndex}
use Rattle.far_rows.specs.declared.column_index.ColumnIndex.TheVariants as column_index
use Rattle.far_rows.specs.Refusing.{absents}
use Rattle.far_rows.specs.ColumnIndexes.{IsColumnIn}
use Rattle.far_rows.specs.Setting.{kind_in, value_refusal}
use Rattle.far_rows.proofs.SettingCells.{column_index-within}
use Rattle.far_rows.proofs.rows.Rows.may_set_value.Goals as goal

pub returns-in_err-here : goal.returns-in_err-here
returns-in_err-here g c =
    let r = c.args.self.now in
    let p = err_from_is_err_and c.from_residual.result c.from_residual.ensures.1 in
    let later = option_and_then (λ s. value_refusal g.S.FarTickets.content r s c.args.place c.args.value.now) (slice_get r.column_indexes c.args.column) in
    let due : Some c.in_err-here.field-0.0 ≡ first_of (absents r (c.args.place / r.size)) = c.in_err-here.ensures ∙ ap (λ n. first_of (absents r n)) c.group_of-group.ensures in
    rw (p.1, p.2) (ap (λ o. option_or o later) due)

pub returns-in-Number-Number : goal.returns-in-Number-Number
returns-in-Number-Number g c =
    let content = g.S.FarTickets.content in
    let r = c.args.self.now in
    let s : ColumnIndex = column_index.Number c.in-Number-Number.i in
    let read : c.index.result.now ≡ get_or r.column_indexes c.args.column c.index.result.now = c.index.ensures ∙ ap (λ rows. get_or rows.column_indexes c.args.column c.index.result.now) c.self.view_is in
    let below = column_index-within r.column_indexes c.args.column (kind_in c.args.value.now) c.requires.of_kind in
    let at : slice_get r.column_indexes c.args.column ≡ Some s = slice_get-get_or r.column_indexes c.args.column c.index.result.now below ∙ ap Some (sym read ∙ c.in-Number-Number.is-0) in
    let here : first_of (absents r (c.args.place / r.size)) ≡ None = sym (c.in_ok-here.ensures ∙ ap (λ n. first_of (absents r n)) c.group_of-group.ensures) in
    c.number_is_writable.ensures
    ∙ sym (ap (option_and_then (λ t. value_refusal content r t c.args.place c.args.value.now)) at)
    ∙ sym (ap (λ o. option_or o (option_and_then (λ t. value_refusal content r t c.args.place c.args.value.now) (slice_get r.column_indexes c.args.column))) here)

pub may_set-requires-after_bounds : goal.may_set-requires-after_bounds
may_set-requires-after_bounds g c κs bounds =
    let r = c.args.self.now in
    let s : ColumnIndex = column_index.Text c.in-Text-Text.i in
    let read : c.index.result.now ≡ get_or r.column_indexes c.args.column c.index.result.now = c.index.ensures ∙ ap (λ rows. get_or rows.column_indexes c.args.column c.index.result.now) c.self.view_is in
    let below = column_index-within r.column_indexes c.args.column (kind_in c.args.value.now) c.requires.of_kind in
    let at : slice_get r.column_indexes c.args.column ≡ Some s = slice_get-get_or r.column_indexes c.args.column c.index.result.now below ∙ ap Some (sym read ∙ c.in-Text-Text.is-0) in
    let inside : IsColumnIn (length r.numbers) (length r.texts) s = subst (IsColumnIn (length r.numbers) (length r.texts)) (get_or_from_slice_get r.column_indexes c.args.column s s at) (c.len-len.ensures.rows.column_indexes.within c.args.column s below) in
    let within = subst (λ rows. c.in-Text-Text.i < length rows.texts) (sym c.self.view_is) inside in
    subst (IsTextColumn (lists_of g.S.FarTickets.content c.self.inside.text_objects)) (sym c.index-in-Text-Text.ensures) (c.self.invariant.texts.all_disjoint.each c.in-Text-Text.i c.index-in-Text-Text.result.now within)

pub returns-in-Text-Text : goal.returns-in-Text-Text
returns-in-Text-Text g c =
    let content = g.S.FarTickets.content in
    let r = c.args.self.now in
    let s : ColumnIndex = column_index.Text c.in-Text-Text.i in
    let v : Texts = c.index-in-Text-Text.result.now in
    let read : c.index.result.now ≡ get_or r.column_indexes c.args.column c.index.result.now = c.index.ensures ∙ ap (λ rows. get_or rows.column_indexes c.args.column c.index.result.now) c.self.view_is in
    let below = column_index-within r.column_indexes c.args.column (kind_in c.args.value.now) c.requires.of_kind in
    let at : slice_get r.column_indexes c.args.column ≡ Some s = slice_get-get_or r.column_indexes c.args.column c.index.result.now below ∙ ap Some (sym read ∙ c.in-Text-Text.is-0) in
    let inside : IsColumnIn (length r.numbers) (length r.texts) s = subst (IsColumnIn (length r.numbers) (length r.texts)) (get_or_from_slice_get r.column_indexes c.args.column s s at) (c.len-len.ensures.rows.column_indexes.within c.args.column s below) in
    let read_column : v ≡ get_or r.texts c.in-Text-Text.i v = c.index-in-Text-Text.ensures ∙ ap (λ rows. get_or rows.texts c.in-Text-Text.i v) c.self.view_is in
    let column : slice_get r.texts c.in-Text-Text.i ≡ Some v = slice_get-get_or r.texts c.in-Text-Text.i v inside ∙ ap Some (sym read_column) in
    let here : first_of (absents r (c.args.place / r.size)) ≡ None = sym (c.in_ok-here.ensures ∙ ap (λ n. first_of (absents r n)) c.group_of-group.ensures) in
    let refused = λ (w : Texts). text_refusal content r.text_objects w c.args.place c.in-Text-Text.text in
    c.may_set.ensures
    ∙ ap (λ rows. text_refusal content rows.text_objects v c.args.place c.in-Text-Text.text) c.self.view_is
    ∙ sym (ap (option_and_then refused) column)
    ∙ ap (value_refusal content r s c.args.place) (sym c.in-Text-Text.is-1)
    ∙ sym (ap (option_and_then (λ t. value_refusal content r t c.args.place c.args.value.now)) at)
    ∙ sym (ap (λ o. option_or o (option_and_then (λ t. value_refusal content r t c.args.place c.args.value.now) (slice_get r.column_indexes c.args.column))) here)
