use Rattle.std.proofs.Common.{◌≡◌, ◌<◌, List, length, get_or, Some, sym, ap, subst, ◌∙◌, arith}
use Rattle.std.specs.Prelude.{slice_get, IfSome}
use Rattle.std.proofs.lemmas.Option.{slice_get-get_or, get_or_from_slice_get}
use Rattle.std.proofs.lemmas.List.{length-map}
use Rattle.far_columns.specs.Numbers.{numbers_in}
use Rattle.far_texts.specs.Texts.{lists_of, texts_in}
use Rattle.far_scopes.proofs.Outcomes.{on-ok, on-both}
use Rattle.far_rows.specs.declared.column_index.ColumnIndex.{ColumnIndex}
use Rattle.far_rows.specs.declared.column_index.ColumnIndex.TheVariants as column_index
use Rattle.far_rows.specs.ColumnIndexes.{IsColumnIn, columns_of}
use Rattle.far_rows.specs.Rows.{all_numbers, all_texts, all_cells}
use Rattle.far_rows.specs.Setting.{cell_of, kind_in, set_in, with_cell_at}
use Rattle.far_rows.proofs.SettingCells.{column_index-within, number-set, text-set}
use Rattle.far_rows.proofs.rows.Rows.set_value.Goals as goal

pub returns-in-Number-Number-clause-moved : goal.returns-in-Number-Number-clause-moved
returns-in-Number-Number-clause-moved g c =
    let content = g.S.FarTickets.content in
    let r = c.args.self.now in
    let s : ColumnIndex = column_index.Number c.in-Number-Number.i in
    let column_indexes : List ColumnIndex = r.column_indexes in
    let read : c.index.result.now ≡ get_or column_indexes c.args.column c.index.result.now = c.index.ensures ∙ ap (λ rows. get_or rows.column_indexes c.args.column c.index.result.now) c.self.view_is in
    let below = column_index-within column_indexes c.args.column (kind_in c.args.value.now) c.requires.of_kind in
    let at : slice_get column_indexes c.args.column ≡ Some s = slice_get-get_or column_indexes c.args.column c.index.result.now below ∙ ap Some (sym read ∙ c.in-Number-Number.is-0) in
    subst (λ o. IfSome o (λ t. c.set_number.new.self ≡ set_in content r t c.args.place c.args.value.now)) (sym at)
    (c.set_number.ensures.moved ∙ ap (set_in content r s c.args.place) (sym c.in-Number-Number.is-1))

pub returns-in-Number-Number-clause-cells : goal.returns-in-Number-Number-clause-cells
returns-in-Number-Number-clause-cells g c =
    let content = g.S.FarTickets.content in
    let r = c.args.self.now in
    let i = c.in-Number-Number.i in
    let s : ColumnIndex = column_index.Number i in
    let column_indexes : List ColumnIndex = r.column_indexes in
    let now = c.set_number.new.self in
    let moved = c.set_number.ensures.moved in
    let read : c.index.result.now ≡ get_or column_indexes c.args.column c.index.result.now = c.index.ensures ∙ ap (λ rows. get_or rows.column_indexes c.args.column c.index.result.now) c.self.view_is in
    let below = column_index-within column_indexes c.args.column (kind_in c.args.value.now) c.requires.of_kind in
    let at : slice_get column_indexes c.args.column ≡ Some s = slice_get-get_or column_indexes c.args.column c.index.result.now below ∙ ap Some (sym read ∙ c.in-Number-Number.is-0) in
    let inside : IsColumnIn (length r.numbers) (length r.texts) s = subst (IsColumnIn (length r.numbers) (length r.texts)) (get_or_from_slice_get column_indexes c.args.column s s at) (c.len-len.ensures.rows.column_indexes.within c.args.column s below) in
    let within : i < length (all_numbers content r) = omega (arith, inside, length-map r.numbers (numbers_in content r.number_objects)) in
    let same_column_indexes : now.column_indexes ≡ column_indexes = ap (λ rows. rows.column_indexes) moved in
    let same_texts : all_texts content now ≡ all_texts content r = ap (all_texts content) moved in
    (λ j. columns_of (same_column_indexes j) (c.set_number.ensures.numbers j) (same_texts j))
    ∙ number-set column_indexes (all_numbers content r) (all_texts content r) c.args.column i c.args.place c.in-Number-Number.number c.len-len.ensures.rows.column_indexes.once at within
    ∙ ap (λ value. with_cell_at (all_cells content r) c.args.column c.args.place (cell_of value)) (sym c.in-Number-Number.is-1)

pub returns-in-Text-Text-clause-moved : goal.returns-in-Text-Text-clause-moved
returns-in-Text-Text-clause-moved g c =
    let content = g.S.FarTickets.content in
    let r = c.args.self.now in
    let s : ColumnIndex = column_index.Text c.in-Text-Text.i in
    let column_indexes : List ColumnIndex = r.column_indexes in
    let read : c.index.result.now ≡ get_or column_indexes c.args.column c.index.result.now = c.index.ensures ∙ ap (λ rows. get_or rows.column_indexes c.args.column c.index.result.now) c.self.view_is in
    let below = column_index-within column_indexes c.args.column (kind_in c.args.value.now) c.requires.of_kind in
    let at : slice_get column_indexes c.args.column ≡ Some s = slice_get-get_or column_indexes c.args.column c.index.result.now below ∙ ap Some (sym read ∙ c.in-Text-Text.is-0) in
    on-ok c.set_text.result c.set_text.ensures.moved (λ moved.
    subst (λ o. IfSome o (λ t. c.set_text.new.self ≡ set_in content r t c.args.place c.args.value.now)) (sym at)
    (moved ∙ ap (set_in content r s c.args.place) (sym c.in-Text-Text.is-1)))

pub returns-in-Text-Text-clause-cells : goal.returns-in-Text-Text-clause-cells
returns-in-Text-Text-clause-cells g c =
    let content = g.S.FarTickets.content in
    let r = c.args.self.now in
    let i = c.in-Text-Text.i in
    let s : ColumnIndex = column_index.Text i in
    let column_indexes : List ColumnIndex = r.column_indexes in
    let now = c.set_text.new.self in
    let read : c.index.result.now ≡ get_or column_indexes c.args.column c.index.result.now = c.index.ensures ∙ ap (λ rows. get_or rows.column_indexes c.args.column c.index.result.now) c.self.view_is in
    let below = column_index-within column_indexes c.args.column (kind_in c.args.value.now) c.requires.of_kind in
    let at : slice_get column_indexes c.args.column ≡ Some s = slice_get-get_or column_indexes c.args.column c.index.result.now below ∙ ap Some (sym read ∙ c.in-Text-Text.is-0) in
    let inside : IsColumnIn (length r.numbers) (length r.texts) s = subst (IsColumnIn (length r.numbers) (length r.texts)) (get_or_from_slice_get column_indexes c.args.column s s at) (c.len-len.ensures.rows.column_indexes.within c.args.column s below) in
    let within : i < length (all_texts content r) = omega (arith, inside, length-map r.texts (texts_in (lists_of content r.text_objects))) in
    on-both c.set_text.result c.set_text.ensures.moved c.set_text.ensures.texts (λ moved texts.
    let same_column_indexes : now.column_indexes ≡ column_indexes = ap (λ rows. rows.column_indexes) moved in
    let same_numbers : all_numbers content now ≡ all_numbers content r = ap (all_numbers content) moved in
    (λ j. columns_of (same_column_indexes j) (same_numbers j) (texts j))
    ∙ text-set column_indexes (all_numbers content r) (all_texts content r) c.args.column i c.args.place c.in-Text-Text.text c.len-len.ensures.rows.column_indexes.once at within
    ∙ ap (λ value. with_cell_at (all_cells content r) c.args.column c.args.place (cell_of value)) (sym c.in-Text-Text.is-1))
