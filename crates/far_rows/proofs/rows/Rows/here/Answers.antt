use Rattle.std.proofs.Common.{◌≡◌, ◌<◌, List, [], length, map, drop, get_or, sym, ap, subst, ◌∙◌}
use Rattle.std.proofs.lemmas.List.{get_or_default, drop_all}
use Rattle.std.proofs.lemmas.Result.{err_from_is_err_and}
use Rattle.far_scopes.proofs.FirstOfCases.{next-free, next-due}
use Rattle.far_types.specs.FirstOf.{first_of}
use Rattle.far_rows.specs.declared.column_index.ColumnIndex.{ColumnIndex}
use Rattle.far_rows.specs.declared.column_index.ColumnIndex.TheVariants as column_index
use Rattle.far_rows.specs.ColumnIndexes.{IsColumnIn}
use Rattle.far_rows.specs.Refusing.{away_at}
use Rattle.far_rows.proofs.RefusingNames.{absents-named}
use Rattle.far_rows.proofs.rows.Rows.here.Goals as goal

pub is_here-requires-after_bounds : goal.is_here-requires-after_bounds
is_here-requires-after_bounds g c κs within =
    let column_indexes = c.column_indexes-column_index-items.result.now in
    let there = subst (λ (ss : List ColumnIndex). c.loop-column_index.column_index-index < length ss) c.column_indexes-column_index-items.ensures c.loop-column_index-test.true in
    subst (λ (ss : List ColumnIndex). IsColumnIn (length c.args.self.now.numbers) (length c.args.self.now.texts) (get_or ss c.loop-column_index.column_index-index (column_index.Number 0))) (sym c.column_indexes-column_index-items.ensures) (c.len-len.ensures.rows.column_indexes.within c.loop-column_index.column_index-index (column_index.Number 0) there)

pub loop-column_index-preserved : goal.loop-column_index-preserved
loop-column_index-preserved g c =
    let column_indexes = c.column_indexes-column_index-items.result.now in
    let at = c.loop-column_index.column_index-index in
    let s = get_or column_indexes at (column_index.Number 0) in
    c.loop-column_index.invariant ∙ next-free (away_at c.args.self.now c.args.group) column_indexes at s c.loop-column_index-test.true (get_or_default column_indexes at (column_index.Number 0) s c.loop-column_index-test.true) c.in_ok-is_here.ensures

pub returns-in_err-is_here : goal.returns-in_err-is_here
returns-in_err-is_here g c =
    let p = err_from_is_err_and c.from_residual.result c.from_residual.ensures.1 in
    let column_indexes = c.column_indexes-column_index-items.result.now in
    let at = c.loop-column_index.column_index-index in
    let s = get_or column_indexes at (column_index.Number 0) in
    let due = c.loop-column_index.invariant ∙ next-due (away_at c.args.self.now c.args.group) column_indexes at s c.in_err-is_here.field-0.0 c.loop-column_index-test.true (get_or_default column_indexes at (column_index.Number 0) s c.loop-column_index-test.true) c.in_err-is_here.ensures in
    rw (p.1, p.2) (sym due ∙ ap (λ (ss : List ColumnIndex). first_of (map (away_at c.args.self.now c.args.group) ss)) c.column_indexes-column_index-items.ensures ∙ absents-named g.S.FarTickets.content c.args.self.now c.len-len.ensures.rows c.args.group)

pub returns : goal.returns
returns g c =
    let column_indexes = c.column_indexes-column_index-items.result.now in
    let none : drop c.loop-column_index.column_index-index column_indexes ≡ [] = drop_all c.loop-column_index.column_index-index column_indexes c.loop-column_index-test.false in
    sym (ap (λ (ss : List ColumnIndex). first_of (map (away_at c.args.self.now c.args.group) ss)) none)
    ∙ sym c.loop-column_index.invariant
    ∙ ap (λ (ss : List ColumnIndex). first_of (map (away_at c.args.self.now c.args.group) ss)) c.column_indexes-column_index-items.ensures ∙ absents-named g.S.FarTickets.content c.args.self.now c.len-len.ensures.rows c.args.group
