use Rattle.std.proofs.Common.{◌≡◌, ◌∙◌, ℕ, ◌+◌, ◌<◌, ◌++◌, List, [], ◌∷◌, take, length, None, Some, sym, ap, subst, add-one, arith}
use Rattle.std.proofs.Math.Seq.{take-suc, take-suc-set}
use Rattle.std.proofs.lemmas.List.{map-append}
use Rattle.std.proofs.lemmas.Option.{get_or_from_slice_get, slice_get-get_or}
use Rattle.std.specs.Prelude.{set, slice_get}
use Rattle.far_types.specs.declared.cell.Cell.{Cell}
use Rattle.far_types.specs.declared.cell.Cell.TheVariants as cell
use Rattle.far_c.specs.declared.cell.FcCell.{FcCell}
use Rattle.far_c.specs.Cells.{cell_of, row_of}
use Rattle.far_c.proofs.reading.write_row.Goals as goal
use Rattle.far_c.proofs.reading.write_row.Goals.{in-Some, in_default}

written : (cells : List FcCell) (row : List Cell) (k : ℕ) (made : FcCell) → k < length cells → k < length row → row_of (take k cells) ≡ take k row → slice_get row k ≡ Some (cell_of made) → row_of (take (k + 1) (set cells k made)) ≡ take (k + 1) row
written cells row k made inside in-row so-far here =
    ap (λ (n : ℕ). row_of (take n (set cells k made))) (add-one k)
    ∙ ap row_of (take-suc-set cells k made inside)
    ∙ map-append cell_of (take k cells) (made ∷ [])
    ∙ ap (λ (l : List Cell). l ++ cell_of made ∷ []) so-far
    ∙ ap (λ (x : Cell). take k row ++ x ∷ []) (sym (get_or_from_slice_get row k (cell_of made) (cell_of made) here))
    ∙ sym (take-suc row k (cell_of made) in-row)
    ∙ ap (λ (n : ℕ). take n row) (sym (add-one k))

never : (row : List Cell) (k : ℕ) → k < length row → slice_get row k ≡ None → ⊥
never row k in-row none = (let some = slice_get-get_or row k cell.Missing in-row in cc)

pub loop-column-preserved : goal.loop-column-preserved
loop-column-preserved c =
    let long = c.loop-column.auto.cells in
    let same = c.requires in
    let test = c.loop-column-test.true in
    let in-row : c.loop-column.column < length c.args.row.now = omega (arith, same, test) in
    elim c.match-get.branch [
      | in-Some w ↦ subst (λ (l : List FcCell). row_of (take (c.loop-column.column + 1) l) ≡ take (c.loop-column.column + 1) c.args.row.now) (sym w.cells-is)
          (written c.loop-column.cells c.args.row.now c.loop-column.column w.of.result (omega (arith, long, test)) in-row c.loop-column.invariant (sym w.in-Some.ensures ∙ ap Some (sym w.of.ensures)))
      | in_default w ↦ absurd (never c.args.row.now c.loop-column.column in-row (sym w.in_default.ensures))
    ]
