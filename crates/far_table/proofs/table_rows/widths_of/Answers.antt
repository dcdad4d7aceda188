use Rattle.std.proofs.Common.{◌+◌, List, length, sym, ap, subst, ◌∙◌, arith}
use Rattle.std.proofs.lemmas.List.{get_or_default}
use Rattle.far_types.specs.declared.cell.Kind.{Kind}
use Rattle.far_types.specs.declared.cell.Kind.TheVariants as kind
use Rattle.far_rows.specs.Opening.{numbers_from, texts_from}
use Rattle.far_table.proofs.OpeningWidths.{AreCounted, few-ints, few-strings, one-int, one-string, all-ints, all-strings}
use Rattle.far_table.proofs.table_rows.widths_of.Goals.{in-Int, in-Text}
use Rattle.far_table.proofs.table_rows.widths_of.Goals as goal

pub loop-kind-init : goal.loop-kind-init
loop-kind-init c = record { ints = λ size. omega arith; strings = λ size limit. omega arith }

pub overflow_add-widths : goal.overflow_add-widths
overflow_add-widths c =
    let few = few-ints c.loop-kind.widths.numbers c.loop-kind.widths.texts c.as_slice-kind-items.result.now c.loop-kind.kind-index c.loop-kind.invariant in
    omega (arith, few, c.as_slice-kind-items.type_inv.1)

pub overflow_add-widths-in-Text : goal.overflow_add-widths-in-Text
overflow_add-widths-in-Text c =
    let few = few-strings c.loop-kind.widths.numbers c.loop-kind.widths.texts c.as_slice-kind-items.result.now c.loop-kind.kind-index c.loop-kind.invariant in
    omega (arith, few, c.as_slice-kind-items.type_inv.1)

pub loop-kind-preserved : goal.loop-kind-preserved
loop-kind-preserved c =
    let kinds = c.as_slice-kind-items.result.now in
    let k = c.loop-kind.kind-index in
    let widths = c.loop-kind.widths in
    elim c.match-kind.branch [
      | in-Int w ↦ subst (λ now. AreCounted now.numbers now.texts kinds (k + 1)) (sym w.widths-is) (one-int widths.numbers widths.texts kinds k c.loop-kind.invariant c.loop-kind-test.true (sym w.in-Int.is))
      | in-Text w ↦ subst (λ now. AreCounted now.numbers now.texts kinds (k + 1)) (sym w.widths-is) (one-string widths.numbers widths.texts kinds k c.loop-kind.invariant c.loop-kind-test.true (sym w.in-Text.is ∙ get_or_default kinds k kind.Int kind.Text c.loop-kind-test.true))
    ]

pub returns-clause-numbers : goal.returns-clause-numbers
returns-clause-numbers c size =
    all-ints c.loop-kind.widths.numbers c.loop-kind.widths.texts c.as_slice-kind-items.result.now c.loop-kind.kind-index c.loop-kind.invariant c.loop-kind-test.false size
    ∙ ap (λ (kinds : List Kind). length (numbers_from size 0 kinds)) c.as_slice-kind-items.ensures

pub returns-clause-texts : goal.returns-clause-texts
returns-clause-texts c size limit =
    all-strings c.loop-kind.widths.numbers c.loop-kind.widths.texts c.as_slice-kind-items.result.now c.loop-kind.kind-index c.loop-kind.invariant c.loop-kind-test.false size limit
    ∙ ap (λ (kinds : List Kind). length (texts_from size limit 0 kinds)) c.as_slice-kind-items.ensures
