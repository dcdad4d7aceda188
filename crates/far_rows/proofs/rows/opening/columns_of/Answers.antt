use Rattle.std.proofs.Common.{◌+◌, ◌∙◌, ap}
use Rattle.far_types.specs.declared.cell.Kind.TheVariants as kind
use Rattle.far_rows.proofs.Opening.{column_indexes-next, numbers-next, texts-next}
use Rattle.far_rows.proofs.rows.opening.columns_of.Goals as goal

pub loop-kind-preserved : goal.loop-kind-preserved
loop-kind-preserved c =
    let limits = c.args.limits.now in
    let columns = c.loop-kind.columns in
    let next = c.push.new.self in
    let kinds = c.as_slice-kind-items.result.now in
    record {
      column = ap (λ n. n + 1) c.loop-kind.invariant.column;
      column_indexes = column_indexes-next limits.group limits.text_size columns.column_indexes.items next.column_indexes.items columns.numbers.items next.numbers.items columns.texts.items next.texts.items c.loop-kind.column c.loop-kind.kind-index kind.Int kinds c.loop-kind-test.true c.in_ok-push.ensures.column_indexes c.in_ok-push.ensures.numbers c.in_ok-push.ensures.texts
          ∙ c.loop-kind.invariant.column_indexes;
      numbers = numbers-next limits.group limits.text_size columns.numbers.items next.numbers.items c.loop-kind.column c.loop-kind.kind-index kind.Int kinds c.loop-kind-test.true c.in_ok-push.ensures.numbers
          ∙ c.loop-kind.invariant.numbers;
      texts = texts-next limits.group limits.text_size columns.texts.items next.texts.items c.loop-kind.column c.loop-kind.kind-index kind.Int kinds c.loop-kind-test.true c.in_ok-push.ensures.texts
          ∙ c.loop-kind.invariant.texts;
    }
