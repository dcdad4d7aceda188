use Rattle.std.proofs.Common.{ℕ, List, ◌∷◌, [], ◌++◌, take, sym, ap, ◌∙◌, arith}
use Rattle.far_types.specs.declared.cell.Cell.{Cell}
use Rattle.far_offload.specs.Jobs.{columns_under}
use Rattle.far_offload.proofs.JobsColumns.{columns-more}
use Rattle.far_offload.proofs.content.contents_under.Goals as goal

pub loop-number-preserved : goal.loop-number-preserved
loop-number-preserved g c =
    let content = g.S.FarTickets.content in
    let tickets = c.args.tickets.now in
    let i = c.loop-number.number-index in
    record {
      contents =
          c.in_ok-push.ensures.items
          ∙ ap (λ (l : List (ℕ × List Cell)). l ++ c.in_ok-content_under.field-0 ∷ []) c.loop-number.invariant.contents
          ∙ ap (λ (x : ℕ × List Cell). columns_under content (take i tickets) ++ x ∷ []) c.in_ok-content_under.ensures.content
          ∙ sym (columns-more content tickets i c.loop-number-item.result (omega arith) (sym c.loop-number-item.is));
      meter = omega (arith, c.in_ok-content_under.ensures.faults, c.loop-number.invariant.meter);
    }
