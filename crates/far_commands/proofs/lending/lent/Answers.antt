use Rattle.std.proofs.Common.{◌<◌, ap, sym, ◌∙◌, arith}
use Rattle.far_frame.specs.Lending.{lent_part}
use Rattle.far_frame.proofs.LendingLaws.{lent-step}
use Rattle.far_commands.specs.Pieces.{pieces_text}
use Rattle.far_commands.proofs.PiecesLending.{pieces-there}
use Rattle.far_commands.proofs.lending.lent.Goals as goal

pub returns-in-Some-Int : goal.returns-in-Some-Int
returns-in-Some-Int g c = record {
  ok =
      let table = c.scope-view.result.table in
      let some : 0 < table.limits.group = omega (arith, c.size-size.ensures.some, c.size-size.ensures.limit) in
      let there = pieces-there _ _ _ (lent-step table.limits.group some c.args.column table.places c.args.from c.args.to (omega (arith, c.if-from-to.false))) in
      rw (sym (there ∙ ap (λ s. pieces_text (lent_part s.table c.args.column c.args.from c.args.to)) c.scope-view.ensures)) (rw c.truncate.ensures at c.lent_ints.ensures.ok);
}

pub returns-in-Some-Text : goal.returns-in-Some-Text
returns-in-Some-Text g c = record {
  ok =
      let table = c.scope-view.result.table in
      let some : 0 < table.limits.group = omega (arith, c.size-size.ensures.some, c.size-size.ensures.limit) in
      let there = pieces-there _ _ _ (lent-step table.limits.group some c.args.column table.places c.args.from c.args.to (omega (arith, c.if-from-to.false))) in
      rw (sym (there ∙ ap (λ s. pieces_text (lent_part s.table c.args.column c.args.from c.args.to)) c.scope-view.ensures)) (rw c.truncate.ensures at c.lent_texts.ensures.ok);
}
