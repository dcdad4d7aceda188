use Rattle.std.proofs.Common.{◌≡◌, ℕ, List, [], ◌++◌, None, rules, SFits, ap, sym, ◌∙◌}
use Rattle.std.specs.Int.{w128}
use Rattle.std.proofs.lemmas.Int.{to_z-of_z}
use Rattle.far_frame.specs.State.{State}
use Rattle.far_aggregates.specs.Readings.{plain_in}
use Rattle.far_table.specs.Watching.{aggregate_at}
use Rattle.far_script.specs.Printing.{total_text}
use Rattle.far_commands.proofs.PlainAnswers.{asks}
use Rattle.far_commands.proofs.serve.answer_plain.Goals as goal

pub returns : goal.returns
returns g c = record {
  plain = λ _.
      let state = ap (λ (s : State g.row.S-Ticket.Denot). plain_in s.table.places (aggregate_at s.table c.args.a)) c.frame.ensures in
      let fits : SFits w128 c.in-Some.sum = search rules in
      let printed = simp to_z-of_z at c.in_ok-total.ensures.ok in
      let empty : c.truncate.new.self ≡ [] = search rules in
      asks g.S.FarTickets c.args.world.now c.args.a (c.in-Some.count, c.in-Some.sum) c.total.new.page (sym c.in-Some.is ∙ c.plain.ensures ∙ state)
      (printed ∙ ap (λ (page : List ℕ). page ++ total_text (None, c.in-Some.count, c.in-Some.sum)) empty);
}
