use Rattle.std.proofs.Common.{◌≡◌, ℕ, List, [], ◌++◌, Option, None, Some, rules, SFits, ap, subst, ◌∙◌}
use Rattle.std.specs.Prelude.{option_map}
use Rattle.std.specs.Int.{w64}
use Rattle.std.proofs.lemmas.Int.{to_z-of_z}
use Rattle.far_types.specs.Table.{Registered}
use Rattle.far_frame.specs.State.{State}
use Rattle.far_aggregates.specs.declared.line.Line.{Line}
use Rattle.far_aggregates.specs.declared.line.Line.TheVariants as line
use Rattle.far_aggregates.specs.Lines.{AnswersKey}
use Rattle.far_table.specs.Watching.{aggregate_at}
use Rattle.far_script.specs.Printing.{extrema_text}
use Rattle.far_commands.proofs.PlainAnswers.{asks_extrema}
use Rattle.far_commands.proofs.serve.answer_extrema.Goals as goal

pub returns : goal.returns
returns g c = record {
  plain = λ _.
      let spec = c.in-Some.spec.now in
      let m = c.in-Ok-Some-Extrema.min in
      let n = c.in-Ok-Some-Extrema.max in
      let state = c.frame-frame.ensures in
      let spec_is = c.in-Some.ensures ∙ ap (λ (s : State g.row.S-Ticket.Denot). option_map (λ (aggregate : Registered). aggregate.spec) (aggregate_at s.table c.args.a)) state in
      let keyless : spec.key ≡ None = search rules in
      let frame = c.frame-frame.result.now in
      let found_is : c.in-Ok-Some-Extrema.field-0 ≡ Some (line.Extrema m n) = c.in-Ok-Some-Extrema.field-0-is ∙ ap Some c.in-Ok-Some-Extrema.field-0-0-is in
      let found = subst (λ (found : Option Line). AnswersKey frame.table.places (aggregate_at frame.table c.args.a) None found) found_is c.in-Ok-Some-Extrema.ensures.ok in
      let answers = subst (λ (s : State g.row.S-Ticket.Denot). AnswersKey s.table.places (aggregate_at s.table c.args.a) None (Some (line.Extrema m n))) state found in
      let least_fits : SFits w64 m = search rules in
      let greatest_fits : SFits w64 n = search rules in
      let printed = simp to_z-of_z at c.in_ok-extrema.ensures.ok in
      let empty : c.truncate.new.self ≡ [] = search rules in
      asks_extrema g.S.FarTickets c.args.world.now c.args.a spec m n c.extrema.new.page spec_is keyless answers
      (printed ∙ ap (λ (page : List ℕ). page ++ extrema_text (None, m, n)) empty);
}
