use Rattle.std.proofs.Common.{◌≡◌, Some, ap, sym, ◌∙◌}
use Rattle.std.specs.Prelude.{option_and_then}
use Rattle.far_script.specs.Verbs.{verb_of}
use Rattle.far_script.specs.Words.{after, rest_of, word_in, word_of}
use Rattle.far_frame.specs.State.{State}
use Rattle.far_frame.specs.Worlds.{World}
use Rattle.far_commands.proofs.command.parse.Goals as goal

pub returns-clause-command : goal.returns-clause-command
returns-clause-command g c =
    let line = c.args.line.now in
    let kinds = c.as_slice.ensures ∙ c.schema.ensures ∙ ap (λ (s : State g.row.S-Ticket.Denot). s.table.schema) c.frame.ensures ∙ ap (λ (w : World g.row.S-Ticket.Denot). w.state.table.schema) c.spare_for-spare.ensures in
    let word : Some c.in-Some.word.now ≡ word_in (Some line) = c.in-Some.ensures.word ∙ ap word_in c.new-words.ensures in
    let verb : verb_of (word_of line) ≡ Some c.in-Some-read_verb.verb = ap (option_and_then verb_of) (sym word) ∙ sym c.in-Some-read_verb.ensures in
    let left : c.word.new.self ≡ rest_of line = c.word.ensures.left ∙ ap after c.new-words.ensures in
    rw (sym kinds, verb) (rw left at c.complete.ensures.command)
