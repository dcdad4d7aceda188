use Rattle.std.proofs.Common.{◌≡◌, ◌<◌, ◌+◌, ℕ, List, Option, Some, codes, inl, inr, [], refl, sym, ap, subst, ◌∙◌, arith}
use Rattle.far_frame.specs.State.{live}
use Rattle.far_frame.specs.Worlds.{World, HasOwnTickets}
use Rattle.far_script.specs.declared.fault.ShellFault.TheVariants as fault
use Rattle.far_script.specs.Flow.{IsShort, bytes_in}
use Rattle.far_script.specs.Printing.{numbered_text}
use Rattle.far_commands.specs.declared.command.Command.{Command}
use Rattle.far_commands.specs.declared.command.Command.TheVariants as command
use Rattle.far_commands.specs.Listings.{listing_of}
use Rattle.far_commands.specs.Replies.{AnswersLine, Serves}
use Rattle.far_commands.specs.WorldRules.{both_rules}
use Rattle.far_commands.specs.Progress.{At}
use Rattle.far_commands.specs.Commands.{command_of}
use Rattle.far_commands.specs.Cuts.{Fails, FailsBy, IsListing, IsTakenFor}
use Rattle.far_script.proofs.FlowStops.{at-halted, each-fault, handed-on, if-input, if-halted, leaves-same, stops-here, stops-more}
use Rattle.far_script.proofs.FlowLaws.{reads-none, prints, prints-none, range-empty, range-some}
use Rattle.far_commands.proofs.CutsLaws.{cut-more, no-input, no-output, printed-err}
use Rattle.far_commands.proofs.ResultLaws.{on-ok}
use Rattle.far_commands.proofs.RepliesLaws.{answers-empty, answers-command}
use Rattle.far_commands.proofs.serve.answer_line.Goals as goal

pub returns-then-is_empty-clause-ok : goal.returns-then-is_empty-clause-ok
returns-then-is_empty-clause-ok g c = (
  [],
  [],
  reads-none g.R.Read _ _ refl,
  prints-none (g.W.Write.contents c.args.writer.now) c.args.output.now.page,
  answers-empty (both_rules g.S.FarTickets) c.args.progress.now (bytes_in g.R.Read c.args.input.now c.args.line) (range-empty c.args.input.now.held c.args.line.from c.args.line.to (grind (arith, c.if-is_empty.ensures))),
)

pub returns-in-Ok-Some-clause-ok : goal.returns-in-Ok-Some-clause-ok
returns-in-Ok-Some-clause-ok g c =
    let some = rw c.in_ok-text.ensures.ok.0 at (sym c.in-Ok-Some.ensures.command ∙ c.in-Ok-Some.field-0-is) in
    let line = bytes_in g.R.Read c.args.input.now c.args.line in
    let old : At (World g.row.S-Ticket.Denot) = record { world = c.progress.inside.world; number = c.progress.inside.number } in
    let new : At (World g.row.S-Ticket.Denot) = record { world = c.serve_command-served.new.world; number = c.progress.inside.number + 1 } in
    let shown : c.args.line.from < c.args.line.to = grind (arith, c.if-is_empty.ensures) in
    on-ok c.serve_command-served.result _ _ (λ a. (
      a.0,
      a.1,
      a.2,
      a.3,
      subst (λ (at : At (World g.row.S-Ticket.Denot)). AnswersLine (both_rules g.S.FarTickets) at line a.0 a.1 new) c.progress.view_is
          (answers-command (both_rules g.S.FarTickets) old new line a.0 a.1 (range-some c.args.input.now.held c.args.line.from c.args.line.to shown c.requires.held.1)
          (rw c.in_ok-text.ensures.ok.0 at c.in_ok-text.ensures.ok.1) refl
          (rw some (subst (λ (w : World g.row.S-Ticket.Denot). Serves (both_rules g.S.FarTickets) w c.in-Ok-Some.command a.0 a.1 c.serve_command-served.new.world) c.in-Ok-Some.ensures.same a.4)) (c.keeps-in-Ok-Some.ensures, tt)),
    )) c.serve_command-served.ensures.ok

pub returns-in-Ok-None-clause-ok : goal.returns-in-Ok-None-clause-ok
returns-in-Ok-None-clause-ok g c =
    let none = rw c.in_ok-text.ensures.ok.0 at (sym c.in-Ok-None.ensures.command ∙ c.in-Ok-None.field-0-is) in
    let line = bytes_in g.R.Read c.args.input.now c.args.line in
    let old : At (World g.row.S-Ticket.Denot) = record { world = c.progress.inside.world; number = c.progress.inside.number } in
    let new : At (World g.row.S-Ticket.Denot) = record { world = c.parse.new.world; number = c.progress.inside.number + 1 } in
    let text = numbered_text (codes "syntax command") (c.progress.inside.number + 1) in
    let shown : c.args.line.from < c.args.line.to = grind (arith, c.if-is_empty.ensures) in
    on-ok c.print_syntax.result _ _ (λ printed. (
      [],
      text,
      reads-none g.R.Read _ _ refl,
      prints (g.W.Write.contents c.args.writer.now) c.args.output.now.page text c.print_syntax.new.output.page printed,
      subst (λ (at : At (World g.row.S-Ticket.Denot)). AnswersLine (both_rules g.S.FarTickets) at line [] text new) c.progress.view_is
          (answers-command (both_rules g.S.FarTickets) old new line [] text (range-some c.args.input.now.held c.args.line.from c.args.line.to shown c.requires.held.1)
          (rw c.in_ok-text.ensures.ok.0 at c.in_ok-text.ensures.ok.1) refl (rw none (refl, refl, c.in-Ok-None.ensures.same))
          (subst (HasOwnTickets g.S.FarTickets.is_of) (sym c.in-Ok-None.ensures.same) c.keeps.ensures, tt)),
    )) c.print_syntax.ensures.ok

pub returns-in_err-text-clause-err : goal.returns-in_err-text-clause-err
returns-in_err-text-clause-err g c =
    handed-on c.from_residual.result fault.Input _ (rw c.in_err-text.ensures.fault.0 at c.from_residual.ensures.1)
    ([], prints-none (g.W.Write.contents c.args.writer.now) c.args.output.now.page, refl)

pub returns-in-Err-clause-err : goal.returns-in-Err-clause-err
returns-in-Err-clause-err g c = ([], prints-none (g.W.Write.contents c.args.writer.now) c.args.output.now.page, inl refl)

pub returns-in-Ok-None-clause-err : goal.returns-in-Ok-None-clause-err
returns-in-Ok-None-clause-err g c = printed-err c.print_syntax.result _ (g.W.Write.contents c.args.writer.now) c.args.output.now.page c.print_syntax.new.output.page c.print_syntax.ensures.memory c.print_syntax.ensures.err

pub returns-in-Ok-None-clause-stopped : goal.returns-in-Ok-None-clause-stopped
returns-in-Ok-None-clause-stopped g c = no-input c.print_syntax.result _ c.print_syntax.ensures.memory

pub returns-in-Ok-Some-clause-err : goal.returns-in-Ok-Some-clause-err
returns-in-Ok-Some-clause-err g c =
    let some = rw c.in_ok-text.ensures.ok.0 at (sym c.in-Ok-Some.ensures.command ∙ c.in-Ok-Some.field-0-is) in
    let line = bytes_in g.R.Read c.args.input.now c.args.line in
    let world = c.parse.new.world in
    each-fault c.serve_command-served.result _ _ (λ why p. (
      p.0,
      p.1,
      cut-more why (λ said. (c.in-Ok-Some.command ≡ command.Dump) × (said ≡ listing_of (live world.state))) (λ said. IsListing c.args.progress.now line said) p.0
          (λ said s. subst (λ (at : At (World g.row.S-Ticket.Denot)). IsListing at line said) c.progress.view_is (some ∙ ap (λ (asked : Command). Some asked) s.0, s.1 ∙ ap (λ (w : World g.row.S-Ticket.Denot). listing_of (live w.state)) c.in-Ok-Some.ensures.same)) p.2,
    )) c.serve_command-served.ensures.err

pub returns-in_err-text-clause-stopped : goal.returns-in_err-text-clause-stopped
returns-in_err-text-clause-stopped g c =
    let f = c.in_err-text.ensures.fault in
    let line = bytes_in g.R.Read c.args.input.now c.args.line in
    handed-on c.from_residual.result fault.Input _ (rw f.0 at c.from_residual.ensures.1)
    (stops-here g.R.Read c.args.input.now c.args.input.now (λ behind rest. Fails (IsShort g.R.Read g.R.Source.may_fail c.args.input.now c.args.input.now rest) c.args.progress.now.world.state.table.schema line behind) refl (λ e. e) (leaves-same _ _) (inl f.1))

pub returns-in-Ok-Some-clause-stopped : goal.returns-in-Ok-Some-clause-stopped
returns-in-Ok-Some-clause-stopped g c =
    let short = λ (rest : List ℕ). IsShort g.R.Read g.R.Source.may_fail c.args.input.now c.serve_command-served.new.input rest in
    let some = rw c.in_ok-text.ensures.ok.0 at (sym c.in-Ok-Some.ensures.command ∙ c.in-Ok-Some.field-0-is) in
    let line = bytes_in g.R.Read c.args.input.now c.args.line in
    each-fault c.serve_command-served.result _ _ (λ why stopped. if-input why _ _ (λ s. stops-more g.R.Read c.args.input.now c.serve_command-served.new.input (λ behind rest. FailsBy (short rest) (Some c.in-Ok-Some.command) behind) (λ behind rest. Fails (short rest) c.args.progress.now.world.state.table.schema line behind)
    (λ bytes rest f. subst (λ (at : At (World g.row.S-Ticket.Denot)). Fails (short rest) at.world.state.table.schema line bytes) c.progress.view_is (inr (subst (λ (asked : Option Command). FailsBy (short rest) asked bytes) (sym some) f))) s) stopped)
    c.serve_command-served.ensures.stopped

pub returns-in-Ok-None-clause-failed : goal.returns-in-Ok-None-clause-failed
returns-in-Ok-None-clause-failed g c = no-output c.print_syntax.result _ c.print_syntax.ensures.memory

pub returns-in_err-text-clause-taken : goal.returns-in_err-text-clause-taken
returns-in_err-text-clause-taken g c = handed-on c.from_residual.result fault.Input _ (rw c.in_err-text.ensures.fault.0 at c.from_residual.ensures.1) tt

pub returns-in-Err-clause-taken : goal.returns-in-Err-clause-taken
returns-in-Err-clause-taken g c = ([], reads-none g.R.Read _ _ refl, inl refl)

pub returns-in-Ok-None-clause-taken : goal.returns-in-Ok-None-clause-taken
returns-in-Ok-None-clause-taken g c = at-halted c.print_syntax.result _ ([], reads-none g.R.Read _ _ refl, inl refl)

pub returns-in-Ok-Some-clause-taken : goal.returns-in-Ok-Some-clause-taken
returns-in-Ok-Some-clause-taken g c =
    let some = rw c.in_ok-text.ensures.ok.0 at (sym c.in-Ok-Some.ensures.command ∙ c.in-Ok-Some.field-0-is) in
    let line = bytes_in g.R.Read c.args.input.now c.args.line in
    each-fault c.serve_command-served.result _ _ (λ why taken. if-halted why _ _ (λ t. (
      t.0,
      t.1,
      subst (λ (at : At (World g.row.S-Ticket.Denot)). IsTakenFor (command_of at.world.state.table.schema line) t.0) c.progress.view_is (subst (λ (asked : Option Command). IsTakenFor asked t.0) (sym some) t.2),
    )) taken)
    c.serve_command-served.ensures.taken
