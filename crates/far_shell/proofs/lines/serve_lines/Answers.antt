use Rattle.std.proofs.Common.{[], ◌∷◌, ◌++◌, refl, arith}
use Rattle.far_script.specs.declared.fault.ShellFault.TheVariants as fault
use Rattle.far_script.specs.Flow.{IsUnseen}
use Rattle.far_script.proofs.FlowStops.{handed-on, if-unseen}
use Rattle.far_shell.proofs.LineFaultsLaws.{breaks-between, breaks-last, breaks-line, if-short}
use Rattle.far_script.proofs.FlowLaws.{reads-none, reads-then, prints-none, prints-then-nothing, few-bytes}
use Rattle.far_commands.specs.WorldRules.{both_rules}
use Rattle.far_shell.proofs.SeenLaws.{world-lines}
use Rattle.far_shell.proofs.ScriptsLaws.{answers-none, goes-on, comes-to-end, next-number}
use Rattle.far_shell.proofs.lines.serve_lines.Goals as goal

pub loop-turn-init : goal.loop-turn-init
loop-turn-init g c = ([], [], reads-none g.R.Read _ _ refl, prints-none _ _, answers-none (both_rules g.S.FarTickets) _, grind arith, grind (arith, c.requires), grind arith)

pub loop-turn-preserved : goal.loop-turn-preserved
loop-turn-preserved g c =
    let i = c.loop-turn.invariant in
    let t = rw c.in-Whole.is at c.in_ok-line.ensures.line in
    let a = c.in_ok-answer_line-in-Whole.ensures.ok in
    let m = goes-on g.R.Read (both_rules g.S.FarTickets) c.args.input.now c.loop-turn.input c.line.new.self c.answer_line.new.input _ _ _ _ c.args.output.now.page c.loop-turn.output.page c.line.new.output.page c.answer_line.new.output.page
    c.args.progress.now c.loop-turn.progress c.answer_line.new.progress _ t.1.0 a.0 a.1 i.0 i.1 _ _
    i.2 i.3 i.4 t.1.1 t.1.2 t.1.3 c.in_ok-line.ensures.printed a.2 a.3 a.4 c.in_ok-flush_if_full.ensures.printed in
    let n = next-number (both_rules g.S.FarTickets) c.loop-turn.progress c.answer_line.new.progress _ a.0 a.1 a.4 in (
      m.0,
      m.1,
      m.2,
      m.3,
      m.4,
      omega (arith, m.5, i.5),
      omega (arith, n, i.6),
      omega (arith, c.answer_line.ensures.asked, c.line.ensures.asked, i.7),
    )

pub returns-in-Last-clause-ok : goal.returns-in-Last-clause-ok
returns-in-Last-clause-ok g c =
    let i = c.loop-turn.invariant in
    let t = rw c.in-Last.is at c.in_ok-line.ensures.line in
    let a = c.in_ok-answer_line-in-Last.ensures.ok in
    comes-to-end g.R.Read (both_rules g.S.FarTickets) c.args.input.now c.loop-turn.input c.line.new.self c.answer_line-in-Last.new.input _ _ _ _ c.args.output.now.page c.loop-turn.output.page c.line.new.output.page c.answer_line-in-Last.new.output.page
    c.args.progress.now c.loop-turn.progress c.answer_line-in-Last.new.progress _ a.0 a.1 i.0 i.1
    i.2 i.3 i.4 t.1.0 t.1.3 c.in_ok-line.ensures.printed t.1.1 t.1.2 a.2 a.3 a.4

pub returns-in_err-line-clause-err : goal.returns-in_err-line-clause-err
returns-in_err-line-clause-err g c =
    let i = c.loop-turn.invariant in
    let printed = prints-then-nothing (g.W.Write.contents c.args.writer.now) (g.W.Write.contents c.loop-turn.writer) (g.W.Write.contents c.line.new.writer) c.args.output.now.page i.1 c.loop-turn.output.page c.line.new.output.page i.3 c.in_err-line.ensures.printed in
    handed-on c.from_residual.result c.in_err-line.field-0.0 _ c.from_residual.ensures.1
    (breaks-between g.R.Read g.S.FarTickets (IsUnseen g.R.Read g.R.Source.may_fail c.args.input.now c.line.new.self) c.args.input.now c.loop-turn.input c.line.new.self (g.W.Write.contents c.args.writer.now) (g.W.Write.contents c.line.new.writer) c.args.output.now.page c.line.new.output.page c.args.progress.now c.loop-turn.progress i.0 i.1 c.in_err-line.field-0.0 c.in_err-line.ensures.fault c.in_err-line.ensures.turns i.2 printed (world-lines g.S.FarTickets c.args.progress.now c.loop-turn.progress i.0 i.1 i.4)
    (if-unseen g.R.Read g.R.Source.may_fail c.in_err-line.field-0.0 c.args.input.now c.loop-turn.input c.line.new.self i.0 i.2 i.7 c.in_err-line.ensures.no_line.unseen) c.in_err-line.ensures.no_line.stopped c.in_err-line.ensures.no_line.kept)

pub returns-in_err-answer_line-in-Whole-clause-err : goal.returns-in_err-answer_line-in-Whole-clause-err
returns-in_err-answer_line-in-Whole-clause-err g c =
    let i = c.loop-turn.invariant in
    let t = rw c.in-Whole.is at c.in_ok-line.ensures.line in
    let why = c.in_err-answer_line-in-Whole.field-0.0 in
    handed-on c.from_residual-in_err-answer_line-in-Whole.result why _ c.from_residual-in_err-answer_line-in-Whole.ensures.1
    (breaks-line g.R.Read g.S.FarTickets (IsUnseen g.R.Read g.R.Source.may_fail c.args.input.now c.answer_line.new.input) c.args.input.now c.loop-turn.input c.line.new.self c.answer_line.new.input (g.W.Write.contents c.args.writer.now) (g.W.Write.contents c.loop-turn.writer) (g.W.Write.contents c.line.new.writer) (g.W.Write.contents c.answer_line.new.writer) c.args.output.now.page c.loop-turn.output.page c.line.new.output.page c.answer_line.new.output.page
    c.args.progress.now c.loop-turn.progress _ t.1.0 i.0 i.1 why i.2 i.3 (world-lines g.S.FarTickets c.args.progress.now c.loop-turn.progress i.0 i.1 i.4) t.1.1 t.1.2 t.1.3 c.in_ok-line.ensures.printed c.in_err-answer_line-in-Whole.ensures.err
    (if-short g.R.Read g.R.Source.may_fail why c.args.input.now c.line.new.self c.answer_line.new.input (i.0 ++ (t.1.0 ++ 10 ∷ [])) (reads-then g.R.Read c.args.input.now c.loop-turn.input c.line.new.self i.0 (t.1.0 ++ 10 ∷ []) i.2 t.1.3) (omega (arith, c.line.ensures.asked, i.7)) c.loop-turn.progress.world.state.table.schema _ c.in_err-answer_line-in-Whole.ensures.stopped) c.in_err-answer_line-in-Whole.ensures.taken)

pub returns-in_err-answer_line-in-Last-clause-err : goal.returns-in_err-answer_line-in-Last-clause-err
returns-in_err-answer_line-in-Last-clause-err g c =
    let i = c.loop-turn.invariant in
    let t = rw c.in-Last.is at c.in_ok-line.ensures.line in
    let why = c.in_err-answer_line-in-Last.field-0.0 in
    handed-on c.from_residual-in_err-answer_line-in-Last.result why _ c.from_residual-in_err-answer_line-in-Last.ensures.1
    (breaks-last g.R.Read g.S.FarTickets (IsUnseen g.R.Read g.R.Source.may_fail c.args.input.now c.answer_line-in-Last.new.input) c.args.input.now c.loop-turn.input c.line.new.self c.answer_line-in-Last.new.input (g.W.Write.contents c.args.writer.now) (g.W.Write.contents c.loop-turn.writer) (g.W.Write.contents c.line.new.writer) (g.W.Write.contents c.answer_line-in-Last.new.writer) c.args.output.now.page c.loop-turn.output.page c.line.new.output.page c.answer_line-in-Last.new.output.page
    c.args.progress.now c.loop-turn.progress _ i.0 i.1 why i.2 i.3 (world-lines g.S.FarTickets c.args.progress.now c.loop-turn.progress i.0 i.1 i.4) t.1.0 t.1.3 (t.1.1, t.1.2) c.in_ok-line.ensures.printed c.in_err-answer_line-in-Last.ensures.err
    (if-short g.R.Read g.R.Source.may_fail why c.args.input.now c.line.new.self c.answer_line-in-Last.new.input _ (reads-then g.R.Read c.args.input.now c.loop-turn.input c.line.new.self i.0 _ i.2 t.1.3) (omega (arith, c.line.ensures.asked, i.7)) c.loop-turn.progress.world.state.table.schema _ c.in_err-answer_line-in-Last.ensures.stopped) c.in_err-answer_line-in-Last.ensures.taken)

pub returns-in_err-flush_if_full-clause-err : goal.returns-in_err-flush_if_full-clause-err
returns-in_err-flush_if_full-clause-err g c =
    let i = c.loop-turn.invariant in
    let t = rw c.in-Whole.is at c.in_ok-line.ensures.line in
    let a = c.in_ok-answer_line-in-Whole.ensures.ok in
    let m = goes-on g.R.Read (both_rules g.S.FarTickets) c.args.input.now c.loop-turn.input c.line.new.self c.answer_line.new.input (g.W.Write.contents c.args.writer.now) (g.W.Write.contents c.loop-turn.writer) (g.W.Write.contents c.line.new.writer) (g.W.Write.contents c.answer_line.new.writer) c.args.output.now.page c.loop-turn.output.page c.line.new.output.page c.answer_line.new.output.page
    c.args.progress.now c.loop-turn.progress c.answer_line.new.progress _ t.1.0 a.0 a.1 i.0 i.1 c.flush_if_full.new.self.page (g.W.Write.contents c.flush_if_full.new.writer)
    i.2 i.3 i.4 t.1.1 t.1.2 t.1.3 c.in_ok-line.ensures.printed a.2 a.3 a.4 c.in_err-flush_if_full.ensures.printed in
    handed-on c.from_residual-in_err-flush_if_full.result fault.Output _ (rw c.in_err-flush_if_full.ensures.fault at c.from_residual-in_err-flush_if_full.ensures.1)
    (breaks-between g.R.Read g.S.FarTickets (IsUnseen g.R.Read g.R.Source.may_fail c.args.input.now c.answer_line.new.input) c.args.input.now c.answer_line.new.input c.answer_line.new.input (g.W.Write.contents c.args.writer.now) (g.W.Write.contents c.flush_if_full.new.writer) c.args.output.now.page c.flush_if_full.new.self.page c.args.progress.now c.answer_line.new.progress m.0 m.1 fault.Output (λ e. cc e) (λ e. cc e) m.2 m.3 (world-lines g.S.FarTickets c.args.progress.now c.answer_line.new.progress m.0 m.1 m.4) tt tt (reads-none g.R.Read _ _ refl))

pub returns-clause-err : goal.returns-clause-err
returns-clause-err g c =
    let i = c.loop-turn.invariant in
    let most = few-bytes g.R.Read c.args.input.now c.loop-turn.input i.0 i.2 in
    absurd (grind (arith, most, i.5, c.loop-turn-test.false))

pub returns-in-Last-clause-asked : goal.returns-in-Last-clause-asked
returns-in-Last-clause-asked g c = omega (arith, c.answer_line-in-Last.ensures.asked, c.line.ensures.asked, c.loop-turn.invariant.7)

pub returns-in_err-line-clause-asked : goal.returns-in_err-line-clause-asked
returns-in_err-line-clause-asked g c = omega (arith, c.line.ensures.asked, c.loop-turn.invariant.7)

pub returns-in_err-answer_line-in-Whole-clause-asked : goal.returns-in_err-answer_line-in-Whole-clause-asked
returns-in_err-answer_line-in-Whole-clause-asked g c = omega (arith, c.answer_line.ensures.asked, c.line.ensures.asked, c.loop-turn.invariant.7)

pub returns-in_err-answer_line-in-Last-clause-asked : goal.returns-in_err-answer_line-in-Last-clause-asked
returns-in_err-answer_line-in-Last-clause-asked g c = omega (arith, c.answer_line-in-Last.ensures.asked, c.line.ensures.asked, c.loop-turn.invariant.7)

pub returns-in_err-flush_if_full-clause-asked : goal.returns-in_err-flush_if_full-clause-asked
returns-in_err-flush_if_full-clause-asked g c = omega (arith, c.answer_line.ensures.asked, c.line.ensures.asked, c.loop-turn.invariant.7)

pub returns-clause-asked : goal.returns-clause-asked
returns-clause-asked g c = c.loop-turn.invariant.7
