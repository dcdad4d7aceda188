use Rattle.std.proofs.Common.{◌≡◌, [], subst}
use Rattle.far_script.specs.Flow.{Gives, IsOver, IsAtEnd, IsUnseen, Prints}
use Rattle.far_script.specs.declared.fault.ShellFault.TheVariants as fault
use Rattle.far_script.proofs.FlowStops.{coming, handed-on, spent-rest, starts}
use Rattle.far_shell.proofs.BreaksLaws.{breaks-unwritten, breaks-written, whole-unwritten}
use Rattle.far_script.proofs.FlowLaws.{all-written}
use Rattle.far_shell.proofs.SessionsLaws.{answered-then}
use Rattle.far_shell.proofs.script.run_input.Goals as goal

pub returns-in-Ok-clause-ok : goal.returns-in-Ok-clause-ok
returns-in-Ok-clause-ok g c =
    let s = c.in-Ok.ensures.ok in
    let f = c.in_ok-flush-in-Ok.ensures in
    let flushed = subst (λ t. Prints (g.W.Write.contents c.serve-outcome.new.writer) c.serve-outcome.new.output.page [] (g.W.Write.contents c.flush.new.writer) t) f.ok f.printed in
    (s.0, s.1, s.2, all-written (g.W.Write.contents c.args.writer.now) (g.W.Write.contents c.serve-outcome.new.writer) (g.W.Write.contents c.flush.new.writer) s.1 c.serve-outcome.new.output.page s.3 flushed, s.4)

pub returns-in-Ok-clause-table : goal.returns-in-Ok-clause-table
returns-in-Ok-clause-table g c =
    let s = c.in-Ok.ensures.ok in
    let f = c.in_ok-flush-in-Ok.ensures in
    let flushed = subst (λ t. Prints (g.W.Write.contents c.serve-outcome.new.writer) c.serve-outcome.new.output.page [] (g.W.Write.contents c.flush.new.writer) t) f.ok f.printed in
    (s.0, s.1, s.2, all-written (g.W.Write.contents c.args.writer.now) (g.W.Write.contents c.serve-outcome.new.writer) (g.W.Write.contents c.flush.new.writer) s.1 c.serve-outcome.new.output.page s.3 flushed, s.5)

pub returns-in_err-flush-in-Ok-clause-err : goal.returns-in_err-flush-in-Ok-clause-err
returns-in_err-flush-in-Ok-clause-err g c =
    let s = c.in-Ok.ensures.ok in
    let f = c.in_err-flush-in-Ok.ensures in
    let new = c.serve-outcome.new.input in
    handed-on c.from_residual.result fault.Output _ (rw f.fault at c.from_residual.ensures.1)
    (whole-unwritten _ (λ _. IsUnseen g.R.Read g.R.Source.may_fail c.args.input.now new) (IsOver g.R.Read new) (λ why. Gives g.R.Read why c.args.input.now new) g.W.Sink.may_fail (g.W.Write.contents c.args.writer.now) (g.W.Write.contents c.serve-outcome.new.writer) (g.W.Write.contents c.flush.new.writer)
    s.0 (coming g.R.Read new) s.1 c.serve-outcome.new.output.page c.flush.new.self.page (c.flush.new.self.cause f.failed) (starts g.R.Read c.args.input.now new s.0 s.2, tt, s.2) s.3 (answered-then s.0 s.1 _ (IsAtEnd g.R.Read new) (coming g.R.Read new ≡ []) (spent-rest g.R.Read new) s.4) f.printed)

pub returns-in_err-flush_at-in-Err-clause-err : goal.returns-in_err-flush_at-in-Err-clause-err
returns-in_err-flush_at-in-Err-clause-err g c =
    let s = c.in-Err.ensures.err in
    let f = c.in_err-flush_at-in-Err.ensures in
    handed-on c.from_residual-in_err-flush_at-in-Err.result fault.Output _ (rw f.fault at c.from_residual-in_err-flush_at-in-Err.ensures.1)
    (breaks-unwritten _ (λ _. IsUnseen g.R.Read g.R.Source.may_fail c.args.input.now c.serve-outcome.new.input) (IsOver g.R.Read c.serve-outcome.new.input) (λ why. Gives g.R.Read why c.args.input.now c.serve-outcome.new.input) g.W.Sink.may_fail (g.W.Write.contents c.args.writer.now) (g.W.Write.contents c.serve-outcome.new.writer) (g.W.Write.contents c.flush_at.new.writer)
    c.in-Err.fault s.0 s.1 s.2 c.serve-outcome.new.output.page c.flush_at.new.output.page (c.flush_at.new.output.cause f.failed) s.3 s.4 s.5 f.printed)

pub returns-clause-err : goal.returns-clause-err
returns-clause-err g c =
    let s = c.in-Err.ensures.err in
    let f = c.in_ok-flush_at-in-Err.ensures in
    let flushed = subst (λ t. Prints (g.W.Write.contents c.serve-outcome.new.writer) c.serve-outcome.new.output.page [] (g.W.Write.contents c.flush_at.new.writer) t) f.ok f.printed in
    breaks-written _ (λ _. IsUnseen g.R.Read g.R.Source.may_fail c.args.input.now c.serve-outcome.new.input) (IsOver g.R.Read c.serve-outcome.new.input) (λ why. Gives g.R.Read why c.args.input.now c.serve-outcome.new.input) g.W.Sink.may_fail (g.W.Write.contents c.args.writer.now) (g.W.Write.contents c.serve-outcome.new.writer) (g.W.Write.contents c.flush_at.new.writer)
    c.in-Err.fault s.0 s.1 s.2 c.serve-outcome.new.output.page (λ e. c.serve-outcome.new.output.cause (c.in-Err.ensures.failed e)) s.3 s.4 s.5 flushed
