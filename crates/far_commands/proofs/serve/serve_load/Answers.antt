use Rattle.std.proofs.Common.{ℕ, List, [], length, ◌<◌, inl, inr, refl, sym, ap, subst}
use Rattle.std.specs.Prelude.{⊤, IsUtf8, Some}
use Rattle.far_script.specs.declared.fault.ShellFault.TheVariants as fault
use Rattle.far_script.specs.Flow.{IsShort, bytes_in}
use Rattle.far_script.proofs.FlowLaws.{prints, prints-nothing-then}
use Rattle.far_script.proofs.FlowStops.{at-halted, each-fault, handed-on, if-input, if-halted, leaves-same, stops-here, stops-more, stops-then}
use Rattle.far_commands.specs.declared.command.Command.TheVariants as command
use Rattle.far_commands.specs.Cuts.{FailsBy}
use Rattle.far_commands.proofs.CutsLaws.{front-came, no-input, no-output, printed-err, prints-cut-more, prints-cut-none, take-front}
use Rattle.far_commands.proofs.ResultLaws.{printed-ok}
use Rattle.far_commands.proofs.serve.serve_load.Goals as goal

pub returns-clause-ok : goal.returns-clause-ok
returns-clause-ok g c =
    let s = c.in_ok-rows.ensures.byte_range in
    let t = c.in_ok-text.ensures.ok in
    printed-ok c.add_printed.result c.load-printed.result _ _ _ c.add_printed.ensures.printed c.add_printed.ensures.ok c.load-printed.ensures.ok (λ added loaded. (
      bytes_in g.R.Read c.bytes.new.self c.in_ok-rows.rows,
      c.load-printed.new.reply,
      s.2,
      prints-nothing-then _ _ _ c.args.output.now.page c.bytes.new.output.page c.load-printed.new.reply _ c.bytes.ensures.printed (prints (g.W.Write.contents c.bytes.new.writer) c.bytes.new.output.page c.load-printed.new.reply c.add_printed.new.self.page added),
      (s.1, rw t.0 at t.1, rw t.0 at loaded),
    ))

pub returns-clause-err : goal.returns-clause-err
returns-clause-err g c =
    let u = g.W.Write.contents c.args.writer.now in
    let v = g.W.Write.contents c.bytes.new.writer in
    each-fault c.add_printed.result _ _ (λ why cut. prints-cut-more why (λ said. ⊥) (λ said. ⊥) u v v c.args.output.now.page c.bytes.new.output.page c.add_printed.new.self.page (λ said none. none) c.bytes.ensures.printed cut)
    (printed-err c.add_printed.result (λ said. ⊥) v c.bytes.new.output.page c.add_printed.new.self.page c.add_printed.ensures.memory c.add_printed.ensures.err)

pub returns-clause-stopped : goal.returns-clause-stopped
returns-clause-stopped g c = no-input c.add_printed.result _ c.add_printed.ensures.memory

pub returns-in_err-rows-clause-stopped : goal.returns-in_err-rows-clause-stopped
returns-in_err-rows-clause-stopped g c =
    let why = c.in_err-rows.field-0.0 in
    let count = c.args.count in
    let short = λ (rest : List ℕ). IsShort g.R.Read g.R.Source.may_fail c.args.input.now c.bytes.new.self rest in
    handed-on c.from_residual.result why _ c.from_residual.ensures.1
    (if-input why _ _ (λ s. stops-more g.R.Read c.args.input.now c.bytes.new.self (λ bytes rest. (length bytes < count) × short rest) (λ behind rest. FailsBy (short rest) (Some (command.Load count)) behind)
    (λ bytes rest low. (count, refl, inl low)) s) c.in_err-rows.ensures.stopped)

pub returns-in_err-text-clause-stopped : goal.returns-in_err-text-clause-stopped
returns-in_err-text-clause-stopped g c =
    let s = c.in_ok-rows.ensures.byte_range in
    let count = c.args.count in
    let rows = bytes_in g.R.Read c.bytes.new.self c.in_ok-rows.rows in
    let f = c.in_err-text.ensures.fault in
    handed-on c.from_residual-in_err-text.result fault.Input _ (rw f.0 at c.from_residual-in_err-text.ensures.1)
    (stops-then g.R.Read c.args.input.now c.bytes.new.self c.bytes.new.self rows (λ bytes rest. ⊤)
    (λ behind rest. FailsBy (IsShort g.R.Read g.R.Source.may_fail c.args.input.now c.bytes.new.self rest) (Some (command.Load count)) behind) s.2
    (λ bytes rest h. (count, refl, inr (front-came rows bytes count s.1, λ u. f.1 (subst (λ (z : List ℕ). IsUtf8 z) (take-front rows bytes count s.1) u))))
    (stops-here g.R.Read c.bytes.new.self c.bytes.new.self (λ bytes rest. ⊤) refl (λ e. e) (leaves-same _ _) tt))

pub returns-in_err-text-clause-err : goal.returns-in_err-text-clause-err
returns-in_err-text-clause-err g c =
    let f = c.in_err-text.ensures.fault in
    handed-on c.from_residual-in_err-text.result fault.Input _ (rw f.0 at c.from_residual-in_err-text.ensures.1) ([], c.bytes.ensures.printed, refl)

pub returns-in_err-rows-clause-err : goal.returns-in_err-rows-clause-err
returns-in_err-rows-clause-err g c =
    let e = c.in_err-rows.ensures in
    let why = c.in_err-rows.field-0.0 in
    handed-on c.from_residual.result why _ c.from_residual.ensures.1
    (prints-cut-none why _ (g.W.Write.contents c.args.writer.now) (g.W.Write.contents c.bytes.new.writer) c.args.output.now.page c.bytes.new.output.page e.fault e.turns c.bytes.ensures.printed)

pub returns-clause-failed : goal.returns-clause-failed
returns-clause-failed g c = no-output c.add_printed.result _ c.add_printed.ensures.memory

pub returns-in_err-rows-clause-taken : goal.returns-in_err-rows-clause-taken
returns-in_err-rows-clause-taken g c =
    let why = c.in_err-rows.field-0.0 in
    handed-on c.from_residual.result why _ c.from_residual.ensures.1 (if-halted why _ _ (λ r. ([], r, inl refl)) c.in_err-rows.ensures.kept)

pub returns-in_err-text-clause-taken : goal.returns-in_err-text-clause-taken
returns-in_err-text-clause-taken g c = handed-on c.from_residual-in_err-text.result fault.Input _ (rw c.in_err-text.ensures.fault.0 at c.from_residual-in_err-text.ensures.1) tt

pub returns-clause-taken : goal.returns-clause-taken
returns-clause-taken g c =
    let s = c.in_ok-rows.ensures.byte_range in
    at-halted c.add_printed.result _ (bytes_in g.R.Read c.bytes.new.self c.in_ok-rows.rows, s.2, inr (ap (λ (n : ℕ). Some (command.Load n)) (sym s.1)))
