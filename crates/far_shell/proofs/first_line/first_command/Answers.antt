use Rattle.std.proofs.Common.{[], ◌++◌, ◌∷◌, ◌∙◌, refl, sym, arith}
use Rattle.far_script.specs.declared.fault.ShellFault.TheVariants as fault
use Rattle.far_script.specs.Flow.{IsUnseen}
use Rattle.far_script.proofs.FlowStops.{handed-on, if-unseen}
use Rattle.far_shell.proofs.LineFaultsLaws.{breaks-first, no-line, no-text-last, no-text-line, rejects-first, rejects-none}
use Rattle.far_script.proofs.FlowLaws.{few-bytes, reads-none, reads-then, prints-none, prints-nothing-then, range-empty, range-some}
use Rattle.far_shell.proofs.ScriptsLaws.{turn-more, blank-more, begins-line, begins-last}
use Rattle.far_shell.proofs.first_line.first_command.Goals as goal

pub loop-turn-init : goal.loop-turn-init
loop-turn-init g c = ([], [], reads-none g.R.Read _ _ refl, prints-none (g.W.Write.contents c.args.writer.now) c.args.output.now.page, refl, grind arith, grind arith)

pub loop-turn-preserved : goal.loop-turn-preserved
loop-turn-preserved g c =
    let i = c.loop-turn.invariant in
    let t = rw c.in-Whole.is at c.in_ok-line.ensures.line in (
      i.0 ++ (t.1.0 ++ 10 ∷ []),
      i.1 ++ t.1.0 ∷ [],
      reads-then g.R.Read c.args.input.now c.loop-turn.input c.line.new.self i.0 (t.1.0 ++ 10 ∷ []) i.2 t.1.3,
      prints-nothing-then (g.W.Write.contents c.args.writer.now) (g.W.Write.contents c.loop-turn.writer) (g.W.Write.contents c.line.new.writer) c.args.output.now.page c.loop-turn.output.page [] c.line.new.output.page i.3 c.in_ok-line.ensures.printed,
      blank-more i.0 t.1.0 i.1 i.4 (sym t.1.2 ∙ range-empty c.line.new.self.held c.in-Whole.line.from c.in-Whole.line.to (grind (arith, c.if-not-is_empty.ensures))),
      turn-more c.loop-turn.turn i.0 t.1.0 [] i.5,
      omega (arith, c.line.ensures.asked, i.6),
    )

pub returns-then-not-is_empty-clause-ok : goal.returns-then-not-is_empty-clause-ok
returns-then-not-is_empty-clause-ok g c =
    let i = c.loop-turn.invariant in
    let t = rw c.in-Whole.is at c.in_ok-line.ensures.line in
    let b = begins-line g.R.Read c.args.input.now c.loop-turn.input c.line.new.self i.0 t.1.0 _ _ i.1 i.2 i.4 t.1.1 t.1.2 t.1.3 c.in_ok-text-in-Whole.ensures.ok.0 c.in_ok-text-in-Whole.ensures.ok.1
    (range-some c.line.new.self.held c.in-Whole.line.from c.in-Whole.line.to (grind (arith, c.if-not-is_empty.ensures)) t.0.1) in
    (b.0, c.in_ok-text-in-Whole.field-0.now, b.1, b.2, c.in_ok-first-in-Whole.ensures.first)

pub returns-in-Last-clause-ok : goal.returns-in-Last-clause-ok
returns-in-Last-clause-ok g c =
    let i = c.loop-turn.invariant in
    let t = rw c.in-Last.is at c.in_ok-line.ensures.line in
    let b = begins-last g.R.Read c.args.input.now c.loop-turn.input c.line.new.self i.0 _ _ i.1 i.2 i.4 t.1.0 t.1.3 (t.1.1, t.1.2) c.in_ok-text-in-Last.ensures.ok.0 c.in_ok-text-in-Last.ensures.ok.1
    (range-some c.line.new.self.held c.in-Last.line.from c.in-Last.line.to (grind (arith, c.if-is_empty.ensures)) t.0.1) in
    (b.0, c.in_ok-text-in-Last.field-0.now, b.1, b.2, c.in_ok-last-in-Last.ensures.first)

pub returns-then-not-is_empty-clause-printed : goal.returns-then-not-is_empty-clause-printed
returns-then-not-is_empty-clause-printed g c =
    let i = c.loop-turn.invariant in
    rw c.in_ok-first-in-Whole.ensures.quiet (prints-nothing-then (g.W.Write.contents c.args.writer.now) (g.W.Write.contents c.loop-turn.writer) (g.W.Write.contents c.line.new.writer) c.args.output.now.page c.loop-turn.output.page [] c.line.new.output.page i.3 c.in_ok-line.ensures.printed)

pub returns-in-Last-clause-printed : goal.returns-in-Last-clause-printed
returns-in-Last-clause-printed g c =
    let i = c.loop-turn.invariant in
    rw c.in_ok-last-in-Last.ensures.quiet (prints-nothing-then (g.W.Write.contents c.args.writer.now) (g.W.Write.contents c.loop-turn.writer) (g.W.Write.contents c.line.new.writer) c.args.output.now.page c.loop-turn.output.page [] c.line.new.output.page i.3 c.in_ok-line.ensures.printed)

pub returns-in_err-line-clause-err : goal.returns-in_err-line-clause-err
returns-in_err-line-clause-err g c =
    let i = c.loop-turn.invariant in
    let printed = prints-nothing-then (g.W.Write.contents c.args.writer.now) (g.W.Write.contents c.loop-turn.writer) (g.W.Write.contents c.line.new.writer) c.args.output.now.page c.loop-turn.output.page [] c.line.new.output.page c.loop-turn.invariant.3 c.in_err-line.ensures.printed in
    handed-on c.from_residual.result c.in_err-line.field-0.0 _ c.from_residual.ensures.1
    (breaks-first g.R.Read (IsUnseen g.R.Read g.R.Source.may_fail c.args.input.now c.line.new.self) c.args.input.now c.loop-turn.input c.line.new.self (g.W.Write.contents c.args.writer.now) (g.W.Write.contents c.line.new.writer) c.args.output.now.page c.line.new.output.page i.0 i.1 c.in_err-line.field-0.0 c.in_err-line.ensures.fault c.in_err-line.ensures.turns i.2 i.4 printed
    (no-line g.R.Read c.in_err-line.field-0.0 (IsUnseen g.R.Read g.R.Source.may_fail c.args.input.now c.line.new.self) c.loop-turn.input c.line.new.self
    (if-unseen g.R.Read g.R.Source.may_fail c.in_err-line.field-0.0 c.args.input.now c.loop-turn.input c.line.new.self i.0 i.2 i.6 c.in_err-line.ensures.no_line.unseen) c.in_err-line.ensures.no_line.stopped) c.in_err-line.ensures.no_line.kept)

pub returns-in_err-text-in-Whole-clause-err : goal.returns-in_err-text-in-Whole-clause-err
returns-in_err-text-in-Whole-clause-err g c =
    let i = c.loop-turn.invariant in
    let t = rw c.in-Whole.is at c.in_ok-line.ensures.line in
    let f = c.in_err-text-in-Whole.ensures.fault in
    let printed = prints-nothing-then (g.W.Write.contents c.args.writer.now) (g.W.Write.contents c.loop-turn.writer) (g.W.Write.contents c.line.new.writer) c.args.output.now.page c.loop-turn.output.page [] c.line.new.output.page c.loop-turn.invariant.3 c.in_ok-line.ensures.printed in
    handed-on c.from_residual-in_err-text-in-Whole.result fault.Input _ (rw f.0 at c.from_residual-in_err-text-in-Whole.ensures.1)
    (breaks-first g.R.Read (IsUnseen g.R.Read g.R.Source.may_fail c.args.input.now c.line.new.self) c.args.input.now c.loop-turn.input c.line.new.self (g.W.Write.contents c.args.writer.now) (g.W.Write.contents c.line.new.writer) c.args.output.now.page c.line.new.output.page i.0 i.1 fault.Input (λ e. cc e) (λ e. cc e) i.2 i.4 printed
    (no-text-line g.R.Read c.loop-turn.input c.line.new.self t.1.0 _ (IsUnseen g.R.Read g.R.Source.may_fail c.args.input.now c.line.new.self) t.1.1 t.1.2 t.1.3 f.1) tt)

pub returns-in_err-text-in-Last-clause-err : goal.returns-in_err-text-in-Last-clause-err
returns-in_err-text-in-Last-clause-err g c =
    let i = c.loop-turn.invariant in
    let t = rw c.in-Last.is at c.in_ok-line.ensures.line in
    let f = c.in_err-text-in-Last.ensures.fault in
    let printed = prints-nothing-then (g.W.Write.contents c.args.writer.now) (g.W.Write.contents c.loop-turn.writer) (g.W.Write.contents c.line.new.writer) c.args.output.now.page c.loop-turn.output.page [] c.line.new.output.page c.loop-turn.invariant.3 c.in_ok-line.ensures.printed in
    handed-on c.from_residual-in_err-text-in-Last.result fault.Input _ (rw f.0 at c.from_residual-in_err-text-in-Last.ensures.1)
    (breaks-first g.R.Read (IsUnseen g.R.Read g.R.Source.may_fail c.args.input.now c.line.new.self) c.args.input.now c.loop-turn.input c.line.new.self (g.W.Write.contents c.args.writer.now) (g.W.Write.contents c.line.new.writer) c.args.output.now.page c.line.new.output.page i.0 i.1 fault.Input (λ e. cc e) (λ e. cc e) i.2 i.4 printed
    (no-text-last g.R.Read c.loop-turn.input c.line.new.self _ (IsUnseen g.R.Read g.R.Source.may_fail c.args.input.now c.line.new.self) t.1.0 t.1.3 (t.1.1, t.1.2) f.1) tt)

pub returns-in_err-first-in-Whole-clause-err : goal.returns-in_err-first-in-Whole-clause-err
returns-in_err-first-in-Whole-clause-err g c =
    let i = c.loop-turn.invariant in
    let t = rw c.in-Whole.is at c.in_ok-line.ensures.line in
    let p = c.in_err-first-in-Whole.ensures.err in
    let why = c.in_err-first-in-Whole.field-0.0 in
    let b = begins-line g.R.Read c.args.input.now c.loop-turn.input c.line.new.self i.0 t.1.0 _ _ i.1 i.2 i.4 t.1.1 t.1.2 t.1.3 c.in_ok-text-in-Whole.ensures.ok.0 c.in_ok-text-in-Whole.ensures.ok.1
    (range-some c.line.new.self.held c.in-Whole.line.from c.in-Whole.line.to (grind (arith, c.if-not-is_empty.ensures)) t.0.1) in
    handed-on c.from_residual-in_err-first-in-Whole.result why _ c.from_residual-in_err-first-in-Whole.ensures.1
    (rejects-first g.R.Read (IsUnseen g.R.Read g.R.Source.may_fail c.args.input.now c.line.new.self) c.args.input.now c.line.new.self (g.W.Write.contents c.args.writer.now) (g.W.Write.contents c.line.new.writer) c.args.output.now.page c.line.new.output.page c.read_first.new.output.page b.0 _ p.0 why b.1 b.2 (prints-nothing-then (g.W.Write.contents c.args.writer.now) (g.W.Write.contents c.loop-turn.writer) (g.W.Write.contents c.line.new.writer) c.args.output.now.page c.loop-turn.output.page [] c.line.new.output.page i.3 c.in_ok-line.ensures.printed) p.1 p.2)

pub returns-in_err-last-in-Last-clause-err : goal.returns-in_err-last-in-Last-clause-err
returns-in_err-last-in-Last-clause-err g c =
    let i = c.loop-turn.invariant in
    let t = rw c.in-Last.is at c.in_ok-line.ensures.line in
    let p = c.in_err-last-in-Last.ensures.err in
    let why = c.in_err-last-in-Last.field-0.0 in
    let b = begins-last g.R.Read c.args.input.now c.loop-turn.input c.line.new.self i.0 _ _ i.1 i.2 i.4 t.1.0 t.1.3 (t.1.1, t.1.2) c.in_ok-text-in-Last.ensures.ok.0 c.in_ok-text-in-Last.ensures.ok.1
    (range-some c.line.new.self.held c.in-Last.line.from c.in-Last.line.to (grind (arith, c.if-is_empty.ensures)) t.0.1) in
    handed-on c.from_residual-in_err-last-in-Last.result why _ c.from_residual-in_err-last-in-Last.ensures.1
    (rejects-first g.R.Read (IsUnseen g.R.Read g.R.Source.may_fail c.args.input.now c.line.new.self) c.args.input.now c.line.new.self (g.W.Write.contents c.args.writer.now) (g.W.Write.contents c.line.new.writer) c.args.output.now.page c.line.new.output.page c.read_first-in-Last.new.output.page b.0 _ p.0 why b.1 b.2 (prints-nothing-then (g.W.Write.contents c.args.writer.now) (g.W.Write.contents c.loop-turn.writer) (g.W.Write.contents c.line.new.writer) c.args.output.now.page c.loop-turn.output.page [] c.line.new.output.page i.3 c.in_ok-line.ensures.printed) p.1 p.2)

pub returns-then-is_empty-clause-err : goal.returns-then-is_empty-clause-err
returns-then-is_empty-clause-err g c =
    let i = c.loop-turn.invariant in
    let t = rw c.in-Last.is at c.in_ok-line.ensures.line in
    rejects-none g.R.Read (IsUnseen g.R.Read g.R.Source.may_fail c.args.input.now c.line.new.self) c.args.input.now c.loop-turn.input c.line.new.self (g.W.Write.contents c.args.writer.now) (g.W.Write.contents c.loop-turn.writer) (g.W.Write.contents c.line.new.writer) c.args.output.now.page c.loop-turn.output.page c.line.new.output.page i.0 _ i.1
    i.2 i.3 i.4 (range-empty c.line.new.self.held c.in-Last.line.from c.in-Last.line.to (grind (arith, c.if-is_empty.ensures))) t.1.3 c.in_ok-line.ensures.printed (t.1.1, t.1.2)

pub returns-clause-err : goal.returns-clause-err
returns-clause-err g c =
    let i = c.loop-turn.invariant in
    let most = few-bytes g.R.Read c.args.input.now c.loop-turn.input i.0 i.2 in
    absurd (grind (arith, most, i.5, c.loop-turn-test.false))

pub returns-then-not-is_empty-clause-asked : goal.returns-then-not-is_empty-clause-asked
returns-then-not-is_empty-clause-asked g c = omega (arith, c.line.ensures.asked, c.loop-turn.invariant.6)

pub returns-in-Last-clause-asked : goal.returns-in-Last-clause-asked
returns-in-Last-clause-asked g c = omega (arith, c.line.ensures.asked, c.loop-turn.invariant.6)

pub returns-in_err-line-clause-asked : goal.returns-in_err-line-clause-asked
returns-in_err-line-clause-asked g c = omega (arith, c.line.ensures.asked, c.loop-turn.invariant.6)

pub returns-in_err-text-in-Whole-clause-asked : goal.returns-in_err-text-in-Whole-clause-asked
returns-in_err-text-in-Whole-clause-asked g c = omega (arith, c.line.ensures.asked, c.loop-turn.invariant.6)

pub returns-in_err-text-in-Last-clause-asked : goal.returns-in_err-text-in-Last-clause-asked
returns-in_err-text-in-Last-clause-asked g c = omega (arith, c.line.ensures.asked, c.loop-turn.invariant.6)

pub returns-in_err-first-in-Whole-clause-asked : goal.returns-in_err-first-in-Whole-clause-asked
returns-in_err-first-in-Whole-clause-asked g c = omega (arith, c.line.ensures.asked, c.loop-turn.invariant.6)

pub returns-in_err-last-in-Last-clause-asked : goal.returns-in_err-last-in-Last-clause-asked
returns-in_err-last-in-Last-clause-asked g c = omega (arith, c.line.ensures.asked, c.loop-turn.invariant.6)

pub returns-then-is_empty-clause-asked : goal.returns-then-is_empty-clause-asked
returns-then-is_empty-clause-asked g c = omega (arith, c.line.ensures.asked, c.loop-turn.invariant.6)

pub returns-clause-asked : goal.returns-clause-asked
returns-clause-asked g c = c.loop-turn.invariant.6
