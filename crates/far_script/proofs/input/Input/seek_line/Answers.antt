use Rattle.std.proofs.Common.{[], refl, arith}
use Rattle.far_script.specs.declared.fault.ShellFault.TheVariants as fault
use Rattle.far_script.specs.Flow.{unread}
use Rattle.far_script.specs.Lines.{IsOneLine}
use Rattle.far_script.proofs.FlowStops.{handed-on, if-input, if-halted, none-of, not-found, stops-still, unseen, unseen-later}
use Rattle.far_script.proofs.FlowLaws.{fewer, prints-none, prints-then-nothing, reads-looked, reads-none, reads-then, turns-past}
use Rattle.far_script.proofs.input.Input.seek_line.Goals as goal

pub loop-turn-init : goal.loop-turn-init
loop-turn-init g c = (reads-none g.R.Read _ _ refl, prints-none _ _, grind arith)

pub loop-turn-preserved : goal.loop-turn-preserved
loop-turn-preserved g c =
    let e = c.line_end.ensures in
    let i = c.loop-turn.invariant in
    let p = reads-looked g.R.Read c.args.self.now c.loop-turn.self c.line_end.new.self i.0 e.source e.held e.start in
    let more = c.if-not-branch.false in
    let did = c.in_ok-read_more.ensures.read in
    let counted = rw e.source at (did.counted more) in (
      reads-then g.R.Read c.args.self.now c.line_end.new.self c.read_more.new.self [] [] p did.reads,
      prints-then-nothing _ _ _ c.args.output.now.page [] c.loop-turn.output.page _ i.1 c.flush.ensures.printed,
      omega (arith, counted, i.2),
    )

pub returns-in_err-flush-clause-printed : goal.returns-in_err-flush-clause-printed
returns-in_err-flush-clause-printed g c = prints-then-nothing _ _ _ c.args.output.now.page [] c.loop-turn.output.page _ c.loop-turn.invariant.1 c.flush.ensures.printed

pub returns-in_err-read_more-clause-no_line : goal.returns-in_err-read_more-clause-no_line
returns-in_err-read_more-clause-no_line g c =
    let e = c.line_end.ensures in
    let p = reads-looked g.R.Read c.args.self.now c.loop-turn.self c.line_end.new.self c.loop-turn.invariant.0 e.source e.held e.start in
    let none : IsOneLine (unread g.R.Read c.line_end.new.self) = none-of c.line_end.result _ c.in_default.not-Some c.line_end.ensures.none in
    let why = c.in_err-read_more.field-0.0 in
    handed-on c.from_residual-in_err-read_more.result why _ c.from_residual-in_err-read_more.ensures.1 (record {
      stopped = if-input why _ _ (λ did. stops-still g.R.Read c.args.self.now c.line_end.new.self c.read_more.new.self (λ bytes rest. IsOneLine bytes) p did.cut.bytes (not-found _ _ did.cut.before) did.cut.lost none) c.in_err-read_more.ensures.cut;
      unseen = if-input why _ _ (λ did. unseen-later g.R.Read g.R.Source.may_fail c.args.self.now c.line_end.new.self c.read_more.new.self [] p (rw c.line_end.ensures.source (fewer _ _ _ c.loop-turn.invariant.2))
          (unseen g.R.Read g.R.Source.may_fail c.line_end.new.self c.read_more.new.self did.cut)) c.in_err-read_more.ensures.cut;
      kept = if-halted why _ _ (λ t. reads-then g.R.Read c.args.self.now c.line_end.new.self c.read_more.new.self [] [] p t) c.in_err-read_more.ensures.kept;
    })

pub returns-in_err-flush-clause-no_line : goal.returns-in_err-flush-clause-no_line
returns-in_err-flush-clause-no_line g c =
    let e = c.line_end.ensures in
    handed-on c.from_residual.result fault.Output _ (rw c.in_err-flush.ensures.fault at c.from_residual.ensures.1) (record {
      stopped = tt;
      unseen = tt;
      kept = reads-looked g.R.Read c.args.self.now c.loop-turn.self c.line_end.new.self c.loop-turn.invariant.0 e.source e.held e.start;
    })

pub returns-clause-no_line : goal.returns-clause-no_line
returns-clause-no_line g c = absurd (turns-past c.loop-turn.self.source.reads c.loop-turn.turn c.args.self.now.source.reads c.loop-turn.invariant.2 c.args.self.now.source.few (grind (arith, c.loop-turn-test.false)))

pub returns-in-Some-clause-asked : goal.returns-in-Some-clause-asked
returns-in-Some-clause-asked g c = rw c.line_end.ensures.source (fewer _ _ _ c.loop-turn.invariant.2)

pub returns-in_err-flush-clause-asked : goal.returns-in_err-flush-clause-asked
returns-in_err-flush-clause-asked g c = rw c.line_end.ensures.source (fewer _ _ _ c.loop-turn.invariant.2)

pub returns-in_err-read_more-clause-asked : goal.returns-in_err-read_more-clause-asked
returns-in_err-read_more-clause-asked g c = let asked = rw c.line_end.ensures.source at c.read_more.ensures.asked in omega (arith, asked, c.loop-turn.invariant.2)

pub returns-then-not-branch-clause-asked : goal.returns-then-not-branch-clause-asked
returns-then-not-branch-clause-asked g c = let asked = rw c.line_end.ensures.source at c.read_more.ensures.asked in omega (arith, asked, c.loop-turn.invariant.2)

pub returns-clause-asked : goal.returns-clause-asked
returns-clause-asked g c = fewer _ _ _ c.loop-turn.invariant.2
