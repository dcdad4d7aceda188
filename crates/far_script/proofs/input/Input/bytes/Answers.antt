use Rattle.std.proofs.Common.{◌≡◌, ◌<◌, [], length, inl, inr, refl, sym, ◌∙◌, arith}
use Rattle.far_script.specs.declared.fault.ShellFault.TheVariants as fault
use Rattle.far_script.specs.Flow.{IsShort, unread}
use Rattle.far_script.proofs.FlowStops.{handed-on, if-input, if-halted, leaves-same, not-found, short-later, stops-still, unseen}
use Rattle.far_script.proofs.FlowLaws.{dropped, fewer, front-within, prints-none, prints-then-nothing, range-length, reads-none, reads-range, reads-then, turns-past}
use Rattle.far_script.proofs.input.Input.bytes.Goals as goal

pub loop-turn-init : goal.loop-turn-init
loop-turn-init g c = (reads-none g.R.Read _ _ refl, prints-none _ _, grind arith)

pub loop-turn-preserved : goal.loop-turn-preserved
loop-turn-preserved g c =
    let i = c.loop-turn.invariant in
    let did = c.in_ok-read_more.ensures.read in
    let counted = did.counted c.if-not-branch.false in (
      reads-then g.R.Read c.args.self.now c.loop-turn.self c.read_more.new.self [] [] i.0 did.reads,
      prints-then-nothing _ _ _ c.args.output.now.page [] c.loop-turn.output.page _ i.1 c.flush.ensures.printed,
      omega (arith, counted, i.2),
    )

pub returns-in_err-flush-clause-printed : goal.returns-in_err-flush-clause-printed
returns-in_err-flush-clause-printed g c = prints-then-nothing _ _ _ c.args.output.now.page [] c.loop-turn.output.page _ c.loop-turn.invariant.1 c.flush.ensures.printed

pub returns-then-len-self-clause-byte_range : goal.returns-then-len-self-clause-byte_range
returns-then-len-self-clause-byte_range g c =
    let e = c.take.ensures in
    let low = c.if-len-self.true in
    let known = c.loop-turn.self.known in (
      (grind (arith, e.from, e.to), grind (arith, e.to, e.held, low, known, c.len.ensures)),
      rw (e.held, e.to, e.from) (range-length c.loop-turn.self.held c.loop-turn.self.start c.args.count (grind (arith, known)) (grind (arith, low, c.len.ensures))),
      reads-range g.R.Read c.args.self.now c.loop-turn.self c.take.new.self c.take.result.from c.take.result.to c.loop-turn.invariant.0 e.source e.held (e.start ∙ sym e.to) e.from (grind (arith, e.from, e.to)),
    )

pub returns-in_err-read_more-clause-stopped : goal.returns-in_err-read_more-clause-stopped
returns-in_err-read_more-clause-stopped g c =
    let i = c.loop-turn.invariant in
    let k = dropped c.loop-turn.self.held c.loop-turn.self.start (front-within c.loop-turn.self.start c.loop-turn.self.plain (length c.loop-turn.self.held) c.loop-turn.self.known) in
    let low : length (unread g.R.Read c.loop-turn.self) < c.args.count = grind (arith, k, c.if-len-self.false, c.len.ensures) in
    let why = c.in_err-read_more.field-0.0 in
    handed-on c.from_residual-in_err-read_more.result why _ c.from_residual-in_err-read_more.ensures.1
    (if-input why _ _ (λ none. stops-still g.R.Read c.args.self.now c.loop-turn.self c.read_more.new.self (λ bytes rest. (length bytes < c.args.count) × IsShort g.R.Read g.R.Source.may_fail c.args.self.now c.read_more.new.self rest) i.0 none.cut.bytes (not-found _ _ none.cut.before) none.cut.lost
    (low, short-later g.R.Read g.R.Source.may_fail c.args.self.now c.loop-turn.self c.read_more.new.self [] _ i.0 (fewer _ _ _ i.2) (inr (unseen g.R.Read g.R.Source.may_fail c.loop-turn.self c.read_more.new.self none.cut)))) c.in_err-read_more.ensures.cut)

pub returns-then-not-branch-clause-stopped : goal.returns-then-not-branch-clause-stopped
returns-then-not-branch-clause-stopped g c =
    let k = dropped c.loop-turn.self.held c.loop-turn.self.start (front-within c.loop-turn.self.start c.loop-turn.self.plain (length c.loop-turn.self.held) c.loop-turn.self.known) in
    let low : length (unread g.R.Read c.loop-turn.self) < c.args.count = grind (arith, k, c.if-len-self.false, c.len.ensures) in
    let did = c.in_ok-read_more.ensures.read in
    let ended = did.ended c.if-not-branch.true in
    let same : unread g.R.Read c.read_more.new.self ≡ unread g.R.Read c.loop-turn.self = did.same c.if-not-branch.true in
    stops-still g.R.Read c.args.self.now c.read_more.new.self c.read_more.new.self (λ bytes rest. (length bytes < c.args.count) × IsShort g.R.Read g.R.Source.may_fail c.args.self.now c.read_more.new.self rest)
    (reads-then g.R.Read c.args.self.now c.loop-turn.self c.read_more.new.self [] [] c.loop-turn.invariant.0 did.reads) refl (λ e. e) (leaves-same _ _) (rw same low, inl (ended, c.read_more.new.self.source.end ended))

pub returns-clause-stopped : goal.returns-clause-stopped
returns-clause-stopped g c = absurd (turns-past c.loop-turn.self.source.reads c.loop-turn.turn c.args.self.now.source.reads c.loop-turn.invariant.2 c.args.self.now.source.few (grind (arith, c.loop-turn-test.false)))

pub returns-then-len-self-clause-asked : goal.returns-then-len-self-clause-asked
returns-then-len-self-clause-asked g c = rw c.take.ensures.source (fewer _ _ _ c.loop-turn.invariant.2)

pub returns-in_err-flush-clause-asked : goal.returns-in_err-flush-clause-asked
returns-in_err-flush-clause-asked g c = fewer _ _ _ c.loop-turn.invariant.2

pub returns-in_err-read_more-clause-asked : goal.returns-in_err-read_more-clause-asked
returns-in_err-read_more-clause-asked g c = omega (arith, c.read_more.ensures.asked, c.loop-turn.invariant.2)

pub returns-then-not-branch-clause-asked : goal.returns-then-not-branch-clause-asked
returns-then-not-branch-clause-asked g c = omega (arith, c.read_more.ensures.asked, c.loop-turn.invariant.2)

pub returns-clause-asked : goal.returns-clause-asked
returns-clause-asked g c = fewer _ _ _ c.loop-turn.invariant.2

pub returns-in_err-read_more-clause-kept : goal.returns-in_err-read_more-clause-kept
returns-in_err-read_more-clause-kept g c =
    let why = c.in_err-read_more.field-0.0 in
    handed-on c.from_residual-in_err-read_more.result why _ c.from_residual-in_err-read_more.ensures.1
    (if-halted why _ _ (λ t. reads-then g.R.Read c.args.self.now c.loop-turn.self c.read_more.new.self [] [] c.loop-turn.invariant.0 t) c.in_err-read_more.ensures.kept)

pub returns-in_err-flush-clause-kept : goal.returns-in_err-flush-clause-kept
returns-in_err-flush-clause-kept g c = handed-on c.from_residual.result fault.Output _ (rw c.in_err-flush.ensures.fault at c.from_residual.ensures.1) c.loop-turn.invariant.0
