use Rattle.std.proofs.Common.{◌≡◌, ℕ, ◌+◌, [], ◌∙◌, arith, slice_range}
use Rattle.far_script.proofs.FlowStops.{handed-on, no-line-later}
use Rattle.far_script.proofs.FlowLaws.{reads-kept, reads-line, reads-then, range-front, range-within}
use Rattle.far_script.proofs.input.Input.line.Goals as goal

next-same : (n m : ℕ) → n ≡ m → m + 1 ≡ n + 1
next-same n m e = omega (arith, e)

pub returns-clause-line : goal.returns-clause-line
returns-clause-line g c =
    let s = rw c.in-Some.is at c.in_ok-found.ensures.end in
    let e = c.take-line.ensures in
    let from = c.take-line.result.from in
    let to = c.take-line.result.to in
    let held = c.take-line.new.self.held in
    let n = c.line_len-whole.result in
    let within = range-within held from to n (rw c.as_slice.ensures at c.line_len-whole.ensures.within) in (
      (grind arith, grind (arith, within, s.within, e.to, e.held, e.from, s.from)),
      (
        slice_range held from to,
        rw (e.held, e.from, e.to) s.first,
        range-front held from to n within ∙ (rw c.as_slice.ensures at c.line_len-whole.ensures.line),
        reads-line g.R.Read c.args.self.now c.seek_line.new.self c.take-line.new.self from to (reads-then g.R.Read c.args.self.now c.give_back.new.self c.seek_line.new.self [] [] (reads-kept g.R.Read c.args.self.now c.give_back.new.self c.give_back.ensures.source c.give_back.ensures.unread) c.in_ok-found.ensures.read) e.source e.held (e.start ∙ next-same to _ e.to) e.from
            (grind (arith, e.from, e.to, s.from)) (grind (arith, e.to, s.within)) (rw e.to s.feed),
      ),
    )

pub returns-in_err-found-clause-no_line : goal.returns-in_err-found-clause-no_line
returns-in_err-found-clause-no_line g c =
    let why = c.in_err-found.field-0.0 in
    handed-on c.from_residual.result why _ c.from_residual.ensures.1
    (no-line-later g.R.Read g.R.Source.may_fail why c.args.self.now c.give_back.new.self c.seek_line.new.self (reads-kept g.R.Read c.args.self.now c.give_back.new.self c.give_back.ensures.source c.give_back.ensures.unread)
    (rw c.give_back.ensures.source (omega arith)) c.in_err-found.ensures.no_line)
