use Rattle.std.proofs.Common.{◌≡◌, ◌∙◌, ◌+◌, ◌<◌, ℕ, List, length, drop, sym, ap, subst, arith}
use Rattle.std.proofs.lemmas.List.{length-set}
use Rattle.far_types.specs.declared.answer.Answer.{Answer}
use Rattle.far_c.specs.declared.answer.FcLine.{FcLine}
use Rattle.far_c.specs.Answering.{AreLinesAt, IsLineAt, IsPast, lines_in}
use Rattle.far_c.proofs.LinesWritten.{one-more, rest-stays, there-is}
use Rattle.far_c.proofs.lines.write_lines.Goals as goal
use Rattle.far_c.proofs.lines.write_lines.Goals.{in-Some, in_default}

pub loop-k-preserved : goal.loop-k-preserved
loop-k-preserved c =
    let k = c.loop-k.k in
    let inside : k < length c.loop-k.lines = (let same = c.loop-k.auto.lines in let test = c.loop-k-test.true in let count = c.min-count.ensures in omega (arith, same, test, count)) in
    let index : c.args.from + k < lines_in c.args.answer.now = (let test = c.loop-k-test.true in let count = c.min-count.ensures in let left = c.saturating_sub.ensures in let all = c.len.ensures in omega (arith, test, count, left, all)) in
    elim c.match-line_of.branch [
      | in-Some w ↦ record {
        long = ap length w.lines-is ∙ length-set c.loop-k.lines k w.in-Some.line ∙ c.loop-k.invariant.long;
        written = subst (λ (l : List FcLine). AreLinesAt c.args.answer.now c.args.from (k + 1) l) (sym w.lines-is) (one-more c.args.answer.now c.args.from k c.loop-k.lines w.in-Some.line inside (subst (λ (a : Answer). IsLineAt a (c.args.from + k) w.in-Some.line) c.get.ensures w.in-Some.ensures) c.loop-k.invariant.written);
        rest = subst (λ (l : List FcLine). drop (k + 1) l ≡ drop (k + 1) c.args.lines.now) (sym w.lines-is) (rest-stays k c.args.lines.now c.loop-k.lines w.in-Some.line c.loop-k.invariant.rest);
      }
      | in_default w ↦ absurd (there-is c.args.answer.now (c.args.from + k) index (subst (λ (a : Answer). IsPast a (c.args.from + k)) c.get.ensures w.in_default.ensures))
    ]
