use Rattle.std.proofs.Common.{◌≡◌, ◌+◌, ◌≤◌, ◌∷◌, suc, get_or, sym, ap, ◌∙◌, arith}
use Rattle.far_codec.specs.TextForm.{ends_in}
use Rattle.far_codec.proofs.TextFormLaws.{end_of_word}
use Rattle.far_codec.proofs.texts.ascend_to.Goals as goal
use borrow.Author.Count.{below_more}

pub loop-i-preserved : goal.loop-i-preserved
loop-i-preserved c =
    let ends = ends_in c.args.ends.now in
    let i = c.loop-i.i in
    let start : c.loop-i.start ≡ get_or (0 ∷ ends) i 0 = c.loop-i.invariant.start_is in
    let end : c.end_in-end.result ≡ get_or ends i 0 = c.end_in-end.ensures ∙ sym (end_of_word c.args.ends.now i (omega arith)) in
    let next : suc i ≡ i + 1 = omega arith in
    record {
      start_is = end ∙ ap (λ k. get_or (0 ∷ ends) k 0) next;
      each = below_more (λ k. get_or (0 ∷ ends) k 0 ≤ get_or ends k 0) i c.loop-i.invariant.each (omega (arith, start, end, c.if-end-start.false));
    }
