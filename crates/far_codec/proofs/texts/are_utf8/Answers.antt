use Rattle.std.proofs.Common.{◌≡◌, ◌<◌, ◌∷◌, ℕ, List, length, get_or, sym, ap, subst, ◌∙◌, arith}
use Rattle.std.specs.Prelude.{slice_range}
use Rattle.std.specs.Str.{IsUtf8}
use Rattle.std.proofs.lemmas.Bool.{false≢true}
use Rattle.far_codec.specs.TextForm.{ends_in}
use Rattle.far_codec.proofs.TextFormLaws.{end_of_word, length-ends_in}
use Rattle.far_codec.proofs.TextParts.{inside}
use Rattle.far_codec.proofs.texts.are_utf8.Goals as goal
use borrow.Author.Count.{below_more}

same_slice : (body : List ℕ) (a b start end : ℕ) → a ≡ start → b ≡ end → slice_range body a b ≡ slice_range body start end
same_slice body a b start end e f = ap (λ s. slice_range body s b) e ∙ ap (slice_range body start) f

pub slice_bounds-is_utf8-end : goal.slice_bounds-is_utf8-end
slice_bounds-is_utf8-end c =
    let ends = ends_in c.args.ends.now in
    let i = c.loop-i.i in
    let end : c.end_in-end.result ≡ get_or ends i 0 = c.end_in-end.ensures ∙ sym (end_of_word c.args.ends.now i (omega arith)) in
    let in_ends : i < length ends = omega (arith, length-ends_in c.args.ends.now) in
    omega (arith, end, inside ends (length c.args.body.now) i c.requires in_ends)

pub loop-i-preserved : goal.loop-i-preserved
loop-i-preserved c =
    let ends = ends_in c.args.ends.now in
    let body = c.args.body.now in
    let i = c.loop-i.i in
    let end = c.end_in-end.ensures ∙ sym (end_of_word c.args.ends.now i (omega arith)) in
    let slice = same_slice body c.start_in-start.result c.end_in-end.result (get_or (0 ∷ ends) i 0) (get_or ends i 0) c.start_in-start.ensures end in
    below_more (λ k. IsUtf8 (slice_range body (get_or (0 ∷ ends) k 0) (get_or ends k 0))) i c.loop-i.invariant (subst IsUtf8 slice (c.is_utf8.ensures.0 c.if-not-is_utf8.false))

pub returns-then-not-is_utf8 : goal.returns-then-not-is_utf8
returns-then-not-is_utf8 c =
    let ends = ends_in c.args.ends.now in
    let body = c.args.body.now in
    let i = c.loop-i.i in
    let end = c.end_in-end.ensures ∙ sym (end_of_word c.args.ends.now i (omega arith)) in
    let slice = same_slice body c.start_in-start.result c.end_in-end.result (get_or (0 ∷ ends) i 0) (get_or ends i 0) c.start_in-start.ensures end in
    let in_ends : i < length ends = omega (arith, length-ends_in c.args.ends.now) in (
      λ t. absurd (false≢true t),
      λ utf8. sym c.if-not-is_utf8.true ∙ c.is_utf8.ensures.1 (subst IsUtf8 (sym slice) (utf8 i in_ends)),
    )
