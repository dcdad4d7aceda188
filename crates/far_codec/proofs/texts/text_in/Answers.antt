use Rattle.std.proofs.Common.{◌≡◌, ◌∷◌, ℕ, true, false, cond, get_or, None, Some, sym, ap, ◌∙◌, arith}
use Rattle.std.specs.Prelude.{slice_range}
use Rattle.far_codec.specs.Reading.{is_missing}
use Rattle.far_codec.specs.TextForm.{ends_in}
use Rattle.far_codec.proofs.TextFormLaws.{text_there, text_past, end_of_word, length-ends_in}
use Rattle.far_codec.proofs.texts.text_in.Goals as goal

pub returns-then-i-parts : goal.returns-then-i-parts
returns-then-i-parts c =
    let p = c.args.parts in
    sym (text_past p.mask.now (ends_in p.ends.now) p.body.now c.args.i (omega (arith, length-ends_in p.ends.now)))

pub returns-then-is_set : goal.returns-then-is_set
returns-then-is_set c =
    let p = c.args.parts in
    let ends = ends_in p.ends.now in
    let missing : is_missing p.mask.now c.args.i ≡ true = sym c.is_set.ensures ∙ c.if-is_set.true in
    sym (text_there p.mask.now ends p.body.now c.args.i (omega (arith, length-ends_in p.ends.now)) ∙ ap (λ b. cond b None (Some (slice_range p.body.now (get_or (0 ∷ ends) c.args.i 0) (get_or ends c.args.i 0)))) missing)

pub returns : goal.returns
returns c =
    let p = c.args.parts in
    let ends = ends_in p.ends.now in
    let i = c.args.i in
    let there : is_missing p.mask.now i ≡ false = sym c.is_set.ensures ∙ c.if-is_set.false in
    let end : c.end_in-end.result ≡ get_or ends i 0 = c.end_in-end.ensures ∙ sym (end_of_word p.ends.now i (omega arith)) in
    let start : c.start_in-start.result ≡ get_or (0 ∷ ends) i 0 = c.start_in-start.ensures in
    ap Some (c.from_utf8_unchecked.ensures ∙ ap (λ (a : ℕ). slice_range p.body.now a c.end_in-end.result) start ∙ ap (slice_range p.body.now (get_or (0 ∷ ends) i 0)) end)
    ∙ ap (λ b. cond b None (Some (slice_range p.body.now (get_or (0 ∷ ends) i 0) (get_or ends i 0)))) (sym there)
    ∙ sym (text_there p.mask.now ends p.body.now i (omega (arith, length-ends_in p.ends.now)))
