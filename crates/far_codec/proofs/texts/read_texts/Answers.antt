use Rattle.std.proofs.Common.{◌<◌, ◌∷◌, ◌++◌, [], length, map, sym, ap, ◌∙◌, arith}
use Rattle.std.specs.List.{range_with_len}
use Rattle.std.proofs.lemmas.List.FromFn.{map-range_with_len_more}
use Rattle.far_codec.specs.TextForm.{ends_in}
use Rattle.far_codec.specs.TextLaws.{text_at}
use Rattle.far_codec.proofs.TextFormLaws.{text_there, length-ends_in}
use Rattle.far_codec.proofs.texts.read_texts.Goals as goal

pub loop-i-preserved : goal.loop-i-preserved
loop-i-preserved c =
    let p = c.args.parts in
    let ends = ends_in p.ends.now in
    let i = c.loop-i.i in
    let text = text_at p.mask.now ends p.body.now in
    let in_ends : i < length ends = omega (arith, length-ends_in p.ends.now) in
    record {
      read =
          c.push_reserved.ensures.items
          ∙ ap (λ l. l ++ c.in_ok-owned.field-0 ∷ []) c.loop-i.invariant.read
          ∙ ap (λ t. map text (range_with_len 0 i) ++ t ∷ []) (c.in_ok-owned.ensures.equal ∙ c.text_in.ensures ∙ text_there p.mask.now ends p.body.now i in_ends)
          ∙ sym (map-range_with_len_more text 0 i i (omega arith));
      len = omega (arith, c.push_reserved.ensures.len, c.loop-i.invariant.len);
      space = c.push_reserved.ensures.capacity ∙ c.loop-i.invariant.space;
    }
