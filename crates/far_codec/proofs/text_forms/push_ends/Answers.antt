use Rattle.std.proofs.Common.{◌≡◌, ◌+◌, ◌<◌, ◌++◌, ◌∷◌, [], ℕ, List, length, get_or, map, take, Option, sym, ap, ◌∙◌, arith}
use Rattle.std.specs.List.{flat_map, range_with_len}
use Rattle.std.specs.Int.{w32, to_le_bytes}
use Rattle.std.proofs.lemmas.List.{length-append}
use Rattle.std.proofs.lemmas.Grind.{flat_map-append}
use Rattle.std.proofs.lemmas.List.FromFn.{map-range_with_len_more}
use Rattle.far_codec.specs.TextForm.{bytes_of, bytes_before}
use Rattle.far_codec.specs.TextLaws.{Texts, before_le, text_bytes_is}
use Rattle.far_codec.proofs.Chunks.{written_more, taken_more}
use Rattle.far_codec.proofs.text_forms.push_ends.Goals as goal

-- the end of one more text
end_more : (texts : Texts) (i end : ℕ) (text : Option (List ℕ)) (bytes : List ℕ) → i < length texts → text ≡ get_or texts i text → end ≡ bytes_before texts i → bytes ≡ bytes_of text → end + length bytes ≡ bytes_before texts (i + 1)
end_more texts i end text bytes h item e is =
    let more : flat_map bytes_of (take (i + 1) texts) ≡ flat_map bytes_of (take i texts) ++ flat_map bytes_of (text ∷ []) =
    ap (flat_map bytes_of) (taken_more texts i text h item) ∙ flat_map-append bytes_of (take i texts) (text ∷ []) in
    omega (arith, e, ap length is, ap length more, length-append (flat_map bytes_of (take i texts)) (flat_map bytes_of (text ∷ [])), length-append (bytes_of text) [])

pub overflow_add-end : goal.overflow_add-end
overflow_add-end c =
    let texts = c.args.texts.now in
    let i = c.loop-text.text-index in
    let end = end_more texts i c.loop-text.end c.text-item.result c.bytes_in.result.now c.loop-text-test.true c.text-item.is c.loop-text.invariant.end_is c.bytes_in.ensures.bytes in
    omega (arith, end, before_le texts (i + 1), text_bytes_is texts, c.requires)

pub overflow_cast-end : goal.overflow_cast-end
overflow_cast-end c =
    let texts = c.args.texts.now in
    let i = c.loop-text.text-index in
    let end = end_more texts i c.loop-text.end c.text-item.result c.bytes_in.result.now c.loop-text-test.true c.text-item.is c.loop-text.invariant.end_is c.bytes_in.ensures.bytes in
    omega (arith, end, before_le texts (i + 1), text_bytes_is texts, c.requires)

pub loop-text-preserved : goal.loop-text-preserved
loop-text-preserved c =
    let texts = c.args.texts.now in
    let i = c.loop-text.text-index in
    let form = c.args.form.now.items in
    let end = end_more texts i c.loop-text.end c.text-item.result c.bytes_in.result.now c.loop-text-test.true c.text-item.is c.loop-text.invariant.end_is c.bytes_in.ensures.bytes in
    let ends = map (λ k. bytes_before texts (k + 1)) (range_with_len 0 i) in
    record {
      end_is = end;
      written =
          c.in_ok-extend_from_slice.ensures.items
          ∙ written_more (to_le_bytes w32) form c.loop-text.form.items c.to_le_bytes.result ends (bytes_before texts (i + 1) ∷ []) c.loop-text.invariant.written (c.to_le_bytes.ensures ∙ ap (to_le_bytes w32) end)
          ∙ ap (λ l. form ++ flat_map (to_le_bytes w32) l) (sym (map-range_with_len_more (λ k. bytes_before texts (k + 1)) 0 i i (omega arith)));
    }
