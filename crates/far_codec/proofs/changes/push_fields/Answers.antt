use Rattle.std.proofs.Common.{◌≡◌, ◌+◌, ◌<◌, ◌^◌, ◌++◌, ℕ, List, ◌∷◌, length, get_or, take, drop, sym, ap, ◌∙◌, arith}
use Rattle.std.specs.List.{flat_map}
use Rattle.std.specs.Int.{w32, to_le_bytes, from_le_bytes}
use Rattle.std.proofs.lemmas.List.{drop-map}
use Rattle.far_types.specs.FormLengths.{text_bytes}
use Rattle.far_codec.specs.TextForm.{bytes_of, bytes_before, ends_of, ends_in, texts_of}
use Rattle.far_codec.specs.TextLaws.{length-texts_of}
use Rattle.far_codec.proofs.TextFormChanges.{moved, behind_is}
use Rattle.far_codec.proofs.TextFormFieldChanges.{start_is, bytes_with, ends_fit, flat_words, six_written, fields_with}
use Rattle.far_codec.proofs.TextFormLaws.{length-ends_in, ends_are}
use Rattle.far_codec.proofs.changes.push_fields.Goals as goal

pub overflow_cast-end : goal.overflow_cast-end
overflow_cast-end c =
    let p = c.args.parts in
    let ends = ends_in p.ends.now in
    let texts = texts_of p.mask.now ends p.body.now in
    let i = c.args.i in
    let start = start_is p.mask.now ends p.body.now i c.requires.parts (omega (arith, c.requires.there, length-ends_in p.ends.now)) in
    omega (arith, c.start_in-start.ensures, start, ap length c.bytes_in-bytes.ensures.bytes, bytes_with texts i (i + 1) c.args.text.now, c.requires.space)

pub push_moved-requires : goal.push_moved-requires
push_moved-requires c =
    let p = c.args.parts in
    let words = p.ends.now in
    let ends = ends_in words in
    let texts = texts_of p.mask.now ends p.body.now in
    let i = c.args.i in
    let text = c.args.text.now in
    let after = c.min-after.result in
    let many : length texts ≡ length words = length-texts_of p.mask.now ends p.body.now ∙ length-ends_in words in
    let start = start_is p.mask.now ends p.body.now i c.requires.parts (omega (arith, c.requires.there, length-ends_in words)) in
    let old_end : c.start_in-old_end.result ≡ bytes_before texts after = c.start_in-old_end.ensures ∙ start_is p.mask.now ends p.body.now after c.requires.parts (omega (arith, c.min-after.ensures, length-ends_in words)) in
    let end : c.start_in-start.result + length c.bytes_in-bytes.result.now ≡ bytes_before texts i + length (bytes_of text) = omega (arith, c.start_in-start.ensures, start, ap length c.bytes_in-bytes.ensures.bytes) in
    let back = behind_is texts i after (omega (arith, c.requires.there, many)) (omega (arith, c.min-after.ensures, many)) in
    let space : text_bytes (take i texts ++ text ∷ drop after texts) < 2 ^ 32 = omega (arith, c.requires.space, ap (λ l. text_bytes (take i texts ++ text ∷ l)) back) in
    let behind : ends_in c.split_at-2.result.1.now ≡ drop after (ends_of texts) =
    ap ends_in c.split_at-2.ensures.back ∙ sym (drop-map (from_le_bytes w32) after words) ∙ ap (drop after) (sym (ends_are p.mask.now ends p.body.now c.requires.parts)) in
    rw (behind, old_end) (ends_fit texts i after (c.start_in-start.result + length c.bytes_in-bytes.result.now) text (omega (arith, c.min-after.ensures, many)) end space)

pub returns-clause-written : goal.returns-clause-written
returns-clause-written c =
    let p = c.args.parts in
    let words = p.ends.now in
    let ends = ends_in words in
    let body = p.body.now in
    let old = c.args.form.now.items in
    let i = c.args.i in
    let le = to_le_bytes w32 in
    let after = c.min-after.result in
    let text = c.args.text.now in
    let bytes = c.bytes_in-bytes.result.now in
    let end = c.start_in-start.result + length bytes in
    let a = get_or (0 ∷ ends) i 0 in
    let b = get_or (0 ∷ ends) after 0 in
    let one : c.extend_from_slice.new.self.items ≡ old ++ flat_map le (take i ends) =
    c.in_ok-extend_from_slice.ensures.items ∙ ap (λ (l : List ℕ). old ++ l) (c.as_flattened.ensures.value ∙ ap (flat_map (λ w. w)) c.split_at.ensures.front ∙ flat_words words ends i c.requires.words) in
    let two : c.extend_from_slice-2.new.self.items ≡ (old ++ flat_map le (take i ends)) ++ le end =
    c.in_ok-extend_from_slice-2.ensures.items ∙ ap (λ (l : List ℕ). l ++ c.to_le_bytes.result) one ∙ ap (λ (l : List ℕ). (old ++ flat_map le (take i ends)) ++ l) c.to_le_bytes.ensures in
    let behind : moved c.start_in-old_end.result end (ends_in c.split_at-2.result.1.now) ≡ moved b end (drop after ends) =
    ap (λ n. moved n end (ends_in c.split_at-2.result.1.now)) c.start_in-old_end.ensures ∙ ap (moved b end) (ap ends_in c.split_at-2.ensures.back ∙ sym (drop-map (from_le_bytes w32) after words)) in
    let three : c.push_moved.new.form.items ≡ ((old ++ flat_map le (take i ends)) ++ le end) ++ flat_map le (moved b end (drop after ends)) =
    c.in_ok-push_moved.ensures ∙ ap (λ (l : List ℕ). l ++ flat_map le (moved c.start_in-old_end.result end (ends_in c.split_at-2.result.1.now))) two ∙ ap (λ l. ((old ++ flat_map le (take i ends)) ++ le end) ++ flat_map le l) behind in
    let before : c.split_at-3.result.0.now ≡ take a body = c.split_at-3.ensures.front ∙ ap (λ (n : ℕ). take n body) c.start_in-start.ensures in
    let last : c.split_at-4.result.1.now ≡ drop b body = c.split_at-4.ensures.back ∙ ap (λ (n : ℕ). drop n body) c.start_in-old_end.ensures in
    let front = ((old ++ flat_map le (take i ends)) ++ le end) ++ flat_map le (moved b end (drop after ends)) in
    let five : c.extend_from_slice-4.new.self.items ≡ (front ++ take a body) ++ bytes_of text =
    c.in_ok-extend_from_slice-4.ensures.items
    ∙ ap (λ (l : List ℕ). l ++ bytes) (c.in_ok-extend_from_slice-3.ensures.items ∙ ap (λ (l : List ℕ). l ++ c.split_at-3.result.0.now) three ∙ ap (λ (l : List ℕ). front ++ l) before)
    ∙ ap (λ (l : List ℕ). (front ++ take a body) ++ l) c.bytes_in-bytes.ensures.bytes in
    c.in_ok-extend_from_slice-5.ensures.items
    ∙ ap (λ (l : List ℕ). l ++ c.split_at-4.result.1.now) five
    ∙ ap (λ (l : List ℕ). ((front ++ take a body) ++ bytes_of text) ++ l) last
    ∙ six_written old (flat_map le (take i ends)) (le end) (flat_map le (moved b end (drop after ends))) (take a body) (bytes_of text) (drop b body)
    ∙ ap (λ l. old ++ l) (fields_with p.mask.now ends body i after end text c.requires.parts (omega (arith, c.requires.there, length-ends_in words)) (omega (arith, c.min-after.ensures, length-ends_in words)) (omega (arith, c.start_in-start.ensures, ap length c.bytes_in-bytes.ensures.bytes)))
