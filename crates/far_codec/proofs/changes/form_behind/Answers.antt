use Rattle.std.proofs.Common.{◌≡◌, ◌+◌, ◌++◌, ◌∷◌, [], ℕ, false, List, Option, length, map, refl, sym, ap, ◌∙◌, arith}
use Rattle.std.specs.Prelude.{is_none}
use Rattle.std.specs.Int.{w32, to_le_bytes}
use Rattle.std.specs.List.{flat_map}
use Rattle.std.proofs.lemmas.List.{append-nil, length-append, length-map}
use Rattle.far_types.specs.FormLengths.{text_bytes}
use Rattle.far_codec.specs.Effects.{with_text}
use Rattle.far_codec.specs.FarForm.{version, head, some_missing}
use Rattle.far_codec.specs.MaskLaws.{no_mask}
use Rattle.far_codec.specs.TextForm.{bytes_of, texts_form, texts_of, ends_in, AreTextParts}
use Rattle.far_codec.specs.TextLaws.{Texts}
use Rattle.far_codec.proofs.TextFormFieldChanges.{flat_whole, fields_next, five_written}
use Rattle.far_codec.proofs.TextFormLengthChanges.{tells, missing_any, bytes_next}
use Rattle.far_codec.proofs.EffectsLaws.{are_with, with_is_next, form_made}
use Rattle.far_codec.proofs.FarFormHeads.{front_made, head_is}
use Rattle.far_codec.proofs.FarFormLaws.{texts_form_length}
use Rattle.far_codec.proofs.FormsMeaning.{is_texts_form, texts_meant}
use Rattle.far_codec.proofs.TextFormLaws.{length-ends_in}
use Rattle.far_codec.proofs.changes.form_behind.Goals as goal

-- how many texts there are, and how many bytes they have
record Counts (words : List (List ℕ)) (body : List ℕ) (text : Option (List ℕ)) (changed : Texts) : Type 0 where
  many : length changed ≡ length words + 1
  bytes : text_bytes changed ≡ length body + length (bytes_of text)

counts : (mask : List ℕ) (words : List (List ℕ)) (body : List ℕ) (text : Option (List ℕ)) → AreTextParts mask (ends_in words) body → Counts words body text (with_text (texts_of mask (ends_in words) body) (length words) text)
counts mask words body text parts =
    let made = texts_of mask (ends_in words) body in
    let known = tells mask words body made parts refl in
    let next = with_is_next made made (length words) text refl known.count in
    record {
      many = omega (arith, ap length next, length-append made (text ∷ []), known.count);
      bytes = omega (arith, ap text_bytes next, bytes_next made text, known.bytes);
    }

pub overflow_add-end : goal.overflow_add-end
overflow_add-end c =
    let p = c.args.parts in
    let n = counts p.mask.now p.ends.now p.body.now c.args.text.now c.requires.parts in
    omega (arith, n.bytes, ap length c.bytes_in-bytes.ensures.bytes, c.requires.space)

pub overflow_cast-end : goal.overflow_cast-end
overflow_cast-end c =
    let p = c.args.parts in
    let n = counts p.mask.now p.ends.now p.body.now c.args.text.now c.requires.parts in
    omega (arith, n.bytes, ap length c.bytes_in-bytes.ensures.bytes, c.requires.space)

spelled : (c : goal.In_ok-extend_from_slice-5) → c.extend_from_slice-5.new.self.items ≡ texts_form (with_text (texts_of c.args.parts.mask.now (ends_in c.args.parts.ends.now) c.args.parts.body.now) (length c.args.parts.ends.now) c.args.text.now)
spelled c =
    let p = c.args.parts in
    let words = p.ends.now in
    let ends = ends_in words in
    let body = p.body.now in
    let text = c.args.text.now in
    let le = to_le_bytes w32 in
    let changed = with_text (texts_of p.mask.now ends body) (length words) text in
    let flags = map is_none changed in
    let bytes = c.bytes_in-bytes.result.now in
    let end = length body + length bytes in
    let none : some_missing flags ≡ false = sym (missing_any changed) ∙ c.requires.there in
    let count : length words + 1 ≡ length flags = omega (arith, length-map changed is_none, (counts p.mask.now words body text c.requires.parts).many) in
    let six = front_made 1 1 (length words + 1) flags c.to_le_bytes-count.result false refl (sym none) c.to_le_bytes-count.ensures count in
    let first = version flags ∷ 1 ∷ le (length flags) in
    let start = c.in_ok-form.form.items in
    let front = c.extend_from_slice.new.self.items in
    let front_is : front ≡ start ++ head 1 flags =
    c.in_ok-extend_from_slice.ensures.items
    ∙ ap (λ (l : List ℕ). start ++ l) (six ∙ sym (append-nil first) ∙ ap (λ (m : List ℕ). first ++ m) (sym (no_mask flags none)) ∙ sym (head_is 1 flags)) in
    let two : c.extend_from_slice-2.new.self.items ≡ front ++ flat_map le ends =
    c.in_ok-extend_from_slice-2.ensures.items ∙ ap (λ (l : List ℕ). front ++ l) (c.as_flattened.ensures.value ∙ flat_whole words ends c.requires.words) in
    let three : c.extend_from_slice-3.new.self.items ≡ (front ++ flat_map le ends) ++ le end =
    c.in_ok-extend_from_slice-3.ensures.items ∙ ap (λ (l : List ℕ). l ++ c.to_le_bytes.result) two ∙ ap (λ (l : List ℕ). (front ++ flat_map le ends) ++ l) c.to_le_bytes.ensures in
    let four : c.extend_from_slice-4.new.self.items ≡ ((front ++ flat_map le ends) ++ le end) ++ body =
    c.in_ok-extend_from_slice-4.ensures.items ∙ ap (λ (l : List ℕ). l ++ body) three in
    let five : c.extend_from_slice-5.new.self.items ≡ (((front ++ flat_map le ends) ++ le end) ++ body) ++ bytes_of text =
    c.in_ok-extend_from_slice-5.ensures.items ∙ ap (λ (l : List ℕ). l ++ bytes) four ∙ ap (λ (l : List ℕ). (((front ++ flat_map le ends) ++ le end) ++ body) ++ l) c.bytes_in-bytes.ensures.bytes in
    let written =
    five
    ∙ five_written front (flat_map le ends) (le end) body (bytes_of text)
    ∙ ap (λ (l : List ℕ). front ++ l) (fields_next p.mask.now ends body (length words) end text c.requires.parts (sym (length-ends_in words)) (ap (λ (l : List ℕ). length body + length l) c.bytes_in-bytes.ensures.bytes)) in
    form_made changed c.extend_from_slice-5.new.self.items start front flags written front_is c.in_ok-form.ensures.items refl

pub returns-clause-form : goal.returns-clause-form
returns-clause-form c =
    let p = c.args.parts in
    let n = length p.ends.now in
    let texts = texts_of p.mask.now (ends_in p.ends.now) p.body.now in
    is_texts_form c.extend_from_slice-5.new.self.items (with_text texts n c.args.text.now) (are_with texts n c.args.text.now c.requires.texts c.bytes_in-bytes.ensures.utf8 c.requires.space) (spelled c)

pub returns-clause-texts : goal.returns-clause-texts
returns-clause-texts c =
    let p = c.args.parts in
    let n = length p.ends.now in
    let texts = texts_of p.mask.now (ends_in p.ends.now) p.body.now in
    texts_meant c.extend_from_slice-5.new.self.items (with_text texts n c.args.text.now) (are_with texts n c.args.text.now c.requires.texts c.bytes_in-bytes.ensures.utf8 c.requires.space) (spelled c)

pub returns-clause-length : goal.returns-clause-length
returns-clause-length c =
    let p = c.args.parts in
    ap length (spelled c) ∙ texts_form_length (with_text (texts_of p.mask.now (ends_in p.ends.now) p.body.now) (length p.ends.now) c.args.text.now)
