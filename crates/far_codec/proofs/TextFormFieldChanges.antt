-- The ends and the bytes of texts after one changes, from the parts of their form.
use Rattle.std.proofs.Common.{◌≡◌, ℕ, ◌+◌, ◌-◌, ◌<◌, ◌≤◌, ◌^◌, List, [], ◌∷◌, ◌++◌, length, get_or, map, take, drop, min, All, Option, sym, ap, ◌∙◌, append_assoc, arith}
use Rattle.std.specs.Int.{w32, to_le_bytes, from_le_bytes}
use Rattle.std.specs.List.{flat_map}
use Rattle.std.proofs.lemmas.List.{length-append, length-map, get_or-map, map-append, append-nil, take_all, drop_all, take_more, take-map}
use Rattle.std.proofs.lemmas.List.Folds.{flat_map-map}
use Rattle.std.proofs.lemmas.Grind.{flat_map-append}
use Rattle.far_types.specs.FormLengths.{text_bytes}
use Rattle.far_codec.specs.Effects.{with_text}
use Rattle.far_codec.specs.TextForm.{bytes_of, bytes_before, ends_of, texts_of, ends_in, AreTextParts}
use Rattle.far_codec.specs.TextLaws.{Texts, length-ends_of, end_at, start_at, before_le, text_bytes_is, length-texts_of}
use Rattle.far_codec.proofs.TextFormChanges.{moved, ends_dropped, ends_with, body_with, behind_is}
use Rattle.far_codec.proofs.TextFormLaws.{ends_are, body_is}

-- one more end
pub moved_more : (words : List (List ℕ)) (k from to end : ℕ) → k < length words → end ≡ from_le_bytes w32 (get_or words k []) → moved from to (ends_in (take (k + 1) words)) ≡ moved from to (ends_in (take k words)) ++ (end - from + to) ∷ []
moved_more words k from to end h is =
    let word = get_or words k [] in
    ap (λ l. moved from to (ends_in l)) (take_more words k [] h)
    ∙ ap (moved from to) (map-append (from_le_bytes w32) (take k words) (word ∷ []))
    ∙ map-append (λ e. e - from + to) (ends_in (take k words)) (from_le_bytes w32 word ∷ [])
    ∙ ap (λ e. moved from to (ends_in (take k words)) ++ (e - from + to) ∷ []) (sym is)

-- where text i begins
pub start_is : (mask ends body : List ℕ) (i : ℕ) → AreTextParts mask ends body → i ≤ length ends → get_or (0 ∷ ends) i 0 ≡ bytes_before (texts_of mask ends body) i
start_is mask ends body i parts h =
    ap (λ l. get_or (0 ∷ l) i 0) (sym (ends_are mask ends body parts)) ∙ start_at (texts_of mask ends body) i (omega (arith, length-texts_of mask ends body))

-- how many bytes the texts have after one text replaces the texts from i up to after
pub bytes_with : (texts : Texts) (i after : ℕ) (text : Option (List ℕ)) → text_bytes (take i texts ++ text ∷ drop after texts) ≡ bytes_before texts i + length (bytes_of text) + length (flat_map bytes_of (drop after texts))
bytes_with texts i after text =
    omega (
      arith,
      text_bytes_is (take i texts ++ text ∷ drop after texts),
      ap length (flat_map-append bytes_of (take i texts) (text ∷ drop after texts)),
      length-append (flat_map bytes_of (take i texts)) (bytes_of text ++ flat_map bytes_of (drop after texts)),
      length-append (bytes_of text) (flat_map bytes_of (drop after texts)),
    )

-- the ends after the text fit four bytes when counted anew
pub ends_fit : (texts : Texts) (i after end : ℕ) (text : Option (List ℕ)) → after ≤ length texts → end ≡ bytes_before texts i + length (bytes_of text) → text_bytes (take i texts ++ text ∷ drop after texts) < 2 ^ 32 → All (λ e. (bytes_before texts after ≤ e) × (e - bytes_before texts after + end < 2 ^ 32)) (drop after (ends_of texts))
ends_fit texts i after end text h is space k d inside =
    let b = bytes_before texts after in
    let back = drop after texts in
    let shown = ends_dropped texts after h in
    let many : k < length back = omega (arith, ap length shown, length-map (ends_of back) (λ e. b + e), length-ends_of back) in
    let e : get_or (drop after (ends_of texts)) k d ≡ b + bytes_before back (k + 1) =
    ap (λ l. get_or l k d) shown ∙ get_or-map (λ e. b + e) (ends_of back) k 0 d (omega (arith, length-ends_of back)) ∙ ap (λ n. b + n) (end_at back k many) in
    (omega (arith, e), omega (arith, e, is, before_le back (k + 1), bytes_with texts i after text, space))

-- the words of ends are their bytes
pub flat_words : (words : List (List ℕ)) (ends : List ℕ) (i : ℕ) → words ≡ map (to_le_bytes w32) ends → flat_map (λ word. word) (take i words) ≡ flat_map (to_le_bytes w32) (take i ends)
flat_words words ends i is =
    ap (λ l. flat_map (λ word. word) (take i l)) is ∙ ap (flat_map (λ word. word)) (take-map (to_le_bytes w32) i ends) ∙ flat_map-map (λ word. word) (to_le_bytes w32) (take i ends)

-- six lists that are appended one by one
pub six_written : (old a b c d e f : List ℕ) → (((((old ++ a) ++ b) ++ c) ++ d) ++ e) ++ f ≡ old ++ ((a ++ (b ++ c)) ++ (d ++ (e ++ f)))
six_written old a b c d e f =
    let front = ((old ++ a) ++ b) ++ c in
    append_assoc (front ++ d) e f
    ∙ append_assoc front d (e ++ f)
    ∙ ap (λ l. l ++ (d ++ (e ++ f))) (append_assoc (old ++ a) b c ∙ append_assoc old a (b ++ c))
    ∙ append_assoc old (a ++ (b ++ c)) (d ++ (e ++ f))

-- the ends and the bytes, part by part
pub fields_with : (mask ends body : List ℕ) (i after end : ℕ) (text : Option (List ℕ)) → AreTextParts mask ends body → i ≤ length ends → after ≡ min (i + 1) (length ends) → end ≡ get_or (0 ∷ ends) i 0 + length (bytes_of text) → (flat_map (to_le_bytes w32) (take i ends) ++ (to_le_bytes w32 end ++ flat_map (to_le_bytes w32) (moved (get_or (0 ∷ ends) after 0) end (drop after ends)))) ++ (take (get_or (0 ∷ ends) i 0) body ++ (bytes_of text ++ drop (get_or (0 ∷ ends) after 0) body)) ≡ flat_map (to_le_bytes w32) (ends_of (with_text (texts_of mask ends body) i text)) ++ flat_map bytes_of (with_text (texts_of mask ends body) i text)
fields_with mask ends body i after end text parts h is end_is =
    let texts = texts_of mask ends body in
    let le = to_le_bytes w32 in
    let many : length texts ≡ length ends = length-texts_of mask ends body in
    let a : get_or (0 ∷ ends) i 0 ≡ bytes_before texts i = start_is mask ends body i parts h in
    let b : get_or (0 ∷ ends) after 0 ≡ bytes_before texts after = start_is mask ends body after parts (omega (arith, is)) in
    let back : drop after texts ≡ drop (i + 1) texts = behind_is texts i after (omega (arith, many)) (omega (arith, is, many)) in
    let changed = take i texts ++ text ∷ drop after texts in
    let ends_same : take i ends ++ end ∷ moved (get_or (0 ∷ ends) after 0) end (drop after ends) ≡ ends_of changed =
    ap (λ n. take i ends ++ end ∷ moved n end (drop after ends)) b
    ∙ ap (λ l. take i l ++ end ∷ moved (bytes_before texts after) end (drop after l)) (sym (ends_are mask ends body parts))
    ∙ sym (ends_with texts i after text end (omega (arith, many)) (omega (arith, is, many)) (omega (arith, end_is, a))) in
    let body_same : take (get_or (0 ∷ ends) i 0) body ++ (bytes_of text ++ drop (get_or (0 ∷ ends) after 0) body) ≡ flat_map bytes_of changed =
    ap (λ n. take n body ++ (bytes_of text ++ drop (get_or (0 ∷ ends) after 0) body)) a
    ∙ ap (λ n. take (bytes_before texts i) body ++ (bytes_of text ++ drop n body)) b
    ∙ ap (λ l. take (bytes_before texts i) l ++ (bytes_of text ++ drop (bytes_before texts after) l)) (sym (body_is mask ends body parts))
    ∙ sym (body_with texts i after text) in
    ap (λ l. l ++ (take (get_or (0 ∷ ends) i 0) body ++ (bytes_of text ++ drop (get_or (0 ∷ ends) after 0) body))) (sym (flat_map-append le (take i ends) (end ∷ moved (get_or (0 ∷ ends) after 0) end (drop after ends))) ∙ ap (flat_map le) ends_same)
    ∙ ap (λ l. flat_map le (ends_of changed) ++ l) body_same
    ∙ ap (λ l. flat_map le (ends_of (take i texts ++ text ∷ l)) ++ flat_map bytes_of (take i texts ++ text ∷ l)) back

shape : (e l b t : List ℕ) → (e ++ (l ++ [])) ++ (b ++ (t ++ [])) ≡ e ++ (l ++ (b ++ t))
shape e l b t = ap (λ x. (e ++ x) ++ (b ++ (t ++ []))) (append-nil l) ∙ ap (λ x. (e ++ l) ++ (b ++ x)) (append-nil t) ∙ append_assoc e l (b ++ t)

-- all words of ends are their bytes
pub flat_whole : (words : List (List ℕ)) (ends : List ℕ) → words ≡ map (to_le_bytes w32) ends → flat_map (λ word. word) words ≡ flat_map (to_le_bytes w32) ends
flat_whole words ends is = ap (flat_map (λ word. word)) is ∙ flat_map-map (λ word. word) (to_le_bytes w32) ends

-- the ends and the bytes after a text is appended
pub fields_next : (mask ends body : List ℕ) (n end : ℕ) (text : Option (List ℕ)) → AreTextParts mask ends body → n ≡ length ends → end ≡ length body + length (bytes_of text) → flat_map (to_le_bytes w32) ends ++ (to_le_bytes w32 end ++ (body ++ bytes_of text)) ≡ flat_map (to_le_bytes w32) (ends_of (with_text (texts_of mask ends body) n text)) ++ flat_map bytes_of (with_text (texts_of mask ends body) n text)
fields_next mask ends body n end text parts many end_is =
    let le = to_le_bytes w32 in
    let a = get_or (0 ∷ ends) n 0 in
    let whole : a ≡ length body = ap (λ k. get_or (0 ∷ ends) k 0) many ∙ parts.whole in
    let t = bytes_of text in
    let l = le end in
    sym (shape (flat_map le ends) l body t)
    ∙ ap (λ x. (flat_map le x ++ (l ++ [])) ++ (body ++ (t ++ []))) (sym (take_all n ends (omega (arith, many))))
    ∙ ap (λ x. (flat_map le (take n ends) ++ (l ++ flat_map le (moved a end x))) ++ (body ++ (t ++ []))) (sym (drop_all n ends (omega (arith, many))))
    ∙ ap (λ x. (flat_map le (take n ends) ++ (l ++ flat_map le (moved a end (drop n ends)))) ++ (x ++ (t ++ []))) (sym (take_all a body (omega (arith, whole))))
    ∙ ap (λ x. (flat_map le (take n ends) ++ (l ++ flat_map le (moved a end (drop n ends)))) ++ (take a body ++ (t ++ x))) (sym (drop_all a body (omega (arith, whole))))
    ∙ fields_with mask ends body n n end text parts (omega (arith, many)) (omega (arith, many)) (omega (arith, end_is, whole))

-- four lists that are appended to a prefix one by one
pub five_written : (front e l b t : List ℕ) → (((front ++ e) ++ l) ++ b) ++ t ≡ front ++ (e ++ (l ++ (b ++ t)))
five_written front e l b t =
    append_assoc ((front ++ e) ++ l) b t ∙ append_assoc (front ++ e) l (b ++ t) ∙ append_assoc front e (l ++ (b ++ t))
