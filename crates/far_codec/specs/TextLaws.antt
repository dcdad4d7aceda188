-- Decoding a form of texts returns the texts.
-- Internal: no public contract cites it.
use Rattle.std.proofs.Common.{◌≡◌, ℕ, zero, suc, ◌+◌, ◌-◌, ◌*◌, ◌^◌, ◌<◌, ◌≤◌, Bool, false, cond, List, [], ◌∷◌, ◌++◌, length, get_or, map, take, drop, Option, None, Some, refl, sym, ap, ◌∙◌, arith, append_assoc}
use Rattle.std.specs.Prelude.{is_none, slice_range}
use Rattle.std.specs.Int.{w32, to_le_bytes}
use Rattle.std.specs.List.{flat_map, AllByRecursion}
use Rattle.std.specs.Option.{option_map_or}
use Rattle.std.specs.Simd.{first_chunks}
use Rattle.std.proofs.lemmas.List.{get_or-map, length-map, length-append, take_at, drop_at, ext_get_or, take-append-drop, take_more, append-nil}
use Rattle.std.proofs.lemmas.List.Elements.{recursion_from_All}
use Rattle.std.proofs.lemmas.List.Sums.{sum_by-cons}
use Rattle.std.proofs.lemmas.List.FromFn.{get_or-map-range_with_len, length-map-range_with_len}
use Rattle.std.proofs.lemmas.Grind.{flat_map-append}
use Rattle.std.proofs.lemmas.Nat.{from_le_bytes-to_le_bytes_4}
use Rattle.far_types.specs.FormLengths.{text_bytes}
use Rattle.far_codec.specs.FarForm.{mask_of}
use Rattle.far_codec.specs.Reading.{count_in, fields_in, is_missing}
use Rattle.far_codec.specs.MaskLaws.{missing_by_mask}
use Rattle.far_codec.specs.ReadingLaws.{head_read}
use Rattle.far_codec.specs.TextForm.{bytes_of, bytes_before, ends_of, texts_form, texts_of, ends_in, texts_meaning, AreTexts}

-- texts that may be missing
abbrev pub Texts : Type 0
Texts = List (Option (List ℕ))

-- each text has an end
pub length-ends_of : (texts : Texts) → length (ends_of texts) ≡ length texts
length-ends_of texts = length-map-range_with_len (λ i. bytes_before texts (i + 1)) 0 (length texts)

-- the end of text i
pub end_at : (texts : Texts) (i : ℕ) → i < length texts
    → get_or (ends_of texts) i 0 ≡ bytes_before texts (i + 1)
end_at texts i h = get_or-map-range_with_len (λ k. bytes_before texts (k + 1)) 0 (length texts) i i
    0 h (omega arith)

-- the end of the text before text i
pub start_at : (texts : Texts) (i : ℕ) → i ≤ length texts
    → get_or (0 ∷ ends_of texts) i 0 ≡ bytes_before texts i
start_at texts zero h = refl
start_at texts (suc i) h = let next : i + 1 ≡ suc i = omega arith in
    end_at texts i (omega arith) ∙ ap (bytes_before texts) next

-- the bytes of the first i + 1 texts, from the bytes of the first i
pub before_more : (texts : Texts) (i : ℕ) → i < length texts
    → flat_map bytes_of (take (i + 1) texts)
    ≡ flat_map bytes_of (take i texts) ++ bytes_of (get_or texts i None)
before_more texts i h =
    ap (flat_map bytes_of) (take_more texts i None h)
    ∙ flat_map-append bytes_of (take i texts) (get_or texts i None ∷ [])
    ∙ ap (λ l. flat_map bytes_of (take i texts) ++ l)
    (append-nil (bytes_of (get_or texts i None)))

-- the bytes between two ends are the text
pub text_between : (texts : Texts) (i : ℕ) → i < length texts
    → slice_range (flat_map bytes_of texts) (bytes_before texts i) (bytes_before texts (i + 1))
    ≡ bytes_of (get_or texts i None)
text_between texts i h =
    let front = flat_map bytes_of (take i texts) in
    let text = bytes_of (get_or texts i None) in
    let back = flat_map bytes_of (drop (i + 1) texts) in
    let whole : flat_map bytes_of texts ≡ front ++ (text ++ back) =
    ap (flat_map bytes_of) (sym (take-append-drop (i + 1) texts))
    ∙ flat_map-append bytes_of (take (i + 1) texts) (drop (i + 1) texts)
    ∙ ap (λ l. l ++ back) (before_more texts i h) ∙ append_assoc front text back in
    let len : bytes_before texts (i + 1) - bytes_before texts i ≡ length text =
    omega (arith, ap length (before_more texts i h), length-append front text) in
    ap (λ l. take (bytes_before texts (i + 1) - bytes_before texts i) (drop (length front) l))
    whole
    ∙ ap (take (bytes_before texts (i + 1) - bytes_before texts i))
    (drop_at front (text ++ back) (length front) refl)
    ∙ take_at text back (bytes_before texts (i + 1) - bytes_before texts i) (sym len)

-- no end is past the last
pub before_le : (texts : Texts) (i : ℕ)
    → bytes_before texts i ≤ length (flat_map bytes_of texts)
before_le texts i =
    let whole : flat_map bytes_of texts
    ≡ flat_map bytes_of (take i texts) ++ flat_map bytes_of (drop i texts) =
    ap (flat_map bytes_of) (sym (take-append-drop i texts))
    ∙ flat_map-append bytes_of (take i texts) (drop i texts) in
    omega (
      arith,
      ap length whole,
      length-append (flat_map bytes_of (take i texts)) (flat_map bytes_of (drop i texts)),
    )

abbrev option_length : Option (List ℕ) → ℕ
option_length text = option_map_or length text 0

one_length : (text : Option (List ℕ)) → option_length text ≡ length (bytes_of text)
one_length None = refl
one_length (Some text) = refl

-- how many bytes the texts have in total
pub text_bytes_is : (texts : Texts) → text_bytes texts ≡ length (flat_map bytes_of texts)
text_bytes_is [] = refl
text_bytes_is (text ∷ texts) = omega (
  arith,
  sum_by-cons option_length text texts,
  one_length text,
  text_bytes_is texts,
  length-append (bytes_of text) (flat_map bytes_of texts),
)

-- the first chunks of a list that was joined from chunks of one length
pub chunks_before : {A : Type 0} (n : ℕ) (f : A → List ℕ) → ((x : A) → length (f x) ≡ n)
    → (xs : List A) (rest : List ℕ)
    → first_chunks n (length xs) (flat_map f xs ++ rest) ≡ map f xs
chunks_before n f len [] rest = refl
chunks_before n f len (x ∷ xs) rest =
    let more = flat_map f xs ++ rest in
    let whole : flat_map f (x ∷ xs) ++ rest ≡ f x ++ more =
    append_assoc (f x) (flat_map f xs) rest in
    ap (first_chunks n (suc (length xs))) whole
    ∙ ap (λ front. front ∷ first_chunks n (length xs) (drop n (f x ++ more)))
    (take_at (f x) more n (len x))
    ∙ ap (λ l. f x ∷ first_chunks n (length xs) l) (drop_at (f x) more n (len x))
    ∙ ap (λ l. f x ∷ l) (chunks_before n f len xs rest)

ends_each : (ends : List ℕ) → AllByRecursion (λ e. e < 2 ^ 32) ends
    → ends_in (map (to_le_bytes w32) ends) ≡ ends
ends_each [] below = refl
ends_each (e ∷ ends) below =
    ap (λ x. x ∷ ends_in (map (to_le_bytes w32) ends)) (from_le_bytes-to_le_bytes_4 e below.0)
    ∙ ap (λ xs. e ∷ xs) (ends_each ends below.1)

-- decoding the ends returns them
pub ends_again : (texts : Texts) → AreTexts texts
    → ends_in (map (to_le_bytes w32) (ends_of texts)) ≡ ends_of texts
ends_again texts are =
    ends_each (ends_of texts) (recursion_from_All (λ e. e < 2 ^ 32) (ends_of texts) (λ k d h.
    let in_list : k < length texts = omega (arith, length-ends_of texts) in
    let end =
    get_or-map-range_with_len (λ i. bytes_before texts (i + 1)) 0 (length texts) k k d in_list
    (omega arith) in
    omega (arith, end, before_le texts (k + 1), text_bytes_is texts, are.bytes)))

text_again : (missing : Bool) (text : Option (List ℕ)) (bytes : List ℕ)
    → missing ≡ is_none text
    → bytes ≡ bytes_of text → cond missing None (Some bytes) ≡ text
text_again missing None bytes e same = ap (λ b. cond b None (Some bytes)) e
text_again missing (Some text) bytes e same = ap (λ b. cond b None (Some bytes)) e ∙ ap Some same

-- text i of these parts
abbrev pub text_at : List ℕ → List ℕ → List ℕ → ℕ → Option (List ℕ)
text_at mask ends body i = cond (is_missing mask i) None
    (Some (slice_range body (get_or (0 ∷ ends) i 0) (get_or ends i 0)))

-- parts encode a text for each end
pub length-texts_of : (mask ends body : List ℕ)
    → length (texts_of mask ends body) ≡ length ends
length-texts_of mask ends body =
    length-map-range_with_len (text_at mask ends body) 0 (length ends)

-- text i of the texts that parts encode
pub texts_of_at : (mask ends body : List ℕ) (i : ℕ) (d : Option (List ℕ)) → i < length ends
    → get_or (texts_of mask ends body) i d ≡ text_at mask ends body i
texts_of_at mask ends body i d h = get_or-map-range_with_len (text_at mask ends body) 0
    (length ends) i i d h (omega arith)

-- decoding the parts of a form of texts returns the texts
pub texts_again : (texts : Texts)
    → texts_of (mask_of (map is_none texts)) (ends_of texts) (flat_map bytes_of texts) ≡ texts
texts_again texts =
    let flags = map is_none texts in
    let m = mask_of flags in
    let ends = ends_of texts in
    let body = flat_map bytes_of texts in
    let len : length (texts_of m ends body) ≡ length texts =
    length-texts_of m ends body ∙ length-ends_of texts in
    ext_get_or None (texts_of m ends body) texts len (λ i h.
    let in_list : i < length texts = omega (arith, len) in
    let slice : slice_range body (get_or (0 ∷ ends) i 0) (get_or ends i 0)
    ≡ bytes_of (get_or texts i None) =
    ap (λ a. slice_range body a (get_or ends i 0)) (start_at texts i (omega arith))
    ∙ ap (slice_range body (bytes_before texts i)) (end_at texts i in_list)
    ∙ text_between texts i in_list in
    texts_of_at m ends body i None (omega (arith, length-ends_of texts))
    ∙ text_again (is_missing m i) (get_or texts i None)
    (slice_range body (get_or (0 ∷ ends) i 0) (get_or ends i 0))
    (missing_by_mask flags i (omega (arith, length-map texts is_none))
    ∙ get_or-map is_none texts i None false in_list)
    slice)

-- each end has four bytes
pub length-end_bytes : (ends : List ℕ)
    → length (flat_map (to_le_bytes w32) ends) ≡ 4 * length ends
length-end_bytes [] = refl
length-end_bytes (e ∷ ends) = omega (arith, length-end_bytes ends)

-- decoding a form of texts returns the texts
pub texts_read_back : (texts : Texts) → AreTexts texts
    → texts_meaning (texts_form texts) ≡ texts
unfolding texts_form
texts_read_back texts are =
    let flags = map is_none texts in
    let ends = ends_of texts in
    let body = flat_map bytes_of texts in
    let fields = flat_map (to_le_bytes w32) ends ++ body in
    let read = head_read 1 flags fields (omega (arith, length-map texts is_none, are.count)) in
    let count : count_in (texts_form texts) ≡ length ends =
    read.count ∙ length-map texts is_none ∙ sym (length-ends_of texts) in
    ap (λ m. texts_of m
    (ends_in (first_chunks 4 (count_in (texts_form texts)) (fields_in (texts_form texts))))
    (drop (4 * count_in (texts_form texts)) (fields_in (texts_form texts)))) read.mask_is
    ∙ ap (λ l. texts_of (mask_of flags)
    (ends_in (first_chunks 4 (count_in (texts_form texts)) l))
    (drop (4 * count_in (texts_form texts)) l)) read.fields
    ∙ ap (λ n. texts_of (mask_of flags) (ends_in (first_chunks 4 n fields))
    (drop (4 * n) fields))
    count
    ∙ ap (λ w. texts_of (mask_of flags) (ends_in w) (drop (4 * length ends) fields))
    (chunks_before 4 (to_le_bytes w32) (λ e. refl) ends body)
    ∙ ap (λ e. texts_of (mask_of flags) e (drop (4 * length ends) fields)) (ends_again texts are)
    ∙ ap (texts_of (mask_of flags) ends)
    (drop_at (flat_map (to_le_bytes w32) ends) body (4 * length ends) (length-end_bytes ends))
    ∙ texts_again texts
