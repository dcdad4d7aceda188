-- The form of texts after one text changes.
use Rattle.std.proofs.Common.{◌≡◌, ℕ, suc, ◌+◌, ◌-◌, ◌<◌, ◌≤◌, List, [], ◌∷◌, ◌++◌, length, map, set, take, drop, min, max, Option, refl, sym, ap, ◌∙◌, arith, inl, inr}
use Rattle.std.specs.Prelude.{is_none}
use Rattle.std.specs.List.{flat_map}
use Rattle.std.proofs.lemmas.Bool.{cases_lt}
use Rattle.std.proofs.lemmas.List.{length-append, length-map, length-take, get_or-map, get_or_append_left, get_or-append_right, ext_get_or, take-append-drop, take-append-le, take_at, drop_at, drop_all, append-nil, set_split, map-append, take-map, drop-map}
use Rattle.std.proofs.lemmas.List.FromFn.{take-map-range_with_len}
use Rattle.std.proofs.lemmas.Grind.{flat_map-append}
use Rattle.std.proofs.Math.Seq.{take-append-add}
use Rattle.far_codec.specs.Effects.{with_text}
use Rattle.far_codec.specs.Reading.{is_missing, flags_of}
use Rattle.far_codec.specs.TextForm.{bytes_of, bytes_before, ends_of, texts_of}
use Rattle.far_codec.specs.TextLaws.{Texts, length-ends_of, end_at}
use Rattle.far_codec.proofs.ReadingMasks.{length-flags_of}
use Rattle.far_codec.proofs.TextFormLaws.{flags_are}

-- ---- the ends of texts before others

before_left : (xs ys : Texts) (k : ℕ) → k ≤ length xs → bytes_before (xs ++ ys) k ≡ bytes_before xs k
before_left xs ys k h = ap (λ l. length (flat_map bytes_of l)) (take-append-le k xs ys h)

before_right : (xs ys : Texts) (k : ℕ) → bytes_before (xs ++ ys) (length xs + k) ≡ length (flat_map bytes_of xs) + bytes_before ys k
before_right xs ys k =
    ap (λ l. length (flat_map bytes_of l)) (take-append-add xs ys k)
    ∙ ap length (flat_map-append bytes_of xs (take k ys))
    ∙ length-append (flat_map bytes_of xs) (flat_map bytes_of (take k ys))

-- ends, counted from byte n on
abbrev pub from_on : ℕ → List ℕ → List ℕ
from_on start ends = map (λ end. start + end) ends

pub ends_append : (xs ys : Texts) → ends_of (xs ++ ys) ≡ ends_of xs ++ from_on (length (flat_map bytes_of xs)) (ends_of ys)
ends_append xs ys =
    let size = length (flat_map bytes_of xs) in
    let behind = from_on size (ends_of ys) in
    let many : length behind ≡ length ys = length-map (ends_of ys) (λ end. size + end) ∙ length-ends_of ys in
    ext_get_or 0 (ends_of (xs ++ ys)) (ends_of xs ++ behind) (omega (arith, length-ends_of (xs ++ ys), length-append xs ys, length-append (ends_of xs) behind, length-ends_of xs, many)) (λ i h.
    let there : i < length (xs ++ ys) = omega (arith, length-ends_of (xs ++ ys)) in
    elim (cases_lt i (length xs)) [
      | inl lt ↦
          end_at (xs ++ ys) i there
          ∙ before_left xs ys (i + 1) (omega arith)
          ∙ sym (get_or_append_left (ends_of xs) behind 0 i (omega (arith, length-ends_of xs)) ∙ end_at xs i lt)
      | inr ge ↦
          let j = i - length xs in
          let next : i + 1 ≡ length xs + (j + 1) = omega arith in
          let inside : j < length ys = omega (arith, length-append xs ys) in
          end_at (xs ++ ys) i there
          ∙ ap (bytes_before (xs ++ ys)) next
          ∙ before_right xs ys (j + 1)
          ∙ sym (get_or-append_right (ends_of xs) behind (length xs) i 0 (length-ends_of xs) ge ∙ get_or-map (λ end. size + end) (ends_of ys) j 0 0 (omega (arith, length-ends_of ys)) ∙ ap (λ end. size + end) (end_at ys j inside))
    ])

ends_cons : (text : Option (List ℕ)) (ys : Texts) → ends_of (text ∷ ys) ≡ length (bytes_of text) ∷ from_on (length (bytes_of text)) (ends_of ys)
ends_cons text ys =
    ends_append (text ∷ []) ys
    ∙ ap (λ n. n ∷ from_on n (ends_of ys)) (ap length (append-nil (bytes_of text)))

ends_taken : (texts : Texts) (i : ℕ) → i ≤ length texts → take i (ends_of texts) ≡ ends_of (take i texts)
ends_taken texts i h =
    ap (λ l. take i (ends_of l)) (sym (take-append-drop i texts))
    ∙ ap (take i) (ends_append (take i texts) (drop i texts))
    ∙ take_at (ends_of (take i texts)) (from_on (bytes_before texts i) (ends_of (drop i texts))) i (omega (arith, length-ends_of (take i texts), length-take i texts))

pub ends_dropped : (texts : Texts) (i : ℕ) → i ≤ length texts → drop i (ends_of texts) ≡ from_on (bytes_before texts i) (ends_of (drop i texts))
ends_dropped texts i h =
    ap (λ l. drop i (ends_of l)) (sym (take-append-drop i texts))
    ∙ ap (drop i) (ends_append (take i texts) (drop i texts))
    ∙ drop_at (ends_of (take i texts)) (from_on (bytes_before texts i) (ends_of (drop i texts))) i (omega (arith, length-ends_of (take i texts), length-take i texts))

-- ends, counted from another byte on
abbrev pub moved : ℕ → ℕ → List ℕ → List ℕ
moved from to ends = map (λ end. end - from + to) ends

moved_back : (from to : ℕ) (ends : List ℕ) → moved from to (from_on from ends) ≡ from_on to ends
moved_back from to [] = refl
moved_back from to (e ∷ ends) = let first : from + e - from + to ≡ to + e = omega arith in ap (λ n. n ∷ moved from to (from_on from ends)) first ∙ ap (λ l. (to + e) ∷ l) (moved_back from to ends)

from_twice : (a b : ℕ) (ends : List ℕ) → from_on a (from_on b ends) ≡ from_on (a + b) ends
from_twice a b [] = refl
from_twice a b (e ∷ ends) = let first : a + (b + e) ≡ a + b + e = omega arith in ap (λ n. n ∷ from_on a (from_on b ends)) first ∙ ap (λ l. (a + b + e) ∷ l) (from_twice a b ends)

-- the ends after one text replaces the texts from i up to after
pub ends_with : (texts : Texts) (i after : ℕ) (text : Option (List ℕ)) (end : ℕ) → i ≤ length texts → after ≤ length texts → end ≡ bytes_before texts i + length (bytes_of text) → ends_of (take i texts ++ text ∷ drop after texts) ≡ take i (ends_of texts) ++ end ∷ moved (bytes_before texts after) end (drop after (ends_of texts))
ends_with texts i after text end h g is =
    let a = bytes_before texts i in
    let b = bytes_before texts after in
    let n = length (bytes_of text) in
    let rest = ends_of (drop after texts) in
    ends_append (take i texts) (text ∷ drop after texts)
    ∙ ap (λ l. ends_of (take i texts) ++ from_on a l) (ends_cons text (drop after texts))
    ∙ ap (λ l. ends_of (take i texts) ++ (a + n) ∷ l) (from_twice a n rest)
    ∙ ap (λ e. ends_of (take i texts) ++ e ∷ from_on e rest) (sym is)
    ∙ ap (λ l. ends_of (take i texts) ++ end ∷ l) (sym (moved_back b end rest) ∙ ap (moved b end) (sym (ends_dropped texts after g)))
    ∙ ap (λ l. l ++ end ∷ moved b end (drop after (ends_of texts))) (sym (ends_taken texts i h))

-- ---- the bytes

pub body_parts : (texts : Texts) (i : ℕ) → flat_map bytes_of texts ≡ flat_map bytes_of (take i texts) ++ flat_map bytes_of (drop i texts)
body_parts texts i = ap (flat_map bytes_of) (sym (take-append-drop i texts)) ∙ flat_map-append bytes_of (take i texts) (drop i texts)

pub body_before : (texts : Texts) (i : ℕ) → take (bytes_before texts i) (flat_map bytes_of texts) ≡ flat_map bytes_of (take i texts)
body_before texts i = ap (take (bytes_before texts i)) (body_parts texts i) ∙ take_at (flat_map bytes_of (take i texts)) (flat_map bytes_of (drop i texts)) (bytes_before texts i) refl

pub body_behind : (texts : Texts) (i : ℕ) → drop (bytes_before texts i) (flat_map bytes_of texts) ≡ flat_map bytes_of (drop i texts)
body_behind texts i = ap (drop (bytes_before texts i)) (body_parts texts i) ∙ drop_at (flat_map bytes_of (take i texts)) (flat_map bytes_of (drop i texts)) (bytes_before texts i) refl

pub body_with : (texts : Texts) (i after : ℕ) (text : Option (List ℕ)) → flat_map bytes_of (take i texts ++ text ∷ drop after texts) ≡ take (bytes_before texts i) (flat_map bytes_of texts) ++ (bytes_of text ++ drop (bytes_before texts after) (flat_map bytes_of texts))
body_with texts i after text =
    flat_map-append bytes_of (take i texts) (text ∷ drop after texts)
    ∙ ap (λ l. l ++ (bytes_of text ++ flat_map bytes_of (drop after texts))) (sym (body_before texts i))
    ∙ ap (λ l. take (bytes_before texts i) (flat_map bytes_of texts) ++ (bytes_of text ++ l)) (sym (body_behind texts after))

-- ---- the rest after a text that may be the last

pub behind_is : {A : Type 0} (xs : List A) (i after : ℕ) → i ≤ length xs → after ≡ min (i + 1) (length xs) → drop after xs ≡ drop (i + 1) xs
behind_is xs i after h is =
    elim (cases_lt i (length xs)) [
      | inl lt ↦ let same : after ≡ i + 1 = omega (arith, is) in ap (λ n. drop n xs) same
      | inr ge ↦ drop_all after xs (omega (arith, is)) ∙ sym (drop_all (i + 1) xs (omega arith))
    ]

-- ---- the flags

pub flags_with : (mask ends body : List ℕ) (count i : ℕ) (text : Option (List ℕ)) → i ≤ length ends → count ≡ max (length ends) (i + 1) → map is_none (with_text (texts_of mask ends body) i text) ≡ set (flags_of mask count) i (is_none text)
flags_with mask ends body count i text h is =
    let texts = texts_of mask ends body in
    let flags = flags_of mask (length ends) in
    let front : map is_none (take i texts) ≡ take i (flags_of mask count) =
    sym (take-map is_none i texts) ∙ ap (take i) (flags_are mask ends body) ∙ take-map-range_with_len (is_missing mask) 0 (length ends) i h ∙ sym (take-map-range_with_len (is_missing mask) 0 count i (omega (arith, is))) in
    let back : map is_none (drop (i + 1) texts) ≡ drop (suc i) (flags_of mask count) =
    sym (drop-map is_none (i + 1) texts) ∙ ap (drop (i + 1)) (flags_are mask ends body)
    ∙ elim (cases_lt i (length ends)) [
      | inl lt ↦ let same : length ends ≡ count = omega (arith, is) in let next : i + 1 ≡ suc i = omega arith in ap (λ n. drop (i + 1) (flags_of mask n)) same ∙ ap (λ n. drop n (flags_of mask count)) next
      | inr ge ↦ drop_all (i + 1) flags (omega (arith, length-flags_of mask (length ends))) ∙ sym (drop_all (suc i) (flags_of mask count) (omega (arith, is, length-flags_of mask count)))
    ] in
    map-append is_none (take i texts) (text ∷ drop (i + 1) texts)
    ∙ ap (λ l. l ++ is_none text ∷ map is_none (drop (i + 1) texts)) front
    ∙ ap (λ l. take i (flags_of mask count) ++ is_none text ∷ l) back
    ∙ sym (set_split (flags_of mask count) i (is_none text) (omega (arith, is, length-flags_of mask count)))
