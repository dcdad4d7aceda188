-- Which bytes are the far form of numbers, none of which is missing.
use Rattle.std.proofs.Common.{◌≡◌, ℕ, zero, suc, ◌+◌, ◌*◌, ◌^◌, ◌<◌, ◌≤◌, ℤ, List, [], ◌∷◌, ◌++◌, length, get_or, map, take, drop, Some, FitsSigned, refl, sym, ap, subst, ◌∙◌, arith, inl, inr}
use Rattle.std.specs.Int.{w32, w64, to_le_bytes, from_le_bytes}
use Rattle.std.specs.List.{flat_map, AllByRecursion}
use Rattle.std.specs.Simd.{first_chunks}
use Rattle.std.proofs.lemmas.Bool.{cases_lt}
use Rattle.std.proofs.lemmas.List.{length-map, length-take, length-drop, append-nil, nil_from_length, take-append-drop, get_or-take, get_or-drop, get_or_past, drop_at}
use Rattle.std.proofs.lemmas.Nat.{le_bytes_8}
use Rattle.std.proofs.lemmas.Int.{of_z-to_z}
use Rattle.std.proofs.Math.Facts.{sfits_to_z}
use Rattle.far_codec.specs.FarForm.{number_bytes}
use Rattle.far_codec.specs.PlainNumbers.{plain_form, IsPlain}
use Rattle.far_codec.specs.Reading.{number_of}
use Rattle.far_codec.specs.PlainLaws.{plain_form_is, words_again, length-numbers}
use Rattle.far_codec.proofs.Chunks.{chunks_joined}

abbrev pub IsBytes : List ℕ → Type 0
IsBytes bytes = (i : ℕ) → get_or bytes i 0 < 256

pub IsBytes-drop : (n : ℕ) (bytes : List ℕ) → IsBytes bytes → IsBytes (drop n bytes)
IsBytes-drop n bytes h i = rw get_or-drop (h (n + i))

pub IsBytes-take : (n : ℕ) (bytes : List ℕ) → IsBytes bytes → IsBytes (take n bytes)
IsBytes-take n bytes h i =
    elim (cases_lt i n) [
      | inl lt ↦ rw (get_or-take n bytes i 0 lt) (h i)
      | inr le ↦ rw (get_or_past (take n bytes) i 0 (omega (arith, length-take n bytes))) (omega arith)
    ]

pub IsBytes-behind : (bytes front back : List ℕ) → IsBytes bytes → bytes ≡ front ++ back → IsBytes back
IsBytes-behind bytes front back fits e = subst IsBytes (ap (drop (length front)) e ∙ drop_at front back (length front) refl) (IsBytes-drop (length front) bytes fits)

value_below : (bytes : List ℕ) → IsBytes bytes → from_le_bytes w64 bytes < 2 ^ 64
value_below bytes fits = omega (arith, fits 0, fits 1, fits 2, fits 3, fits 4, fits 5, fits 6, fits 7)

-- encoding the number that eight bytes encode returns the bytes
pub word_again : (word : List ℕ) → length word ≡ 8 → IsBytes word → number_bytes (Some (number_of word)) ≡ word
unfolding number_bytes number_of
word_again word len fits = ap (to_le_bytes w64) (of_z-to_z w64 (from_le_bytes w64 word) (value_below word fits)) ∙ le_bytes_8 word (from_le_bytes w64 word) len fits refl

pub number_fits : (word : List ℕ) → IsBytes word → FitsSigned w64 (number_of word)
unfolding number_of
number_fits word fits = sfits_to_z {w = w64} {n = from_le_bytes w64 word} (let lt = value_below word fits in omega arith)

pub numbers_fit : (k : ℕ) (bytes : List ℕ) → IsBytes bytes → AllByRecursion (FitsSigned w64) (map number_of (first_chunks 8 k bytes))
numbers_fit zero bytes fits = tt
numbers_fit (suc k) bytes fits = (number_fits (take 8 bytes) (IsBytes-take 8 bytes fits), numbers_fit k (drop 8 bytes) (IsBytes-drop 8 bytes fits))

pub length-first_chunks : {X : Type 0} (n k : ℕ) (xs : List X) → length (first_chunks n k xs) ≡ k
length-first_chunks n zero xs = refl
length-first_chunks n (suc k) xs = ap suc (length-first_chunks n k (drop n xs))

-- encoding the numbers that words encode returns the words
pub words_written : (k : ℕ) (bytes : List ℕ) → IsBytes bytes → length bytes ≡ k * 8 → flat_map (λ x. number_bytes (Some x)) (map number_of (first_chunks 8 k bytes)) ≡ flat_map (λ x. x) (first_chunks 8 k bytes)
words_written zero bytes fits len = refl
words_written (suc k) bytes fits len =
    ap (λ front. front ++ flat_map (λ x. number_bytes (Some x)) (map number_of (first_chunks 8 k (drop 8 bytes)))) (word_again (take 8 bytes) (omega (arith, length-take 8 bytes)) (IsBytes-take 8 bytes fits))
    ∙ ap (λ rest. take 8 bytes ++ rest) (words_written k (drop 8 bytes) (IsBytes-drop 8 bytes fits) (omega (arith, length-drop 8 bytes)))

drop_past : {X : Type 0} (n : ℕ) (xs : List X) → length xs ≤ n → drop n xs ≡ []
drop_past n xs h = nil_from_length (drop n xs) (omega (arith, length-drop n xs))

-- such bytes are the form of the numbers that the words encode
pub plain_found : (bytes : List ℕ) (words : List (List ℕ)) → IsBytes bytes → IsPlain bytes words → bytes ≡ plain_form (map number_of words)
plain_found bytes words fits plain =
    let n = length words in
    let body = drop 6 bytes in
    let long : length body ≡ n * 8 = omega (arith, length-drop 6 bytes, plain.len) in
    let written : flat_map (λ x. number_bytes (Some x)) (map number_of words) ≡ body =
    ap (λ (l : List (List ℕ)). flat_map (λ x. number_bytes (Some x)) (map number_of l)) plain.words_are
    ∙ words_written n body (IsBytes-drop 6 bytes fits) long
    ∙ sym (append-nil (flat_map (λ x. x) (first_chunks 8 n body)))
    ∙ ap (λ (l : List ℕ). flat_map (λ x. x) (first_chunks 8 n body) ++ l) (sym (drop_past (n * 8) body (omega arith)))
    ∙ chunks_joined 8 n (n * 8) body refl in
    sym (take-append-drop 6 bytes)
    ∙ ap (λ (l : List ℕ). l ++ body) plain.head
    ∙ ap (λ (l : List ℕ). 1 ∷ 0 ∷ to_le_bytes w32 n ++ l) (sym written)
    ∙ ap (λ (k : ℕ). 1 ∷ 0 ∷ to_le_bytes w32 k ++ flat_map (λ x. number_bytes (Some x)) (map number_of words)) (sym (length-map words number_of))
    ∙ sym (plain_form_is (map number_of words))

-- the form of numbers has these parts
pub record HasParts (bytes : List ℕ) (numbers : List ℤ) : Type 0 where
  pub long : 6 ≤ length bytes
  pub head : take 6 bytes ≡ 1 ∷ 0 ∷ to_le_bytes w32 (length numbers)
  pub body_len : length (drop 6 bytes) ≡ 8 * length numbers
  pub words_are : first_chunks 8 (length numbers) (drop 6 bytes) ≡ map (λ x. number_bytes (Some x)) numbers

pub plain_parts : (bytes : List ℕ) (numbers : List ℤ) → bytes ≡ plain_form numbers → HasParts bytes numbers
plain_parts bytes numbers e =
    let body = flat_map (λ x. number_bytes (Some x)) numbers in
    let whole : bytes ≡ 1 ∷ 0 ∷ to_le_bytes w32 (length numbers) ++ body = e ∙ plain_form_is numbers in
    let back : drop 6 bytes ≡ body = ap (λ (l : List ℕ). drop 6 l) whole in
    record {
      long = omega (arith, ap length whole);
      head = ap (λ (l : List ℕ). take 6 l) whole;
      body_len = omega (arith, ap length back, length-numbers numbers);
      words_are = ap (first_chunks 8 (length numbers)) back ∙ words_again numbers;
    }

-- the count in four bytes is the low half of the count in eight
pub head_cells : (count : List ℕ) (n : ℕ) → count ≡ to_le_bytes w64 n → 1 ∷ 0 ∷ get_or count 0 0 ∷ get_or count 1 0 ∷ get_or count 2 0 ∷ get_or count 3 0 ∷ [] ≡ 1 ∷ 0 ∷ to_le_bytes w32 n
head_cells count n e = ap (λ (l : List ℕ). 1 ∷ 0 ∷ get_or l 0 0 ∷ get_or l 1 0 ∷ get_or l 2 0 ∷ get_or l 3 0 ∷ []) e

-- the numbers that words encode fit their type
pub all_fit : (bytes : List ℕ) (words : List (List ℕ)) → IsBytes bytes → IsPlain bytes words → AllByRecursion (FitsSigned w64) (map number_of words)
all_fit bytes words fits plain = subst (λ (l : List (List ℕ)). AllByRecursion (FitsSigned w64) (map number_of l)) (sym plain.words_are) (numbers_fit (length words) (drop 6 bytes) (IsBytes-drop 6 bytes fits))
