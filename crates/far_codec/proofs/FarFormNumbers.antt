-- Which bytes are the far form of numbers.
use Rattle.std.proofs.Common.{◌≡◌, ℕ, zero, suc, ◌+◌, ◌*◌, ◌/◌, ◌%◌, ◌^◌, ◌<◌, Bool, true, false, cond, ℤ, List, [], ◌∷◌, ◌++◌, length, get_or, map, take, drop, Option, None, Some, All, FitsSigned, refl, sym, ap, subst, ◌∙◌, arith, inl, inr}
use Rattle.std.specs.Prelude.{is_none, IfSome}
use Rattle.std.specs.Int.{w64}
use Rattle.std.specs.List.{flat_map}
use Rattle.std.specs.Simd.{first_chunks}
use Rattle.std.proofs.lemmas.Bool.{cases_Bool, false≢true}
use Rattle.std.proofs.lemmas.List.{get_or-map, length-map, length-append, length-take, length-drop, append-nil, ext_get_or, nil_from_length}
use Rattle.std.proofs.lemmas.List.Folds.{flat_map-map}
use Rattle.std.proofs.lemmas.List.FromFn.{get_or-map-range_with_len, length-map-range_with_len}
use Rattle.std.proofs.Math.Seq.{drop-drop}
use Rattle.far_codec.specs.FarForm.{mask_of, head, number_bytes, ints_form, AreInts}
use Rattle.far_codec.specs.Reading.{is_missing, flags_of, number_of, numbers_of}
use Rattle.far_codec.specs.MaskLaws.{missing_in_none, missing_by_mask}
use Rattle.far_codec.specs.ReadingLaws.{chunks_again, length-number_bytes}
use Rattle.far_codec.proofs.Chunks.{chunks_joined}
use Rattle.far_codec.proofs.ReadingMasks.{length-flags_of, flag_at}
use Rattle.far_codec.proofs.PlainNumbersWords.{IsBytes, IsBytes-drop, IsBytes-take, word_again, number_fits, length-first_chunks}

-- chunk i of a list
pub chunk_at : {X : Type 0} (n k i : ℕ) (xs : List X) (d : List X) → i < k → get_or (first_chunks n k xs) i d ≡ take n (drop (n * i) xs)
chunk_at n zero i xs d h = absurd (omega arith)
chunk_at n (suc k) zero xs d h = let none : 0 ≡ n * 0 = omega arith in ap (λ j. take n (drop j xs)) none
chunk_at n (suc k) (suc i) xs d h =
    let next : n + n * i ≡ n * suc i = omega arith in
    chunk_at n k i (drop n xs) d (omega arith) ∙ ap (take n) (drop-drop (n * i) n xs ∙ ap (λ j. drop j xs) next)

-- the words of missing numbers are 0
abbrev pub AreZero : List ℕ → List (List ℕ) → Type 0
AreZero mask words = (i : ℕ) → i < length words → is_missing mask i ≡ true → get_or words i [] ≡ number_bytes None

abbrev pub number_at : List ℕ → List (List ℕ) → ℕ → Option ℤ
number_at mask words i = cond (is_missing mask i) None (Some (number_of (get_or words i [])))

pub length-numbers_of : (mask : List ℕ) (words : List (List ℕ)) → length (numbers_of mask words) ≡ length words
length-numbers_of mask words = length-map-range_with_len (number_at mask words) 0 (length words)

pub numbers_of_at : (mask : List ℕ) (words : List (List ℕ)) (i : ℕ) (d : Option ℤ) → i < length words → get_or (numbers_of mask words) i d ≡ number_at mask words i
numbers_of_at mask words i d h = get_or-map-range_with_len (number_at mask words) 0 (length words) i i d h (omega arith)

none_is : {A : Type 0} (b : Bool) (x : A) → is_none (cond b None (Some x)) ≡ b
none_is true x = refl
none_is false x = refl

-- the mask says which of the numbers are missing
pub flags_are : (mask : List ℕ) (words : List (List ℕ)) → map is_none (numbers_of mask words) ≡ flags_of mask (length words)
flags_are mask words =
    let numbers = numbers_of mask words in
    let many = length-numbers_of mask words in
    let len : length (map is_none numbers) ≡ length (flags_of mask (length words)) = length-map numbers is_none ∙ many ∙ sym (length-flags_of mask (length words)) in
    ext_get_or false (map is_none numbers) (flags_of mask (length words)) len (λ i h.
    let in_words : i < length words = omega (arith, length-map numbers is_none, many) in
    get_or-map is_none numbers i None false (omega (arith, many))
    ∙ ap is_none (numbers_of_at mask words i None in_words)
    ∙ none_is (is_missing mask i) (number_of (get_or words i []))
    ∙ sym (flag_at mask (length words) i in_words))

-- each word has eight bytes; encoding a decoded word returns it
abbrev pub AreWords : List (List ℕ) → Type 0
AreWords words = (i : ℕ) → i < length words → (length (get_or words i []) ≡ 8) × IsBytes (get_or words i [])

written_at : (mask : List ℕ) (words : List (List ℕ)) (i : ℕ) → i < length words → AreWords words → AreZero mask words → number_bytes (number_at mask words i) ≡ get_or words i []
written_at mask words i h are zeros =
    elim (cases_Bool (is_missing mask i)) [
      | inl missing ↦ ap (λ b. number_bytes (cond b None (Some (number_of (get_or words i []))))) missing ∙ sym (zeros i h missing)
      | inr there ↦ ap (λ b. number_bytes (cond b None (Some (number_of (get_or words i []))))) there ∙ word_again (get_or words i []) (are i h).0 (are i h).1
    ]

pub words_written : (mask : List ℕ) (words : List (List ℕ)) → AreWords words → AreZero mask words → map number_bytes (numbers_of mask words) ≡ words
words_written mask words are zeros =
    let numbers = numbers_of mask words in
    let many = length-numbers_of mask words in
    ext_get_or [] (map number_bytes numbers) words (length-map numbers number_bytes ∙ many) (λ i h.
    let in_words : i < length words = omega (arith, length-map numbers number_bytes, many) in
    get_or-map number_bytes numbers i None [] (omega (arith, many))
    ∙ ap number_bytes (numbers_of_at mask words i None in_words)
    ∙ written_at mask words i in_words are zeros)

fits_at : (missing : Bool) (word : List ℕ) → IsBytes word → IfSome (cond missing None (Some (number_of word))) (FitsSigned w64)
fits_at true word fits = tt
fits_at false word fits = number_fits word fits

pub numbers_fit : (mask : List ℕ) (words : List (List ℕ)) → AreWords words → All (λ number. IfSome number (FitsSigned w64)) (numbers_of mask words)
numbers_fit mask words are k d h =
    let in_words : k < length words = omega (arith, length-numbers_of mask words) in
    subst (λ (o : Option ℤ). IfSome o (FitsSigned w64)) (sym (numbers_of_at mask words k d in_words)) (fits_at (is_missing mask k) (get_or words k []) (are k in_words).1)

pub chunks_are_words : (count : ℕ) (fields : List ℕ) (words : List (List ℕ)) → IsBytes fields → length fields ≡ count * 8 → words ≡ first_chunks 8 count fields → AreWords words
chunks_are_words count fields words fits len is i h =
    let in_count : i < count = omega (arith, ap length is, length-first_chunks 8 count fields) in
    let word : get_or words i [] ≡ take 8 (drop (8 * i) fields) = ap (λ l. get_or l i []) is ∙ chunk_at 8 count i fields [] in_count in (
      ap length word ∙ omega (arith, length-take 8 (drop (8 * i) fields), length-drop (8 * i) fields),
      subst IsBytes (sym word) (IsBytes-take 8 (drop (8 * i) fields) (IsBytes-drop (8 * i) fields fits)),
    )

-- without a mask no number is missing
pub plain_numbers : (words : List (List ℕ)) → map (λ w. Some (number_of w)) words ≡ numbers_of [] words
plain_numbers words =
    let many = length-numbers_of [] words in
    ext_get_or None (map (λ w. Some (number_of w)) words) (numbers_of [] words) (length-map words (λ w. Some (number_of w)) ∙ sym many) (λ i h.
    let in_words : i < length words = omega (arith, length-map words (λ w. Some (number_of w))) in
    get_or-map (λ w. Some (number_of w)) words i [] None in_words
    ∙ ap (λ b. cond b None (Some (number_of (get_or words i [])))) (sym (missing_in_none i))
    ∙ sym (numbers_of_at [] words i None in_words))

-- a head, a mask and words are the form of these numbers
pub ints_found : (bytes mask fields : List ℕ) (words : List (List ℕ)) (count : ℕ) → IsBytes fields → count < 2 ^ 32 → bytes ≡ head 0 (flags_of mask count) ++ fields → length fields ≡ count * 8 → words ≡ first_chunks 8 count fields → AreZero mask words → AreInts (numbers_of mask words) × (bytes ≡ ints_form (numbers_of mask words))
unfolding ints_form
ints_found bytes mask fields words count fits few e len is zeros =
    let numbers = numbers_of mask words in
    let many : length words ≡ count = ap length is ∙ length-first_chunks 8 count fields in
    let are = chunks_are_words count fields words fits len is in
    let all : drop (count * 8) fields ≡ [] = nil_from_length (drop (count * 8) fields) (omega (arith, length-drop (count * 8) fields)) in
    let body : flat_map number_bytes numbers ≡ fields =
    sym (flat_map-map (λ x. x) number_bytes numbers)
    ∙ ap (flat_map (λ x. x)) (words_written mask words are zeros ∙ is)
    ∙ sym (append-nil (flat_map (λ x. x) (first_chunks 8 count fields)))
    ∙ ap (λ (l : List ℕ). flat_map (λ x. x) (first_chunks 8 count fields) ++ l) (sym all)
    ∙ chunks_joined 8 count (count * 8) fields refl in (
      record { range = numbers_fit mask words are; count = omega (arith, length-numbers_of mask words) },
      e ∙ ap (λ (l : List Bool). head 0 l ++ fields) (ap (flags_of mask) (sym many) ∙ sym (flags_are mask words)) ∙ ap (λ (l : List ℕ). head 0 (map is_none numbers) ++ l) (sym body),
    )

-- a form of numbers has these parts
pub record HasIntParts (mask fields : List ℕ) (count : ℕ) (numbers : List (Option ℤ)) : Type 0 where
  pub count_is : count ≡ length numbers
  pub mask_is : mask ≡ mask_of (map is_none numbers)
  pub fields_are : fields ≡ flat_map number_bytes numbers

pub length-numbers : (numbers : List (Option ℤ)) → length (flat_map number_bytes numbers) ≡ 8 * length numbers
length-numbers [] = refl
length-numbers (x ∷ numbers) = omega (arith, length-append (number_bytes x) (flat_map number_bytes numbers), length-number_bytes x, length-numbers numbers)

missing_none : (o : Option ℤ) → is_none o ≡ true → o ≡ None
missing_none None e = refl
missing_none (Some x) e = absurd (false≢true e)

-- in a form of numbers the words of missing numbers are 0
pub zeros_in : (mask fields : List ℕ) (count : ℕ) (numbers : List (Option ℤ)) (words : List (List ℕ)) → HasIntParts mask fields count numbers → words ≡ first_chunks 8 (length fields / 8) fields → AreZero mask words
zeros_in mask fields count numbers words parts is i h missing =
    let many : length fields / 8 ≡ length numbers = omega (arith, ap length parts.fields_are, length-numbers numbers) in
    let are : words ≡ map number_bytes numbers = is ∙ ap (λ n. first_chunks 8 n fields) many ∙ ap (first_chunks 8 (length numbers)) parts.fields_are ∙ chunks_again 8 number_bytes length-number_bytes numbers in
    let in_list : i < length numbers = omega (arith, ap length are, length-map numbers number_bytes) in
    let flagged : get_or (map is_none numbers) i false ≡ true =
    sym (missing_by_mask (map is_none numbers) i (omega (arith, length-map numbers is_none))) ∙ ap (λ m. is_missing m i) (sym parts.mask_is) ∙ missing in
    let none : get_or numbers i None ≡ None = missing_none (get_or numbers i None) (sym (get_or-map is_none numbers i None false in_list) ∙ flagged) in
    ap (λ l. get_or l i []) are ∙ get_or-map number_bytes numbers i None [] in_list ∙ ap number_bytes none

pub ints_form_is : (numbers : List (Option ℤ)) → ints_form numbers ≡ head 0 (map is_none numbers) ++ flat_map number_bytes numbers
unfolding ints_form
ints_form_is numbers = refl

-- fields without a spare byte are their words, joined
pub words_joined : (fields : List ℕ) (words : List (List ℕ)) → words ≡ first_chunks 8 (length fields / 8) fields → length fields % 8 ≡ 0 → flat_map (λ x. x) words ≡ fields
words_joined fields words is none =
    let n = length fields / 8 in
    let all : drop (n * 8) fields ≡ [] = nil_from_length (drop (n * 8) fields) (omega (arith, length-drop (n * 8) fields)) in
    ap (flat_map (λ x. x)) is
    ∙ sym (append-nil (flat_map (λ x. x) (first_chunks 8 n fields)))
    ∙ ap (λ l. flat_map (λ x. x) (first_chunks 8 n fields) ++ l) (sym all)
    ∙ chunks_joined 8 n (n * 8) fields refl

-- fields are the words of numbers if their words are
pub fields_from_words : (fields : List ℕ) (words : List (List ℕ)) (numbers : List (Option ℤ)) → words ≡ first_chunks 8 (length fields / 8) fields → length fields % 8 ≡ 0 → words ≡ map number_bytes numbers → fields ≡ flat_map number_bytes numbers
fields_from_words fields words numbers is none same = sym (words_joined fields words is none) ∙ ap (flat_map (λ x. x)) same ∙ flat_map-map (λ x. x) number_bytes numbers

pub words_from_fields : (fields : List ℕ) (words : List (List ℕ)) (numbers : List (Option ℤ)) → words ≡ first_chunks 8 (length fields / 8) fields → fields ≡ flat_map number_bytes numbers → words ≡ map number_bytes numbers
words_from_fields fields words numbers is e =
    let many : length fields / 8 ≡ length numbers = omega (arith, ap length e, length-numbers numbers) in
    is ∙ ap (λ n. first_chunks 8 n fields) many ∙ ap (first_chunks 8 (length numbers)) e ∙ chunks_again 8 number_bytes length-number_bytes numbers
