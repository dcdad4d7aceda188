-- What the head of a far form says, and that decoding a form of numbers returns them.
use Rattle.std.proofs.Common.{◌≡◌, ℕ, ◌+◌, ◌*◌, ◌/◌, ◌<◌, Bool, true, false, cond, eqb, ℤ, List, [], ◌∷◌, ◌++◌, length, get_or, map, take, drop, Option, None, Some, All, FitsSigned, refl, sym, ap, ◌∙◌, arith, inl, inr}
use Rattle.std.specs.Prelude.{is_none, IfSome}
use Rattle.std.specs.Int.{w64, cast_signed, cast_unsigned}
use Rattle.std.specs.List.{list_any, flat_map}
use Rattle.std.specs.Simd.{first_chunks}
use Rattle.std.proofs.lemmas.Bool.{cases_Bool}
use Rattle.std.proofs.lemmas.List.{get_or-map, length-map, length-append, take_at, drop_at, same_lists}
use Rattle.std.proofs.lemmas.List.FromFn.{get_or-map-range_with_len, length-map-range_with_len}
use Rattle.std.proofs.lemmas.Nat.{from_le_bytes-to_le_bytes_8, from_le_bytes-to_le_bytes_4}
use Rattle.std.proofs.lemmas.Int.{to_z-of_z}
use Rattle.std.proofs.Math.Facts.{Fits-of_z}
use Rattle.std.proofs.Math.Seq.{drop-drop}
use Rattle.far_codec.specs.FarForm.{version, mask_of, some_missing, head, number_bytes, ints_form, FitsCount, AreInts}
use Rattle.far_codec.specs.Reading.{count_in, mask_in, fields_in, is_missing, number_of, numbers_of, ints_meaning}
use Rattle.far_codec.specs.MaskLaws.{no_mask, length-mask, missing_by_mask}

-- cutting a list that was joined from chunks of one length returns the chunks
pub chunks_again : {A : Type 0} (n : ℕ) (f : A → List ℕ) → ((x : A) → length (f x) ≡ n)
    → (xs : List A) → first_chunks n (length xs) (flat_map f xs) ≡ map f xs
chunks_again n f len [] = refl
chunks_again n f len (x ∷ xs) =
    let rest = flat_map f xs in
    ap (λ front. front ∷ first_chunks n (length xs) (drop n (f x ++ rest)))
    (take_at (f x) rest n (len x))
    ∙ ap (λ l. f x ∷ first_chunks n (length xs) l) (drop_at (f x) rest n (len x))
    ∙ ap (λ l. f x ∷ l) (chunks_again n f len xs)

-- a number has eight bytes
pub length-number_bytes : (number : Option ℤ) → length (number_bytes number) ≡ 8
unfolding number_bytes
length-number_bytes number = refl

-- what is read from bytes that begin with a head
pub record HeadRead (flags : List Bool) (bytes rest : List ℕ) : Type 0 where
  pub count : count_in bytes ≡ length flags
  pub mask_is : mask_in bytes ≡ mask_of flags
  pub fields : fields_in bytes ≡ rest

head_mask : (kind : ℕ) (flags : List Bool) (rest : List ℕ)
    → count_in (head kind flags ++ rest) ≡ length flags
    → mask_in (head kind flags ++ rest) ≡ mask_of flags
unfolding head
head_mask kind flags rest count =
    let bytes = head kind flags ++ rest in
    let behind = take ((count_in bytes + 7) / 8) (drop 6 bytes) in
    elim (cases_Bool (list_any (λ missing. missing) flags)) [
      | inl any ↦
          ap (λ b. cond (eqb (cond b 2 1) 2) behind []) any
          ∙ take_at (mask_of flags) rest ((count_in bytes + 7) / 8)
          (length-mask flags any ∙ ap (λ n. (n + 7) / 8) (sym count))
      | inr none ↦ ap (λ b. cond (eqb (cond b 2 1) 2) behind []) none
          ∙ sym (no_mask flags none)
    ]

-- reading a head that was written returns its count, its mask, and the bytes after it
pub head_read : (kind : ℕ) (flags : List Bool) (rest : List ℕ) → FitsCount flags
    → HeadRead flags (head kind flags ++ rest) rest
unfolding head
head_read kind flags rest few =
    let count : count_in (head kind flags ++ rest) ≡ length flags =
    from_le_bytes-to_le_bytes_4 (length flags) few in
    let mask_is = head_mask kind flags rest count in
    record {
      count = count;
      mask_is = mask_is;
      fields = ap (λ m. drop (6 + length m) (head kind flags ++ rest)) mask_is
          ∙ sym (drop-drop (length (mask_of flags)) 6 (head kind flags ++ rest))
          ∙ drop_at (mask_of flags) rest (length (mask_of flags)) refl;
    }

-- one number, read from its bytes
number_again : (number : Option ℤ) (missing : Bool) → missing ≡ is_none number
    → IfSome number (FitsSigned w64)
    → cond missing None (Some (number_of (number_bytes number))) ≡ number
unfolding number_of number_bytes
number_again None missing e fits = ap (λ b. cond b None (Some (number_of (number_bytes None)))) e
number_again (Some x) missing e fits =
    ap (λ b. cond b None (Some (number_of (number_bytes (Some x))))) e
    ∙ ap Some (ap (cast_signed w64)
    (from_le_bytes-to_le_bytes_8 (cast_unsigned w64 x) (omega (arith, Fits-of_z fits)))
    ∙ to_z-of_z w64 x fits)

-- decoding the parts of a form of numbers returns the numbers
pub numbers_again : (numbers : List (Option ℤ))
    → All (λ number. IfSome number (FitsSigned w64)) numbers
    → numbers_of (mask_of (map is_none numbers)) (map number_bytes numbers) ≡ numbers
numbers_again numbers fits =
    let flags = map is_none numbers in
    let m = mask_of flags in
    let words = map number_bytes numbers in
    let len : length (numbers_of m words) ≡ length numbers =
    length-map-range_with_len
    (λ i. cond (is_missing m i) None (Some (number_of (get_or words i [])))) 0
    (length words)
    ∙ length-map numbers number_bytes in
    same_lists (numbers_of m words) numbers len (λ k d h.
    let in_list : k < length numbers = omega arith in
    get_or-map-range_with_len
    (λ i. cond (is_missing m i) None (Some (number_of (get_or words i [])))) 0 (length words) k
    k d
    (omega (arith, length-map numbers number_bytes)) (omega arith)
    ∙ ap (λ w. cond (is_missing m k) None (Some (number_of w)))
    (get_or-map number_bytes numbers k d [] in_list)
    ∙ number_again (get_or numbers k d) (is_missing m k)
    (missing_by_mask flags k (omega (arith, length-map numbers is_none))
    ∙ get_or-map is_none numbers k d false in_list)
    (fits k d in_list))

-- decoding a form of numbers returns the numbers
pub ints_read_back : (numbers : List (Option ℤ)) → AreInts numbers
    → ints_meaning (ints_form numbers) ≡ numbers
unfolding ints_form
ints_read_back numbers are =
    let flags = map is_none numbers in
    let read =
    head_read 0 flags (flat_map number_bytes numbers)
    (omega (arith, length-map numbers is_none, are.count)) in
    ap (λ m. numbers_of m
    (first_chunks 8 (count_in (ints_form numbers)) (fields_in (ints_form numbers))))
    read.mask_is
    ∙ ap (λ n. numbers_of (mask_of flags) (first_chunks 8 n (fields_in (ints_form numbers))))
    (read.count ∙ length-map numbers is_none)
    ∙ ap (λ l. numbers_of (mask_of flags) (first_chunks 8 (length numbers) l)) read.fields
    ∙ ap (numbers_of (mask_of flags)) (chunks_again 8 number_bytes length-number_bytes numbers)
    ∙ numbers_again numbers are.range

-- decoding the spelling of a list of elements returns the list
pub ints_list_reads_back : (numbers : List (Option ℤ))
    → All (λ number. IfSome number (FitsSigned w64)) numbers → FitsCount numbers
    → ints_meaning (ints_form numbers) ≡ numbers
ints_list_reads_back numbers range few = ints_read_back numbers
    (record { range = range; count = few })

length-words : (numbers : List (Option ℤ))
    → length (flat_map number_bytes numbers) ≡ 8 * length numbers
length-words [] = refl
length-words (x ∷ numbers) = omega (
  arith,
  length-append (number_bytes x) (flat_map number_bytes numbers),
  length-number_bytes x,
  length-words numbers,
)

-- how many bytes a head has, with its mask
pub length-head : (kind : ℕ) (flags : List Bool)
    → length (head kind flags) ≡ 6 + length (mask_of flags)
unfolding head
length-head kind flags = omega arith

-- how many bytes a mask has; 0 if no value is missing
pub length-mask_of : (flags : List Bool)
    → length (mask_of flags) ≡ cond (some_missing flags) ((length flags + 7) / 8) 0
length-mask_of flags =
    elim (cases_Bool (some_missing flags)) [
      | inl any ↦ length-mask flags any ∙ ap (λ b. cond b ((length flags + 7) / 8) 0) (sym any)
      | inr none ↦ ap length (no_mask flags none)
          ∙ ap (λ b. cond b ((length flags + 7) / 8) 0) (sym none)
    ]

-- how many bytes a form of numbers has
pub length-ints_form : (numbers : List (Option ℤ))
    → length (ints_form numbers)
    ≡ 6 + length (mask_of (map is_none numbers)) + 8 * length numbers
unfolding ints_form
length-ints_form numbers = omega (
  arith,
  length-append (head 0 (map is_none numbers)) (flat_map number_bytes numbers),
  length-head 0 (map is_none numbers),
  length-words numbers,
)

-- the first byte says whether a value is missing
first_byte : (kind : ℕ) (flags : List Bool) (rest : List ℕ)
    → get_or (head kind flags ++ rest) 0 0 ≡ version flags
unfolding head
first_byte kind flags rest = refl

abbrev version_of : Bool → ℕ
version_of missing = cond missing 2 1

same_version : (b c : Bool) → version_of b ≡ version_of c → b ≡ c
same_version true true e = refl
same_version true false e = absurd (omega arith)
same_version false true e = absurd (omega arith)
same_version false false e = refl

-- if two forms are equal, a value is missing in both or in neither
pub same_missing : (kind other : ℕ) (one two : List Bool) (rest more : List ℕ)
    → head kind one ++ rest ≡ head other two ++ more → some_missing one ≡ some_missing two
same_missing kind other one two rest more e = same_version (some_missing one) (some_missing two)
    (sym (first_byte kind one rest) ∙ ap (λ l. get_or l 0 0) e ∙ first_byte other two more)

counts_agree : (m n : ℕ) (b : Bool)
    → 6 + cond b ((m + 7) / 8) 0 + 8 * m ≡ 6 + cond b ((n + 7) / 8) 0 + 8 * n → m ≡ n
counts_agree m n true e = omega arith
counts_agree m n false e = omega arith

same_form_heads : (one other : List (Option ℤ)) → ints_form one ≡ ints_form other
    → some_missing (map is_none one) ≡ some_missing (map is_none other)
unfolding ints_form
same_form_heads one other e = same_missing 0 0 (map is_none one) (map is_none other)
    (flat_map number_bytes one) (flat_map number_bytes other) e

-- different lists have different forms
pub one_ints_list : (one other : List (Option ℤ))
    → All (λ number. IfSome number (FitsSigned w64)) one
    → All (λ number. IfSome number (FitsSigned w64)) other → FitsCount one
    → ints_form one ≡ ints_form other → one ≡ other
one_ints_list one other range range_too few e =
    let m = length one in
    let n = length other in
    let b = some_missing (map is_none other) in
    let mask_one : length (mask_of (map is_none one)) ≡ cond b ((m + 7) / 8) 0 =
    length-mask_of (map is_none one)
    ∙ ap (λ c. cond c ((length (map is_none one) + 7) / 8) 0) (same_form_heads one other e)
    ∙ ap (λ k. cond b ((k + 7) / 8) 0) (length-map one is_none) in
    let mask_other : length (mask_of (map is_none other)) ≡ cond b ((n + 7) / 8) 0 =
    length-mask_of (map is_none other)
    ∙ ap (λ k. cond b ((k + 7) / 8) 0) (length-map other is_none) in
    let lengths : 6 + cond b ((m + 7) / 8) 0 + 8 * m ≡ 6 + cond b ((n + 7) / 8) 0 + 8 * n =
    ap (λ k. 6 + k + 8 * m) (sym mask_one)
    ∙ sym (length-ints_form one)
    ∙ ap length e
    ∙ length-ints_form other
    ∙ ap (λ k. 6 + k + 8 * n) mask_other in
    let few_too : FitsCount other = omega (arith, counts_agree m n b lengths) in
    sym (ints_list_reads_back one range few)
    ∙ ap ints_meaning e
    ∙ ints_list_reads_back other range_too few_too
