-- Which bytes are a mask.
use Rattle.std.proofs.Common.{◌≡◌, ◌≢◌, ℕ, zero, suc, ◌+◌, ◌*◌, ◌/◌, ◌%◌, ◌^◌, ◌<◌, ◌≤◌, Bool, true, false, eqb, List, [], ◌∷◌, length, get_or, take, drop, refl, sym, ap, ◌∙◌, arith, inl, inr}
use Rattle.std.specs.Prelude.{not, ◌||◌}
use Rattle.std.specs.Int.{bit_at}
use Rattle.std.specs.List.{list_any}
use Rattle.std.proofs.lemmas.Bool.{cases_Bool, cases_lt, false≢true, ne_eqb}
use Rattle.std.proofs.lemmas.List.{get_or_past, length-take, length-drop, ext_get_or}
use Rattle.std.proofs.lemmas.Grind.{same_number_lists}
use Rattle.std.proofs.lemmas.List.Folds.{list_any_none}
use Rattle.std.proofs.lemmas.List.FromFn.{get_or-map-range_with_len, length-map-range_with_len}
use Rattle.std.proofs.lemmas.Nat.Bits.{bit_at-zero, same_from_bits_below}
use Rattle.std.proofs.Math.Nat.{div-eq_of_lt, div-lt_iff_lt-mul, pow-le-pow_right, one-le-pow}
use Rattle.far_codec.specs.FarForm.{mask_bytes, mask_of, some_missing}
use Rattle.far_codec.specs.Reading.{is_missing, flags_of}
use Rattle.far_codec.specs.MaskLaws.{bit, part, bit_at-mask_byte, mask_byte-lt, flag_of_part, masked, mask_at, mask_byte_at, length-mask_bytes, no_flag, missing_by_mask}
use Rattle.far_codec.proofs.PlainNumbersWords.{IsBytes}

pub length-flags_of : (mask : List ℕ) (count : ℕ) → length (flags_of mask count) ≡ count
length-flags_of mask count = length-map-range_with_len (is_missing mask) 0 count

pub flag_at : (mask : List ℕ) (count i : ℕ) → i < count → get_or (flags_of mask count) i false ≡ is_missing mask i
flag_at mask count i h = get_or-map-range_with_len (is_missing mask) 0 count i i false h (omega arith)

-- a mask determines its flags
pub flags_again : (flags : List Bool) → flags_of (mask_of flags) (length flags) ≡ flags
flags_again flags =
    let len = length-flags_of (mask_of flags) (length flags) in
    ext_get_or false (flags_of (mask_of flags) (length flags)) flags len (λ k h.
    flag_at (mask_of flags) (length flags) k (omega arith) ∙ missing_by_mask flags k (omega arith))

-- no bit is set after the bit of the last value
abbrev pub HasNoSpare : List ℕ → ℕ → Type 0
HasNoSpare mask count = (k j : ℕ) → k < (count + 7) / 8 → j < 8 → count ≤ 8 * k + j → bit_at (get_or mask k 0) j ≡ 0

pub no_spare : (mask : List ℕ) (count : ℕ) → (0 < count % 8 → get_or mask (count / 8) 0 / 2 ^ (count % 8) ≡ 0) → HasNoSpare mask count
no_spare mask count h k j in_mask small past =
    let r = count % 8 in
    let b = get_or mask k 0 in
    let last : k ≡ count / 8 = omega arith in
    let zero_above : b / 2 ^ r ≡ 0 = ap (λ i. get_or mask i 0 / 2 ^ r) last ∙ h (omega arith) in
    let positive : 0 < 2 ^ r = one-le-pow r 2 (omega arith) in
    let below : b < 1 * 2 ^ r = (div-lt_iff_lt-mul {k = 2 ^ r} {x = b} {y = 1} positive).0 (omega arith) in
    let wider : 2 ^ r ≤ 2 ^ j = pow-le-pow_right {n = 2} (omega arith) {i = r} {j = j} (omega arith) in
    ap (λ n. n % 2) (div-eq_of_lt {n = b} {m = 2 ^ j} (omega arith))

bit_small : (n : ℕ) → n < 2 → bit (eqb n 1) ≡ n
bit_small zero h = refl
bit_small (suc zero) h = refl
bit_small (suc (suc n)) h = absurd (omega arith)

bit_is : (n j : ℕ) → bit (eqb (bit_at n j) 1) ≡ bit_at n j
bit_is n j = bit_small (bit_at n j) (omega arith)

-- the flags of a byte are its bits
bit_below : (mask : List ℕ) (count k j : ℕ) → j < 8 → 8 * k + j < count → bit (get_or (flags_of mask count) (8 * k + j) false) ≡ bit_at (get_or mask k 0) j
bit_below mask count k j small h =
    let byte : (8 * k + j) / 8 ≡ k = omega arith in
    let place : (8 * k + j) % 8 ≡ j = omega arith in
    ap bit (flag_at mask count (8 * k + j) h)
    ∙ ap (λ i. bit (eqb (bit_at (get_or mask i 0) ((8 * k + j) % 8)) 1)) byte
    ∙ ap (λ i. bit (eqb (bit_at (get_or mask k 0) i) 1)) place
    ∙ bit_is (get_or mask k 0) j

-- each byte is the mask byte of its flags
byte_again : (mask : List ℕ) (count k : ℕ) → IsBytes mask → HasNoSpare mask count → k < (count + 7) / 8 → part (flags_of mask count) k ≡ get_or mask k 0
byte_again mask count k fits spare h =
    let flags = flags_of mask count in
    let chunk = take 8 (drop (8 * k) flags) in
    let few : 2 ^ length chunk ≤ 2 ^ 8 = pow-le-pow_right {n = 2} (omega arith) {i = length chunk} {j = 8} (omega (arith, length-take 8 (drop (8 * k) flags))) in
    let byte : get_or mask k 0 < 2 ^ 8 = omega (arith, fits k) in
    same_from_bits_below 8 (part flags k) (get_or mask k 0) (omega (arith, mask_byte-lt chunk)) byte (λ j small.
    bit_at-mask_byte chunk j ∙ ap bit (flag_of_part flags k j small)
    ∙ elim (cases_lt (8 * k + j) count) [
      | inl lt ↦ bit_below mask count k j small lt
      | inr past ↦ ap bit (get_or_past flags (8 * k + j) false (omega (arith, length-flags_of mask count))) ∙ sym (spare k j h small past)
    ])

-- bytes without such a bit are the mask of their flags, if a flag is set
pub mask_again : (mask : List ℕ) (count : ℕ) → IsBytes mask → length mask ≡ (count + 7) / 8 → HasNoSpare mask count → some_missing (flags_of mask count) ≡ true → mask ≡ mask_of (flags_of mask count)
mask_again mask count fits len spare any =
    let flags = flags_of mask count in
    let same_count : (length flags + 7) / 8 ≡ (count + 7) / 8 = ap (λ c. (c + 7) / 8) (length-flags_of mask count) in
    same_number_lists mask (mask_bytes flags) (len ∙ sym same_count ∙ sym (length-mask_bytes flags)) (λ k h.
    sym (byte_again mask count k fits spare (omega (arith, len))) ∙ sym (mask_byte_at flags k (omega (arith, len, same_count))))
    ∙ sym (masked flags any)

-- if a byte is not 0, a value is missing
pub bit_tells : (mask : List ℕ) (count k : ℕ) → IsBytes mask → HasNoSpare mask count → k < (count + 7) / 8 → get_or mask k 0 ≢ 0 → some_missing (flags_of mask count) ≡ true
bit_tells mask count k fits spare h byte =
    let flags = flags_of mask count in
    let small : get_or mask k 0 < 2 ^ 8 = omega (arith, fits k) in
    elim (cases_Bool (some_missing flags)) [
      | inl any ↦ any
      | inr none ↦
          absurd (byte (same_from_bits_below 8 (get_or mask k 0) 0 small (omega arith) (λ j low.
          elim (cases_lt (8 * k + j) count) [
            | inl lt ↦ sym (bit_below mask count k j low lt) ∙ ap bit (no_flag flags (8 * k + j) none)
            | inr past ↦ spare k j h low past
          ] ∙ sym (bit_at-zero j))))
    ]

-- a mask has no spare bit
pub spare_zero : (mask : List ℕ) (count : ℕ) → mask ≡ mask_of (flags_of mask count) → some_missing (flags_of mask count) ≡ true → 0 < count % 8 → get_or mask (count / 8) 0 / 2 ^ (count % 8) ≡ 0
spare_zero mask count is any h =
    let flags = flags_of mask count in
    let k = count / 8 in
    let len = length-flags_of mask count in
    let chunk = take 8 (drop (8 * k) flags) in
    let chunk_len : length chunk ≤ count % 8 = omega (arith, length-take 8 (drop (8 * k) flags), length-drop (8 * k) flags) in
    let byte : get_or mask k 0 ≡ part flags k = ap (λ m. get_or m k 0) is ∙ mask_at flags k any (omega (arith, len)) in
    let wider : 2 ^ length chunk ≤ 2 ^ (count % 8) = pow-le-pow_right {n = 2} (omega arith) {i = length chunk} {j = count % 8} chunk_len in
    div-eq_of_lt {n = get_or mask k 0} {m = 2 ^ (count % 8)} (omega (arith, mask_byte-lt chunk, byte))

abbrev pub is_set : ℕ → Bool
is_set byte = not (eqb byte 0)

-- the index of a byte that is not 0
pub first_set : (mask : List ℕ) → list_any is_set mask ≡ true → (k : ℕ) × (k < length mask) × (get_or mask k 0 ≢ 0)
first_set [] e = absurd cc
first_set (zero ∷ mask) e = let rest = first_set mask e in (suc rest.0, omega (arith, rest.1), rest.2)
first_set (suc b ∷ mask) e = (0, omega arith, λ z. absurd (omega arith))

cons_none : (b : ℕ) (mask : List ℕ) → list_any is_set (b ∷ mask) ≡ false → (b ≡ 0) × (list_any is_set mask ≡ false)
cons_none zero mask e = (refl, e)
cons_none (suc b) mask e =
    let set : list_any is_set (suc b ∷ mask) ≡ true = ap (λ x. not x || list_any is_set mask) (ne_eqb (suc b) 0 (λ q. omega arith)) in
    absurd (false≢true (sym e ∙ set))

all_zero : (mask : List ℕ) (k : ℕ) → list_any is_set mask ≡ false → get_or mask k 0 ≡ 0
all_zero [] k e = refl
all_zero (b ∷ mask) zero e = (cons_none b mask e).0
all_zero (b ∷ mask) (suc k) e = all_zero mask k (cons_none b mask e).1

-- if each byte is 0, no value is missing
pub no_bit : (mask : List ℕ) (count : ℕ) → list_any is_set mask ≡ false → some_missing (flags_of mask count) ≡ false
no_bit mask count e =
    let len = length-flags_of mask count in
    list_any_none (λ missing. missing) (flags_of mask count) (λ k d h.
    get_or-map-range_with_len (is_missing mask) 0 count k k d (omega (arith, len)) (omega arith)
    ∙ ap (λ b. eqb (bit_at b (k % 8)) 1) (all_zero mask (k / 8) e)
    ∙ ap (λ b. eqb b 1) (bit_at-zero (k % 8)))
