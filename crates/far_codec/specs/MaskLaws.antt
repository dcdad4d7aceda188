-- A mask marks exactly the missing values.
use Rattle.std.proofs.Common.{◌≡◌, ℕ, zero, suc, ◌+◌, ◌*◌, ◌/◌, ◌%◌, ◌^◌, ◌<◌, ◌≤◌, Bool, true, false, cond, eqb, List, [], ◌∷◌, length, get_or, take, drop, refl, sym, ap, ◌∙◌, arith, inl, inr}
use Rattle.std.specs.Int.{bit_at}
use Rattle.std.proofs.lemmas.Bool.{cases_Bool}
use Rattle.std.proofs.lemmas.List.{get_or-take, get_or-drop}
use Rattle.std.proofs.lemmas.List.FromFn.{get_or-map-range_with_len, length-map-range_with_len}
use Rattle.std.proofs.lemmas.Nat.Bits.{bit_at-suc, bit_at_lowest, bit_at-zero}
use Rattle.std.proofs.Math.Nat.{pow-suc}
use Rattle.far_codec.specs.FarForm.{mask_byte, mask_bytes, mask_of, some_missing}
use Rattle.far_codec.specs.Reading.{is_missing}

-- a flag as a bit
abbrev pub bit : Bool → ℕ
bit b = cond b 1 0

bit_first : (b : Bool) (n : ℕ) → (bit b + 2 * n) % 2 ≡ bit b
bit_first true n = omega arith
bit_first false n = omega arith

bit_rest : (b : Bool) (n : ℕ) → (bit b + 2 * n) / 2 ≡ n
bit_rest true n = omega arith
bit_rest false n = omega arith

-- bit j of a mask byte is flag j
pub bit_at-mask_byte : (flags : List Bool) (j : ℕ)
    → bit_at (mask_byte flags) j ≡ bit (get_or flags j false)
bit_at-mask_byte [] j = bit_at-zero j
bit_at-mask_byte (b ∷ flags) zero = bit_at_lowest (mask_byte (b ∷ flags))
    ∙ bit_first b (mask_byte flags)
bit_at-mask_byte (b ∷ flags) (suc j) = bit_at-suc (mask_byte (b ∷ flags)) j
    ∙ ap (λ n. bit_at n j) (bit_rest b (mask_byte flags))
    ∙ bit_at-mask_byte flags j

bit_le : (b : Bool) → bit b ≤ 1
bit_le true = omega arith
bit_le false = omega arith

-- a mask byte has no bit beyond its flags
pub mask_byte-lt : (flags : List Bool) → mask_byte flags < 2 ^ length flags
mask_byte-lt [] = omega arith
mask_byte-lt (b ∷ flags) = omega (arith, bit_le b, mask_byte-lt flags, pow-suc 2 (length flags))

-- the flags of eight values from 8 * k on
pub flag_of_part : (flags : List Bool) (k j : ℕ) → j < 8
    → get_or (take 8 (drop (8 * k) flags)) j false ≡ get_or flags (8 * k + j) false
flag_of_part flags k j h = get_or-take 8 (drop (8 * k) flags) j false h
    ∙ get_or-drop (8 * k) flags j false

-- the mask byte for the eight flags from 8 * k on
abbrev pub part : List Bool → ℕ → ℕ
part flags k = mask_byte (take 8 (drop (8 * k) flags))

-- if a value is missing, the mask is the packed flags
pub masked : (flags : List Bool) → some_missing flags ≡ true
    → mask_of flags ≡ mask_bytes flags
unfolding mask_of
masked flags any = ap (λ b. cond b (mask_bytes flags) []) any

-- if no value is missing, the mask is empty
pub no_mask : (flags : List Bool) → some_missing flags ≡ false → mask_of flags ≡ []
unfolding mask_of
no_mask flags none = ap (λ b. cond b (mask_bytes flags) []) none

-- how many bytes the packed flags have
pub length-mask_bytes : (flags : List Bool)
    → length (mask_bytes flags) ≡ (length flags + 7) / 8
unfolding mask_bytes
length-mask_bytes flags = length-map-range_with_len (part flags) 0 ((length flags + 7) / 8)

-- byte k of the packed flags is the byte for the eight flags from 8 * k on
pub mask_byte_at : (flags : List Bool) (k : ℕ) → k < (length flags + 7) / 8
    → get_or (mask_bytes flags) k 0 ≡ part flags k
unfolding mask_bytes
mask_byte_at flags k h = get_or-map-range_with_len (part flags) 0 ((length flags + 7) / 8) k k 0 h
    (omega arith)

-- byte k of the mask is the byte for the eight flags from 8 * k on
pub mask_at : (flags : List Bool) (k : ℕ) → some_missing flags ≡ true
    → k < (length flags + 7) / 8
    → get_or (mask_of flags) k 0 ≡ part flags k
mask_at flags k any h = ap (λ m. get_or m k 0) (masked flags any) ∙ mask_byte_at flags k h

-- how many bytes a mask has if a value is missing
pub length-mask : (flags : List Bool) → some_missing flags ≡ true
    → length (mask_of flags) ≡ (length flags + 7) / 8
length-mask flags any = ap length (masked flags any) ∙ length-mask_bytes flags

tells_bit : (b : Bool) → eqb (bit b) 1 ≡ b
tells_bit true = refl
tells_bit false = refl

-- no flag is set if no value is missing
pub no_flag : (flags : List Bool) (i : ℕ) → some_missing flags ≡ false
    → get_or flags i false ≡ false
no_flag [] i none = refl
no_flag (true ∷ flags) i none = absurd cc
no_flag (false ∷ flags) zero none = refl
no_flag (false ∷ flags) (suc i) none = no_flag flags i none

-- without a mask no value is missing
pub missing_in_none : (i : ℕ) → is_missing [] i ≡ false
missing_in_none i = ap (λ b. eqb b 1) (bit_at-zero (i % 8))

-- the mask marks exactly the missing values
pub missing_by_mask : (flags : List Bool) (i : ℕ) → i < length flags
    → is_missing (mask_of flags) i ≡ get_or flags i false
missing_by_mask flags i h =
    elim (cases_Bool (some_missing flags)) [
      | inl any ↦
          ap (λ byte. eqb (bit_at byte (i % 8)) 1) (mask_at flags (i / 8) any (omega arith))
          ∙ ap (λ b. eqb b 1) (bit_at-mask_byte (take 8 (drop (8 * (i / 8)) flags)) (i % 8))
          ∙ tells_bit (get_or (take 8 (drop (8 * (i / 8)) flags)) (i % 8) false)
          ∙ flag_of_part flags (i / 8) (i % 8) (omega arith)
          ∙ ap (λ j. get_or flags j false) (omega arith)
      | inr none ↦ ap (λ m. is_missing m i) (no_mask flags none) ∙ missing_in_none i
          ∙ sym (no_flag flags i none)
    ]
