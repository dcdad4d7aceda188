-- The mask of values, byte by byte.
use Rattle.std.proofs.Common.{◌≡◌, ℕ, ◌+◌, ◌-◌, ◌*◌, ◌/◌, ◌^◌, ◌<◌, ◌≤◌, Bool, false, List, [], ◌∷◌, ◌++◌, length, get_or, map, take, drop, min, Option, refl, sym, ap, ◌∙◌, arith}
use Rattle.std.specs.Prelude.{is_none, ◌||◌}
use Rattle.std.specs.Int.{div_ceil}
use Rattle.std.specs.List.{list_any, range_with_len}
use Rattle.std.proofs.lemmas.List.{length-map, length-take, length-drop, drop_more, drop_all, take_at, drop_at}
use Rattle.std.proofs.Math.Nat.{pow-le-pow_right}
use Rattle.std.proofs.lemmas.Grind.{same_number_lists}
use Rattle.far_codec.specs.FarForm.{mask_byte, mask_bytes, some_missing}
use Rattle.far_codec.specs.MaskLaws.{bit, part, flag_of_part, mask_byte-lt, length-mask_bytes, mask_byte_at}

abbrev pub flags_in : {A : Type 0} → List (Option A) → List Bool
flags_in values = map is_none values

pub ceil_is : (n : ℕ) → div_ceil n 8 ≡ (n + 7) / 8
ceil_is n = omega arith

pub mask_len : {A : Type 0} (values : List (Option A)) (len : ℕ) → len ≡ div_ceil (length values) 8 → length (mask_bytes (flags_in values)) ≡ len
mask_len values len is = length-mask_bytes (flags_in values) ∙ ap (λ n. (n + 7) / 8) (length-map values is_none) ∙ sym (is ∙ ceil_is (length values))

pub missing_any : {A : Type 0} (values : List (Option A)) → list_any is_none values ≡ some_missing (flags_in values)
missing_any [] = refl
missing_any (v ∷ values) = ap (λ b. is_none v || b) (missing_any values)

-- the flags of the eight values from 8 * k on
abbrev pub eight : List Bool → ℕ → List Bool
eight flags k = take 8 (drop (8 * k) flags)

pub length-eight : (flags : List Bool) (k few : ℕ) → 8 * k ≤ length flags → few ≡ min (length flags - 8 * k) 8 → length (eight flags k) ≡ few
length-eight flags k few h is = omega (arith, is, length-take 8 (drop (8 * k) flags), length-drop (8 * k) flags)

-- the mask byte of these flags, after one more flag
pub byte_more : (flags : List Bool) (k i : ℕ) → i < length (eight flags k) → bit (get_or flags (8 * k + i) false) + 2 * mask_byte (drop (i + 1) (eight flags k)) ≡ mask_byte (drop i (eight flags k))
byte_more flags k i h =
    ap (λ b. bit b + 2 * mask_byte (drop (i + 1) (eight flags k))) (sym (flag_of_part flags k i (omega (arith, length-take 8 (drop (8 * k) flags)))))
    ∙ ap mask_byte (sym (drop_more (eight flags k) i false h))

-- the mask byte of no flags
pub byte_none : (flags : List Bool) (k : ℕ) → mask_byte (drop (length (eight flags k)) (eight flags k)) ≡ 0
byte_none flags k = ap mask_byte (drop_all (length (eight flags k)) (eight flags k) (omega arith))

-- the mask byte of at most seven flags is below 128
pub byte_small : (flags : List Bool) (k i : ℕ) → 0 < i → mask_byte (drop i (eight flags k)) < 128
byte_small flags k i h =
    let rest = drop i (eight flags k) in
    let wider : 2 ^ length rest ≤ 2 ^ 7 = pow-le-pow_right {n = 2} (omega arith) {i = length rest} {j = 7} (omega (arith, length-drop i (eight flags k), length-take 8 (drop (8 * k) flags))) in
    omega (arith, mask_byte-lt rest)

pub mask_is_parts : (flags : List Bool) → mask_bytes flags ≡ map (part flags) (range_with_len 0 ((length flags + 7) / 8))
unfolding mask_bytes
mask_is_parts flags = refl

-- two masks are equal if they agree in each byte
pub mask_same : {A : Type 0} (values : List (Option A)) (mask : List ℕ) (len : ℕ) → len ≡ div_ceil (length values) 8 → length mask ≡ len → ((k : ℕ) → k < len → get_or mask k 0 ≡ part (flags_in values) k) → mask ≡ mask_bytes (flags_in values)
mask_same values mask len is many same =
    let all = mask_len values len is in
    let bytes : (length (flags_in values) + 7) / 8 ≡ len = sym (length-mask_bytes (flags_in values)) ∙ all in
    same_number_lists mask (mask_bytes (flags_in values)) (many ∙ sym all) (λ k h.
    same k (omega arith) ∙ sym (mask_byte_at (flags_in values) k (omega arith)))

-- the prefix of bytes that begin with a mask
pub mask_front : {A : Type 0} (values : List (Option A)) (bytes front rest : List ℕ) (len : ℕ) → len ≡ div_ceil (length values) 8 → bytes ≡ mask_bytes (flags_in values) ++ rest → front ≡ take len bytes → front ≡ mask_bytes (flags_in values)
mask_front values bytes front rest len is e front_is = front_is ∙ ap (take len) e ∙ take_at (mask_bytes (flags_in values)) rest len (mask_len values len is)

pub mask_back : {A : Type 0} (values : List (Option A)) (bytes back rest : List ℕ) (len : ℕ) → len ≡ div_ceil (length values) 8 → bytes ≡ mask_bytes (flags_in values) ++ rest → back ≡ drop len bytes → back ≡ rest
mask_back values bytes back rest len is e back_is = back_is ∙ ap (drop len) e ∙ drop_at (mask_bytes (flags_in values)) rest len (mask_len values len is)

-- a byte of such a prefix
pub front_byte : {A : Type 0} (values : List (Option A)) (front : List ℕ) (len k : ℕ) → len ≡ div_ceil (length values) 8 → front ≡ mask_bytes (flags_in values) → k < len → get_or front k 0 ≡ part (flags_in values) k
front_byte values front len k is front_is h =
    let all = mask_len values len is in
    ap (λ m. get_or m k 0) front_is ∙ mask_byte_at (flags_in values) k (omega (arith, length-mask_bytes (flags_in values), all))
