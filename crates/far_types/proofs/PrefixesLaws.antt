-- How texts compare by their first bytes, and how four bytes are read at once.
use Rattle.std.proofs.Common.{◌≡◌, ℕ, zero, suc, ◌+◌, ◌-◌, ◌*◌, ◌%◌, ◌^◌, ◌<◌, ◌≤◌, List, [], ◌∷◌, length, refl, sym, ap, ◌∙◌, subst, arith}
use Rattle.std.specs.Prelude.{slice_index}
use Rattle.std.specs.Int.{w32, from_be_bytes}
use Rattle.std.specs.Ordering.{nat_cmp, ordering_then, MatchOrdering}
use Rattle.std.specs.Cmp.{ranks, nat_cmp_is}
use Rattle.std.specs.Cmp.Lexicographic.{slice_cmp}
use Rattle.std.specs.declared.cmp.Ordering.{Ordering}
use Rattle.std.specs.declared.cmp.Ordering.TheVariants.{Less, Equal, Greater}
use Rattle.std.proofs.lemmas.Nat.{mul-add-lt}
use Rattle.std.proofs.Math.Nat.{one-le-pow, pow-suc, mul-le-mul_left, mul_comm}
use Rattle.far_types.specs.Prefixes.{first_bytes, prefix_of, AreBytes}

-- the number of the first n bytes is below 256 ^ n
below : (n : ℕ) (bytes : List ℕ) → AreBytes bytes → first_bytes n bytes < 256 ^ n
below zero bytes are = omega arith
below (suc n) [] are = one-le-pow (suc n) 256 (omega arith)
below (suc n) (byte ∷ bytes) are =
    subst (λ (power : ℕ). byte * 256 ^ n + first_bytes n bytes < power) (sym (pow-suc 256 n)) (mul-add-lt byte (256 ^ n) (first_bytes n bytes) 256 (are 0) (below n bytes (λ i. are (suc i))))

-- a lower first byte makes the number lower
lower : (x y w p q : ℕ) → x < y → p < w → x * w + p < y * w + q
lower x y w p q less small =
    let inside : x * w + p < w * (x + 1) = mul-add-lt x w p (x + 1) (omega arith) small in
    let next : w * (x + 1) ≤ w * y = mul-le-mul_left w (omega arith) in
    let turned : w * y ≡ y * w = mul_comm w y in
    omega (arith, inside, next, turned)

-- a number added to both sides does not change their order
behind : (c p q : ℕ) → nat_cmp (c + p) (c + q) ≡ nat_cmp p q
behind c p q = sym (nat_cmp_is (c + p) (c + q) (nat_cmp p q) (moved (nat_cmp p q) (ranks p q))) where
  moved : (r : Ordering) → MatchOrdering r (p < q) (p ≡ q) (q < p) → MatchOrdering r (c + p < c + q) (c + p ≡ c + q) (c + q < c + p)
  moved Less h = omega arith
  moved Equal h = ap (λ n. c + n) h
  moved Greater h = omega arith

-- the first bytes decide the order, or the rest if the first bytes are equal
first_decides : (x y w p q : ℕ) (rest : Ordering) → p < w → q < w → (x * w + p ≡ y * w + q → ⊥) → ((p ≡ q → ⊥) → nat_cmp p q ≡ rest) → nat_cmp (x * w + p) (y * w + q) ≡ ordering_then (nat_cmp x y) rest
first_decides x y w p q rest small small_too other decides = by (nat_cmp x y) (ranks x y) where
  by : (r : Ordering) → MatchOrdering r (x < y) (x ≡ y) (y < x) → nat_cmp (x * w + p) (y * w + q) ≡ ordering_then r rest
  by Less h = sym (nat_cmp_is (x * w + p) (y * w + q) Less (lower x y w p q h small))
  by Equal h =
      ap (λ (n : ℕ). nat_cmp (n * w + p) (y * w + q)) h ∙ behind (y * w) p q ∙ decides (λ same. other (ap (λ (n : ℕ). n * w + p) h ∙ ap (λ (n : ℕ). y * w + n) same))
  by Greater h = sym (nat_cmp_is (x * w + p) (y * w + q) Greater (lower y x w q p h small_too))

-- if the numbers of two texts' first bytes differ, the numbers decide the order of the texts
pub decided : (n : ℕ) (xs ys : List ℕ) → AreBytes xs → AreBytes ys → (first_bytes n xs ≡ first_bytes n ys → ⊥) → nat_cmp (first_bytes n xs) (first_bytes n ys) ≡ slice_cmp nat_cmp xs ys
decided zero xs ys are also other = absurd (other refl)
decided (suc n) [] [] are also other = absurd (other refl)
decided (suc n) [] (y ∷ ys) are also other = sym (nat_cmp_is 0 (first_bytes (suc n) (y ∷ ys)) Less (omega arith))
decided (suc n) (x ∷ xs) [] are also other = sym (nat_cmp_is (first_bytes (suc n) (x ∷ xs)) 0 Greater (omega arith))
decided (suc n) (x ∷ xs) (y ∷ ys) are also other =
    first_decides x y (256 ^ n) (first_bytes n xs) (first_bytes n ys) (slice_cmp nat_cmp xs ys) (below n xs (λ i. are (suc i))) (below n ys (λ i. also (suc i))) other
    (decided n xs ys (λ i. are (suc i)) (λ i. also (suc i)))

-- the four bytes from index `place` on as a number
abbrev pub four : List ℕ → ℕ → ℕ
four bytes place = from_be_bytes w32 (slice_index bytes place ∷ slice_index bytes (place + 1) ∷ slice_index bytes (place + 2) ∷ slice_index bytes (place + 3) ∷ [])

-- the prefix of four to seven bytes: the first four bytes, and the last four without the bytes that overlap
pub of_some : (bytes : List ℕ) → AreBytes bytes → 4 ≤ length bytes → length bytes < 8 → prefix_of bytes ≡ four bytes 0 * 2 ^ 32 + (four bytes (length bytes - 4) * 2 ^ (64 - length bytes * 8)) % 2 ^ 32
of_some [] are h l = absurd (omega arith)
of_some (a ∷ []) are h l = absurd (omega arith)
of_some (a ∷ b ∷ []) are h l = absurd (omega arith)
of_some (a ∷ b ∷ c ∷ []) are h l = absurd (omega arith)
of_some (a ∷ b ∷ c ∷ d ∷ []) are h l = omega arith
of_some (a ∷ b ∷ c ∷ d ∷ e ∷ []) are h l = let last = are 4 in omega arith
of_some (a ∷ b ∷ c ∷ d ∷ e ∷ f ∷ []) are h l = let before = are 4 in let last = are 5 in omega arith
of_some (a ∷ b ∷ c ∷ d ∷ e ∷ f ∷ g ∷ []) are h l = let first = are 4 in let second = are 5 in let last = are 6 in omega arith
of_some (a ∷ b ∷ c ∷ d ∷ e ∷ f ∷ g ∷ i ∷ bytes) are h l = absurd (omega arith)
