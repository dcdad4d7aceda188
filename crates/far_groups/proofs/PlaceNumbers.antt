-- The places of numbers: 0, -1, 1, -2, and so on.
use Rattle.std.proofs.Common.{◌≡◌, ℕ, zero, suc, ◌+◌, ◌-◌, ◌*◌, ◌/◌, ◌%◌, ◌<◌, ◌≤◌, ◌==◌, true, false, cond, refl, sym, ap, ◌∙◌, Option, Some, arith, ◌⊎◌, inl, inr}
use Rattle.std.specs.Prelude.{ℤ, pos, negsuc, nat_lt}
use Rattle.std.proofs.lemmas.Bool.Decides.{nat_tests}
use Rattle.far_types.specs.declared.key.Key.{Key}
use Rattle.far_types.specs.declared.key.Key.TheVariants.{Int}
use Rattle.far_groups.specs.Dense.{place_number, place_key, rank_place}

-- each place is even or odd
pub halves : (k : ℕ) → (k ≡ k / 2 * 2) ⊎ (k ≡ k / 2 * 2 + 1)
halves k = elim (k % 2 == 0) as (λ b. (k % 2 == 0) ≡ b → (k ≡ k / 2 * 2) ⊎ (k ≡ k / 2 * 2 + 1)) [
  | true ↦ λ e. inl (let zero_left : k % 2 ≡ 0 = grind (arith, nat_tests) in omega (arith, zero_left))
  | false ↦ λ e. inr (let left : k % 2 ≡ 0 → ⊥ = grind (arith, nat_tests) in omega (arith, left))
] refl

pub even : (h : ℕ) → place_number (h * 2) ≡ pos h
even h =
    let test : (h * 2 % 2 == 0) ≡ true = (let none : h * 2 % 2 ≡ 0 = omega arith in grind (arith, nat_tests)) in
    let half : h * 2 / 2 ≡ h = omega arith in
    ap (λ b. cond b (pos (h * 2 / 2)) (negsuc (h * 2 / 2))) test ∙ ap pos half

pub odd : (h : ℕ) → place_number (h * 2 + 1) ≡ negsuc h
odd h =
    let test : ((h * 2 + 1) % 2 == 0) ≡ false = (let one : (h * 2 + 1) % 2 ≡ 1 = omega arith in grind (arith, nat_tests)) in
    let half : (h * 2 + 1) / 2 ≡ h = omega arith in
    ap (λ b. cond b (pos ((h * 2 + 1) / 2)) (negsuc ((h * 2 + 1) / 2))) test ∙ ap negsuc half

-- the place of a number
abbrev pub number_place : ℤ → ℕ
number_place (pos h) = h * 2
number_place (negsuc h) = h * 2 + 1

pub number_there : (n : ℤ) → place_number (number_place n) ≡ n
number_there (pos h) = even h
number_there (negsuc h) = odd h

pub place_there : (k : ℕ) → number_place (place_number k) ≡ k
place_there k = elim (halves k) [
  | inl e ↦ ap (λ (n : ℕ). number_place (place_number n)) e ∙ ap number_place (even (k / 2)) ∙ sym e
  | inr e ↦ ap (λ (n : ℕ). number_place (place_number n)) e ∙ ap number_place (odd (k / 2)) ∙ sym e
]

number_in : Option Key → ℤ
number_in (Some (Int n)) = n
number_in _ = pos 0

-- different places have different keys
pub key_of_place : (i k : ℕ) → place_key i ≡ place_key k → i ≡ k
unfolding number_in
key_of_place i k e = sym (place_there i) ∙ ap (λ (key : Option Key). number_place (number_in key)) e ∙ place_there k

-- the place of a rank
pub rank_low : (below rank : ℕ) → rank < below → rank_place below rank ≡ (below - rank) * 2 - 1
rank_low below rank l = let test : nat_lt rank below ≡ true = grind (arith, nat_tests) in ap (λ b. cond b ((below - rank) * 2 - 1) ((rank - below) * 2)) test

pub rank_high : (below rank : ℕ) → below ≤ rank → rank_place below rank ≡ (rank - below) * 2
rank_high below rank l = let test : nat_lt rank below ≡ false = grind (arith, nat_tests) in ap (λ b. cond b ((below - rank) * 2 - 1) ((rank - below) * 2)) test

pub side : (below rank : ℕ) → (rank < below) ⊎ (below ≤ rank)
side zero rank = inr (omega arith)
side (suc below) zero = inl (omega arith)
side (suc below) (suc rank) = elim (side below rank) [ inl l ↦ inl (omega arith) | inr l ↦ inr (omega arith) ]

-- a rank within the list has a place within the list
pub rank_within : (n rank : ℕ) → rank < n → rank_place (n / 2) rank < n
rank_within n rank l = elim (side (n / 2) rank) [
  | inl low ↦ let is = rank_low (n / 2) rank low in omega (arith, is, low)
  | inr high ↦ let is = rank_high (n / 2) rank high in omega (arith, is, high, l)
]

-- different ranks have different places
pub rank_apart : (below i j : ℕ) → i < j → rank_place below i ≡ rank_place below j → ⊥
rank_apart below i j l e = elim (side below i) [
  | inl low ↦ elim (side below j) [
    | inl low_too ↦ let a = rank_low below i low in let b = rank_low below j low_too in omega (arith, a, b, e, l, low, low_too)
    | inr high ↦ let a = rank_low below i low in let b = rank_high below j high in odd_even (below - i) (j - below) (omega (arith, low)) (sym a ∙ e ∙ b)
  ]
  | inr high ↦ let a = rank_high below i high in let b = rank_high below j (omega (arith, high, l)) in omega (arith, a, b, e, l, high)
] where
  odd_even : (x y : ℕ) → 0 < x → x * 2 - 1 ≡ y * 2 → ⊥
  odd_even x y z h = let parity : (x * 2 - 1) % 2 ≡ 1 = omega (arith, z) in omega (arith, parity, h)

-- each place within the list has a rank within the list
pub ranked_place : (n k : ℕ) → k < n → (rank : ℕ) × (rank < n) × (k ≡ rank_place (n / 2) rank)
ranked_place n k l = elim (halves k) [
  | inl e ↦ (n / 2 + k / 2, omega (arith, e, l), (let is = rank_high (n / 2) (n / 2 + k / 2) (omega arith) in omega (arith, is, e)))
  | inr e ↦ (n / 2 - 1 - k / 2, omega (arith, e, l), (let is = rank_low (n / 2) (n / 2 - 1 - k / 2) (omega (arith, e, l)) in omega (arith, is, e, l)))
]

-- numbers ascend with their ranks
pub rank_number_low : (below rank : ℕ) → rank < below → place_number (rank_place below rank) ≡ negsuc (below - rank - 1)
rank_number_low below rank l =
    let is = rank_low below rank l in
    let place : rank_place below rank ≡ (below - rank - 1) * 2 + 1 = omega (arith, is, l) in
    ap place_number place ∙ odd (below - rank - 1)

pub rank_number_high : (below rank : ℕ) → below ≤ rank → place_number (rank_place below rank) ≡ pos (rank - below)
rank_number_high below rank l = ap place_number (rank_high below rank l) ∙ even (rank - below)
