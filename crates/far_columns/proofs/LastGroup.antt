-- The last row group.
use Rattle.std.proofs.Common.{◌≡◌, ℕ, zero, suc, ◌+◌, ◌-◌, ◌*◌, ◌/◌, ◌<◌, ◌≤◌, sym, ap, subst, ◌∙◌, arith}
use Rattle.std.proofs.lemmas.Nat.{div-mul-add}

-- a place that is in one of n row groups, and in none before the last, is in the last
pub last-group : (n size i : ℕ) → i < n * size → (n - 1) * size ≤ i → i / size ≡ n - 1
last-group zero size i there from = absurd (omega (arith, there))
last-group (suc m) size i there from =
    let e : suc m - 1 ≡ m = omega arith in
    let begin : m * size ≤ i = subst (λ k. k * size ≤ i) e from in
    let is : i ≡ m * size + (i - m * size) = omega (arith, begin) in
    ap (λ k. k / size) is ∙ div-mul-add m size (i - m * size) (omega (arith, there, begin)) ∙ sym e

-- the place after the last element is in the last row group, if this has an unused place
pub next-group : (n size len : ℕ) → len < n * size → n * size < len + size → len / size ≡ n - 1
next-group zero size len there needed = absurd (omega (arith, there))
next-group (suc m) size len there needed =
    let e : suc m - 1 ≡ m = omega arith in
    let begin : m * size ≤ len = omega (arith, needed) in
    last-group (suc m) size len there (subst (λ k. k * size ≤ len) (sym e) begin)

-- if there is a place, there is a row group
pub some-group : (n size i : ℕ) → i < n * size → 0 < n
some-group zero size i there = absurd (omega (arith, there))
some-group (suc m) size i there = omega arith
