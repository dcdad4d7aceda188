-- Ascending lists of numbers, and what they contain.
use Rattle.std.proofs.Common.{◌≡◌, ◌≢◌, ℕ, zero, suc, ◌+◌, ◌<◌, ◌≤◌, ◌⊎◌, inl, inr, Bool, true, false, List, [], ◌∷◌, ◌++◌, length, get_or, map, cond, refl, sym, ap, subst, ◌∙◌, arith}
use Rattle.std.specs.Prelude.{filter, Contains, AllPairs}
use Rattle.std.specs.List.Sorted.{IsNonDecreasing}
use Rattle.std.proofs.lemmas.Bool.{cases_lt}
use Rattle.std.proofs.lemmas.List.Elements.{All-append}
use Rattle.std.proofs.lemmas.List.Kept.{AllPairs-cons}

module _ {X : Type 0} where
  pub in-head : (x : X) (xs : List X) → Contains (x ∷ xs) x
  in-head x xs = (zero, omega arith, refl)

  pub in-tail : (x o : X) (xs : List X) → Contains xs o → Contains (x ∷ xs) o
  in-tail x o xs h = (suc h.0, omega (arith, h.1), h.2)

  pub in-none : (o : X) → Contains [] o → ⊥
  in-none o h = omega (arith, h.1)

  cases-at : (x o : X) (xs : List X) (k : ℕ) → k < length (x ∷ xs) → get_or (x ∷ xs) k o ≡ o → (o ≡ x) ⊎ Contains xs o
  cases-at x o xs zero lt e = inl (sym e)
  cases-at x o xs (suc k) lt e = inr (k, omega (arith, lt), e)

  pub in-cases : (x o : X) (xs : List X) → Contains (x ∷ xs) o → (o ≡ x) ⊎ Contains xs o
  in-cases x o xs h = cases-at x o xs h.0 h.1 h.2

  -- an element that passes a test is in the filtered list
  pub in-filter : (p : X → Bool) (xs : List X) (o : X) → Contains xs o → p o ≡ true → Contains (filter p xs) o
  in-filter p [] o h passes = absurd (in-none o h)
  in-filter p (x ∷ xs) o h passes = elim (in-cases x o xs h) [
    | inl same ↦ let first : p x ≡ true = ap p (sym same) ∙ passes in rw first (subst (λ q. Contains (q ∷ filter p xs) o) same (in-head o (filter p xs)))
    | inr later ↦
        let there = in-filter p xs o later passes in
        elim (p x) as (λ b. Contains (cond b (x ∷ filter p xs) (filter p xs)) o) [ true ↦ in-tail x o (filter p xs) there | false ↦ there ]
  ]

  first-or-later : (p : X → Bool) (x : X) (xs : List X) (o : X) (b : Bool) → p x ≡ b → (Contains (filter p xs) o → Contains xs o × (p o ≡ true)) → Contains (cond b (x ∷ filter p xs) (filter p xs)) o → Contains (x ∷ xs) o × (p o ≡ true)
  first-or-later p x xs o true is rest there = elim (in-cases x o (filter p xs) there) [
    | inl same ↦ (subst (λ q. Contains (q ∷ xs) o) same (in-head o xs), ap p same ∙ is)
    | inr later ↦ let w = rest later in (in-tail x o xs w.0, w.1)
  ]
  first-or-later p x xs o false is rest there = let w = rest there in (in-tail x o xs w.0, w.1)

  pub from-filter : (p : X → Bool) (xs : List X) (o : X) → Contains (filter p xs) o → Contains xs o × (p o ≡ true)
  from-filter p [] o h = absurd (in-none o h)
  from-filter p (x ∷ xs) o h = first-or-later p x xs o (p x) refl (from-filter p xs o) h

  -- an element that is read from a list is in it
  pub in-read : (xs : List X) (k : ℕ) (d : X) → k < length xs → Contains xs (get_or xs k d)
  in-read [] k d lt = absurd (omega (arith, lt))
  in-read (z ∷ zs) zero d lt = in-head z zs
  in-read (z ∷ zs) (suc k) d lt = in-tail z (get_or zs k d) zs (in-read zs k d (omega (arith, lt)))

  -- a relation holds for all pairs of two joined lists, if it holds within each list and across them
  pub pairs-append : (R : X → X → Type 0) (xs ys : List X) → AllPairs R xs → AllPairs R ys → ((x y : X) → Contains xs x → Contains ys y → R x y) → AllPairs R (xs ++ ys)
  pairs-append R [] ys one two across = two
  pairs-append R (x ∷ xs) ys one two across =
      AllPairs-cons R x (xs ++ ys)
      (All-append (R x) xs ys (λ k d lt. one zero (suc k) d (omega arith) (omega (arith, lt))) (λ k d lt. across x (get_or ys k d) (in-head x xs) (in-read ys k d lt)))
      (pairs-append R xs ys (λ i j d lt within. one (suc i) (suc j) d (omega (arith, lt)) (omega (arith, within))) two (λ a b here other. across a b (in-tail x a xs here) other))

module _ {X Y : Type 0} (f : X → Y) where
  pub in-map : (xs : List X) (o : X) → Contains xs o → Contains (map f xs) (f o)
  in-map [] o h = absurd (in-none o h)
  in-map (x ∷ xs) o h = elim (in-cases x o xs h) [
    | inl same ↦ subst (λ q. Contains (f q ∷ map f xs) (f o)) same (in-head (f o) (map f xs))
    | inr later ↦ in-tail (f x) (f o) (map f xs) (in-map xs o later)
  ]

  pub from-map : (xs : List X) (y : Y) → Contains (map f xs) y → (x : X) × Contains xs x × (f x ≡ y)
  from-map [] y h = absurd (in-none y h)
  from-map (x ∷ xs) y h = elim (in-cases (f x) y (map f xs) h) [
    | inl same ↦ (x, in-head x xs, sym same)
    | inr later ↦ let w = from-map xs y later in (w.0, in-tail x w.0 xs w.1, w.2)
  ]

-- the numbers ascend, and none is less than `from`
abbrev pub Rises : ℕ → List ℕ → Type 0
Rises from [] = Unit {0}
Rises from (x ∷ xs) = (from ≤ x) × Rises (x + 1) xs

pub rises-before : (f from : ℕ) (xs : List ℕ) → f ≤ from → Rises from xs → Rises f xs
rises-before f from [] le h = tt
rises-before f from (x ∷ xs) le h = (omega (arith, h.0, le), h.1)

pub rises-least : (from : ℕ) (xs : List ℕ) (o : ℕ) → Rises from xs → Contains xs o → from ≤ o
rises-least from [] o h there = absurd (in-none o there)
rises-least from (x ∷ xs) o h there = elim (in-cases x o xs there) [
  | inl same ↦ omega (arith, h.0, same)
  | inr later ↦ omega (arith, h.0, rises-least (x + 1) xs o h.1 later)
]

pub rises-filter : (p : ℕ → Bool) (from : ℕ) (xs : List ℕ) → Rises from xs → Rises from (filter p xs)
rises-filter p from [] h = tt
rises-filter p from (x ∷ xs) h =
    let rest = rises-filter p (x + 1) xs h.1 in
    elim (p x) as (λ b. Rises from (cond b (x ∷ filter p xs) (filter p xs))) [ true ↦ (h.0, rest) | false ↦ rises-before from (x + 1) (filter p xs) (omega (arith, h.0)) rest ]

pub rises-pairs : (from : ℕ) (xs : List ℕ) → ((d : ℕ) → 0 < length xs → from ≤ get_or xs 0 d) → AllPairs (λ x y. x < y) xs → Rises from xs
rises-pairs from [] low h = tt
rises-pairs from (x ∷ xs) low h = (low 0 (omega arith), rises-pairs (x + 1) xs (λ d lt. let first = h 0 1 d (omega arith) (omega (arith, lt)) in omega (arith, first)) (λ i j d lt within. h (suc i) (suc j) d (omega (arith, lt)) (omega (arith, within))))

-- numbers that do not descend and all differ ascend
pub rises-sorted : (xs : List ℕ) → IsNonDecreasing xs → AllPairs (λ o p. o ≢ p) xs → Rises 0 xs
rises-sorted xs up disjoint = rises-pairs 0 xs (λ d lt. omega arith) (λ i j d lt within. elim (cases_lt (get_or xs i d) (get_or xs j d)) [
  | inl less ↦ less
  | inr more ↦ absurd (disjoint i j d lt within (omega (arith, more, up i j d (omega (arith, lt)) within)))
])

-- ascending numbers do not repeat
pub rises-disjoint : (from : ℕ) (xs : List ℕ) → Rises from xs → AllPairs (λ o p. o ≢ p) xs
rises-disjoint from [] h = λ i j d lt within. absurd (omega (arith, within))
rises-disjoint from (x ∷ xs) h = AllPairs-cons (λ o p. o ≢ p) x xs (λ k d lt e. let least = rises-least (x + 1) xs (get_or xs k d) h.1 (in-read xs k d lt) in omega (arith, least, e)) (rises-disjoint (x + 1) xs h.1)

-- two ascending lists with the same numbers are equal
pub same-sorted : (from : ℕ) (xs ys : List ℕ) → Rises from xs → Rises from ys → ((o : ℕ) → Contains xs o → Contains ys o) → ((o : ℕ) → Contains ys o → Contains xs o) → xs ≡ ys
same-sorted from [] [] hx hy to back = refl
same-sorted from [] (y ∷ ys) hx hy to back = absurd (in-none y (back y (in-head y ys)))
same-sorted from (x ∷ xs) [] hx hy to back = absurd (in-none x (to x (in-head x xs)))
same-sorted from (x ∷ xs) (y ∷ ys) hx hy to back =
    let low : (a b : ℕ) (bs : List ℕ) → Rises (b + 1) bs → Contains (b ∷ bs) a → b ≤ a = λ a b bs h there. elim (in-cases b a bs there) [
      | inl same ↦ omega (arith, same)
      | inr later ↦ let least = rises-least (b + 1) bs a h later in omega (arith, least)
    ] in
    let heads : x ≡ y = omega (arith, low x y ys hy.1 (to x (in-head x xs)), low y x xs hx.1 (back y (in-head y ys))) in
    let rest : xs ≡ ys = same-sorted (x + 1) xs ys hx.1 (subst (λ n. Rises (n + 1) ys) (sym heads) hy.1)
    (λ o there. elim (in-cases y o ys (to o (in-tail x o xs there))) [
      | inl same ↦ absurd (let least = rises-least (x + 1) xs o hx.1 there in omega (arith, least, heads, same))
      | inr later ↦ later
    ])
    (λ o there. elim (in-cases x o xs (back o (in-tail y o ys there))) [
      | inl same ↦ absurd (let least = rises-least (y + 1) ys o hy.1 there in omega (arith, least, heads, same))
      | inr later ↦ later
    ]) in
    rw (heads, rest) refl
