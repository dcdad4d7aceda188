-- The order of use after several uses.
use Rattle.std.proofs.Common.{◌≡◌, ◌≢◌, ℕ, ◌+◌, ◌<◌, ◌++◌, Bool, true, false, not, inl, inr, List, [], ◌∷◌, cond, length, filter, get_or, take, drop, reverse, nat_eq, refl, sym, ap, subst, ◌∙◌, arith}
use Rattle.std.specs.List.{IsDistinct, AllByRecursion}
use Rattle.std.proofs.Math.Bool.{or_comm}
use Rattle.std.proofs.lemmas.Bool.{cases_eq, cases_Bool, eq-eqb, ne_eqb}
use Rattle.std.proofs.lemmas.List.{append_assoc, reverse-append, take_all, take_more, drop_more}
use Rattle.std.proofs.lemmas.List.Elements.{filter_agree}
use Rattle.std.proofs.lemmas.Map.Keys.{IsDistinct-head, IsDistinct-tail}
use Rattle.far_scopes.specs.Recency.{has, without, after_use, after_uses, newest, is_unused, Once}
use Rattle.far_scopes.proofs.RecencyLaws.{has-cons_same, has-cons_other, has-without_other, without-cons, has-after_use, after_use-first, once-after_use, or-left, or-right}

-- removing an object that is in an order makes the order shorter by one
pub length-without : (order : List ℕ) (o : ℕ) → has order o ≡ true → length order ≡ length (without order o) + 1
length-without [] o there = cc
length-without (q ∷ order) o there = elim (cases_eq o q) [
  | inl same ↦ rw (eq-eqb o q same) (omega arith)
  | inr ne ↦ (let rest = length-without order o (sym (has-cons_other order q o ne) ∙ there) in rw (ne_eqb o q ne) (omega (arith, rest)))
]

length-after_use : (order : List ℕ) (o : ℕ) → length (after_use order o) ≡ length order
length-after_use order o = elim (cases_Bool (has order o)) [
  | inl there ↦ (let is : after_use order o ≡ o ∷ without order o = rw there refl in ap length is ∙ omega (arith, length-without order o there))
  | inr gone ↦ (let is : after_use order o ≡ order = rw gone refl in ap length is)
]

-- uses do not change how many objects there are
pub length-after_uses : (order uses : List ℕ) → length (after_uses order uses) ≡ length order
length-after_uses order [] = refl
length-after_uses order (o ∷ uses) = length-after_uses (after_use order o) uses ∙ length-after_use order o

-- using an object twice is using it once
pub after_use-twice : (order : List ℕ) (o : ℕ) → after_use (after_use order o) o ≡ after_use order o
after_use-twice order o = elim (cases_Bool (has order o)) [
  | inl there ↦ (let is : after_use order o ≡ o ∷ without order o = rw there refl in ap (λ l. after_use l o) is ∙ after_use-first (without order o) o ∙ sym is)
  | inr gone ↦ (let is : after_use order o ≡ order = rw gone refl in ap (λ l. after_use l o) is)
]

pub after_uses-push : (order uses : List ℕ) (o : ℕ) → after_uses order (uses ++ o ∷ []) ≡ after_use (after_uses order uses) o
after_uses-push order [] o = refl
after_uses-push order (p ∷ uses) o = after_uses-push (after_use order p) uses o

-- the last object of some uses is used again
pub after_uses-again : (order uses : List ℕ) (i o : ℕ) → length uses ≡ i + 1 → get_or uses i 0 ≡ o → after_use (after_uses order uses) o ≡ after_uses order uses
after_uses-again order uses i o len same =
    let split : uses ≡ take i uses ++ o ∷ [] = sym (take_all (i + 1) uses (omega (arith, len))) ∙ take_more uses i 0 (omega (arith, len)) ∙ ap (λ p. take i uses ++ p ∷ []) same in
    let last : after_uses order uses ≡ after_use (after_uses order (take i uses)) o = ap (after_uses order) split ∙ after_uses-push order (take i uses) o in
    ap (λ l. after_use l o) last ∙ after_use-twice (after_uses order (take i uses)) o ∙ sym last

-- uses do not change which objects there are
pub has-after_uses : (order uses : List ℕ) (p : ℕ) → has (after_uses order uses) p ≡ has order p
has-after_uses order [] p = refl
has-after_uses order (o ∷ uses) p = has-after_uses (after_use order o) uses p ∙ has-after_use order o p

-- two objects are removed, in either order
without-cons_other : (order : List ℕ) (q o : ℕ) → o ≢ q → without (q ∷ order) o ≡ q ∷ without order o
without-cons_other order q o ne = rw (ne_eqb o q ne) refl

without-without : (order : List ℕ) (o p : ℕ) → o ≢ p → without (without order p) o ≡ without (without order o) p
without-without [] o p ne = refl
without-without (q ∷ order) o p ne = elim (cases_eq o q) [
  | inl first ↦ rw (ne_eqb p q (λ e. ne (first ∙ sym e)), eq-eqb o q first) refl
  | inr not_first ↦ elim (cases_eq p q) [
    | inl second ↦ rw (ne_eqb o q not_first, eq-eqb p q second) refl
    | inr not_second ↦
        ap (λ l. without l o) (without-cons_other order q p not_second)
        ∙ without-cons_other (without order p) q o not_first
        ∙ ap (λ l. q ∷ l) (without-without order o p ne)
        ∙ sym (without-cons_other (without order o) q p not_second)
        ∙ sym (ap (λ l. without l p) (without-cons_other order q o not_first))
  ]
]

without-none : (order : List ℕ) (o : ℕ) → has order o ≡ false → without order o ≡ order
without-none [] o none = refl
without-none (q ∷ order) o none = rw (or-left (nat_eq o q) (has order o) none) (ap (λ l. q ∷ l) (without-none order o (or-right (nat_eq o q) (has order o) none)))

-- an order after a use, and the same without the object or another one
module _ (order : List ℕ) where
  used : (o : ℕ) → has order o ≡ true → after_use order o ≡ o ∷ without order o
  used o there = ap (λ b. cond b (o ∷ without order o) order) there

  unused : (o : ℕ) → has order o ≡ false → after_use order o ≡ order
  unused o gone = ap (λ b. cond b (o ∷ without order o) order) gone

  without-after_use_same : (o : ℕ) → without (after_use order o) o ≡ without order o
  without-after_use_same o = elim (cases_Bool (has order o)) [
    | inl there ↦ ap (λ l. without l o) (used o there) ∙ without-cons (without order o) o
    | inr gone ↦ ap (λ l. without l o) (unused o gone)
  ]

without-after_use : (order : List ℕ) (o p : ℕ) → o ≢ p → without (after_use order p) o ≡ after_use (without order o) p
without-after_use order o p ne =
    let other : has (without order o) p ≡ has order p = has-without_other order o p (λ e. ne (sym e)) in
    elim (cases_Bool (has order p)) [
      | inl there ↦
          ap (λ l. without l o) (used order p there)
          ∙ without-cons_other (without order p) p o ne
          ∙ ap (λ l. p ∷ l) (without-without order o p ne)
          ∙ sym (used (without order o) p (other ∙ there))
      | inr gone ↦ ap (λ l. without l o) (unused order p gone) ∙ sym (unused (without order o) p (other ∙ gone))
    ]

-- Two orders differ at most in where an object stands. They are equal when it is used.
module _ (o : ℕ) where
  use-same : (a b : List ℕ) → without a o ≡ without b o → has a o ≡ has b o → after_use a o ≡ after_use b o
  use-same a b rest both = elim (cases_Bool (has a o)) [
    | inl there ↦ used a o there ∙ ap (λ l. o ∷ l) rest ∙ sym (used b o (sym both ∙ there))
    | inr gone ↦ unused a o gone ∙ sym (without-none a o gone) ∙ rest ∙ without-none b o (sym both ∙ gone) ∙ sym (unused b o (sym both ∙ gone))
  ]

  uses-same : (uses a b : List ℕ) → without a o ≡ without b o → has a o ≡ has b o → has uses o ≡ true → after_uses a uses ≡ after_uses b uses
  uses-same [] a b rest both again = cc
  uses-same (p ∷ uses) a b rest both again = elim (cases_eq o p) [
    | inl same ↦ ap (λ l. after_uses l uses) (subst (λ q. after_use a q ≡ after_use b q) same (use-same a b rest both))
    | inr ne ↦
        uses-same uses (after_use a p) (after_use b p)
        (without-after_use a o p ne ∙ ap (λ l. after_use l p) rest ∙ sym (without-after_use b o p ne))
        (has-after_use a p o ∙ both ∙ sym (has-after_use b p o))
        (sym (has-cons_other uses p o ne) ∙ again)
  ]

  -- a use does not matter if the object is used again
  pub after_uses-skip : (order uses : List ℕ) → has uses o ≡ true → after_uses (after_use order o) uses ≡ after_uses order uses
  after_uses-skip order uses again = uses-same uses (after_use order o) order (without-after_use_same order o) (has-after_use order o o) again

-- a log of uses is followed: the use at an index is the last one of its object and is made, or it is left out
module _ (order uses : List ℕ) (i : ℕ) (within : i < length uses) where
  pub follow-last : (now : List ℕ) → now ≡ after_use order (get_or uses i 0) → after_uses now (drop (i + 1) uses) ≡ after_uses order (drop i uses)
  follow-last now is = ap (λ l. after_uses l (drop (i + 1) uses)) is ∙ sym (ap (after_uses order) (drop_more uses i 0 within))

  pub follow-again : not (has (drop (i + 1) uses) (get_or uses i 0)) ≡ false → after_uses order (drop (i + 1) uses) ≡ after_uses order (drop i uses)
  follow-again again = elim (cases_Bool (has (drop (i + 1) uses) (get_or uses i 0))) [
    | inl there ↦ sym (after_uses-skip (get_or uses i 0) order (drop (i + 1) uses) there) ∙ sym (ap (after_uses order) (drop_more uses i 0 within))
    | inr gone ↦ (let wrong : true ≡ false = sym (ap not gone) ∙ again in absurd cc)
  ]

-- the objects of an order that are not used
unused-all : (order : List ℕ) → filter (is_unused []) order ≡ order
unused-all [] = refl
unused-all (o ∷ order) = ap (λ l. o ∷ l) (unused-all order)

filter-without : (test : ℕ → Bool) (order : List ℕ) (o : ℕ) → test o ≡ false → filter test (without order o) ≡ filter test order
filter-without test [] o fails = refl
filter-without test (q ∷ order) o fails = elim (cases_eq o q) [
  | inl same ↦ (let fails_too : test q ≡ false = sym (ap test same) ∙ fails in rw (eq-eqb o q same, fails_too) refl)
  | inr ne ↦ rw (ne_eqb o q ne) (ap (λ l. cond (test q) (q ∷ l) l) (filter-without test order o fails))
]

module _ (uses : List ℕ) (o : ℕ) where
  is_unused-other : (p : ℕ) → p ≢ o → is_unused (o ∷ uses) p ≡ is_unused uses p
  is_unused-other p ne = ap not (has-cons_other uses o p ne)

  filter-again : has uses o ≡ true → (order : List ℕ) → filter (is_unused uses) order ≡ filter (is_unused (o ∷ uses)) order
  filter-again again = filter_agree (is_unused uses) (is_unused (o ∷ uses)) (λ p. elim (cases_eq p o) [
    | inl same ↦ ap not (ap (has uses) same ∙ again ∙ sym (has-cons_same uses o) ∙ sym (ap (has (o ∷ uses)) same))
    | inr ne ↦ sym (is_unused-other p ne)
  ])

  filter-none : (order : List ℕ) → has order o ≡ false → filter (is_unused (o ∷ uses)) order ≡ filter (is_unused uses) order
  filter-none [] none = refl
  filter-none (q ∷ order) none = elim (cases_eq q o) [
    | inl same ↦ (let wrong : true ≡ false = sym (has-cons_same order q) ∙ ap (has (q ∷ order)) same ∙ none in absurd cc)
    | inr ne ↦
        ap (λ b. cond b (q ∷ filter (is_unused (o ∷ uses)) order) (filter (is_unused (o ∷ uses)) order)) (is_unused-other q ne)
        ∙ ap (λ l. cond (is_unused uses q) (q ∷ l) l) (filter-none order (or-right (nat_eq o q) (has order o) none))
  ]

  filter-used : (order : List ℕ) → Once order → filter (is_unused (o ∷ uses)) order ≡ filter (is_unused uses) (without order o)
  filter-used [] once = refl
  filter-used (q ∷ order) once = elim (cases_eq o q) [
    | inl same ↦
        let fails : is_unused (o ∷ uses) q ≡ false = ap not (sym (ap (has (o ∷ uses)) same) ∙ has-cons_same uses o) in
        rw (eq-eqb o q same)
        (ap (λ b. cond b (q ∷ filter (is_unused (o ∷ uses)) order) (filter (is_unused (o ∷ uses)) order)) fails
        ∙ filter-none order (ap (has order) same ∙ once.0))
    | inr ne ↦
        ap (λ b. cond b (q ∷ filter (is_unused (o ∷ uses)) order) (filter (is_unused (o ∷ uses)) order)) (is_unused-other q (λ e. ne (sym e)))
        ∙ ap (λ l. cond (is_unused uses q) (q ∷ l) l) (filter-used order once.1)
        ∙ sym (ap (filter (is_unused uses)) (without-cons_other order q o ne))
  ]

-- After some uses of its objects an order begins with these, the last use first. The others follow as before.
pub after_uses-newest : (uses order : List ℕ) → Once order → ((p : ℕ) → has uses p ≡ true → has order p ≡ true) → after_uses order uses ≡ reverse (newest uses) ++ filter (is_unused uses) order
after_uses-newest [] order once all = sym (unused-all order)
after_uses-newest (o ∷ uses) order once all =
    let first : after_use order o ≡ o ∷ without order o = used order o (all o (has-cons_same uses o)) in
    let rest = after_uses-newest uses (after_use order o) (once-after_use order o once) (λ p among. has-after_use order o p ∙ all p (rw among (or_comm (nat_eq p o) true))) in
    elim (cases_Bool (has uses o)) [
      | inl again ↦
          let fails : is_unused uses o ≡ false = ap not again in
          let same : newest (o ∷ uses) ≡ newest uses = ap (λ b. cond b (newest uses) (o ∷ newest uses)) again in
          rest
          ∙ ap (λ l. reverse (newest uses) ++ l) (ap (filter (is_unused uses)) first
          ∙ ap (λ b. cond b (o ∷ filter (is_unused uses) (without order o)) (filter (is_unused uses) (without order o))) fails
          ∙ filter-without (is_unused uses) order o fails
          ∙ filter-again uses o again order)
          ∙ sym (ap (λ l. reverse l ++ filter (is_unused (o ∷ uses)) order) same)
      | inr last ↦
          let passes : is_unused uses o ≡ true = ap not last in
          let more : newest (o ∷ uses) ≡ o ∷ newest uses = ap (λ b. cond b (newest uses) (o ∷ newest uses)) last in
          rest
          ∙ ap (λ l. reverse (newest uses) ++ l) (ap (filter (is_unused uses)) first
          ∙ ap (λ b. cond b (o ∷ filter (is_unused uses) (without order o)) (filter (is_unused uses) (without order o))) passes
          ∙ ap (λ l. o ∷ l) (sym (filter-used uses o order once)))
          ∙ sym (append_assoc (reverse (newest uses)) (o ∷ []) (filter (is_unused (o ∷ uses)) order))
          ∙ sym (ap (λ l. l ++ filter (is_unused (o ∷ uses)) order) (ap reverse more ∙ reverse-append (o ∷ []) (newest uses)))
    ]

-- the keys of a cache are an order that has no object twice
none-equal : (o : ℕ) (order : List ℕ) → AllByRecursion (λ p. nat_eq o p ≡ false) order → has order o ≡ false
none-equal o [] none = refl
none-equal o (p ∷ order) none = rw none.0 (none-equal o order none.1)

pub once-distinct : (order : List ℕ) → IsDistinct nat_eq order → Once order
once-distinct [] distinct = tt
once-distinct (o ∷ order) distinct = (none-equal o order (IsDistinct-head nat_eq o order distinct), once-distinct order (IsDistinct-tail nat_eq o order distinct))
