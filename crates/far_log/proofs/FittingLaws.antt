-- Placing lists segment by segment takes the same lists as placing them one by one.
use Rattle.std.proofs.Common.{◌≡◌, ℕ, suc, ◌+◌, ◌-◌, ◌<◌, Bool, true, false, List, [], ◌∷◌, length, Option, Some, None, eqb, refl, sym, ap, ◌∙◌, inl, inr, arith}
use Rattle.std.specs.Prelude.{slice_set, slice_index, nat_le, All}
use Rattle.std.specs.List.{list_all, position_or_len}
use Rattle.std.specs.Option.{option_map_or}
use Rattle.std.proofs.lemmas.Bool.{ne_eqb, eq-eqb, le-leb, lt-leb, lt-ltb, le-ltb, cases_eq, cases_lt}
use Rattle.far_log.specs.RegionState.{lowest_for, fit_in_order}
use Rattle.far_log.specs.Fitting.{after_fill, waiting_fit}

-- the lowest segment, the first or one after it
pub lowest-first : (f : ℕ) (fs : List ℕ) (n : ℕ) → nat_le n f ≡ true → lowest_for (f ∷ fs) n ≡ Some 0
lowest-first f fs n takes = rw takes (rw (lt-ltb 0 (suc (length fs)) (omega arith)) refl)

pub lowest-later : (f : ℕ) (fs : List ℕ) (n : ℕ) → nat_le n f ≡ false → lowest_for (f ∷ fs) n ≡ option_map_or (λ i. Some (suc i)) (lowest_for fs n) None
lowest-later f fs n refuses =
    let first : ℕ = position_or_len (λ space. nat_le n space) fs in
    let next : 1 + first ≡ suc first = omega arith in
    rw refuses (elim (cases_lt first (length fs)) [
      | inl lt ↦ rw (lt-ltb (1 + first) (suc (length fs)) (omega arith), lt-ltb first (length fs) lt) (ap Some next)
      | inr le ↦ rw (le-ltb (1 + first) (suc (length fs)) (omega arith), le-ltb first (length fs) le) refl
    ])

-- the other segments need no space for the lists that the first takes
abbrev placed : List ℕ → ℕ → List ℕ → ℕ → Bool
placed spaces n ns i = waiting_fit (slice_set spaces i (slice_index spaces i - n)) ns

pub after_fill-first : (f : ℕ) (fs ws : List ℕ) → waiting_fit (f ∷ fs) ws ≡ waiting_fit fs (after_fill f ws)
after_fill-first f fs [] = refl
after_fill-first f fs (n ∷ ns) =
    elim (cases_eq n 0) [
      | inl none ↦
          let takes = le-leb n f (omega arith) in
          let same : f - n ≡ f = omega arith in
          rw (eq-eqb n 0 none, takes) (after_fill-first f fs ns ∙ ap (λ k. waiting_fit fs (after_fill k ns)) (sym same))
      | inr some ↦ elim (cases_lt f n) [
        | inr fits ↦
            let takes = le-leb n f fits in
            let fits_first : 0 ∷ after_fill (f - n) ns ≡ after_fill f (n ∷ ns) = rw takes refl in
            rw (ne_eqb n 0 some) (ap (λ o. option_map_or (placed (f ∷ fs) n ns) o false) (lowest-first f fs n takes) ∙ after_fill-first (f - n) fs ns ∙ ap (waiting_fit fs) fits_first)
        | inl less ↦
            let refuses = lt-leb n f less in
            let passed : after_fill f (n ∷ ns) ≡ n ∷ after_fill f ns = rw refuses refl in
            let rest : waiting_fit fs (n ∷ after_fill f ns) ≡ option_map_or (placed fs n (after_fill f ns)) (lowest_for fs n) false = rw (ne_eqb n 0 some) refl in
            rw (ne_eqb n 0 some) (ap (λ o. option_map_or (placed (f ∷ fs) n ns) o false) (lowest-later f fs n refuses)
            ∙ later f fs n ns (lowest_for fs n) (λ i. after_fill-first f (slice_set fs i (slice_index fs i - n)) ns)
            ∙ sym (ap (waiting_fit fs) passed ∙ rest))
      ]
    ]
  where
    later : (f : ℕ) (fs : List ℕ) (n : ℕ) (ns : List ℕ) (o : Option ℕ) → ((i : ℕ) → waiting_fit (f ∷ slice_set fs i (slice_index fs i - n)) ns ≡ waiting_fit (slice_set fs i (slice_index fs i - n)) (after_fill f ns))
        → option_map_or (placed (f ∷ fs) n ns) (option_map_or (λ i. Some (suc i)) o None) false ≡ option_map_or (placed fs n (after_fill f ns)) o false
    later f fs n ns None h = refl
    later f fs n ns (Some i) h = h i

-- without a segment, no length may wait
pub none-left : (ws : List ℕ) → waiting_fit [] ws ≡ list_all (λ len. eqb len 0) ws
none-left [] = refl
none-left (n ∷ ns) = elim (cases_eq n 0) [
  | inl none ↦ rw (eq-eqb n 0 none) (none-left ns)
  | inr some ↦ rw (ne_eqb n 0 some) refl
]

-- if no length waits, every list is placed
pub none-waiting : (spaces ws : List ℕ) → list_all (λ len. eqb len 0) ws ≡ true → waiting_fit spaces ws ≡ true
none-waiting spaces [] h = refl
none-waiting spaces (n ∷ ns) h = elim (cases_eq n 0) [
  | inl none ↦ let takes = eq-eqb n 0 none in rw takes (none-waiting spaces ns (rw takes at h))
  | inr some ↦ let refuses = ne_eqb n 0 some in absurd (let false-true = rw refuses at h in cc)
]

-- the lengths of lists that are not empty all wait
pub all-waiting : (spaces ns : List ℕ) → All (λ n. 0 < n) ns → waiting_fit spaces ns ≡ fit_in_order spaces ns
all-waiting spaces [] h = refl
all-waiting spaces (n ∷ ns) h =
    let some : 0 < n = h 0 0 (omega arith) in
    rw (ne_eqb n 0 (λ e. omega arith)) (each (lowest_for spaces n) (λ i. all-waiting (slice_set spaces i (slice_index spaces i - n)) ns (λ k d lt. h (suc k) d (omega arith))))
  where
    each : (o : Option ℕ) → ((i : ℕ) → waiting_fit (slice_set spaces i (slice_index spaces i - n)) ns ≡ fit_in_order (slice_set spaces i (slice_index spaces i - n)) ns)
        → option_map_or (placed spaces n ns) o false ≡ option_map_or (λ i. fit_in_order (slice_set spaces i (slice_index spaces i - n)) ns) o false
    each None e = refl
    each (Some i) e = e i
