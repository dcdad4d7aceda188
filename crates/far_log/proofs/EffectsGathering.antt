-- Parts that are moved in an order: their total length, and their offsets.
use Rattle.std.proofs.Common.{◌≡◌, ◌≢◌, ℕ, zero, suc, ◌+◌, ◌-◌, ◌<◌, ◌≤◌, List, [], ◌∷◌, ◌++◌, length, get_or, take, map, Some, IsSome, eqb, refl, sym, ap, ◌∙◌, inl, inr, arith}
use Rattle.std.specs.Prelude.{unwrap_or, filter, not, sum_by, AllPairs}
use Rattle.std.proofs.lemmas.Bool.{eq-eqb, ne_eqb, cases_eq}
use Rattle.std.proofs.lemmas.Option.{same_Some}
use Rattle.std.proofs.lemmas.List.{map_more}
use Rattle.std.proofs.lemmas.List.Sums.{sum_by-cons, sum_by_more_le}
use Rattle.far_log.specs.RegionState.{Part, SegmentState, end_of, fill_from, IsLayoutFrom, IsLayout, list_at}
use Rattle.far_log.specs.Effects.{layout_from, list_or_none, gathered, IsOrder}
use Rattle.far_log.proofs.RegionStateLayouts.{fill-le-size, list-others}

-- a list does not contain this number
abbrev Lacks : ℕ → List ℕ → Type 0
Lacks o [] = Unit {0}
Lacks o (q ∷ qs) = (q ≢ o) × Lacks o qs

abbrev AreOnce : List ℕ → Type 0
AreOnce [] = Unit {0}
AreOnce (o ∷ os) = Lacks o os × AreOnce os

lacks-from : (o : ℕ) (qs : List ℕ) → ((k d : ℕ) → k < length qs → o ≢ get_or qs k d) → Lacks o qs
lacks-from o [] h = tt
lacks-from o (q ∷ qs) h = (λ e. h zero zero (omega arith) (sym e), lacks-from o qs (λ k d lt. h (suc k) d (omega arith)))

once-from : (os : List ℕ) → AllPairs (λ o q. o ≢ q) os → AreOnce os
once-from [] h = tt
once-from (o ∷ os) h = (lacks-from o os (λ k d lt. h zero (suc k) d (omega arith) (omega arith)), once-from os (λ i j d lt within. h (suc i) (suc j) d (omega arith) (omega arith)))

module _ {X : Type 0} where
  abbrev pub total : List (List X) → ℕ
  total xss = sum_by (λ xs. length xs) xss

  abbrev pub used : List (Part X) → ℕ
  used ps = sum_by (λ p. length p.list) ps

  abbrev others : ℕ → List (Part X) → List (Part X)
  others offset ps = filter (λ p. not (eqb p.offset offset)) ps

  -- lists placed one after another end where their lengths say
  pub fill-layout_from : (from : ℕ) (xss : List (List X)) → fill_from from (layout_from from xss) ≡ from + total xss
  fill-layout_from from [] = omega arith
  fill-layout_from from (xs ∷ xss) = omega (arith, fill-layout_from (from + length xs) xss, sum_by-cons (λ (ys : List X). length ys) xs xss)

  -- one more list is placed
  pub layout_from-push : (from : ℕ) (xss : List (List X)) (xs : List X) → layout_from from (xss ++ xs ∷ []) ≡ layout_from from xss ++ record { offset = fill_from from (layout_from from xss); list = xs } ∷ []
  layout_from-push from [] xs = refl
  layout_from-push from (ys ∷ xss) xs = ap (λ ps. record { offset = from; list = ys } ∷ ps) (layout_from-push (from + length ys) xss xs)

  -- if a list begins at an offset, `list_or_none` is that list
  pub list-there : (ps : List (Part X)) (offset : ℕ) → IsSome (list_at ps offset) → list_at ps offset ≡ Some (list_or_none ps offset)
  list-there [] offset h = absurd (cc)
  list-there (p ∷ ps) offset h =
      elim (cases_eq p.offset offset) [
        | inl same ↦ rw (eq-eqb p.offset offset same) refl
        | inr other ↦ let no = ne_eqb p.offset offset other in rw no (list-there ps offset (rw no at h))
      ]

  -- the total length without one part is at most the total length
  used-others-le : (offset : ℕ) (ps : List (Part X)) → used (others offset ps) ≤ used ps
  used-others-le offset [] = omega arith
  used-others-le offset (p ∷ ps) =
      let rest = used-others-le offset ps in
      let one = sum_by-cons (λ (q : Part X). length q.list) p ps in
      let two = sum_by-cons (λ (q : Part X). length q.list) p (others offset ps) in
      elim (cases_eq p.offset offset) [
        | inl same ↦ rw (eq-eqb p.offset offset same) (omega (arith, rest, one))
        | inr other ↦ rw (ne_eqb p.offset offset other) (omega (arith, rest, one, two))
      ]

  -- the length of one part and of the others is at most the total length
  used-split : (offset : ℕ) (ps : List (Part X)) → length (list_or_none ps offset) + used (others offset ps) ≤ used ps
  used-split offset [] = omega arith
  used-split offset (p ∷ ps) =
      let rest = used-split offset ps in
      let less = used-others-le offset ps in
      let one = sum_by-cons (λ (q : Part X). length q.list) p ps in
      let two = sum_by-cons (λ (q : Part X). length q.list) p (others offset ps) in
      elim (cases_eq p.offset offset) [
        | inl same ↦ rw (eq-eqb p.offset offset same) (omega (arith, less, one))
        | inr other ↦ rw (ne_eqb p.offset offset other) (omega (arith, rest, one, two))
      ]

  list-of-others : (offset q : ℕ) (ps : List (Part X)) → q ≢ offset → list_or_none (others offset ps) q ≡ list_or_none ps q
  list-of-others offset q ps ne = ap (λ o. unwrap_or o []) (list-others ps offset q ne)

  -- the length of parts that are each listed once is at most the total length
  abbrev pub lens : List (Part X) → List ℕ → ℕ
  lens ps order = sum_by (λ offset. length (list_or_none ps offset)) order

  lens-others : (ps : List (Part X)) (o : ℕ) (os : List ℕ) → Lacks o os → lens (others o ps) os ≡ lens ps os
  lens-others ps o [] h = refl
  lens-others ps o (q ∷ qs) h =
      let same : length (list_or_none (others o ps) q) ≡ length (list_or_none ps q) = ap (λ (xs : List X). length xs) (list-of-others o q ps h.0) in
      omega (arith, same, lens-others ps o qs h.1, sum_by-cons (λ n. length (list_or_none (others o ps) n)) q qs, sum_by-cons (λ n. length (list_or_none ps n)) q qs)

  lens-le-used : (ps : List (Part X)) (os : List ℕ) → AreOnce os → lens ps os ≤ used ps
  lens-le-used ps [] h = omega arith
  lens-le-used ps (o ∷ os) h =
      let rest = lens-le-used (others o ps) os h.1 in
      omega (arith, rest, lens-others ps o os h.0, used-split o ps, sum_by-cons (λ n. length (list_or_none ps n)) o os)

  -- the total length of the parts is at most the segment's size
  used-le-fill : (from size : ℕ) (ps : List (Part X)) → IsLayoutFrom from ps size → from + used ps ≤ fill_from from ps
  used-le-fill from size [] h = omega arith
  used-le-fill from size (p ∷ ps) h = omega (arith, used-le-fill (end_of p) size ps h.2, h.0, sum_by-cons (λ (q : Part X). length q.list) p ps)

  pub lens-le-size : (s : SegmentState X) (order : List ℕ) → IsLayout s → IsOrder s.parts order → lens s.parts order ≤ s.size
  lens-le-size s order h o = omega (arith, lens-le-used s.parts order (once-from order o.once), used-le-fill 0 s.size s.parts h, fill-le-size 0 s.size s.parts h)

  -- the lengths of the lists at some offsets
  pub lens-of : (ps : List (Part X)) (os : List ℕ) → total (map (list_or_none ps) os) ≡ lens ps os
  lens-of ps [] = refl
  lens-of ps (o ∷ os) = omega (arith, lens-of ps os, sum_by-cons (λ (xs : List X). length xs) (list_or_none ps o) (map (list_or_none ps) os), sum_by-cons (λ n. length (list_or_none ps n)) o os)

  -- the next part fits in the segment
  pub next-fits : (s : SegmentState X) (order : List ℕ) (i size : ℕ) → IsLayout s → IsOrder s.parts order → i < length order → s.size ≤ size
      → length (list_or_none s.parts (get_or order i 0)) ≤ size - fill_from 0 (gathered s.parts (take i order))
  next-fits s order i size h o lt le =
      omega (arith, fill-layout_from 0 (map (list_or_none s.parts) (take i order)), lens-of s.parts (take i order), lens-le-size s order h o, sum_by_more_le (λ n. length (list_or_none s.parts n)) order i 0 lt)

  -- one more part is moved
  pub gathered-more : (ps : List (Part X)) (order : List ℕ) (i : ℕ) → i < length order
      → gathered ps (take (i + 1) order) ≡ gathered ps (take i order) ++ record { offset = fill_from 0 (gathered ps (take i order)); list = list_or_none ps (get_or order i 0) } ∷ []
  gathered-more ps order i lt = ap (layout_from 0) (map_more (list_or_none ps) order i 0 lt) ∙ layout_from-push 0 (map (list_or_none ps) (take i order)) (list_or_none ps (get_or order i 0))

  -- parts are not empty
  pub some-list : (from size : ℕ) (ps : List (Part X)) (offset : ℕ) → IsLayoutFrom from ps size → IsSome (list_at ps offset) → 0 < length (list_or_none ps offset)
  some-list from size [] offset h some = absurd (cc)
  some-list from size (p ∷ ps) offset h some =
      elim (cases_eq p.offset offset) [
        | inl same ↦ rw (eq-eqb p.offset offset same) h.1
        | inr other ↦ let no = ne_eqb p.offset offset other in rw no (some-list (end_of p) size ps offset h.2 (rw no at some))
      ]

  -- the list at an offset
  pub list-is : (ps : List (Part X)) (offset : ℕ) (xs : List X) → list_at ps offset ≡ Some xs → list_or_none ps offset ≡ xs
  list-is ps offset xs e = same_Some (list_or_none ps offset) xs (sym (list-there ps offset (rw e refl)) ∙ e)
