-- Runs that follow one another, and how all of them change with one of them.
use Rattle.std.proofs.Common.{◌≡◌, ℕ, zero, suc, ◌<◌, ◌≤◌, ◌+◌, ◌==◌, true, false, cond, [], ◌∷◌, ◌++◌, List, refl, sym, ap, ◌∙◌, arith, Option, None, Some, subst, length, get_or, set, drop}
use Rattle.std.specs.Prelude.{ℤ}
use Rattle.far_types.specs.Effects.{join_min_maxes, merge_two}
use Rattle.far_extrema.specs.Spreads.{MinMaxes, at, IsFrom, IsBelow, IsTopOf, IsSet, joined_to}
use Rattle.far_extrema.specs.Runs.{RunState, RiseFrom, IsGap, whole, AreParts, IsBeforeNext, IsAt, IsPart, IsCut, IsReached}
use Rattle.far_extrema.proofs.SpreadsLaws.{here, at-append, first_of, first_none, top-both, regroup, bounded, from-set, below-set, below-both, both_none}
use Rattle.std.specs.List.{insert, remove}
use Rattle.std.proofs.lemmas.List.{length-set, append_assoc}
use Rattle.far_extrema.proofs.RunsLaws.{floor, joined_past, merge_none, none_joined, rise_remove}

mm_at : List RunState → ℕ → MinMaxes
mm_at [] i = []
mm_at (r ∷ rs) zero = r.min_maxes
mm_at (r ∷ rs) (suc i) = mm_at rs i

-- runs have no row groups before the bound of the first run
pub whole_from : (low f : ℕ) (fs : List ℕ) (rs : List RunState) (q : ℕ) → RiseFrom low (f ∷ fs) → AreParts (f ∷ fs) rs → q < f → at (whole rs) q ≡ None
whole_from low f fs [] q r p l = absurd p
whole_from low f [] (r ∷ []) q up p l = at-append r.min_maxes [] q ∙ first_none (at r.min_maxes q) ∙ p.0 q l
whole_from low f [] (r ∷ s ∷ rs) q up p l = absurd p.2
whole_from low f (g ∷ fs) (r ∷ rs) q up p l =
    at-append r.min_maxes (whole rs) q ∙ ap (λ o. first_of o (at (whole rs) q)) (p.0 q l) ∙ whole_from (f + 1) g fs rs q up.1 p.2 (omega (arith, up.1.0, l))

pub none_before : (fs : List ℕ) (rs : List RunState) (q : ℕ) → RiseFrom 0 fs → AreParts fs rs → IsGap fs q 0 → at (whole rs) q ≡ None
none_before [] [] q r p gap = refl
none_before [] (x ∷ rs) q r p gap = absurd p
none_before (f ∷ fs) rs q r p gap = whole_from 0 f fs rs q r p (gap.after 0 (omega arith) (omega arith))

tail_part : (f : ℕ) (fs : List ℕ) (g i : ℕ) → IsPart (f ∷ fs) g (suc i) → IsPart fs g i
tail_part f fs g i part = record { in_range = (let l = part.in_range in omega (arith, l)); from = part.from; below = λ l. (let h : g < get_or (f ∷ fs) (suc i + 1) 0 = part.below (omega (arith, l)) in subst (λ n. g < get_or (f ∷ fs) n 0) {x = suc i + 1} {y = suc (i + 1)} (omega arith) h) }

-- the min-max of a row group is the one in its run
pub at_part : (low : ℕ) (fs : List ℕ) (rs : List RunState) (g i : ℕ) (d : RunState) → RiseFrom low fs → AreParts fs rs → IsPart fs g i → at (whole rs) g ≡ at (get_or rs i d).min_maxes g
at_part low [] rs g i d up p part = absurd (let l = part.in_range in omega (arith, l))
at_part low (f ∷ fs) [] g i d up p part = absurd p
at_part low (f ∷ []) (r ∷ []) g zero d up p part = at-append r.min_maxes [] g ∙ first_none (at r.min_maxes g)
at_part low (f ∷ []) (r ∷ s ∷ rs) g zero d up p part = absurd p.2
at_part low (f ∷ h ∷ fs) (r ∷ rs) g zero d up p part =
    at-append r.min_maxes (whole rs) g ∙ ap (first_of (at r.min_maxes g)) (whole_from (f + 1) h fs rs g up.1 p.2 (part.below (omega arith))) ∙ first_none (at r.min_maxes g)
at_part low (f ∷ []) (r ∷ rs) g (suc i) d up p part = absurd (let l = part.in_range in omega (arith, l))
at_part low (f ∷ h ∷ fs) (r ∷ rs) g (suc i) d up p part =
    let part' = tail_part f (h ∷ fs) g i part in
    let first : h ≤ get_or (h ∷ fs) i 0 = floor h (h ∷ fs) i (omega arith, up.1.1) part'.in_range in
    let reached : get_or (h ∷ fs) i 0 ≤ g = part'.from in
    at-append r.min_maxes (whole rs) g ∙ ap (λ o. first_of o (at (whole rs) g)) (p.1 g (omega (arith, first, reached)))
    ∙ at_part (f + 1) (h ∷ fs) rs g i d up.1 p.2 part'

next_above : (low : ℕ) (fs : List ℕ) (i : ℕ) → RiseFrom low fs → i + 1 < length fs → get_or fs i 0 < get_or fs (i + 1) 0
next_above low [] i up l = absurd (omega arith)
next_above low (f ∷ []) i up l = absurd (omega arith)
next_above low (f ∷ h ∷ fs) zero up l = (let above : f + 1 ≤ h = up.1.0 in omega (arith, above))
next_above low (f ∷ h ∷ fs) (suc i) up l = subst (λ n. get_or (h ∷ fs) i 0 < get_or (f ∷ h ∷ fs) n 0) {x = suc (i + 1)} {y = suc i + 1} (omega arith) (next_above (f + 1) (h ∷ fs) i up.1 (omega (arith, l)))

pub part_here : (fs : List ℕ) (g i : ℕ) → RiseFrom 0 fs → IsAt fs g i → IsPart fs g i
part_here fs g i up place = record {
  in_range = place.in_range;
  from = (let e : get_or fs i 0 ≡ g = place.is in omega (arith, e));
  below = λ l. (let e : get_or fs i 0 ≡ g = place.is in let h = next_above 0 fs i up l in omega (arith, e, h));
}

pub parts_length : (fs : List ℕ) (rs : List RunState) → AreParts fs rs → length rs ≡ length fs
parts_length [] [] p = refl
parts_length [] (r ∷ rs) p = absurd p
parts_length (f ∷ fs) [] p = absurd p
parts_length (f ∷ fs) (r ∷ rs) p = (let e = parts_length fs rs p.2 in omega (arith, e))

-- changing one run at a row group of its own
pub set_part : (low : ℕ) (fs : List ℕ) (rs : List RunState) (g i : ℕ) (o : Option (ℤ × ℤ)) (d r' : RunState) → RiseFrom low fs → AreParts fs rs → IsPart fs g i → IsSet (get_or rs i d).min_maxes g o r'.min_maxes
    → AreParts fs (set rs i r') × IsSet (whole rs) g o (whole (set rs i r'))
set_part low [] rs g i o d r' up p part put = absurd (let l = part.in_range in omega (arith, l))
set_part low (f ∷ fs) [] g i o d r' up p part put = absurd p
set_part low (f ∷ fs) (r ∷ rs) g zero o d r' up p part put = (
  (from-set f r.min_maxes r'.min_maxes g o p.0 part.from put, before fs p.1 part, p.2),
  λ q.
      at-append r'.min_maxes (whole rs) q ∙ ap (λ t. first_of t (at (whole rs) q)) (put q) ∙ both q ∙ ap (cond (q == g) o) (sym (at-append r.min_maxes (whole rs) q)),
) where
  before : (fs : List ℕ) → IsBeforeNext fs r.min_maxes → IsPart (f ∷ fs) g 0 → IsBeforeNext fs r'.min_maxes
  before [] b part = tt
  before (h ∷ fs) b part = below-set h r.min_maxes r'.min_maxes g o b (part.below (omega arith)) put

  none : (fs : List ℕ) (rs : List RunState) → RiseFrom low (f ∷ fs) → AreParts fs rs → IsPart (f ∷ fs) g 0 → at (whole rs) g ≡ None
  none [] [] up p part = refl
  none [] (s ∷ rs) up p part = absurd p
  none (h ∷ fs) rs up p part = whole_from (f + 1) h fs rs g up.1 p (part.below (omega arith))

  both : (q : ℕ) → first_of (cond (q == g) o (at r.min_maxes q)) (at (whole rs) q) ≡ cond (q == g) o (first_of (at r.min_maxes q) (at (whole rs) q))
  both q = elim (q == g) as (λ b. (q == g) ≡ b → first_of (cond b o (at r.min_maxes q)) (at (whole rs) q) ≡ cond b o (first_of (at r.min_maxes q) (at (whole rs) q))) [
    | true ↦ λ e. ap (first_of o) (ap (at (whole rs)) (here q g e) ∙ none fs rs up p.2 part) ∙ first_none o
    | false ↦ λ e. refl
  ] refl
set_part low (f ∷ []) (r ∷ rs) g (suc i) o d r' up p part put = absurd (let l = part.in_range in omega (arith, l))
set_part low (f ∷ h ∷ fs) (r ∷ rs) g (suc i) o d r' up p part put =
    let part' = tail_part f (h ∷ fs) g i part in
    let rest = set_part (f + 1) (h ∷ fs) rs g i o d r' up.1 p.2 part' put in
    let first : h ≤ get_or (h ∷ fs) i 0 = floor h (h ∷ fs) i (omega arith, up.1.1) part'.in_range in
    let reached : get_or (h ∷ fs) i 0 ≤ g = part'.from in
    let none : at r.min_maxes g ≡ None = p.1 g (omega (arith, first, reached)) in (
      (p.0, p.1, rest.0),
      λ q.
          at-append r.min_maxes (whole (set rs i r')) q ∙ ap (first_of (at r.min_maxes q)) (rest.1 q) ∙ both q none ∙ ap (cond (q == g) o) (sym (at-append r.min_maxes (whole rs) q)),
    ) where
      both : (q : ℕ) → at r.min_maxes g ≡ None → first_of (at r.min_maxes q) (cond (q == g) o (at (whole rs) q)) ≡ cond (q == g) o (first_of (at r.min_maxes q) (at (whole rs) q))
      both q none = elim (q == g) as (λ b. (q == g) ≡ b → first_of (at r.min_maxes q) (cond b o (at (whole rs) q)) ≡ cond b o (first_of (at r.min_maxes q) (at (whole rs) q))) [
        | true ↦ λ e. ap (λ t. first_of t o) (ap (at r.min_maxes) (here q g e) ∙ none)
        | false ↦ λ e. refl
      ] refl

-- the joined min-max of all runs from one on
pub top_parts : (low : ℕ) (fs : List ℕ) (rs : List RunState) (i : ℕ) (d : RunState) (a t : Option (ℤ × ℤ)) → RiseFrom low fs → AreParts fs rs → i < length rs → IsTopOf (get_or rs i d).min_maxes a → IsTopOf (whole (drop (suc i) rs)) t → IsTopOf (whole (drop i rs)) (merge_two join_min_maxes a t)
top_parts low fs [] i d a t up p l ta tt' = absurd (omega arith)
top_parts low [] (r ∷ rs) i d a t up p l ta tt' = absurd p
top_parts low (f ∷ []) (r ∷ []) zero d a t up p l ta tt' = top-both (bounded r.min_maxes).0 r.min_maxes [] a t (bounded r.min_maxes).1 (λ q m. refl) ta tt'
top_parts low (f ∷ []) (r ∷ s ∷ rs) zero d a t up p l ta tt' = absurd p.2
top_parts low (f ∷ h ∷ fs) (r ∷ rs) zero d a t up p l ta tt' = top-both h r.min_maxes (whole rs) a t p.1 (λ q m. whole_from (f + 1) h fs rs q up.1 p.2 m) ta tt'
top_parts low (f ∷ fs) (r ∷ rs) (suc i) d a t up p l ta tt' = top_parts (f + 1) fs rs i d a t up.1 p.2 (omega (arith, l)) ta tt'

-- whether a loop that joins all runs has joined the runs before this index
abbrev pub JoinsFrom : List RunState → ℕ → Option (ℤ × ℤ) → Type 0
JoinsFrom rs i top = (t : Option (ℤ × ℤ)) → IsTopOf (whole (drop i rs)) t → IsTopOf (whole rs) (merge_two join_min_maxes top t)

pub joins_none : (rs : List RunState) → JoinsFrom rs 0 None
joins_none rs t h = h

pub joins_more : (fs : List ℕ) (rs : List RunState) (i : ℕ) (r : RunState) (top top' : Option (ℤ × ℤ)) → RiseFrom 0 fs → AreParts fs rs → i < length rs → r ≡ get_or rs i r → IsTopOf r.min_maxes r.top → top' ≡ merge_two join_min_maxes top r.top → JoinsFrom rs i top → JoinsFrom rs (i + 1) top'
joins_more fs rs i r top top' up p l is tr join before t h =
    let one : i + 1 ≡ suc i = omega arith in
    let h' : IsTopOf (whole (drop (suc i) rs)) t = subst (λ n. IsTopOf (whole (drop n rs)) t) one h in
    subst (IsTopOf (whole rs)) (sym (ap (λ o. merge_two join_min_maxes o t) join ∙ regroup top r.top t))
    (before (merge_two join_min_maxes r.top t) (top_parts 0 fs rs i r r.top t up p l (subst (λ (s : RunState). IsTopOf s.min_maxes r.top) is tr) h'))

pub joins_all : (rs : List RunState) (i : ℕ) (top : Option (ℤ × ℤ)) → i ≡ length rs → JoinsFrom rs i top → IsTopOf (whole rs) top
joins_all rs i top e h =
    subst (IsTopOf (whole rs)) (merge_none top) (h None (subst (λ ys. IsTopOf (whole ys) None) (sym (ap (λ k. drop k rs) e ∙ none_left rs)) none_joined)) where
      none_left : (rs : List RunState) → drop (length rs) rs ≡ []
      none_left [] = refl
      none_left (x ∷ xs) = none_left xs

pub no_parts : (fs : List ℕ) (rs : List RunState) → fs ≡ [] → rs ≡ [] → (RiseFrom 0 fs × AreParts fs rs × IsTopOf (whole rs) None) × (whole rs ≡ [])
no_parts [] [] e h = ((tt, tt, none_joined), refl)
no_parts [] (x ∷ xs) e h = cc
no_parts (g ∷ gs) xs e h = cc

-- changing one run at a row group of its own, and joining all runs again
pub part_changed : (fs : List ℕ) (rs rs' : List RunState) (g i : ℕ) (o : Option (ℤ × ℤ)) (r r' : RunState) → RiseFrom 0 fs → AreParts fs rs → IsPart fs g i → r ≡ get_or rs i r → IsSet r.min_maxes g o r'.min_maxes → rs' ≡ set rs i r'
    → AreParts fs rs' × IsSet (whole rs) g o (whole rs')
part_changed fs rs rs' g i o r r' up p part is put e =
    subst (λ ss. AreParts fs ss × IsSet (whole rs) g o (whole ss)) (sym e)
    (set_part 0 fs rs g i o r r' up p part (subst (λ (s : RunState). IsSet s.min_maxes g o r'.min_maxes) is put))

pub part_in_range : (fs : List ℕ) (rs : List RunState) (g i : ℕ) → AreParts fs rs → IsPart fs g i → i < length rs
part_in_range fs rs g i p part = (let l = part.in_range in let e = parts_length fs rs p in omega (arith, l, e))

-- a row group in which a key occurs is in its run
pub part_there : (fs : List ℕ) (rs : List RunState) (g i : ℕ) (r : RunState) → RiseFrom 0 fs → AreParts fs rs → IsPart fs g i → r ≡ get_or rs i r → at (whole rs) g ≡ at r.min_maxes g
part_there fs rs g i r up p part is = at_part 0 fs rs g i r up p part ∙ ap (λ (s : RunState). at s.min_maxes g) (sym is)

from-both : (n : ℕ) (xs ys : MinMaxes) → IsFrom n (xs ++ ys) → IsFrom n xs × IsFrom n ys
from-both n xs ys h = (λ q l. (both_none _ _ (sym (at-append xs ys q) ∙ h q l)).0, λ q l. (both_none _ _ (sym (at-append xs ys q) ∙ h q l)).1)

-- cutting a run in two
pub parts_cut : (low : ℕ) (fs : List ℕ) (rs : List RunState) (i f group : ℕ) (d r' late : RunState) → RiseFrom low fs → AreParts fs rs → IsPart fs group i → IsCut group (get_or rs i d).min_maxes r'.min_maxes (Some (f, late))
    → (RiseFrom low (insert fs (suc i) f) × AreParts (insert fs (suc i) f) (insert (set rs i r') (suc i) late)) × (whole (insert (set rs i r') (suc i) late) ≡ whole rs)
parts_cut low [] rs i f group d r' late up p part cut = absurd (let l = part.in_range in omega (arith, l))
parts_cut low (g ∷ fs) [] i f group d r' late up p part cut = absurd p
parts_cut low (g ∷ fs) (r ∷ rs) zero f group d r' late up p part (same, below, from, above, under) =
    let old_from : IsFrom g (r'.min_maxes ++ late.min_maxes) = subst (IsFrom g) same p.0 in (
      ((up.0, ((let m = above g p.0 in omega (arith, m)), rise fs up p.1 part)), ((from-both g r'.min_maxes late.min_maxes old_from).0, below, (from, next fs p.1, p.2))),
      sym (ap (λ mm. mm ++ whole rs) same ∙ append_assoc r'.min_maxes late.min_maxes (whole rs)),
    ) where
      rise : (fs : List ℕ) → RiseFrom low (g ∷ fs) → IsBeforeNext fs r.min_maxes → IsPart (g ∷ fs) group 0 → RiseFrom (f + 1) fs
      rise [] up b part = tt
      rise (h ∷ fs) up b part = ((let m = under h b (part.below (omega arith)) in omega (arith, m)), up.1.1)

      next : (fs : List ℕ) → IsBeforeNext fs r.min_maxes → IsBeforeNext fs late.min_maxes
      next [] b = tt
      next (h ∷ fs) b = (below-both h r'.min_maxes late.min_maxes (subst (IsBelow h) same b)).1
parts_cut low (g ∷ []) (r ∷ rs) (suc i) f group d r' late up p part cut = absurd (let l = part.in_range in omega (arith, l))
parts_cut low (g ∷ h ∷ fs) (r ∷ rs) (suc i) f group d r' late up p part cut =
    let rest = parts_cut (g + 1) (h ∷ fs) rs i f group d r' late up.1 p.2 (tail_part g (h ∷ fs) group i part) cut in
    (((up.0, rest.0.0), (p.0, p.1, rest.0.1)), ap (λ mm. r.min_maxes ++ mm) rest.1)

pub cut_in : (fs fs' : List ℕ) (rs rs' : List RunState) (i f group : ℕ) (r r' late : RunState) → RiseFrom 0 fs → AreParts fs rs → IsPart fs group i → r ≡ get_or rs i r → IsCut group r.min_maxes r'.min_maxes (Some (f, late)) → fs' ≡ insert fs (suc i) f → rs' ≡ insert (set rs i r') (suc i) late
    → (RiseFrom 0 fs' × AreParts fs' rs') × (whole rs' ≡ whole rs)
cut_in fs fs' rs rs' i f group r r' late up p part is cut e h =
    subst (λ gs. (RiseFrom 0 gs × AreParts gs rs') × (whole rs' ≡ whole rs)) (sym e)
    (subst (λ ss. (RiseFrom 0 (insert fs (suc i) f) × AreParts (insert fs (suc i) f) ss) × (whole ss ≡ whole rs)) (sym h)
    (parts_cut 0 fs rs i f group r r' late up p part (subst (λ (s : RunState). IsCut group s.min_maxes r'.min_maxes (Some (f, late))) is cut)))

pub room_length : (fs : List ℕ) (rs rs' : List RunState) (i : ℕ) (r' : RunState) → AreParts fs rs → rs' ≡ set rs i r' → length rs' ≡ length fs
room_length fs rs rs' i r' p e = ap length e ∙ length-set rs i r' ∙ parts_length fs rs p

-- each list of min-maxes has exactly one joined min-max
the_top : MinMaxes → Option (ℤ × ℤ)
the_top mm = joined_to (bounded mm).0 (at mm)

the_top_is : (mm : MinMaxes) → IsTopOf mm (the_top mm)
unfolding the_top
the_top_is mm n w = sym (joined_past mm n (n + (bounded mm).0) w (omega arith)) ∙ joined_past mm (bounded mm).0 (n + (bounded mm).0) (bounded mm).1 (omega arith)

one_top : (mm : MinMaxes) (a b : Option (ℤ × ℤ)) → IsTopOf mm a → IsTopOf mm b → a ≡ b
one_top mm a b s t = sym (s (bounded mm).0 (bounded mm).1) ∙ t (bounded mm).0 (bounded mm).1

tail_rise : (low f : ℕ) (fs : List ℕ) → RiseFrom low (f ∷ fs) → RiseFrom (f + 1) fs
tail_rise low f fs up = up.1

joined_two : (low f : ℕ) (fs : List ℕ) (r : RunState) (rs : List RunState) (a b : Option (ℤ × ℤ)) → RiseFrom low (f ∷ fs) → AreParts (f ∷ fs) (r ∷ rs) → IsTopOf r.min_maxes a → IsTopOf (whole rs) b → IsTopOf (whole (r ∷ rs)) (merge_two join_min_maxes a b)
joined_two low f fs r rs a b up p ta tb = top_parts low (f ∷ fs) (r ∷ rs) 0 r a b up p (omega arith) ta tb

-- a run changes, but its joined min-max does not
pub same_top : (low : ℕ) (fs : List ℕ) (rs : List RunState) (i : ℕ) (d r' : RunState) (a t : Option (ℤ × ℤ)) → RiseFrom low fs → AreParts fs rs → AreParts fs (set rs i r') → i < length rs → IsTopOf (get_or rs i d).min_maxes a → IsTopOf r'.min_maxes a → IsTopOf (whole rs) t → IsTopOf (whole (set rs i r')) t
same_top low fs [] i d r' a t up p p' l ta ta' tt' = absurd (omega arith)
same_top low [] (r ∷ rs) i d r' a t up p p' l ta ta' tt' = absurd p
same_top low (f ∷ fs) (r ∷ rs) zero d r' a t up p p' l ta ta' tt' =
    let b = the_top (whole rs) in
    let old = joined_two low f fs r rs a b up p ta (the_top_is (whole rs)) in
    subst (IsTopOf (whole (r' ∷ rs))) (one_top (whole (r ∷ rs)) (merge_two join_min_maxes a b) t old tt') (joined_two low f fs r' rs a b up p' ta' (the_top_is (whole rs)))
same_top low (f ∷ fs) (r ∷ rs) (suc i) d r' a t up p p' l ta ta' tt' =
    let b = the_top (whole rs) in
    let x = the_top r.min_maxes in
    let old = joined_two low f fs r rs x b up p (the_top_is r.min_maxes) (the_top_is (whole rs)) in
    let rest = same_top (f + 1) fs rs i d r' a b (tail_rise low f fs up) p.2 p'.2 (omega (arith, l)) ta ta' (the_top_is (whole rs)) in
    subst (IsTopOf (whole (r ∷ set rs i r'))) (one_top (whole (r ∷ rs)) (merge_two join_min_maxes x b) t old tt') (joined_two low f fs r (set rs i r') x b up p' (the_top_is r.min_maxes) rest)

pub part_kept : (fs : List ℕ) (rs rs' : List RunState) (i : ℕ) (r r' : RunState) (a b t : Option (ℤ × ℤ)) → RiseFrom 0 fs → AreParts fs rs → AreParts fs rs' → i < length rs → r ≡ get_or rs i r → rs' ≡ set rs i r' → IsTopOf r.min_maxes a → IsTopOf r'.min_maxes b → a ≡ b → IsTopOf (whole rs) t → IsTopOf (whole rs') t
part_kept fs rs rs' i r r' a b t up p p' l is e ta tb same whole_top =
    subst (λ ss. IsTopOf (whole ss) t) (sym e)
    (same_top 0 fs rs i r r' a t up p (subst (AreParts fs) e p') l (subst (λ (s : RunState). IsTopOf s.min_maxes a) is ta) (subst (IsTopOf r'.min_maxes) (sym same) tb) whole_top)

pub written_at : (rs : List RunState) (i : ℕ) (r' d : RunState) → i < length rs → get_or (set rs i r') i d ≡ r'
written_at [] i r' d l = absurd (omega arith)
written_at (r ∷ rs) zero r' d l = refl
written_at (r ∷ rs) (suc i) r' d l = written_at rs i r' d (omega (arith, l))

pub reached : (fs fs' : List ℕ) (g i : ℕ) → RiseFrom 0 fs → IsPart fs g i → fs' ≡ fs → IsReached fs' g
reached fs fs' g i up part e = subst (λ gs. IsReached gs g) (sym e) (at_first fs up part) where
  at_first : (fs : List ℕ) → RiseFrom 0 fs → IsPart fs g i → IsReached fs g
  at_first [] up part = absurd (let l = part.in_range in omega (arith, l))
  at_first (f ∷ fs) up part =
      let low : f ≤ get_or (f ∷ fs) i 0 = floor f (f ∷ fs) i (omega arith, up.1) part.in_range in
      let high : get_or (f ∷ fs) i 0 ≤ g = part.from in
      omega (arith, low, high)

pub reached_more : (fs fs' : List ℕ) (g i f : ℕ) → IsReached fs g → fs' ≡ insert fs (suc i) f → IsReached fs' g
reached_more fs fs' g i f r e = subst (λ gs. IsReached gs g) (sym e) (more fs r) where
  more : (fs : List ℕ) → IsReached fs g → IsReached (insert fs (suc i) f) g
  more [] r = absurd r
  more (h ∷ fs) r = r

pub reached_start : (fs fs' : List ℕ) (g : ℕ) → fs' ≡ insert fs 0 0 → IsReached fs' g
reached_start fs fs' g e = subst (λ gs. IsReached gs g) (sym e) (omega arith)

pub no_gap : (fs : List ℕ) (g : ℕ) → IsReached fs g → IsGap fs g 0 → ⊥
no_gap [] g r gap = r
no_gap (f ∷ fs) g r gap = (let h : g < f = gap.after 0 (omega arith) (omega arith) in let l : f ≤ g = r in omega (arith, h, l))

-- removing a run without row groups
pub parts_gone : (low : ℕ) (fs : List ℕ) (rs : List RunState) (i : ℕ) (d : RunState) → RiseFrom low fs → AreParts fs rs → i < length rs → (get_or rs i d).min_maxes ≡ [] → AreParts (remove fs i) (remove rs i) × (whole (remove rs i) ≡ whole rs)
parts_gone low fs [] i d up p l none = absurd (omega arith)
parts_gone low [] (r ∷ rs) i d up p l none = absurd p
parts_gone low (f ∷ fs) (r ∷ rs) zero d up p l none = (p.2, sym (ap (λ mm. mm ++ whole rs) none))
parts_gone low (f ∷ []) (r ∷ []) (suc i) d up p l none = absurd (omega arith)
parts_gone low (f ∷ []) (r ∷ s ∷ rs) (suc i) d up p l none = absurd p.2
parts_gone low (f ∷ h ∷ fs) (r ∷ rs) (suc i) d up p l none =
    let rest = parts_gone (f + 1) (h ∷ fs) rs i d up.1 p.2 (omega (arith, l)) none in
    ((p.0, next i fs up.1 p.1, rest.0), ap (λ mm. r.min_maxes ++ mm) rest.1) where
      next : (i : ℕ) (fs : List ℕ) → RiseFrom (f + 1) (h ∷ fs) → IsBelow h r.min_maxes → IsBeforeNext (remove (h ∷ fs) i) r.min_maxes
      next zero [] up b = tt
      next zero (g ∷ fs) up b = λ q m. b q (let above : h + 1 ≤ g = up.1.0 in omega (arith, m, above))
      next (suc i) fs up b = b

pub gone_in : (fs fs' : List ℕ) (rs rs' : List RunState) (i : ℕ) (r : RunState) → RiseFrom 0 fs → AreParts fs rs → i < length rs → r ≡ get_or rs i r → r.min_maxes ≡ [] → fs' ≡ remove fs i → rs' ≡ remove rs i
    → (RiseFrom 0 fs' × AreParts fs' rs') × (whole rs' ≡ whole rs)
gone_in fs fs' rs rs' i r up p l is none e h =
    let same = parts_length fs rs p in
    let gone = parts_gone 0 fs rs i r up p l (ap (λ (s : RunState). s.min_maxes) (sym is) ∙ none) in
    subst (λ gs. (RiseFrom 0 gs × AreParts gs rs') × (whole rs' ≡ whole rs)) (sym e)
    (subst (λ ss. (RiseFrom 0 (remove fs i) × AreParts (remove fs i) ss) × (whole ss ≡ whole rs)) (sym h)
    ((rise_remove 0 fs i up (omega (arith, l, same)), gone.0), gone.1))
