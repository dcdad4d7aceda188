-- Stacks that share one block: the list of each, and what a write to the block changes.
use Rattle.std.proofs.Common.{◌≡◌, ◌⊎◌, ℕ, zero, suc, ◌+◌, ◌-◌, ◌*◌, ◌<◌, ◌≤◌, List, [], ◌∷◌, ◌++◌, length, get_or, take, drop, replicate, refl, sym, ap, ◌∙◌, inl, inr, arith, length-take, length-drop, length-append, suc-mul, mul-le-mul_right}
use Rattle.std.specs.Prelude.{slice_set, sum_by, true}
use Rattle.std.proofs.lemmas.Bool.{cases_lt}
use Rattle.std.proofs.lemmas.List.{take-take, take_all, take-append-le, take-append-drop, append-nil, append_assoc, drop_all}
use Rattle.std.proofs.lemmas.List.Sums.{sum_by-cons}
use Rattle.far_log.specs.declared.extents.Extent.{Extent}
use Rattle.far_log.specs.RegionState.{Part}
use Rattle.far_log.specs.Effects.{written_over}
use Rattle.far_log.specs.Stacking.{Stacked, stack_of, stacks_from, AreWithin, IsStacked, IsPut}
use Rattle.far_log.proofs.StorageWrites.{block_over, part-after_write}
use Rattle.far_log.proofs.RegionStateLayouts.{written-before, written-none}

module _ {X : Type 0} (size : ℕ) (block : List X) where
  pub length-stacks : (from : ℕ) (ns : List ℕ) → length (stacks_from size block from ns) ≡ length ns
  length-stacks from [] = refl
  length-stacks from (n ∷ ns) = ap suc (length-stacks (from + size) ns)

  -- the list of a stack
  pub stack-at : (from : ℕ) (ns : List ℕ) (k : ℕ) → k < length ns → get_or (stacks_from size block from ns) k [] ≡ take (get_or ns k 0) (drop (from + k * size) block)
  stack-at from [] k lt = absurd (omega arith)
  stack-at from (n ∷ ns) zero lt = let here : from ≡ from + 0 * size = omega arith in ap (λ m. take n (drop m block)) here
  stack-at from (n ∷ ns) (suc k) lt =
      let there : from + size + k * size ≡ from + suc k * size = omega (arith, suc-mul k size) in
      stack-at (from + size) ns k (omega arith) ∙ ap (λ m. take (get_or ns k 0) (drop m block)) there

  -- the length of that list
  pub length-stack : (from : ℕ) (ns : List ℕ) (k : ℕ) → AreWithin size (length block) from ns → k < length ns → length (get_or (stacks_from size block from ns) k []) ≡ get_or ns k 0
  length-stack from [] k h lt = absurd (omega arith)
  length-stack from (n ∷ ns) zero h lt = omega (arith, h.1, length-take n (drop from block), length-drop from block)
  length-stack from (n ∷ ns) (suc k) h lt = length-stack (from + size) ns k h.2 (omega arith)

  pub filled-lens : (from : ℕ) (ns : List ℕ) → AreWithin size (length block) from ns → sum_by (λ xs. length xs) (stacks_from size block from ns) ≡ sum_by (λ n. n) ns
  filled-lens from [] h = refl
  filled-lens from (n ∷ ns) h =
      omega (arith, h.1, length-take n (drop from block), length-drop from block, filled-lens (from + size) ns h.2, sum_by-cons (λ m. m) n ns, sum_by-cons (λ (xs : List X). length xs) (take n (drop from block)) (stacks_from size block (from + size) ns))

  -- a stack is cut
  pub stacks-cut : (from : ℕ) (ns : List ℕ) (k m : ℕ) → m ≤ get_or ns k 0 → stacks_from size block from (slice_set ns k m) ≡ slice_set (stacks_from size block from ns) k (take m (get_or (stacks_from size block from ns) k []))
  stacks-cut from [] k m le = refl
  stacks-cut from (n ∷ ns) zero m le = ap (λ xs. xs ∷ stacks_from size block (from + size) ns) (sym (take-take m n (drop from block) le))
  stacks-cut from (n ∷ ns) (suc k) m le = ap (λ xss. take n (drop from block) ∷ xss) (stacks-cut (from + size) ns k m le)

-- where a stack ends
pub within-at : (size end from : ℕ) (ns : List ℕ) (k : ℕ) → AreWithin size end from ns → k < length ns → (get_or ns k 0 ≤ size) × (get_or ns k 0 ≤ end - (from + k * size))
within-at size end from [] k h lt = absurd (omega arith)
within-at size end from (n ∷ ns) zero h lt = (h.0, omega (arith, h.1))
within-at size end from (n ∷ ns) (suc k) h lt = let later = within-at size end (from + size) ns k h.2 (omega arith) in (later.0, omega (arith, later.1, suc-mul k size))

pub within-cut : (size end from : ℕ) (ns : List ℕ) (k m : ℕ) → AreWithin size end from ns → m ≤ get_or ns k 0 → AreWithin size end from (slice_set ns k m)
within-cut size end from [] k m h le = tt
within-cut size end from (n ∷ ns) zero m h le = (omega (arith, h.0), omega (arith, h.1), h.2)
within-cut size end from (n ∷ ns) (suc k) m h le = (h.0, h.1, within-cut size end (from + size) ns k m h.2 le)

pub within-more : (size end more from : ℕ) (ns : List ℕ) → AreWithin size end from ns → end ≤ more → AreWithin size more from ns
within-more size end more from [] h le = tt
within-more size end more from (n ∷ ns) h le = (h.0, omega (arith, h.1), within-more size end more (from + size) ns h.2 le)

pub within-put : (size end more from : ℕ) (ns : List ℕ) (k m : ℕ) → k < length ns → AreWithin size end from ns → end ≤ more → m ≤ size → from + k * size + m ≤ more → AreWithin size more from (slice_set ns k m)
within-put size end more from [] k m lt h le small reach = absurd (omega arith)
within-put size end more from (n ∷ ns) zero m lt h le small reach = (small, omega (arith, reach), within-more size end more (from + size) ns h.2 le)
within-put size end more from (n ∷ ns) (suc k) m lt h le small reach =
    (h.0, omega (arith, h.1), within-put size end more (from + size) ns k m (omega arith) h.2 le small (omega (arith, reach, suc-mul k size)))

-- no stack has an element
pub stacks-none : {X : Type 0} (size from n : ℕ) → stacks_from {X = X} size [] from (replicate n 0) ≡ replicate n []
stacks-none size from zero = refl
stacks-none {X} size from (suc n) = ap (λ (xss : List (List X)). [] ∷ xss) (stacks-none size (from + size) n)

pub within-none : (size from n : ℕ) → AreWithin size 0 from (replicate n 0)
within-none size from zero = tt
within-none size from (suc n) = (omega arith, omega arith, within-none size (from + size) n)

-- a list is written after a stack's last element
module _ {X : Type 0} (size : ℕ) (old new xs : List X) (at : ℕ) (put : IsPut old new at xs) where
  put-behind : (from : ℕ) (ns : List ℕ) → at + length xs ≤ from → AreWithin size (length old) from ns → stacks_from size new from ns ≡ stacks_from size old from ns
  put-behind from [] le h = refl
  put-behind from (n ∷ ns) le h =
      let one = put.others from n h.1 (inr le) in
      let later = put-behind (from + size) ns (omega (arith, le)) h.2 in
      (λ i. one i ∷ later i)

  pub stacks-put : (from : ℕ) (ns : List ℕ) (k n : ℕ) → k < length ns → AreWithin size (length old) from ns → n ≡ get_or ns k 0 → from + k * size + n ≡ at → n + length xs ≤ size
      → stacks_from size new from (slice_set ns k (n + length xs)) ≡ slice_set (stacks_from size old from ns) k (get_or (stacks_from size old from ns) k [] ++ xs)
  stacks-put from [] k n lt h is here fits = absurd (omega arith)
  stacks-put from (m ∷ ns) zero n lt h is here fits =
      let one : take (n + length xs) (drop from new) ≡ take m (drop from old) ++ xs = put.here from n (omega (arith, here)) (omega (arith, is, h.1)) ∙ ap (λ j. take j (drop from old) ++ xs) is in
      let later = put-behind (from + size) ns (omega (arith, here, fits)) h.2 in
      (λ i. one i ∷ later i)
  stacks-put from (m ∷ ns) (suc k) n lt h is here fits =
      let one = put.others from m h.1 (inl (omega (arith, here, h.0, suc-mul k size))) in
      let later = stacks-put (from + size) ns k n (omega arith) h.2 is (omega (arith, here, suc-mul k size)) fits in
      (λ i. one i ∷ later i)

-- elements of a stack are written over
module _ {X : Type 0} (block : List X) (at : ℕ) (ws : List X) (there : at ≤ length block) where
  over-part : (o n : ℕ) → n ≤ length block - o → take n (drop o (block_over block at ws)) ≡ written_over (take n (drop o block)) (at - o) (drop (o - at) ws)
  over-part o zero le = refl
  over-part o (suc n) le =
      let s : Extent = record { offset = o; len = suc n; live = true } in
      ap (λ (p : Part X). p.list) (part-after_write block at ws s there (omega (arith, le)))

  over-other : (o n : ℕ) → n ≤ length block - o → (o + n ≤ at) ⊎ (at + length ws ≤ o) → take n (drop o (block_over block at ws)) ≡ take n (drop o block)
  over-other o n le disjoint =
      let stays : written_over (take n (drop o block)) (at - o) (drop (o - at) ws) ≡ take n (drop o block) = elim disjoint [
        | inl before ↦ written-before (take n (drop o block)) (drop (o - at) ws) (at - o) (omega (arith, before, length-take n (drop o block)))
        | inr behind ↦ written-none (take n (drop o block)) ws (at - o) (o - at) (omega (arith, behind)) (omega (arith, behind))
      ] in
      over-part o n le ∙ stays

  over-here : (o n : ℕ) → n ≤ length block - o → o ≤ at → take n (drop o (block_over block at ws)) ≡ written_over (take n (drop o block)) (at - o) ws
  over-here o n le before = let none : o - at ≡ 0 = omega (arith, before) in over-part o n le ∙ ap (λ m. written_over (take n (drop o block)) (at - o) (drop m ws)) none

  module _ (size : ℕ) where
    over-behind : (from : ℕ) (ns : List ℕ) → at + length ws ≤ from → AreWithin size (length block) from ns → stacks_from size (block_over block at ws) from ns ≡ stacks_from size block from ns
    over-behind from [] le h = refl
    over-behind from (n ∷ ns) le h =
        let one = over-other from n h.1 (inr le) in
        let later = over-behind (from + size) ns (omega (arith, le)) h.2 in
        (λ i. one i ∷ later i)

    pub stacks-over : (from : ℕ) (ns : List ℕ) (k j : ℕ) → k < length ns → AreWithin size (length block) from ns → from + k * size + j ≡ at → j + length ws ≤ size
        → stacks_from size (block_over block at ws) from ns ≡ slice_set (stacks_from size block from ns) k (written_over (get_or (stacks_from size block from ns) k []) j ws)
    stacks-over from [] k j lt h here fits = absurd (omega arith)
    stacks-over from (n ∷ ns) zero j lt h here fits =
        let place : at - from ≡ j = omega (arith, here) in
        let one : take n (drop from (block_over block at ws)) ≡ written_over (take n (drop from block)) j ws = over-here from n h.1 (omega (arith, here)) ∙ ap (λ i. written_over (take n (drop from block)) i ws) place in
        let later = over-behind (from + size) ns (omega (arith, here, fits)) h.2 in
        (λ i. one i ∷ later i)
    stacks-over from (n ∷ ns) (suc k) j lt h here fits =
        let one = over-other from n h.1 (inl (omega (arith, here, h.0, suc-mul k size))) in
        let later = stacks-over (from + size) ns k j (omega arith) h.2 (omega (arith, here, suc-mul k size)) fits in
        (λ i. one i ∷ later i)

-- elements past the end of the list are not written
pub over-cut : {X : Type 0} (xs : List X) (j most : ℕ) (ws : List X) → length xs ≤ j + most → written_over xs j (take most ws) ≡ written_over xs j ws
over-cut xs j most ws le = elim (cases_lt most (length ws)) [
  | inr short ↦ ap (written_over xs j) (take_all most ws short)
  | inl long ↦
      let count : length (take most ws) ≡ most = omega (arith, long, length-take most ws) in
      let none : drop (j + length (take most ws)) xs ≡ [] = drop_all (j + length (take most ws)) xs (omega (arith, le, count)) in
      let nothing : drop (j + length ws) xs ≡ [] = drop_all (j + length ws) xs (omega (arith, le, long)) in
      let front = take j xs ++ take most ws in
      let all : front ++ drop most ws ≡ take j xs ++ (ws ++ drop (j + length ws) xs) =
      append_assoc (take j xs) (take most ws) (drop most ws) ∙ ap (λ ys. take j xs ++ ys) (take-append-drop most ws ∙ sym (append-nil ws) ∙ ap (λ ys. ws ++ ys) (sym nothing)) in
      ap (λ ys. take (length xs) (take j xs ++ (take most ws ++ ys))) none ∙ ap (λ ys. take (length xs) (take j xs ++ ys)) (append-nil (take most ws))
      ∙ sym (take-append-le (length xs) front (drop most ws) (omega (arith, le, count, length-append (take j xs) (take most ws), length-take j xs)))
      ∙ ap (take (length xs)) all
]

-- the length of a stack, and its range of the block
pub record IsStack {X : Type 0} (s : Stacked X) (block : List X) (capacity size : ℕ) (lens : List ℕ) (number : ℕ) : Type 0 where
  pub there : number < length lens
  pub list : stack_of s number ≡ take (get_or lens number 0) (drop (number * size) block)
  pub long : length (stack_of s number) ≡ get_or lens number 0
  pub fits : get_or lens number 0 ≤ size
  pub ends : get_or lens number 0 ≤ length block - number * size
  pub reach : number * size + size ≤ capacity
  pub size_is : s.size ≡ size

pub stack-is : {X : Type 0} (s : Stacked X) (block : List X) (capacity size : ℕ) (lens : List ℕ) (number : ℕ) → IsStacked (length block) capacity size lens → record { stacks = stacks_from size block 0 lens; size = size } ≡ s → number < length s.stacks → IsStack s block capacity size lens number
stack-is {X} s block capacity size lens number h is lt =
    let lists : stacks_from size block 0 lens ≡ s.stacks = ap (λ (r : Stacked X). r.stacks) is in
    let there : number < length lens = omega (arith, lt, ap (λ (xss : List (List X)). length xss) lists, length-stacks size block 0 lens) in
    let place : 0 + number * size ≡ number * size = omega arith in
    let ends = within-at size (length block) 0 lens number h.within there in
    let rows : suc number * size ≤ length lens * size = mul-le-mul_right size (omega (arith, there)) in
    record {
      there = there;
      list = ap (λ xss. get_or xss number []) (sym lists) ∙ stack-at size block 0 lens number there ∙ ap (λ m. take (get_or lens number 0) (drop m block)) place;
      long = ap (λ xss. length (get_or xss number [])) (sym lists) ∙ length-stack size block 0 lens number h.within there;
      fits = ends.0;
      ends = omega (arith, ends.1);
      reach = omega (arith, rows, suc-mul number size, h.reserved);
      size_is = sym (ap (λ (r : Stacked X). r.size) is);
    }
