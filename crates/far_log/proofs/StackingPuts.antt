-- A write at an index of a block, within it or past its end.
use Rattle.std.proofs.Common.{◌≡◌, ℕ, ◌+◌, ◌-◌, ◌<◌, ◌≤◌, List, [], ◌++◌, length, get_or, take, drop, replicate, refl, sym, ap, subst, ◌∙◌, inl, inr, arith, length-take, length-drop, length-append, get_or-take, get_or-drop}
use Rattle.std.proofs.lemmas.Bool.{cases_lt}
use Rattle.std.proofs.lemmas.List.{same_lists, get_or_append_left, get_or-append_right, append-nil, append_assoc, drop-append-le, take-append-le, take_at, drop-drop, drop_all, length-replicate}
use Rattle.far_log.specs.Stacking.{IsPut}
use Rattle.far_log.proofs.StorageWrites.{block_over}

module _ {X : Type 0} (old gap xs : List X) (at : ℕ) (filled : length gap ≡ at - length old) where
  -- the block: the elements before, the filled gap, the list, and the elements after
  abbrev front : List X
  front = take at old ++ gap

  abbrev pub put_at : List X
  put_at = front ++ (xs ++ drop (at + length xs) old)

  length-front : length front ≡ at
  length-front = omega (arith, length-append (take at old) gap, length-take at old, filled)

  length-put : length put_at ≡ at + (length xs + (length old - (at + length xs)))
  length-put = omega (arith, length-front, length-append front (xs ++ drop (at + length xs) old), length-append xs (drop (at + length xs) old), length-drop (at + length xs) old)

  -- the elements before the list, of the list, and after it
  at-front : (k : ℕ) (d : X) → k < at → k < length old → get_or put_at k d ≡ get_or old k d
  at-front k d lt there =
      get_or_append_left front (xs ++ drop (at + length xs) old) d k (omega (arith, lt, length-front))
      ∙ get_or_append_left (take at old) gap d k (omega (arith, lt, there, length-take at old)) ∙ get_or-take at old k d lt

  at-list : (k : ℕ) (d : X) → at ≤ k → k < at + length xs → get_or put_at k d ≡ get_or xs (k - at) d
  at-list k d le lt =
      get_or-append_right front (xs ++ drop (at + length xs) old) at k d length-front le
      ∙ get_or_append_left xs (drop (at + length xs) old) d (k - at) (omega (arith, le, lt))

  at-behind : (k : ℕ) (d : X) → at + length xs ≤ k → get_or put_at k d ≡ get_or old k d
  at-behind k d le =
      let same : at + length xs + (k - at - length xs) ≡ k = omega (arith, le) in
      get_or-append_right front (xs ++ drop (at + length xs) old) at k d length-front (omega (arith, le))
      ∙ get_or-append_right xs (drop (at + length xs) old) (length xs) (k - at) d refl (omega (arith, le))
      ∙ get_or-drop (at + length xs) old (k - at - length xs) d ∙ ap (λ i. get_or old i d) same

  -- an element of a range of the block
  in-list : (ys : List X) (from n k : ℕ) (d : X) → k < n → get_or (take n (drop from ys)) k d ≡ get_or ys (from + k) d
  in-list ys from n k d lt = get_or-take n (drop from ys) k d lt ∙ get_or-drop from ys k d

  length-in : (ys : List X) (from n : ℕ) → n ≤ length ys - from → length (take n (drop from ys)) ≡ n
  length-in ys from n le = omega (arith, le, length-take n (drop from ys), length-drop from ys)

  pub put-is : IsPut old put_at at xs
  put-is = record {
    long = omega (arith, length-put);
    reach = omega (arith, length-put);
    others = λ from n le disjoint.
        let was = length-in old from n le in
        let is = length-in put_at from n (omega (arith, le, length-put)) in
        same_lists (take n (drop from put_at)) (take n (drop from old)) (omega (arith, was, is)) (λ k d lt.
        let within : k < n = omega (arith, lt, is) in
        let same : get_or put_at (from + k) d ≡ get_or old (from + k) d = elim disjoint [
          | inl before ↦ at-front (from + k) d (omega (arith, before, within)) (omega (arith, le, within))
          | inr behind ↦ at-behind (from + k) d (omega (arith, behind))
        ] in
        in-list put_at from n k d within ∙ same ∙ sym (in-list old from n k d within));
    here = λ from n ends le.
        let was = length-in old from n le in
        let is = length-in put_at from (n + length xs) (omega (arith, ends, length-put)) in
        same_lists (take (n + length xs) (drop from put_at)) (take n (drop from old) ++ xs) (omega (arith, was, is, length-append (take n (drop from old)) xs)) (λ k d lt.
        let within : k < n + length xs = omega (arith, lt, is) in
        let same : get_or put_at (from + k) d ≡ get_or (take n (drop from old) ++ xs) k d = elim (cases_lt k n) [
          | inl first ↦ at-front (from + k) d (omega (arith, first, ends)) (omega (arith, first, le)) ∙ sym (get_or_append_left (take n (drop from old)) xs d k (omega (arith, first, was)) ∙ in-list old from n k d first)
          | inr second ↦
              let place : from + k - at ≡ k - n = omega (arith, second, ends) in
              at-list (from + k) d (omega (arith, second, ends)) (omega (arith, within, ends)) ∙ ap (λ i. get_or xs i d) place ∙ sym (get_or-append_right (take n (drop from old)) xs n k d was second)
        ] in
        in-list put_at from (n + length xs) k d within ∙ same);
  }

module _ {X : Type 0} (old xs : List X) (at : ℕ) where
  -- a write within the block
  pub put-within : at + length xs ≤ length old → IsPut old (block_over old at xs) at xs
  put-within le =
      let nothing : length {A = X} [] ≡ at - length old = omega (arith, le) in
      let over = take at old ++ (xs ++ drop (length xs) (drop at old)) in
      let long : length over ≡ length old = omega (arith, le, length-append (take at old) (xs ++ drop (length xs) (drop at old)), length-append xs (drop (length xs) (drop at old)), length-take at old, length-drop (length xs) (drop at old), length-drop at old) in
      let same : put_at old [] xs at nothing ≡ block_over old at xs =
      ap (λ ys. ys ++ (xs ++ drop (at + length xs) old)) (append-nil (take at old)) ∙ ap (λ ys. take at old ++ (xs ++ ys)) (sym (drop-drop (length xs) at old))
      ∙ sym (take_at over (drop (length over) old) (length old) long) in
      subst (λ new. IsPut old new at xs) same (put-is old [] xs at nothing)

  -- a write that extends past the block's end, or begins there
  pub put-behind : (filler : X) → length old < at + length xs → IsPut old ((take at old ++ replicate (at - length old) filler) ++ xs) at xs
  put-behind filler le =
      let gap = replicate (at - length old) filler in
      let long : length gap ≡ at - length old = length-replicate (at - length old) filler in
      let none : drop (at + length xs) old ≡ [] = drop_all (at + length xs) old (omega (arith, le)) in
      let same : put_at old gap xs at long ≡ (take at old ++ gap) ++ xs = ap (λ ys. (take at old ++ gap) ++ (xs ++ ys)) none ∙ ap (λ ys. (take at old ++ gap) ++ ys) (append-nil xs) in
      subst (λ new. IsPut old new at xs) same (put-is old gap xs at long)

  -- a write into a block that was extended
  pub same-grown : (more : List X) (from n : ℕ) → n ≤ length old - from → take n (drop from (old ++ more)) ≡ take n (drop from old)
  same-grown more from n le = elim (cases_lt (length old) from) [
    | inl past ↦ let none : n ≡ 0 = omega (arith, le, past) in ap (λ m. take m (drop from (old ++ more))) none ∙ ap (λ m. take m (drop from old)) (sym none)
    | inr within ↦ ap (take n) (drop-append-le from old more within) ∙ take-append-le n (drop from old) more (omega (arith, le, length-drop from old))
  ]

  pub put-grown : (more new : List X) → IsPut (old ++ more) new at xs → IsPut old new at xs
  put-grown more new h =
      let long = length-append old more in
      record {
        long = omega (arith, h.long, long);
        reach = h.reach;
        others = λ from n le disjoint. h.others from n (omega (arith, le, long)) disjoint ∙ same-grown more from n le;
        here = λ from n ends le. h.here from n ends (omega (arith, le, long)) ∙ ap (λ ys. ys ++ xs) (same-grown more from n le);
      }

-- a list of the block is copied within it
pub put-copied : {X : Type 0} (old : List X) (from n at : ℕ) → from + n ≤ length old → at + n ≤ length old → IsPut old ((take at old ++ take n (drop from old)) ++ drop (at + n) old) at (take n (drop from old))
put-copied {X} old from n at within reach =
    let xs = take n (drop from old) in
    let long : length xs ≡ n = omega (arith, within, length-take n (drop from old), length-drop from old) in
    let nothing : length {A = X} [] ≡ at - length old = omega (arith, reach) in
    let same : put_at old [] xs at nothing ≡ (take at old ++ xs) ++ drop (at + n) old =
    ap (λ ys. ys ++ (xs ++ drop (at + length xs) old)) (append-nil (take at old)) ∙ ap (λ m. take at old ++ (xs ++ drop (at + m) old)) long
    ∙ sym (append_assoc (take at old) xs (drop (at + n) old)) in
    subst (λ new. IsPut old new at xs) same (put-is old [] xs at nothing)

pub put-copied_behind : {X : Type 0} (old more : List X) (from n at : ℕ) → from + n ≤ length old → at + n ≤ length (old ++ more) → IsPut old ((take at (old ++ more) ++ take n (drop from (old ++ more))) ++ drop (at + n) (old ++ more)) at (take n (drop from old))
put-copied_behind {X} old more from n at within reach =
    let all = old ++ more in
    let xs = take n (drop from old) in
    let new = (take at all ++ take n (drop from all)) ++ drop (at + n) all in
    put-grown old xs at more new (subst (λ ys. IsPut all new at ys) (same-grown old xs at more from n (omega (arith, within))) (put-copied all from n at (omega (arith, within, length-append old more)) reach))
