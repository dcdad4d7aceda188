-- Counts of the items of a list that were done and that were refused.
use Rattle.std.proofs.Common.{◌≡◌, ℕ, ◌+◌, ◌*◌, ◌<◌, ◌≤◌, inl, inr, List, [], ◌∷◌, ◌++◌, length, get_or, take, drop, sum_by, sym, ◌∙◌, refl, ap, subst, arith}
use Rattle.std.proofs.lemmas.List.Sums.{sum_by-cons}
use Rattle.std.proofs.lemmas.List.{take_more, take-append-drop, length-drop, drop-drop, nil_from_length, get_or-drop}
use Rattle.std.specs.Fork.{slice_chunk}
use Rattle.far_shared.specs.Works.{AreCounted}

module _ {X : Type 0} (is_done is_refused : X → Type 0) where
  -- the counts of two lists are the sums of theirs
  pub counted-both : (xs ys : List X) (a b c d : ℕ) → AreCounted is_done is_refused xs a b → AreCounted is_done is_refused ys c d → AreCounted is_done is_refused (xs ++ ys) (a + c) (b + d)
  counted-both [] ys a b c d none more =
      let done : a + c ≡ c = omega (arith, none.0) in
      let left : b + d ≡ d = omega (arith, none.1) in
      subst (λ n. AreCounted is_done is_refused ys n (b + d)) (sym done) (subst (λ n. AreCounted is_done is_refused ys c n) (sym left) more)
  counted-both (x ∷ xs) ys a b c d (inl h) more = inl (h.0 + c, omega (arith, h.1), h.2, counted-both xs ys h.0 b c d h.3 more)
  counted-both (x ∷ xs) ys a b c d (inr h) more = inr (h.0 + d, omega (arith, h.1), h.2, counted-both xs ys a h.0 c d h.3 more)

  module _ (xs : List X) (i : ℕ) (d : X) (within : i < length xs) (a b : ℕ) (before : AreCounted is_done is_refused (take i xs) a b) where
    -- one more item was done
    pub counted-done : is_done (get_or xs i d) → AreCounted is_done is_refused (take (i + 1) xs) (a + 1) b
    counted-done done =
        let both = counted-both (take i xs) (get_or xs i d ∷ []) a b 1 0 before (inl (0, refl, done, (refl, refl))) in
        subst (λ l. AreCounted is_done is_refused l (a + 1) b) (sym (take_more xs i d within)) (subst (λ n. AreCounted is_done is_refused (take i xs ++ get_or xs i d ∷ []) (a + 1) n) (let e : b + 0 ≡ b = omega arith in e) both)

    -- one more item was refused
    pub counted-refused : is_refused (get_or xs i d) → AreCounted is_done is_refused (take (i + 1) xs) a (b + 1)
    counted-refused failed =
        let both = counted-both (take i xs) (get_or xs i d ∷ []) a b 0 1 before (inr (0, refl, failed, (refl, refl))) in
        subst (λ l. AreCounted is_done is_refused l a (b + 1)) (sym (take_more xs i d within)) (subst (λ n. AreCounted is_done is_refused (take i xs ++ get_or xs i d ∷ []) n (b + 1)) (let e : a + 0 ≡ a = omega arith in e) both)

  module _ {R : Type 0} (done refused : R → ℕ) (d : R) (size : ℕ) where
    -- if each report has the counts of its chunk, the sums of the reports are the counts of the whole list
    pub counted-chunks : (rs : List R) (xs : List X) → length xs ≤ length rs * size → ((n : ℕ) → n < length rs → AreCounted is_done is_refused (slice_chunk xs size n) (done (get_or rs n d)) (refused (get_or rs n d))) → AreCounted is_done is_refused xs (sum_by done rs) (sum_by refused rs)
    counted-chunks [] xs long each = subst (λ l. AreCounted is_done is_refused l 0 0) (sym (nil_from_length xs (omega (arith, long)))) (refl, refl)
    counted-chunks (r ∷ rs) xs long each =
        let rest : length (drop size xs) ≤ length rs * size = (let e = length-drop size xs in let f : (length rs + 1) * size ≡ length rs * size + size = omega arith in omega (arith, long, e, f)) in
        let none : 0 * size ≡ 0 = omega arith in
        let first : AreCounted is_done is_refused (take size xs) (done r) (refused r) = subst (λ k. AreCounted is_done is_refused (take size (drop k xs)) (done r) (refused r)) none (each 0 (omega arith)) in
        let others = counted-chunks rs (drop size xs) rest (λ n lt.
        let at : slice_chunk xs size (1 + n) ≡ slice_chunk (drop size xs) size n = sym (ap (take size) (drop-drop (n * size) size xs ∙ ap (λ k. drop k xs) (omega arith))) in
        let same : get_or (r ∷ rs) (1 + n) d ≡ get_or rs n d = sym (get_or-drop 1 (r ∷ rs) n d) in
        subst (λ l. AreCounted is_done is_refused l (done (get_or rs n d)) (refused (get_or rs n d))) at (subst (λ x. AreCounted is_done is_refused (slice_chunk xs size (1 + n)) (done x) (refused x)) same (each (1 + n) (omega (arith, lt))))) in
        let both = counted-both (take size xs) (drop size xs) (done r) (refused r) (sum_by done rs) (sum_by refused rs) first others in
        let one = subst (λ l. AreCounted is_done is_refused l (done r + sum_by done rs) (refused r + sum_by refused rs)) (take-append-drop size xs) both in
        subst (λ n. AreCounted is_done is_refused xs n (sum_by refused (r ∷ rs))) (sym (sum_by-cons done r rs)) (subst (λ n. AreCounted is_done is_refused xs (done r + sum_by done rs) n) (sym (sum_by-cons refused r rs)) one)
