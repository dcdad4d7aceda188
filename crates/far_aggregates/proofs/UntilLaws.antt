-- Lists whose first elements have been changed.
use Rattle.std.proofs.Common.{◌≡◌, ℕ, zero, suc, ◌+◌, ◌<◌, ◌≤◌, List, [], ◌∷◌, length, take, refl, sym, ap, ◌∙◌, arith, add-one, Some, slice_get, slice_set}
use Rattle.far_aggregates.specs.Until.{zip_until, zip_all}

module _ {X C : Type 0} (f : X → C → X) where
  pub zip_until-here : (n : ℕ) (xs : List X) (cs : List C) → slice_get (zip_until f n xs cs) n ≡ slice_get xs n
  zip_until-here zero xs cs = refl
  zip_until-here (suc n) [] cs = refl
  zip_until-here (suc n) (x ∷ xs) [] = refl
  zip_until-here (suc n) (x ∷ xs) (c ∷ cs) = zip_until-here n xs cs

  next : (n : ℕ) (xs : List X) (cs : List C) (x : X) (c : C) → slice_get xs n ≡ Some x → slice_get cs n ≡ Some c → slice_set (zip_until f n xs cs) n (f x c) ≡ zip_until f (suc n) xs cs
  next n [] cs x c h k = cc
  next zero (y ∷ xs) [] x c h k = cc
  next zero (y ∷ xs) (d ∷ cs) x c h k =
      let e : y ≡ x = cc in
      let i : d ≡ c = cc in
      rw (e, i) refl
  next (suc n) (y ∷ xs) [] x c h k = cc
  next (suc n) (y ∷ xs) (d ∷ cs) x c h k = ap (λ l. f y d ∷ l) (next n xs cs x c h k)

  pub zip_until-next : (n : ℕ) (xs : List X) (cs : List C) (x : X) (c : C) → slice_get xs n ≡ Some x → slice_get cs n ≡ Some c → slice_set (zip_until f n xs cs) n (f x c) ≡ zip_until f (n + 1) xs cs
  zip_until-next n xs cs x c h k = next n xs cs x c h k ∙ ap (λ m. zip_until f m xs cs) (sym (add-one n))

  -- changing the first n elements reads only the first n changes
  pub zip_until-take : (n : ℕ) (xs : List X) (cs : List C) → zip_until f n xs (take n cs) ≡ zip_until f n xs cs
  zip_until-take zero xs cs = refl
  zip_until-take (suc n) [] cs = refl
  zip_until-take (suc n) (x ∷ xs) [] = refl
  zip_until-take (suc n) (x ∷ xs) (c ∷ cs) = ap (λ l. f x c ∷ l) (zip_until-take n xs cs)

  pub zip_until-below : (n k : ℕ) (xs : List X) (cs : List C) (x : X) (c : C) → k < n → slice_get xs k ≡ Some x → slice_get cs k ≡ Some c → slice_get (zip_until f n xs cs) k ≡ Some (f x c)
  zip_until-below zero k xs cs x c l h i = absurd (omega arith)
  zip_until-below (suc n) k [] cs x c l h i = cc
  zip_until-below (suc n) zero (y ∷ xs) [] x c l h i = cc
  zip_until-below (suc n) zero (y ∷ xs) (d ∷ cs) x c l h i =
      let e : y ≡ x = cc in
      let j : d ≡ c = cc in
      rw (e, j) refl
  zip_until-below (suc n) (suc k) (y ∷ xs) [] x c l h i = cc
  zip_until-below (suc n) (suc k) (y ∷ xs) (d ∷ cs) x c l h i = zip_until-below n k xs cs x c (omega arith) h i

  pub length-zip_until : (n : ℕ) (xs : List X) (cs : List C) → length (zip_until f n xs cs) ≡ length xs
  length-zip_until zero xs cs = refl
  length-zip_until (suc n) [] cs = refl
  length-zip_until (suc n) (x ∷ xs) [] = refl
  length-zip_until (suc n) (x ∷ xs) (c ∷ cs) = ap suc (length-zip_until n xs cs)

  pub zip_until-all : (n : ℕ) (xs : List X) (cs : List C) → length xs ≤ n → zip_until f n xs cs ≡ zip_all f xs cs
  zip_until-all zero [] cs h = refl
  zip_until-all zero (x ∷ xs) cs h = absurd (omega arith)
  zip_until-all (suc n) [] cs h = refl
  zip_until-all (suc n) (x ∷ xs) [] h = refl
  zip_until-all (suc n) (x ∷ xs) (c ∷ cs) h = ap (λ l. f x c ∷ l) (zip_until-all n xs cs (omega arith))

  -- if there are at most n changes, all of them are applied
  pub zip_until-short : (n : ℕ) (xs : List X) (cs : List C) → length cs ≤ n → zip_until f n xs cs ≡ zip_all f xs cs
  zip_until-short zero [] [] h = refl
  zip_until-short zero [] (c ∷ cs) h = absurd (omega arith)
  zip_until-short zero (x ∷ xs) [] h = refl
  zip_until-short zero (x ∷ xs) (c ∷ cs) h = absurd (omega arith)
  zip_until-short (suc n) [] cs h = refl
  zip_until-short (suc n) (x ∷ xs) [] h = refl
  zip_until-short (suc n) (x ∷ xs) (c ∷ cs) h = ap (λ l. f x c ∷ l) (zip_until-short n xs cs (omega arith))

  pub get-zip_all : (k : ℕ) (xs : List X) (cs : List C) (x : X) (c : C) → slice_get xs k ≡ Some x → slice_get cs k ≡ Some c → slice_get (zip_all f xs cs) k ≡ Some (f x c)
  get-zip_all k [] cs x c h i = cc
  get-zip_all zero (y ∷ xs) [] x c h i = cc
  get-zip_all zero (y ∷ xs) (d ∷ cs) x c h i =
      let e : y ≡ x = cc in
      let j : d ≡ c = cc in
      rw (e, j) refl
  get-zip_all (suc k) (y ∷ xs) [] x c h i = cc
  get-zip_all (suc k) (y ∷ xs) (d ∷ cs) x c h i = get-zip_all k xs cs x c h i

-- a change that is undone leaves the list as before
pub zip_until-undo : {X C : Type 0} (f g : X → C → X) (n : ℕ) (xs : List X) (cs : List C) → ((k : ℕ) (x : X) (c : C) → slice_get xs k ≡ Some x → slice_get cs k ≡ Some c → g (f x c) c ≡ x) → zip_until g n (zip_until f n xs cs) cs ≡ xs
zip_until-undo f g zero xs cs h = refl
zip_until-undo f g (suc n) [] cs h = refl
zip_until-undo f g (suc n) (x ∷ xs) [] h = refl
zip_until-undo f g (suc n) (x ∷ xs) (c ∷ cs) h = λ i. h 0 x c refl refl i ∷ zip_until-undo f g n xs cs (λ k. h (suc k)) i
