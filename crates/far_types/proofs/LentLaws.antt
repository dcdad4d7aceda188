-- The first elements of a list, each mapped by a function.
use Rattle.std.proofs.Common.{◌≡◌, ℕ, zero, suc, refl, ◌+◌, ◌<◌, ◌≤◌, List, [], ◌∷◌, ◌++◌, length, map, take, slice_get, get_or, set, option_map, Some, None, sym, ap, ◌∙◌, arith, length-take}
use Rattle.std.proofs.lemmas.List.{length-map, take_more_set, get_or-take, map-append}
use Rattle.std.proofs.Math.Seq.{take-set-lt}
use Rattle.std.proofs.lemmas.Option.{slice_get-map, slice_get_past, slice_get-get_or}

module _ {X Y : Type 0} (f : X → Y) where
  pub shown-here : (xs : List X) (n c : ℕ) (d : X) → n ≤ length xs → c < n → Some (f (get_or xs c d)) ≡ slice_get (map f (take n xs)) c
  shown-here xs n c d within lt =
      let l : length (take n xs) ≡ n = omega (arith, length-take n xs) in
      sym (slice_get-map f (take n xs) c ∙ ap (option_map f) (slice_get-get_or (take n xs) c d (omega arith) ∙ ap Some (get_or-take n xs c d lt)))

  pub shown-past : (xs : List X) (n c : ℕ) → n ≤ length xs → n ≤ c → None ≡ slice_get (map f (take n xs)) c
  shown-past xs n c within le = sym (slice_get_past (map f (take n xs)) c (omega (arith, length-map (take n xs) f, length-take n xs)))

  pub shown-more : (xs : List X) (n : ℕ) (x : X) → n < length xs → map f (take (n + 1) (set xs n x)) ≡ map f (take n xs) ++ f x ∷ []
  shown-more xs n x lt = ap (map f) (take_more_set xs n x lt) ∙ map-append f (take n xs) (x ∷ [])

  map-set : (xs : List X) (c : ℕ) (x : X) → map f (set xs c x) ≡ set (map f xs) c (f x)
  map-set [] c x = refl
  map-set (y ∷ xs) zero x = refl
  map-set (y ∷ xs) (suc c) x = ap (λ ys. f y ∷ ys) (map-set xs c x)

  pub shown-set : (xs : List X) (n c : ℕ) (x : X) → c < n → map f (take n (set xs c x)) ≡ set (map f (take n xs)) c (f x)
  shown-set xs n c x lt = ap (map f) (take-set-lt n xs c x lt) ∙ map-set (take n xs) c x

  pub length-shown : (xs : List X) (n : ℕ) → n ≤ length xs → length (map f (take n xs)) ≡ n
  length-shown xs n le = omega (arith, length-map (take n xs) f, length-take n xs)
