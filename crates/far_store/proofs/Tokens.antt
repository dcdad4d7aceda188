-- Lists of tokens, each for the byte at its own index.
use Rattle.std.proofs.Common.{◌≡◌, ◌∙◌, ◌<◌, ◌+◌, ℕ, List, [], ◌∷◌, ◌++◌, Option, Some, IfSome, length, map, take, slice_get, subst, ap, zero, suc}
use Rattle.std.proofs.lemmas.List.{length-map, take_more, get_or-map}
use Rattle.std.proofs.lemmas.Option.{slice_get_within, get_or_from_slice_get}

-- if each element has the property at its index, and the appended one has it at the end, each element of the longer list has it
pub each-pushed : {A : Type 0} (P : ℕ → A → Type 0) (xs : List A) (y : A) → ((i : ℕ) → IfSome (slice_get xs i) (P i)) → P (length xs) y → (i : ℕ) → IfSome (slice_get (xs ++ y ∷ []) i) (P i)
each-pushed P [] y each last zero = last
each-pushed P [] y each last (suc i) = tt
each-pushed P (x ∷ xs) y each last zero = each zero
each-pushed P (x ∷ xs) y each last (suc i) = each-pushed (λ j. P (suc j)) xs y (λ j. each (suc j)) last i

-- if the found element has the property, and it is x, then x has it
pub at-index : {A : Type 0} (P : A → Type 0) (found : Option A) (x : A) → found ≡ Some x → IfSome found P → P x
at-index P found x is held = subst (λ o. IfSome o P) is held

-- if element i is x, then the first i + 1 mapped elements are the first i and the image of x
pub take-next : {A B : Type 0} (f : A → B) (xs : List A) (i : ℕ) (x : A) → slice_get xs i ≡ Some x → take (i + 1) (map f xs) ≡ take i (map f xs) ++ f x ∷ []
take-next f xs i x found =
    let within = slice_get_within xs i x found in
    let mapped : i < length (map f xs) = rw length-map within in
    take_more (map f xs) i (f x) mapped ∙ ap (λ y. take i (map f xs) ++ y ∷ []) (get_or-map f xs i x (f x) within ∙ ap f (get_or_from_slice_get xs i x x found))
