-- Laws of lists: a fact of each element, and writes.
use Rattle.std.proofs.Common.{◌≡◌, ℕ, zero, suc, ◌+◌, ◌<◌, List, [], ◌∷◌, ◌++◌, length, map, take, drop, refl, sym, ap, ◌∙◌, subst, arith, add-one, Some, slice_get, slice_set, slice_index_or, replicate}
use Rattle.std.specs.List.{AllByRecursion}
use Rattle.std.proofs.Math.Seq.{drop-nil}
use Rattle.far_aggregates.specs.Until.{zip_all}

pub all-set : {X : Type 0} (P : X → Type 0) (xs : List X) (i : ℕ) (x : X) → AllByRecursion P xs → P x → AllByRecursion P (slice_set xs i x)
all-set P [] i x h k = tt
all-set P (y ∷ xs) zero x h k = (k, h.1)
all-set P (y ∷ xs) (suc i) x h k = (h.0, all-set P xs i x h.1 k)

-- a fact of each element holds for the first elements
pub all-front : {X : Type 0} (P : X → Type 0) (xs ys : List X) → AllByRecursion P (xs ++ ys) → AllByRecursion P xs
all-front P [] ys h = tt
all-front P (x ∷ xs) ys h = (h.0, all-front P xs ys h.1)

pub all-get : {X : Type 0} (P : X → Type 0) (xs : List X) (i : ℕ) (x : X) → AllByRecursion P xs → slice_get xs i ≡ Some x → P x
all-get P [] i x h e = cc
all-get P (y ∷ xs) zero x h e = let k : y ≡ x = cc in subst P k h.0
all-get P (y ∷ xs) (suc i) x h e = all-get P xs i x h.1 e

-- a fact of each element's image holds for the image of one element
pub all-map_get : {X Y : Type 0} (P : Y → Type 0) (f : X → Y) (xs : List X) (i : ℕ) (x : X) → AllByRecursion P (map f xs) → slice_get xs i ≡ Some x → P (f x)
all-map_get P f [] i x h e = cc
all-map_get P f (y ∷ xs) zero x h e = let k : y ≡ x = cc in subst (λ z. P (f z)) k h.0
all-map_get P f (y ∷ xs) (suc i) x h e = all-map_get P f xs i x h.1 e

all-more : {X : Type 0} (P : X → Type 0) (i : ℕ) (xs : List X) (y : X) → i < length xs → AllByRecursion P (take i xs) → P y → AllByRecursion P (take (suc i) (slice_set xs i y))
all-more P i [] y l h k = absurd (omega arith)
all-more P zero (x ∷ xs) y l h k = (k, tt)
all-more P (suc i) (x ∷ xs) y l h k = (h.0, all-more P i xs y (omega arith) h.1 k)

-- a fact of the first elements holds with one more element that is written
pub all-take_set : {X : Type 0} (P : X → Type 0) (i : ℕ) (xs : List X) (y : X) → i < length xs → AllByRecursion P (take i xs) → P y → AllByRecursion P (take (i + 1) (slice_set xs i y))
all-take_set P i xs y l h k = subst (λ n. AllByRecursion P (take n (slice_set xs i y))) (sym (add-one i)) (all-more P i xs y l h k)

-- writing an element with the same image as before changes no image
pub map-set_like : {X Y : Type 0} (f : X → Y) (xs : List X) (i : ℕ) (x y : X) → slice_get xs i ≡ Some x → f y ≡ f x → map f (slice_set xs i y) ≡ map f xs
map-set_like f [] i x y h e = refl
map-set_like f (z ∷ xs) zero x y h e = let k : z ≡ x = cc in ap (λ v. v ∷ map f xs) (e ∙ ap f (sym k))
map-set_like f (z ∷ xs) (suc i) x y h e = ap (λ l. f z ∷ l) (map-set_like f xs i x y h e)

-- elements past the end are the default
pub index-replicate : {X : Type 0} (xs : List X) (n i : ℕ) (d : X) → slice_index_or (xs ++ replicate n d) i d ≡ slice_index_or xs i d
index-replicate [] zero i d = refl
index-replicate [] (suc n) zero d = refl
index-replicate [] (suc n) (suc i) d = index-replicate [] n i d
index-replicate (x ∷ xs) n zero d = refl
index-replicate (x ∷ xs) n (suc i) d = index-replicate xs n i d

module _ {X C : Type 0} (f : X → C → X) where
  pub zip_all-here : (xs : List X) (cs : List C) → slice_get (zip_all f xs cs) (length cs) ≡ slice_get xs (length cs)
  zip_all-here [] cs = refl
  zip_all-here (x ∷ xs) [] = refl
  zip_all-here (x ∷ xs) (c ∷ cs) = zip_all-here xs cs

  pub zip_all-none : (xs : List X) → zip_all f xs [] ≡ xs
  zip_all-none [] = refl
  zip_all-none (x ∷ xs) = refl

  pub zip_all-next : (xs : List X) (cs : List C) (x : X) (c : C) → slice_get xs (length cs) ≡ Some x → slice_set (zip_all f xs cs) (length cs) (f x c) ≡ zip_all f xs (cs ++ c ∷ [])
  zip_all-next [] cs x c h = cc
  zip_all-next (y ∷ xs) [] x c h = let e : x ≡ y = cc in rw e (ap (λ l. f y c ∷ l) (sym (zip_all-none xs)))
  zip_all-next (y ∷ xs) (d ∷ cs) x c h = ap (λ l. f y d ∷ l) (zip_all-next xs cs x c h)

  pub length-zip_all : (xs : List X) (cs : List C) → length (zip_all f xs cs) ≡ length xs
  length-zip_all [] cs = refl
  length-zip_all (x ∷ xs) [] = refl
  length-zip_all (x ∷ xs) (c ∷ cs) = ap suc (length-zip_all xs cs)

  -- a fact of each element still holds after f, if f keeps it
  pub all-zip_all : (P : X → Type 0) → ((x : X) (c : C) → P x → P (f x c)) → (xs : List X) (cs : List C) → AllByRecursion P xs → AllByRecursion P (zip_all f xs cs)
  all-zip_all P k [] cs h = tt
  all-zip_all P k (x ∷ xs) [] h = h
  all-zip_all P k (x ∷ xs) (c ∷ cs) h = (k x c h.0, all-zip_all P k xs cs h.1)

  pub map-zip_all : {Y : Type 0} (g : X → Y) → ((x : X) (c : C) → g (f x c) ≡ g x) → (xs : List X) (cs : List C) → map g (zip_all f xs cs) ≡ map g xs
  map-zip_all g k [] cs = refl
  map-zip_all g k (x ∷ xs) [] = refl
  map-zip_all g k (x ∷ xs) (c ∷ cs) = λ i. k x c i ∷ map-zip_all g k xs cs i

-- the last write to an index counts
pub set-again : {X : Type 0} (xs : List X) (i : ℕ) (x y : X) → slice_set (slice_set xs i x) i y ≡ slice_set xs i y
set-again [] i x y = refl
set-again (z ∷ xs) zero x y = refl
set-again (z ∷ xs) (suc i) x y = ap (λ l. z ∷ l) (set-again xs i x y)

-- writing an element to its own index changes nothing
pub set-own : {X : Type 0} (xs : List X) (i : ℕ) (d : X) → slice_set xs i (slice_index_or xs i d) ≡ xs
set-own [] i d = refl
set-own (z ∷ xs) zero d = refl
set-own (z ∷ xs) (suc i) d = ap (λ l. z ∷ l) (set-own xs i d)

pub length-written : {X : Type 0} (xs : List X) (i : ℕ) (x : X) → length (slice_set xs i x) ≡ length xs
length-written [] i x = refl
length-written (z ∷ xs) zero x = refl
length-written (z ∷ xs) (suc i) x = ap suc (length-written xs i x)

pub get-drop : {X : Type 0} (n k : ℕ) (xs : List X) → slice_get (drop n xs) k ≡ slice_get xs (n + k)
get-drop n k [] = ap (λ l. slice_get l k) (drop-nil n)
get-drop zero k (x ∷ xs) = let e : zero + k ≡ k = omega arith in rw e refl
get-drop (suc n) k (x ∷ xs) = get-drop n k xs ∙ (let e : suc n + k ≡ suc (n + k) = omega arith in rw e refl)

-- writing an element that is there already changes nothing
pub set_same : {X : Type 0} (xs : List X) (i : ℕ) (x : X) → slice_get xs i ≡ Some x → slice_set xs i x ≡ xs
set_same [] i x h = refl
set_same (y ∷ xs) zero x h = let e : x ≡ y = cc in rw e refl
set_same (y ∷ xs) (suc i) x h = ap (λ l. y ∷ l) (set_same xs i x h)

pub get-take : {X : Type 0} (n k : ℕ) (xs : List X) → k < n → slice_get (take n xs) k ≡ slice_get xs k
get-take zero k xs h = absurd (omega arith)
get-take (suc n) k [] h = refl
get-take (suc n) zero (x ∷ xs) h = refl
get-take (suc n) (suc k) (x ∷ xs) h = get-take n k xs (omega arith)

pub get-last : {X : Type 0} (xs : List X) (x : X) → slice_get (xs ++ x ∷ []) (length xs) ≡ Some x
get-last [] x = refl
get-last (y ∷ xs) x = get-last xs x

pub get-map : {X Y : Type 0} (f : X → Y) (xs : List X) (i : ℕ) (x : X) → slice_get xs i ≡ Some x → slice_get (map f xs) i ≡ Some (f x)
get-map f [] i x h = cc
get-map f (y ∷ xs) zero x h = let e : y ≡ x = cc in ap (λ z. Some (f z)) e
get-map f (y ∷ xs) (suc i) x h = get-map f xs i x h
