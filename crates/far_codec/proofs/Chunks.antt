-- Lists cut into chunks of one length, and joined again.
use Rattle.std.proofs.Common.{◌≡◌, ℕ, zero, suc, ◌+◌, ◌*◌, ◌<◌, List, [], ◌∷◌, ◌++◌, length, get_or, take, drop, refl, sym, ap, ◌∙◌, append_assoc, arith}
use Rattle.std.specs.List.{flat_map, AllByRecursion}
use Rattle.std.specs.Simd.{first_chunks}
use Rattle.std.proofs.lemmas.List.{take-append-drop, take_more}
use Rattle.std.proofs.lemmas.Grind.{flat_map-append}
use Rattle.std.proofs.Math.Seq.{drop-drop, take-add}

-- the chunks, followed by the bytes after them, are the list
pub chunks_joined : {X : Type 0} (n k m : ℕ) (xs : List X) → m ≡ k * n → flat_map (λ x. x) (first_chunks n k xs) ++ drop m xs ≡ xs
chunks_joined n zero m xs e = let z : m ≡ 0 = omega arith in ap (λ j. drop j xs) z
chunks_joined n (suc k) m xs e =
    let length_is : m ≡ n + k * n = omega (arith, e) in
    let rest : drop m xs ≡ drop (k * n) (drop n xs) = ap (λ j. drop j xs) length_is ∙ sym (drop-drop (k * n) n xs) in
    append_assoc (take n xs) (flat_map (λ x. x) (first_chunks n k (drop n xs))) (drop m xs)
    ∙ ap (λ l. take n xs ++ (flat_map (λ x. x) (first_chunks n k (drop n xs)) ++ l)) rest
    ∙ ap (λ l. take n xs ++ l) (chunks_joined n k (k * n) (drop n xs) refl)
    ∙ take-append-drop n xs

pub AllByRecursion-append : {X : Type 0} (P : X → Type 0) (xs ys : List X) → AllByRecursion P xs → AllByRecursion P ys → AllByRecursion P (xs ++ ys)
AllByRecursion-append P [] ys p q = q
AllByRecursion-append P (x ∷ xs) ys p q = (p.0, AllByRecursion-append P xs ys p.1 q)

-- the first i + 1 elements are the first i and element i
pub taken_more : {X : Type 0} (xs : List X) (i : ℕ) (x : X) → i < length xs → x ≡ get_or xs i x → take (i + 1) xs ≡ take i xs ++ x ∷ []
taken_more xs i x h is = take_more xs i x h ∙ ap (λ y. take i xs ++ y ∷ []) (sym is)

-- appending the output of f for more elements
pub written_more : {X Y : Type 0} (f : X → List Y) (start written more : List Y) (xs ys : List X) → written ≡ start ++ flat_map f xs → more ≡ flat_map f ys → written ++ more ≡ start ++ flat_map f (xs ++ ys)
written_more f start written more xs ys e h =
    ap (λ l. l ++ more) e ∙ append_assoc start (flat_map f xs) more ∙ ap (λ l. start ++ (flat_map f xs ++ l)) h
    ∙ ap (λ l. start ++ l) (sym (flat_map-append f xs ys))

-- a list of eight, item by item
pub items_8 : {X : Type 0} (xs : List X) (x0 x1 x2 x3 x4 x5 x6 x7 : X) → length xs ≡ 8 → x0 ≡ get_or xs 0 x0 → x1 ≡ get_or xs 1 x1 → x2 ≡ get_or xs 2 x2 → x3 ≡ get_or xs 3 x3 → x4 ≡ get_or xs 4 x4 → x5 ≡ get_or xs 5 x5 → x6 ≡ get_or xs 6 x6 → x7 ≡ get_or xs 7 x7 → x0 ∷ x1 ∷ x2 ∷ x3 ∷ x4 ∷ x5 ∷ x6 ∷ x7 ∷ [] ≡ xs
items_8 (y0 ∷ y1 ∷ y2 ∷ y3 ∷ y4 ∷ y5 ∷ y6 ∷ y7 ∷ []) x0 x1 x2 x3 x4 x5 x6 x7 len e0 e1 e2 e3 e4 e5 e6 e7 = cc
items_8 _ x0 x1 x2 x3 x4 x5 x6 x7 len e0 e1 e2 e3 e4 e5 e6 e7 = absurd (omega arith)

-- the first j elements are the first n * i and the next n
pub taken_block : {X : Type 0} (xs : List X) (n i j : ℕ) → j ≡ n * i + n → take j xs ≡ take (n * i) xs ++ take n (drop (n * i) xs)
taken_block xs n i j e = ap (λ k. take k xs) e ∙ take-add (n * i) n xs

pub dropped_block : {X : Type 0} (xs : List X) (n i j : ℕ) → j ≡ n * i + n → drop j xs ≡ drop n (drop (n * i) xs)
dropped_block xs n i j e = ap (λ k. drop k xs) e ∙ sym (drop-drop n (n * i) xs)
