-- Lists that are copied into a buffer, one after another.
use Rattle.std.proofs.Common.{◌≡◌, ◌∙◌, ℕ, ◌+◌, ◌≤◌, List, ◌++◌, map, take, drop, length, sym, ap, arith}
use Rattle.std.proofs.lemmas.List.{length-append, length-drop, length-take-le, map-append, append_assoc, length-map}
use Rattle.std.proofs.Math.Seq.{take-append_seam}

-- after a write at `at`, the buffer has its first elements and the written ones
pub taken-put : {A : Type 0} (at : ℕ) (xs ys : List A) → at + length ys ≤ length xs → take (at + length ys) (take at xs ++ ys ++ drop (at + length ys) xs) ≡ take at xs ++ ys
taken-put at xs ys fits =
    let long : length (take at xs ++ ys) ≡ at + length ys = length-append (take at xs) ys ∙ ap (λ n. n + length ys) (length-take-le at xs (omega (arith, fits))) in
    ap (λ n. take n (take at xs ++ ys ++ drop (at + length ys) xs)) (sym long) ∙ take-append_seam (take at xs ++ ys) (drop (at + length ys) xs)

-- the written and the remaining elements are still the whole
pub put-goes-on : {A B : Type 0} (f : A → B) (at : ℕ) (xs : List B) (ys rest : List A) (whole : List B) → at + length ys ≤ length xs → take at xs ++ map f (ys ++ rest) ≡ whole
    → take (at + length ys) (take at xs ++ map f ys ++ drop (at + length ys) xs) ++ map f rest ≡ whole
put-goes-on f at xs ys rest whole fits is =
    let same : length (map f ys) ≡ length ys = length-map ys f in
    let put = taken-put at xs (map f ys) (rw same fits) in
    ap (λ l. l ++ map f rest) (ap (λ n. take (at + n) (take at xs ++ map f ys ++ drop (at + n) xs)) (sym same) ∙ put) ∙ append_assoc (take at xs) (map f ys) (map f rest) ∙ ap (λ l. take at xs ++ l) (sym (map-append f ys rest)) ∙ is

-- this is also true of elements that are written as they are
pub put-as-it-is : {A : Type 0} (at : ℕ) (xs ys rest whole : List A) → at + length ys ≤ length xs → take at xs ++ (ys ++ rest) ≡ whole
    → take (at + length ys) (take at xs ++ ys ++ drop (at + length ys) xs) ++ rest ≡ whole
put-as-it-is at xs ys rest whole fits is = ap (λ l. l ++ rest) (taken-put at xs ys fits) ∙ append_assoc (take at xs) ys rest ∙ is

-- a write keeps the buffer's length
pub length-put : {A : Type 0} (at : ℕ) (xs ys : List A) → at + length ys ≤ length xs → length (take at xs ++ ys ++ drop (at + length ys) xs) ≡ length xs
length-put at xs ys fits =
    length-append (take at xs ++ ys) (drop (at + length ys) xs) ∙ ap (λ n. n + length (drop (at + length ys) xs)) (length-append (take at xs) ys ∙ ap (λ n. n + length ys) (length-take-le at xs (omega (arith, fits))))
    ∙ (let left = length-drop (at + length ys) xs in omega (arith, left, fits))
