-- Reports of chunks: there are few, and together they count the whole list.
use Rattle.std.proofs.Common.{◌≡◌, ℕ, ◌+◌, ◌*◌, ◌/◌, ◌%◌, ◌<◌, ◌≤◌, min, max, List, [], ◌∷◌, length, get_or, map, sum_by, sum, sym, ◌∙◌, refl, arith, mul-le-mul_right, mul_comm, lt_of_mul-lt-mul_right, subst}
use Rattle.std.proofs.lemmas.List.Sums.{sum_by-cons}
use Rattle.std.proofs.lemmas.List.{get_or-map, length-map}
use Rattle.std.proofs.lemmas.Slice.Chunks.{sum_by_chunks}
use Rattle.std.proofs.lemmas.Grind.{div_ceil_times}
use Rattle.std.specs.Fork.{slice_chunk}

one-each : {X : Type 0} (xs : List X) → sum_by (λ x. 1) xs ≡ length xs
one-each [] = refl
one-each (x ∷ xs) = (let e = sum_by-cons (λ x. 1) x xs in let h = one-each xs in omega arith)

sum-mapped : {X : Type 0} (f : X → ℕ) (xs : List X) → sum (map f xs) ≡ sum_by f xs
sum-mapped f [] = refl
sum-mapped f (x ∷ xs) = (let e = sum_by-cons f x xs in let d = sum_by-cons (λ (n : ℕ). n) (f x) (map f xs) in let h = sum-mapped f xs in omega arith)

-- if each report counts its chunk, all reports together count the whole list
pub counts-all : {X R : Type 0} (f : R → ℕ) (size : ℕ) (xs : List X) (rs : List R) (d : R) → 0 < size → length rs ≡ length xs / size + min 1 (length xs % size) → ((n : ℕ) → n < length rs → f (get_or rs n d) ≡ length (slice_chunk xs size n)) → sum_by f rs ≡ length xs
counts-all f size xs rs d some len each =
    sym (sum-mapped f rs)
    ∙ sum_by_chunks (λ x. 1) size xs (map f rs) (λ n lt. let within : n < length rs = omega (arith, lt, length-map rs f) in get_or-map f rs n d 0 within ∙ each n within ∙ sym (one-each (slice_chunk xs size n))) some (length-map rs f ∙ len)
    ∙ one-each xs

few-pieces : (count workers each long pieces : ℕ) → long ≡ max each 1 → count ≤ each * workers → pieces * long < count + long → pieces ≤ workers
few-pieces count workers each long pieces is enough last =
    let bigger : each ≤ long = omega (arith, is) in
    let more : each * workers ≤ long * workers = mul-le-mul_right workers bigger in
    let flip : long * workers ≡ workers * long = mul_comm long workers in
    let next : (workers + 1) * long ≡ workers * long + long = omega arith in
    let less : pieces * long < (workers + 1) * long = omega (arith, last, enough, more, flip, next) in
    let fewer : pieces < workers + 1 = lt_of_mul-lt-mul_right long less in
    omega (arith, fewer)

-- there are at most as many chunks as workers
pub few-chunks : (count workers each size chunks : ℕ) → 0 < workers → each ≡ count / workers + min 1 (count % workers) → size ≡ max each 1 → chunks ≡ count / size + min 1 (count % size) → chunks ≤ workers
few-chunks count workers each size chunks some is long many =
    let some-size : 0 < size = omega (arith, long) in
    let enough : count ≤ each * workers = subst (λ n. count ≤ n * workers) (sym is) (div_ceil_times count workers some).0 in
    let last : chunks * size < count + size = subst (λ n. n * size < count + size) (sym many) (div_ceil_times count size some-size).1 in
    few-pieces count workers each size chunks long enough last
