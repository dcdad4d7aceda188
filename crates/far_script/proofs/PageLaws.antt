-- Bytes that are put before those of a page.
use Rattle.std.proofs.Common.{◌≡◌, ◌+◌, ◌-◌, ℕ, List, ◌++◌, length, take, drop, ◌∙◌, sym, ap, arith}
use Rattle.std.specs.List.{copy_within}
use Rattle.std.proofs.Math.Seq.{drop-append_seam}
use Rattle.std.proofs.lemmas.List.{length-take-le, take_all}
use Rattle.std.proofs.lemmas.List.Edits.{length-paste, take-paste}

-- bytes are copied behind `at` others, which are then written over
pub put-first : (front old moved given : List ℕ) (len : ℕ) → length old ≡ len + length front → moved ≡ copy_within old 0 len (length front) → given ≡ front
    → given ++ drop (length front) moved ≡ front ++ take len old
put-first front old moved given len long after put =
    let at = length front in
    let width : len - 0 ≡ len = omega arith in
    let same : length moved ≡ length old = rw after (length-paste old at old (len - 0) (omega (arith, long)) (omega (arith, long))) in
    let head : take (at + len) moved ≡ take at old ++ take len old = rw (after, width) (take-paste old at old len (omega (arith, long)) (omega (arith, long))) in
    let split : moved ≡ take at old ++ take len old = sym (take_all (at + len) moved (omega (arith, same, long))) ∙ head in
    let behind : drop at moved ≡ take len old = ap (drop at) split ∙ ap (λ (n : ℕ). drop n (take at old ++ take len old)) (sym (length-take-le at old (omega (arith, long)))) ∙ drop-append_seam (take at old) (take len old) in
    rw put (ap (λ (t : List ℕ). front ++ t) behind)
