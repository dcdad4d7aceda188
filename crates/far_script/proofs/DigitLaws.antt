-- The digits of a number, copied with some bytes after them.
use Rattle.std.proofs.Common.{◌≡◌, ◌+◌, ◌-◌, ◌≤◌, ℕ, List, [], ◌∷◌, ◌++◌, decimal, length, take, drop, append_assoc, length-append, take-append-drop, ◌∙◌, refl, sym, ap, arith}
use Rattle.std.specs.Prelude.{ℤ, slice_range}
use Rattle.std.specs.Fmt.{signed_decimal}
use Rattle.std.proofs.lemmas.List.{length-drop, length-take-le, take_at, take-take}

-- the 20 bytes of a row from the first digit on are the digits and some bytes more
front-digits : (digits zeros row part : List ℕ) (start : ℕ) → start + length digits ≡ 20 → drop start row ≡ digits ++ zeros → part ≡ slice_range row start (start + 20) → take (length digits) part ≡ digits
front-digits digits zeros row part start count from is =
    let width : start + 20 - start ≡ 20 = omega arith in
    ap (take (length digits)) (is ∙ ap (λ (n : ℕ). take n (drop start row)) width ∙ ap (take 20) from)
    ∙ take-take (length digits) 20 (digits ++ zeros) (omega (arith, count)) ∙ take_at digits zeros (length digits) refl

part-long : (row part : List ℕ) (start : ℕ) → start ≤ 20 → length row ≡ 40 → part ≡ slice_range row start (start + 20) → length part ≡ 20
part-long row part start low wide is =
    let width : start + 20 - start ≡ 20 = omega arith in
    ap (λ (t : List ℕ). length t) (is ∙ ap (λ (n : ℕ). take n (drop start row)) width) ∙ length-take-le 20 (drop start row) (let left = length-drop start row in omega (arith, left, low, wide))

-- these 20 bytes are appended to a page, which is then shortened by the number of bytes before the digits: the digits are left
pub digits-stay : (page digits zeros row part mid : List ℕ) (start len : ℕ) → start + length digits ≡ 20 → drop start row ≡ digits ++ zeros → length row ≡ 40 → part ≡ slice_range row start (start + 20) → mid ≡ page ++ part → len ≡ length mid
    → take (len - start) mid ≡ page ++ digits
digits-stay page digits zeros row part mid start len count from wide is grown counted =
    let k = length digits in
    let long = part-long row part start (omega (arith, count)) wide is in
    let left : len - start ≡ length page + k = (let all = ap (λ (t : List ℕ). length t) grown in let both = length-append page part in omega (arith, counted, all, both, long, count)) in
    let split : part ≡ digits ++ drop k part = sym (take-append-drop k part) ∙ ap (λ (t : List ℕ). t ++ drop k part) (front-digits digits zeros row part start count from is) in
    ap (take (len - start)) (grown ∙ ap (λ (t : List ℕ). page ++ t) split ∙ sym (append_assoc page digits (drop k part)))
    ∙ take_at (page ++ digits) (drop k part) (len - start) (length-append page digits ∙ sym left)

-- a minus is appended to a page, and then the digits
pub with-minus : (page mid : List ℕ) (n : ℕ) (z : ℤ) → mid ≡ page ++ 45 ∷ [] → 45 ∷ decimal n ≡ signed_decimal z → mid ++ decimal n ≡ page ++ signed_decimal z
with-minus page mid n z minus digits = ap (λ (t : List ℕ). t ++ decimal n) minus ∙ append_assoc page (45 ∷ []) (decimal n) ∙ ap (λ (t : List ℕ). page ++ t) digits

-- digits are written over the zeros at the end of a page, which is then cut after them
pub digits-in-place : (page zeros old new tail digits : List ℕ) (start end all : ℕ) → old ≡ page ++ zeros → start + length digits ≡ end → end ≡ length page + length digits → end ≤ all
    → drop start new ≡ digits ++ drop end old → take start new ≡ take start old → take end (take all (new ++ tail)) ≡ page ++ digits
digits-in-place page zeros old new tail digits start end all grown counted ends within written before =
    let here : start ≡ length page = omega (arith, counted, ends) in
    let front : take start new ≡ page = before ∙ ap (take start) grown ∙ take_at page zeros start (sym here) in
    let split : new ≡ (page ++ digits) ++ drop end old =
    sym (take-append-drop start new) ∙ ap (λ (t : List ℕ). t ++ drop start new) front ∙ ap (λ (t : List ℕ). page ++ t) written ∙ sym (append_assoc page digits (drop end old)) in
    let whole : new ++ tail ≡ (page ++ digits) ++ (drop end old ++ tail) = ap (λ (t : List ℕ). t ++ tail) split ∙ append_assoc (page ++ digits) (drop end old) tail in
    take-take end all (new ++ tail) within ∙ ap (take end) whole ∙ take_at (page ++ digits) (drop end old ++ tail) end (length-append page digits ∙ sym ends)
