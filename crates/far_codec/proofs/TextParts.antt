-- Ascending ends and UTF-8 texts are parts of a form of texts.
use Rattle.std.proofs.Common.{◌≡◌, ℕ, zero, suc, ◌+◌, ◌-◌, ◌<◌, ◌≤◌, List, [], ◌∷◌, length, get_or, take, drop, ap, subst, arith, inl, inr}
use Rattle.std.specs.Str.{IsUtf8, IsAscii}
use Rattle.std.proofs.lemmas.Bool.{cases_Bool}
use Rattle.std.proofs.lemmas.Str.{IsAscii-take, IsAscii-drop, IsUtf8-from_ascii}
use Rattle.far_codec.specs.Reading.{is_missing}
use Rattle.far_codec.specs.TextForm.{AreTextParts}
use Rattle.far_codec.specs.TextParts.{Ascend, MissingAreEmpty, AreUtf8}

-- values that rise in each step rise over several
rises : (xs : List ℕ) (i k n : ℕ) → i + k ≡ n → ((j : ℕ) → j < n → get_or xs j 0 ≤ get_or xs (suc j) 0) → get_or xs i 0 ≤ get_or xs n 0
rises xs i zero n e up = let same : i ≡ n = omega arith in subst (λ (m : ℕ). get_or xs i 0 ≤ get_or xs m 0) same (omega arith)
rises xs i (suc k) n e up = omega (arith, up i (omega arith), rises xs (suc i) k n (omega arith) up)

-- no end is past the last
pub inside : (ends : List ℕ) (last i : ℕ) → Ascend ends last → i < length ends → get_or ends i 0 ≤ last
inside ends last i ascend h =
    let up : get_or ends i 0 ≤ get_or (0 ∷ ends) (length ends) 0 = rises (0 ∷ ends) (suc i) (length ends - suc i) (length ends) (omega arith) ascend.each in
    omega (arith, up, ascend.whole)

pub ascend_of : (mask ends body : List ℕ) → AreTextParts mask ends body → Ascend ends (length body)
ascend_of mask ends body parts = record { each = λ i h. (parts.each i h).ordered; whole = parts.whole }

pub missing_of : (mask ends body : List ℕ) → AreTextParts mask ends body → MissingAreEmpty mask ends
missing_of mask ends body parts i h = (parts.each i h).missing

empty_utf8 : IsUtf8 []
empty_utf8 = IsUtf8-from_ascii [] (λ i. omega arith)

pub utf8_of : (mask ends body : List ℕ) → AreTextParts mask ends body → AreUtf8 ends body
utf8_of mask ends body parts i h =
    let a = get_or (0 ∷ ends) i 0 in
    let b = get_or ends i 0 in
    let is = parts.each i h in
    elim (cases_Bool (is_missing mask i)) [
      | inl missing ↦
          let none : 0 ≡ b - a = omega (arith, is.missing missing) in
          subst IsUtf8 (ap (λ k. take k (drop a body)) none) empty_utf8
      | inr there ↦ is.there there
    ]

pub parts_of : (mask ends body : List ℕ) → Ascend ends (length body) → MissingAreEmpty mask ends → AreUtf8 ends body → AreTextParts mask ends body
parts_of mask ends body ascend missing utf8 = record {
  each = λ i h. record {
    ordered = ascend.each i h;
    inside = inside ends (length body) i ascend h;
    missing = missing i h;
    there = λ _. utf8 i h;
  };
  whole = ascend.whole;
}

-- each part of ASCII bytes is UTF-8
pub ascii_utf8 : (ends body : List ℕ) → IsAscii body → AreUtf8 ends body
ascii_utf8 ends body ascii i h = IsUtf8-from_ascii _ (IsAscii-take _ _ (IsAscii-drop _ _ ascii))
