-- An order of use: object numbers, the most recently used first.
use Rattle.std.specs.Prelude.{ℕ, ◌-◌, ◌<◌, ◌≤◌, ◌==◌, if◌then◌else◌, Bool, true, false, not, ◌≡◌, List, [], ◌∷◌, length, slice_index}
use Rattle.std.specs.List.{list_any}

-- whether an object is in an order of use
abbrev pub has : List ℕ → ℕ → Bool
has order o = list_any (λ p. o == p) order

-- an order of use with an object removed
abbrev pub without : List ℕ → ℕ → List ℕ
without [] o = []
without (p ∷ order) o = if o == p then order else p ∷ without order o

-- an order of use after an object is used again: the object is first, if it is in the order
abbrev pub after_use : List ℕ → ℕ → List ℕ
after_use order o = if has order o then o ∷ without order o else order

-- an order of use after objects are used again, one after the other
abbrev pub after_uses : List ℕ → List ℕ → List ℕ
after_uses order [] = order
after_uses order (o ∷ uses) = after_uses (after_use order o) uses

-- no object is in an order of use twice
abbrev pub Once : List ℕ → Type 0
Once [] = Unit {0}
Once (o ∷ order) = (has order o ≡ false) × Once order

-- the objects of some uses, each once, in the order of their last uses
abbrev pub newest : List ℕ → List ℕ
newest [] = []
newest (o ∷ uses) = if has uses o then newest uses else o ∷ newest uses

-- whether an object is not among some uses
abbrev pub is_unused : List ℕ → ℕ → Bool
is_unused uses o = not (has uses o)

-- The object that is used at index `i` is also used at index `p - 1`, which is `i` or later.
abbrev pub IsUsedBefore : List ℕ → ℕ → ℕ → Type 0
IsUsedBefore uses p i =
    (i < p) × (p ≤ length uses) × (slice_index uses (p - 1) ≡ slice_index uses i)

-- For each object of some uses a list has 1 + the index of the last of them, at the object's number.
abbrev pub AreNoted : List ℕ → List ℕ → Type 0
AreNoted uses last = (i : ℕ) → i < length uses
    → IsUsedBefore uses (slice_index last (slice_index uses i)) i

-- Each object for which a list has another number than 0 is in an order of use.
abbrev pub AreKnown : List ℕ → List ℕ → Type 0
AreKnown last order = (o : ℕ) → 0 < slice_index last o → has order o ≡ true
