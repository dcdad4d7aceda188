-- The names of objects when more are made: the old names stay, and the new names follow them.
use Rattle.std.proofs.Common.{◌≡◌, inl, inr, ℕ, zero, suc, List, [], ◌∷◌, ◌++◌, length, Some, refl, sym, ap, ◌∙◌, arith}
use Rattle.std.specs.Prelude.{◌⊎◌, slice_get}
use Rattle.std.proofs.lemmas.List.{map-append}
use Rattle.std.proofs.lemmas.Option.{none-some, same_Some}
use Rattle.far_types.specs.declared.name.Name.{Name}
use Rattle.far_scopes.specs.Movement.{Movement}
use Rattle.far_scopes.specs.Effects.{new_record, after_create}
use Rattle.far_scopes.proofs.MemoryWordPlaces.{slice_get-push_last}
use Rattle.far_rows.specs.Naming.{names_of, AreNamed}

-- an element of a list keeps its index when the list gets longer
pub get-before : {A : Type 0} (xs ys : List A) (i : ℕ) (x : A) → slice_get xs i ≡ Some x → slice_get (xs ++ ys) i ≡ Some x
get-before [] ys i x at = absurd (none-some x at)
get-before (z ∷ xs) ys zero x at = at
get-before (z ∷ xs) ys (suc i) x at = get-before xs ys i x at

-- an element of a list with one more is an old element or the last one
get-pushed : {A : Type 0} (xs : List A) (y : A) (i : ℕ) (x : A) → slice_get (xs ++ y ∷ []) i ≡ Some x → (slice_get xs i ≡ Some x) ⊎ ((i ≡ length xs) × (x ≡ y))
get-pushed [] y zero x at = inr (refl, sym (same_Some y x at))
get-pushed [] y (suc i) x at = absurd (none-some x at)
get-pushed (z ∷ xs) y zero x at = inl at
get-pushed (z ∷ xs) y (suc i) x at = elim (get-pushed xs y i x at) [
  | inl was ↦ inl was
  | inr new ↦ inr (omega (arith, new.0), new.1)
]

-- each object keeps its name
abbrev pub Extends : List Name → List Name → Type 0
Extends old new = (o : ℕ) (name : Name) → slice_get old o ≡ Some name → slice_get new o ≡ Some name

pub named-more : (old new : List Name) (column : ℕ) (objects : List ℕ) → Extends old new → AreNamed old column objects → AreNamed new column objects
named-more old new column objects more named g o at = more o record { column = column; group = g } (named g o at)

-- the objects of a column are still named after its next row group got a new object
pub named-next : (names : List Name) (column : ℕ) (objects : List ℕ) → AreNamed names column objects → AreNamed (names ++ record { column = column; group = length objects } ∷ []) column (objects ++ length names ∷ [])
named-next names column objects named g o at =
    let next : Name = record { column = column; group = length objects } in
    elim (get-pushed objects (length names) g o at) [
      | inl was ↦ get-before names (next ∷ []) o record { column = column; group = g } (named g o was)
      | inr new ↦ (λ j. slice_get (names ++ next ∷ []) (new.1 j)) ∙ slice_get-push_last names next ∙ ap (λ h. Some record { column = column; group = h }) (sym new.0)
    ]

pub names-after_create : {X K : Type 0} (m : Movement X K) (name : Name) (list : List X) → names_of (after_create m name list) ≡ names_of m ++ name ∷ []
names-after_create m name list = map-append (λ object_record. object_record.name) m.records (new_record name (length list) ∷ [])
