-- Each object belongs to the column and the row group in its name, also when columns get more objects.
use Rattle.std.proofs.Common.{◌≡◌, inl, inr, ℕ, zero, suc, ◌+◌, List, [], ◌∷◌, ◌++◌, map, length, refl, sym, ap, ◌∙◌, arith}
use Rattle.std.specs.Prelude.{◌⊎◌, Some, slice_get}
use Rattle.std.proofs.lemmas.Option.{none-some, same_Some}
use Rattle.far_types.specs.declared.name.Name.{Name}
use Rattle.far_rows.specs.Naming.{AreOwned}

-- an element of two joined lists is in the first or in the second
get-either : {A : Type 0} (xs ys : List A) (o : ℕ) (x : A) → slice_get (xs ++ ys) o ≡ Some x → (slice_get xs o ≡ Some x) ⊎ ((j : ℕ) × (o ≡ length xs + j) × (slice_get ys j ≡ Some x))
get-either [] ys o x at = inr (o, omega arith, at)
get-either (z ∷ xs) ys zero x at = inl at
get-either (z ∷ xs) ys (suc o) x at = elim (get-either xs ys o x at) [
  | inl was ↦ inl was
  | inr behind ↦ inr (behind.0, omega (arith, behind.1), behind.2)
]

-- an element of a mapped list is the image of an element
get-made : {A B : Type 0} (f : A → B) (xs : List A) (j : ℕ) (y : B) → slice_get (map f xs) j ≡ Some y → (x : A) × (slice_get xs j ≡ Some x) × (f x ≡ y)
get-made f [] j y at = absurd (none-some y at)
get-made f (x ∷ xs) zero y at = (x, refl, same_Some (f x) y at)
get-made f (x ∷ xs) (suc j) y at = get-made f xs j y at

module _ {C : Type 0} (column_of : C → ℕ) (objects_of : C → List ℕ) where
  -- the name of the object of a column's next row group
  abbrev pub name_of : C → Name
  name_of c = record { column = column_of c; group = length (objects_of c) }

  -- each column keeps its number and its objects, and may have more objects
  abbrev pub AreMore : List C → List C → Type 0
  AreMore columns after = (i : ℕ) (c : C) → slice_get columns i ≡ Some c → (d : C) × (slice_get after i ≡ Some d) × (column_of d ≡ column_of c) × ((g o : ℕ) → slice_get (objects_of c) g ≡ Some o → slice_get (objects_of d) g ≡ Some o)

  -- each column has one more object; the new objects are numbered from n in the order of the columns
  abbrev pub HaveNext : ℕ → List C → List C → Type 0
  HaveNext n columns after = (i : ℕ) (c : C) → slice_get columns i ≡ Some c → (d : C) × (slice_get after i ≡ Some d) × (column_of d ≡ column_of c) × (slice_get (objects_of d) (length (objects_of c)) ≡ Some (n + i))

  pub owned-still : (names : List Name) (columns after : List C) → AreMore columns after → AreOwned column_of objects_of names columns → AreOwned column_of objects_of names after
  owned-still names columns after more owned o name at =
      let was = owned o name at in
      let now = more was.0 was.1 was.2 in
      (was.0, now.0, now.1, now.2 ∙ was.3, now.3 name.group o was.4)

  pub owned-more : (names : List Name) (columns after : List C) → AreMore columns after → HaveNext (length names) columns after → AreOwned column_of objects_of names columns → AreOwned column_of objects_of (names ++ map name_of columns) after
  owned-more names columns after more next owned o name at = elim (get-either names (map name_of columns) o name at) [
    | inl was ↦ owned-still names columns after more owned o name was
    | inr (j, is, behind) ↦
        let made = get-made name_of columns j name behind in
        let now = next j made.0 made.1 in
        (j, now.0, now.1, now.2 ∙ ap (λ (n : Name). n.column) made.2, ap (λ (n : Name). slice_get (objects_of now.0) n.group) (sym made.2) ∙ now.3 ∙ ap Some (sym is))
  ]
