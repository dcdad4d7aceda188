-- The places of objects, one object after another.
use Rattle.std.proofs.Common.{◌≡◌, ◌≢◌, ℕ, zero, suc, ◌+◌, ◌*◌, ◌<◌, ◌≤◌, List, [], ◌∷◌, ◌++◌, length, take, drop, get_or, Option, None, Some, refl, sym, ap, subst, ◌∙◌, arith, append_assoc, length-append}
use Rattle.std.specs.Prelude.{All, AllPairs, IsSomeAnd, unwrap_or, slice_get}
use Rattle.std.proofs.lemmas.Option.{slice_get_within, get_or_from_slice_get}
use Rattle.std.proofs.lemmas.List.{append-nil, get_or-take, get_or-drop, length-take-le, length-drop, take-append-le, drop-append-le}
use Rattle.std.proofs.lemmas.List.Elements.{All-take}
use Rattle.std.proofs.Math.Seq.{take-append-add, drop-append-add}
use Rattle.far_columns.specs.Vector.{places, KeepsOthers}

module _ {X : Type 0} where
  -- the list of an object, or none
  abbrev pub list_at : (ℕ → Option (List X)) → ℕ → List X
  list_at lists o = unwrap_or (lists o) []

  -- each object has a list of this length
  abbrev pub AreWhole : (ℕ → Option (List X)) → ℕ → List ℕ → Type 0
  AreWhole lists size objects = All (λ o. IsSomeAnd (lists o) (λ list. length list ≡ size)) objects

  length-some : (list : Option (List X)) (size : ℕ) → IsSomeAnd list (λ l. length l ≡ size) → length (unwrap_or list []) ≡ size
  length-some None size h = absurd h
  length-some (Some list) size h = h

  pub some-at : (list : Option (List X)) (size : ℕ) → IsSomeAnd list (λ l. length l ≡ size) → list ≡ Some (unwrap_or list [])
  some-at None size h = absurd h
  some-at (Some list) size h = refl

  module _ (lists : ℕ → Option (List X)) where
    pub length-places : (size : ℕ) (objects : List ℕ) → AreWhole lists size objects → length (places lists objects) ≡ length objects * size
    length-places size [] whole = omega arith
    length-places size (o ∷ objects) whole =
        let here : length (list_at lists o) ≡ size = length-some (lists o) size (whole 0 o (omega arith)) in
        let rest = length-places size objects (λ k d within. whole (suc k) d (omega arith)) in
        omega (arith, length-append (list_at lists o) (places lists objects), here, rest)

    -- all places: of the objects before object o, of o itself, and of the objects after it
    pub places-split : (objects : List ℕ) (g o : ℕ) → slice_get objects g ≡ Some o → places lists objects ≡ places lists (take g objects) ++ (list_at lists o ++ places lists (drop (suc g) objects))
    places-split [] g o is = cc
    places-split (p ∷ objects) zero o is = let same : p ≡ o = cc in rw same refl
    places-split (p ∷ objects) (suc g) o is = ap (λ l. list_at lists p ++ l) (places-split objects g o is) ∙ sym (append_assoc (list_at lists p) (places lists (take g objects)) (list_at lists o ++ places lists (drop (suc g) objects)))

    pub places-append : (objects : List ℕ) (o : ℕ) → places lists (objects ++ o ∷ []) ≡ places lists objects ++ list_at lists o
    places-append [] o = append-nil (list_at lists o)
    places-append (p ∷ objects) o = ap (λ l. list_at lists p ++ l) (places-append objects o) ∙ sym (append_assoc (list_at lists p) (places lists objects) (list_at lists o))

  -- objects whose lists do not change have the same places
  pub places-unchanged : (old new : ℕ → Option (List X)) (objects : List ℕ) → All (λ o. new o ≡ old o) objects → places new objects ≡ places old objects
  places-unchanged old new [] same = refl
  places-unchanged old new (o ∷ objects) same = rw (same 0 o (omega arith)) (ap (λ l. list_at old o ++ l) (places-unchanged old new objects (λ k d within. same (suc k) d (omega arith))))

  -- writing a range into the second of three lists writes it into the joined list
  pub spliced : (before xs after range : List X) (a e i j : ℕ) → a ≤ length xs → e ≤ length xs → i ≡ length before + a → j ≡ length before + e → before ++ ((take a xs ++ (range ++ drop e xs)) ++ after) ≡ take i (before ++ (xs ++ after)) ++ (range ++ drop j (before ++ (xs ++ after)))
  spliced before xs after range a e i j within inside from to =
      let left : take i (before ++ (xs ++ after)) ≡ before ++ take a xs = rw from (take-append-add before (xs ++ after) a ∙ ap (λ l. before ++ l) (take-append-le a xs after within)) in
      let right : drop j (before ++ (xs ++ after)) ≡ drop e xs ++ after = rw to (drop-append-add before (xs ++ after) e ∙ drop-append-le e xs after inside) in
      rw (left, right) (simp append_assoc)

module _ (objects : List ℕ) (sorted : AllPairs (λ o p. o < p) objects) (g o : ℕ) (is : slice_get objects g ≡ Some o) where
  within : g < length objects
  within = slice_get_within objects g o is

  pub before-disjoint : All (λ p. p ≢ o) (take g objects)
  before-disjoint k d below same =
      let short : length (take g objects) ≡ g = length-take-le g objects (omega (arith, within)) in
      let less = sorted k g d (omega arith) within in
      let here = get_or_from_slice_get objects g o d is in
      let there = get_or-take g objects k d (omega arith) in
      omega (arith, less, here, there, same)

  pub after-disjoint : All (λ p. p ≢ o) (drop (suc g) objects)
  after-disjoint k d below same =
      let left = length-drop (suc g) objects in
      let less = sorted g (suc g + k) d (omega arith) (omega arith) in
      let here = get_or_from_slice_get objects g o d is in
      let there = get_or-drop (suc g) objects k d in
      omega (arith, less, here, there, same)

module _ {X : Type 0} (old new : ℕ → Option (List X)) (objects : List ℕ) (sorted : AllPairs (λ o p. o < p) objects) (g o : ℕ) (is : slice_get objects g ≡ Some o) (others : KeepsOthers old new o) where
  -- if the list of one object changes, the places of the other objects do not
  pub places-changed : places new objects ≡ places old (take g objects) ++ (list_at new o ++ places old (drop (suc g) objects))
  places-changed =
      places-split new objects g o is
      ∙ ap (λ l. l ++ (list_at new o ++ places new (drop (suc g) objects))) (places-unchanged old new (take g objects) (λ k d below. others (get_or (take g objects) k d) (before-disjoint objects sorted g o is k d below)))
      ∙ ap (λ l. places old (take g objects) ++ (list_at new o ++ l)) (places-unchanged old new (drop (suc g) objects) (λ k d below. others (get_or (drop (suc g) objects) k d) (after-disjoint objects sorted g o is k d below)))

module _ {X : Type 0} (lists : ℕ → Option (List X)) (size : ℕ) (objects : List ℕ) (whole : AreWhole lists size objects) (g o : ℕ) (is : slice_get objects g ≡ Some o) where
  own : IsSomeAnd (lists o) (λ list. length list ≡ size)
  own = subst (λ p. IsSomeAnd (lists p) (λ list. length list ≡ size)) (get_or_from_slice_get objects g o o is) (whole g o (slice_get_within objects g o is))

  pub length-own : length (list_at lists o) ≡ size
  length-own = length-some (lists o) size own

  pub length-before : length (places lists (take g objects)) ≡ g * size
  length-before =
      let below = slice_get_within objects g o is in
      let short : length (take g objects) ≡ g = length-take-le g objects (omega (arith, below)) in
      length-places lists size (take g objects) (All-take (λ p. IsSomeAnd (lists p) (λ list. length list ≡ size)) g objects whole) ∙ ap (λ n. n * size) short

module _ {X : Type 0} (old new : ℕ → Option (List X)) (size : ℕ) (objects : List ℕ) (sorted : AllPairs (λ o p. o < p) objects) (whole : AreWhole old size objects) (g o : ℕ) (is : slice_get objects g ≡ Some o) (others : KeepsOthers old new o) where
  -- writing a range into one object's list writes it into the places
  pub range-places : (a n : ℕ) (range : List X) → length range ≡ n → a + n ≤ size → list_at new o ≡ take a (list_at old o) ++ (range ++ drop (a + n) (list_at old o)) → (i : ℕ) → i ≡ g * size + a → places new objects ≡ take i (places old objects) ++ (range ++ drop (i + length range) (places old objects))
  range-places a n range long fits now i at =
      let same : length (list_at old o) ≡ size = length-own old size objects whole g o is in
      let front : length (places old (take g objects)) ≡ g * size = length-before old size objects whole g o is in
      places-changed old new objects sorted g o is others
      ∙ ap (λ l. places old (take g objects) ++ (l ++ places old (drop (suc g) objects))) now
      ∙ spliced (places old (take g objects)) (list_at old o) (places old (drop (suc g) objects)) range a (a + n) i (i + length range) (omega (arith, same, fits)) (omega (arith, same, fits)) (omega (arith, front, at)) (omega (arith, front, at, long))
      ∙ ap (λ l. take i l ++ (range ++ drop (i + length range) l)) (sym (places-split old objects g o is))
