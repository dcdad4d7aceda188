-- The pieces of a part: each is of one row group and not empty, and joined they are the part.
use Rattle.std.proofs.Common.{◌≡◌, ℕ, zero, suc, ◌+◌, ◌-◌, ◌*◌, ◌/◌, ◌%◌, ◌<◌, ◌≤◌, min, max, List, [], ◌∷◌, ◌++◌, length, take, drop, map, inl, inr, refl, sym, ap, subst, ◌∙◌, arith}
use Rattle.std.specs.Prelude.{All, slice_range}
use Rattle.std.specs.List.{flat_map, range_with_len}
use Rattle.std.proofs.lemmas.Bool.{cases_lt, lt-ltb, le-ltb}
use Rattle.std.proofs.lemmas.Nat.{mod_below, div-add-mod', div-mul-add, le-div, mul-le}
use Rattle.std.proofs.lemmas.List.{length-map, drop-drop}
use Rattle.std.proofs.lemmas.List.Elements.{All-cons, All-nil}
use Rattle.std.proofs.lemmas.List.Edits.{between_none, length-between}
use Rattle.std.proofs.Math.Seq.{take-add}
use Rattle.far_columns.specs.Pieces.{first_overlapped, overlapped_count, overlapped_groups, piece, pieces_of}

-- place a of row group g is in row group g
group-of : (size g a n : ℕ) → a < size → n ≡ g * size + a → n / size ≡ g
group-of size g a n below is = ap (λ k. k / size) is ∙ div-mul-add g size a below

length-range : (a n : ℕ) → length (range_with_len a n) ≡ n
length-range a zero = refl
length-range a (suc n) = ap suc (length-range (a + 1) n)

-- functions that agree on the numbers of a range map it to equal lists
map-range : {Y : Type 0} (f h : ℕ → Y) (a n : ℕ) → ((k : ℕ) → a ≤ k → f k ≡ h k) → map f (range_with_len a n) ≡ map h (range_with_len a n)
map-range f h a zero same = refl
map-range f h a (suc n) same = rw (same a (omega arith)) (ap (λ l. h a ∷ l) (map-range f h (a + 1) n (λ k above. same k (omega (arith, above)))))

module _ {X : Type 0} (xs : List X) (size : ℕ) where
  pub length-pieces : (from to : ℕ) → length (pieces_of xs size from to) ≡ overlapped_count size from to
  length-pieces from to = length-map (overlapped_groups size from to) (piece xs size from to) ∙ length-range (first_overlapped size from) (overlapped_count size from to)

module _ (size : ℕ) (some : 0 < size) (from to : ℕ) (more : from < to) where
  abbrev pub g : ℕ
  g = from / size

  abbrev pub end : ℕ
  end = min to ((g + 1) * size)

  pub here : g * size + from % size ≡ from
  here = div-add-mod' from size

  below : from % size < size
  below = mod_below from size some

  last : (to - 1) / size * size + (to - 1) % size ≡ to - 1
  last = div-add-mod' (to - 1) size

  last-below : (to - 1) % size < size
  last-below = mod_below (to - 1) size some

  pub further : from < end
  further = omega (arith, here, below, more)

  pub ends : end ≤ to
  ends = omega arith

  pub one-group : from / size ≡ (end - 1) / size
  one-group = sym (group-of size g (end - 1 - g * size) (end - 1) (omega (arith, here, below, more)) (omega (arith, here, below, more)))

  pub count : overlapped_count size from to ≡ (to - 1) / size + 1 - g
  count = rw (lt-ltb from to more) refl

  abbrev pub rest : ℕ
  rest = (to - 1) / size - g

  pub g-low : g ≤ (to - 1) / size
  g-low = le-div g (to - 1) size some (omega (arith, here, more))

  pub count-step : overlapped_count size from to ≡ suc rest
  count-step = count ∙ (let e : (to - 1) / size + 1 - g ≡ suc rest = omega (arith, g-low) in e)

  -- the row groups of a part are the first row group and the row groups of the rest
  pub overlapped-step : overlapped_groups size from to ≡ g ∷ range_with_len (g + 1) rest
  overlapped-step = rw count (let e : (to - 1) / size + 1 - g ≡ suc rest = omega (arith, g-low) in rw e refl)

  pub overlapped-last : (to - 1) / size ≡ g → end ≡ to
  overlapped-last same = let rows : (to - 1) / size * size ≡ g * size = ap (λ k. k * size) same in omega (arith, rows, last, last-below)

  module _ (later : g < (to - 1) / size) where
    pub rows : (g + 1) * size ≤ (to - 1) / size * size
    rows = mul-le (g + 1) size ((to - 1) / size) size (omega (arith, later)) (omega arith)

    pub end-row : end ≡ (g + 1) * size
    end-row = omega (arith, rows, last)

    pub next-group : end / size ≡ g + 1
    next-group = group-of size (g + 1) 0 end some (omega (arith, end-row))

    pub end-before : end < to
    end-before = omega (arith, end-row, rows, last, more)

    pub next-count : overlapped_count size end to ≡ rest
    next-count = rw (lt-ltb end to end-before, next-group) (omega arith)

module _ {X : Type 0} (xs : List X) (size : ℕ) (some : 0 < size) where
  pub none-pieces : (from : ℕ) → pieces_of xs size from from ≡ []
  none-pieces from = rw (le-ltb from from (omega arith)) refl

  module _ (from to : ℕ) (more : from < to) where
    head : piece xs size from to (from / size) ≡ slice_range xs from (end size some from to more)
    head =
        let low : max from (from / size * size) ≡ from = omega (arith, here size some from to more) in
        let high : min to (from / size * size + size) ≡ end size some from to more = omega arith in
        rw (low, high) refl

    tail : map (piece xs size from to) (range_with_len (from / size + 1) (rest size some from to more)) ≡ pieces_of xs size (end size some from to more) to
    tail = elim (cases_lt (from / size) ((to - 1) / size)) [
      | inl later ↦ rw (next-count size some from to more later, next-group size some from to more later)
          (map-range (piece xs size from to) (piece xs size (end size some from to more) to) (from / size + 1) (rest size some from to more) (λ k above.
          let row : (from / size + 1) * size ≤ k * size = mul-le (from / size + 1) size k size above (omega arith) in
          let e : max from (k * size) ≡ max (end size some from to more) (k * size) = omega (arith, row, end-row size some from to more later, further size some from to more) in
          rw e refl))
      | inr past ↦ (
          let same : (to - 1) / size ≡ from / size = omega (arith, past, g-low size some from to more) in
          let none : rest size some from to more ≡ 0 = omega (arith, past) in
          rw (none, overlapped-last size some from to more same) (sym (none-pieces to)))
    ]

    -- the pieces of a part are the first piece and the pieces of the rest
    pub pieces-step : pieces_of xs size from to ≡ slice_range xs from (end size some from to more) ∷ pieces_of xs size (end size some from to more) to
    pieces-step = ap (map (piece xs size from to)) (overlapped-step size some from to more) ∙ ap (λ p. p ∷ map (piece xs size from to) (range_with_len (from / size + 1) (rest size some from to more))) head ∙ ap (λ l. slice_range xs from (end size some from to more) ∷ l) tail

  -- two adjacent parts, joined, are one part
  joined-two : (from mid to : ℕ) → from ≤ mid → mid ≤ to → slice_range xs from mid ++ slice_range xs mid to ≡ slice_range xs from to
  joined-two from mid to low high =
      let e : to - from ≡ mid - from + (to - mid) = omega (arith, low, high) in
      let f : from + (mid - from) ≡ mid = omega (arith, low) in
      sym (ap (λ n. take n (drop from xs)) e
      ∙ take-add (mid - from) (to - mid) (drop from xs)
      ∙ ap (λ l. take (mid - from) (drop from xs) ++ take (to - mid) l) (drop-drop (mid - from) from xs ∙ ap (λ n. drop n xs) f))

  joined-none : (from to : ℕ) → to ≡ from → flat_map (λ p. p) (pieces_of xs size from to) ≡ slice_range xs from to
  joined-none from to e = rw e (ap (flat_map (λ p. p)) (none-pieces from) ∙ sym (between_none xs from))

  joined-up : (n from to : ℕ) → to ≤ from + n → from ≤ to → flat_map (λ p. p) (pieces_of xs size from to) ≡ slice_range xs from to
  joined-up zero from to near low = joined-none from to (omega (arith, near, low))
  joined-up (suc n) from to near low = elim (cases_lt from to) [
    | inl more ↦ ap (flat_map (λ p. p)) (pieces-step from to more)
        ∙ ap (λ l. slice_range xs from (end size some from to more) ++ l) (joined-up n (end size some from to more) to (omega (arith, near, further size some from to more)) (ends size some from to more))
        ∙ joined-two from (end size some from to more) to (omega (arith, further size some from to more)) (ends size some from to more)
    | inr past ↦ joined-none from to (omega (arith, past, low))
  ]

  pub joined-pieces : (from to : ℕ) → from ≤ to → flat_map (λ p. p) (pieces_of xs size from to) ≡ slice_range xs from to
  joined-pieces from to low = joined-up to from to (omega arith) low

  some-none : (from to : ℕ) → to ≡ from → All (λ p. 0 < length p) (pieces_of xs size from to)
  some-none from to e = rw e (subst (All (λ p. 0 < length p)) (sym (none-pieces from)) (All-nil (λ p. 0 < length p)))

  some-up : (n from to : ℕ) → to ≤ from + n → from ≤ to → to ≤ length xs → All (λ p. 0 < length p) (pieces_of xs size from to)
  some-up zero from to near low within = some-none from to (omega (arith, near, low))
  some-up (suc n) from to near low within = elim (cases_lt from to) [
    | inl more ↦ subst (All (λ p. 0 < length p)) (sym (pieces-step from to more))
        (All-cons (λ p. 0 < length p) (slice_range xs from (end size some from to more)) (pieces_of xs size (end size some from to more) to)
        (let long = length-between xs from (end size some from to more) (omega (arith, ends size some from to more, within)) in omega (arith, long, further size some from to more))
        (some-up n (end size some from to more) to (omega (arith, near, further size some from to more)) (ends size some from to more) within))
    | inr past ↦ some-none from to (omega (arith, past, low))
  ]

  pub some-pieces : (from to : ℕ) → from ≤ to → to ≤ length xs → All (λ p. 0 < length p) (pieces_of xs size from to)
  some-pieces from to low within = some-up to from to (omega arith) low within
