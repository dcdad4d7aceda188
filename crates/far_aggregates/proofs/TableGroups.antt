-- The places of a row group: the changes that do not affect them, and their positions among all places.
use Rattle.std.proofs.Common.{inl, inr, ◌≡◌, ◌≢◌, ℕ, zero, suc, ◌+◌, ◌-◌, ◌*◌, ◌/◌, ◌<◌, ◌≤◌, List, [], ◌∷◌, ◌++◌, length, take, drop, refl, sym, ap, ◌∙◌, arith, slice_get, slice_set, slice_index_or, length-drop, length-append}
use Rattle.std.specs.Prelude.{option_map, ◌⊎◌}
use Rattle.std.proofs.Math.Nat.{div-mul-le_self, lt-div-mul-add, mul-le-mul_right}
use Rattle.std.proofs.Math.Seq.{drop-nil}
use Rattle.std.proofs.lemmas.List.{drop-append-le, take-append-le, drop_all, take_all, drop-set-lt, drop-set-add, take-set-le, get_or-take, get_or-drop}
use Rattle.std.proofs.Math.Seq.{take-set-lt}
use Rattle.far_types.specs.Edits.{change_at}
use Rattle.far_types.specs.Table.{Place, in_group}
use Rattle.far_aggregates.proofs.ListLaws.{get-drop}

pub length-changed : (f : Place → Place) (i : ℕ) (ps : List Place) → length (change_at f i ps) ≡ length ps
length-changed f i [] = refl
length-changed f zero (p ∷ ps) = refl
length-changed f (suc i) (p ∷ ps) = ap suc (length-changed f i ps)

pub get-changed : (f : Place → Place) (i : ℕ) (ps : List Place) → slice_get (change_at f i ps) i ≡ option_map f (slice_get ps i)
get-changed f i [] = refl
get-changed f zero (p ∷ ps) = refl
get-changed f (suc i) (p ∷ ps) = get-changed f i ps

pub get-changed_other : (f : Place → Place) (i k : ℕ) (ps : List Place) → k ≢ i → slice_get (change_at f i ps) k ≡ slice_get ps k
get-changed_other f i k [] h = refl
get-changed_other f zero zero (p ∷ ps) h = absurd (h refl)
get-changed_other f zero (suc k) (p ∷ ps) h = refl
get-changed_other f (suc i) zero (p ∷ ps) h = refl
get-changed_other f (suc i) (suc k) (p ∷ ps) h = get-changed_other f i k ps (λ e. h (ap suc e))

drop-changed_before : (f : Place → Place) (n i : ℕ) (ps : List Place) → i < n → drop n (change_at f i ps) ≡ drop n ps
drop-changed_before f n i [] h = refl
drop-changed_before f zero i (p ∷ ps) h = absurd (omega arith)
drop-changed_before f (suc n) zero (p ∷ ps) h = refl
drop-changed_before f (suc n) (suc i) (p ∷ ps) h = drop-changed_before f n i ps (omega arith)

drop-changed_behind : (f : Place → Place) (n j : ℕ) (ps : List Place) → drop n (change_at f (n + j) ps) ≡ change_at f j (drop n ps)
drop-changed_behind f n j [] = drop-nil n ∙ ap (change_at f j) (sym (drop-nil n))
drop-changed_behind f zero j (p ∷ ps) = let e : zero + j ≡ j = omega arith in rw e refl
drop-changed_behind f (suc n) j (p ∷ ps) = let e : suc n + j ≡ suc (n + j) = omega arith in rw e (drop-changed_behind f n j ps)

take-changed : (f : Place → Place) (n j : ℕ) (ps : List Place) → n ≤ j → take n (change_at f j ps) ≡ take n ps
take-changed f n j [] h = refl
take-changed f zero j (p ∷ ps) h = refl
take-changed f (suc n) zero (p ∷ ps) h = absurd (omega arith)
take-changed f (suc n) (suc j) (p ∷ ps) h = ap (λ l. p ∷ l) (take-changed f n j ps (omega arith))

separate : (a b : ℕ) → a ≢ b → (a < b) ⊎ (b < a)
separate zero zero h = absurd (h refl)
separate zero (suc b) h = inl (omega arith)
separate (suc a) zero h = inr (omega arith)
separate (suc a) (suc b) h = elim (separate a b (λ e. h (ap suc e))) as (λ o. (suc a < suc b) ⊎ (suc b < suc a)) [ inl l ↦ inl (omega arith) | inr l ↦ inr (omega arith) ]

-- a lower row group ends before a place of a higher one
ends : (size h i : ℕ) → h < i / size → h * size + size ≤ i
ends size h i l =
    let low = div-mul-le_self i size in
    let most : (h + 1) * size ≤ i / size * size = mul-le-mul_right size (omega arith) in
    omega arith

-- a higher row group begins after a place of a lower one
begins : (size h i : ℕ) → 0 < size → i / size < h → i < h * size
begins size h i g l =
    let high : i < i / size * size + size = lt-div-mul-add g in
    let most : (i / size + 1) * size ≤ h * size = mul-le-mul_right size (omega arith) in
    omega arith

-- a change of one place does not change the other row groups
pub in_group-changed : (size h : ℕ) (f : Place → Place) (i : ℕ) (ps : List Place) → 0 < size → h ≢ i / size → in_group size h (change_at f i ps) ≡ in_group size h ps
in_group-changed size h f i ps g n = elim (separate h (i / size) n) as (λ o. in_group size h (change_at f i ps) ≡ in_group size h ps) [
  | inl l ↦
      let far = ends size h i l in
      let j = i - h * size in
      let e : i ≡ h * size + j = omega arith in
      ap (λ k. take size (drop (h * size) (change_at f k ps))) e
      ∙ ap (take size) (drop-changed_behind f (h * size) j ps)
      ∙ take-changed f size j (drop (h * size) ps) (omega arith)
  | inr l ↦ ap (take size) (drop-changed_before f (h * size) i ps (begins size h i g l))
]

-- one more place does not change the other row groups
pub in_group-appended : {X : Type 0} (size h : ℕ) (ps : List X) (p : X) → 0 < size → h ≢ length ps / size → in_group size h (ps ++ p ∷ []) ≡ in_group size h ps
in_group-appended size h ps p g n = elim (separate h (length ps / size) n) as (λ o. in_group size h (ps ++ p ∷ []) ≡ in_group size h ps) [
  | inl l ↦
      let far = ends size h (length ps) l in
      let rest = length-drop (h * size) ps in
      ap (take size) (drop-append-le (h * size) ps (p ∷ []) (omega arith))
      ∙ take-append-le size (drop (h * size) ps) (p ∷ []) (omega arith)
  | inr l ↦
      let behind = begins size h (length ps) g l in
      let more = length-append ps (p ∷ []) in
      ap (take size) (drop_all (h * size) (ps ++ p ∷ []) (omega arith) ∙ sym (drop_all (h * size) ps (omega arith)))
]

take-changed_within : (f : Place → Place) (n j : ℕ) (ps : List Place) → j < n → take n (change_at f j ps) ≡ change_at f j (take n ps)
take-changed_within f zero j ps h = absurd (omega arith)
take-changed_within f (suc n) j [] h = refl
take-changed_within f (suc n) zero (p ∷ ps) h = refl
take-changed_within f (suc n) (suc j) (p ∷ ps) h = ap (λ l. p ∷ l) (take-changed_within f n j ps (omega arith))

get-take : (n j : ℕ) (ps : List Place) → j < n → slice_get (take n ps) j ≡ slice_get ps j
get-take zero j ps h = absurd (omega arith)
get-take (suc n) j [] h = refl
get-take (suc n) zero (p ∷ ps) h = refl
get-take (suc n) (suc j) (p ∷ ps) h = get-take n j ps (omega arith)

-- the index of a place in its row group
abbrev pub nth : ℕ → ℕ → ℕ
nth size i = i - i / size * size

-- a change of a place, in its row group
pub in_group-there : (size : ℕ) (f : Place → Place) (i : ℕ) (ps : List Place) → 0 < size → in_group size (i / size) (change_at f i ps) ≡ change_at f (nth size i) (in_group size (i / size) ps)
in_group-there size f i ps g =
    let low = div-mul-le_self i size in
    let high : i < i / size * size + size = lt-div-mul-add g in
    let e : i ≡ i / size * size + nth size i = omega arith in
    ap (λ k. take size (drop (i / size * size) (change_at f k ps))) e
    ∙ ap (take size) (drop-changed_behind f (i / size * size) (nth size i) ps)
    ∙ take-changed_within f size (nth size i) (drop (i / size * size) ps) (omega arith)

pub get-in_group : (size i : ℕ) (ps : List Place) → 0 < size → slice_get (in_group size (i / size) ps) (nth size i) ≡ slice_get ps i
get-in_group size i ps g =
    let low = div-mul-le_self i size in
    let high : i < i / size * size + size = lt-div-mul-add g in
    let e : i / size * size + nth size i ≡ i = omega arith in
    get-take size (nth size i) (drop (i / size * size) ps) (omega arith)
    ∙ get-drop (i / size * size) (nth size i) ps
    ∙ ap (slice_get ps) e

-- one more place is the last of its row group
pub in_group-last : {X : Type 0} (size : ℕ) (ps : List X) (p : X) → 0 < size → in_group size (length ps / size) (ps ++ p ∷ []) ≡ in_group size (length ps / size) ps ++ p ∷ []
in_group-last size ps p g =
    let n = length ps / size * size in
    let low = div-mul-le_self (length ps) size in
    let high : length ps < length ps / size * size + size = lt-div-mul-add g in
    let rest = length-drop n ps in
    let more = length-append (drop n ps) (p ∷ []) in
    ap (take size) (drop-append-le n ps (p ∷ []) (omega arith))
    ∙ take_all size (drop n ps ++ p ∷ []) (omega arith)
    ∙ ap (λ l. l ++ p ∷ []) (sym (take_all size (drop n ps) (omega arith)))

-- setting an element does not change the other row groups
pub in_group-set_other : {X : Type 0} (size h i : ℕ) (xs : List X) (y : X) → 0 < size → h ≢ i / size → in_group size h (slice_set xs i y) ≡ in_group size h xs
in_group-set_other size h i xs y g n = elim (separate h (i / size) n) as (λ o. in_group size h (slice_set xs i y) ≡ in_group size h xs) [
  | inl l ↦
      let far = ends size h i l in
      let j = i - h * size in
      let e : i ≡ h * size + j = omega arith in
      ap (λ k. take size (drop (h * size) (slice_set xs k y))) e
      ∙ ap (take size) (drop-set-add (h * size) xs j y)
      ∙ take-set-le size (drop (h * size) xs) j y (omega arith)
  | inr l ↦ ap (take size) (drop-set-lt (h * size) xs i y (begins size h i g l))
]

-- setting an element sets it in its own row group
pub in_group-set : {X : Type 0} (size i : ℕ) (xs : List X) (y : X) → 0 < size → in_group size (i / size) (slice_set xs i y) ≡ slice_set (in_group size (i / size) xs) (nth size i) y
in_group-set size i xs y g =
    let low = div-mul-le_self i size in
    let high : i < i / size * size + size = lt-div-mul-add g in
    let e : i ≡ i / size * size + nth size i = omega arith in
    ap (λ k. take size (drop (i / size * size) (slice_set xs k y))) e
    ∙ ap (take size) (drop-set-add (i / size * size) xs (nth size i) y)
    ∙ take-set-lt size (drop (i / size * size) xs) (nth size i) y (omega arith)

pub get_or-in_group : {X : Type 0} (size i : ℕ) (xs : List X) (d : X) → 0 < size → slice_index_or (in_group size (i / size) xs) (nth size i) d ≡ slice_index_or xs i d
get_or-in_group size i xs d g =
    let low = div-mul-le_self i size in
    let high : i < i / size * size + size = lt-div-mul-add g in
    let e : i / size * size + nth size i ≡ i = omega arith in
    get_or-take size (drop (i / size * size) xs) (nth size i) d (omega arith)
    ∙ get_or-drop (i / size * size) xs (nth size i) d
    ∙ ap (λ k. slice_index_or xs k d) e
