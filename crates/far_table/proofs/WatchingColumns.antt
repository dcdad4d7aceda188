-- The columns that an aggregate needs, checked one after another.
use Rattle.std.proofs.Common.{◌≡◌, ℕ, ◌+◌, ◌*◌, ◌/◌, ◌<◌, ◌≤◌, Bool, true, false, List, [], ◌∷◌, length, drop, Option, None, Some, refl, sym, ap, subst, ◌∙◌, arith}
use Rattle.std.specs.Prelude.{◌&&◌, cond, is_none, option_map, slice_get}
use Rattle.std.specs.Option.{option_and_then, option_map_or, option_or}
use Rattle.std.proofs.lemmas.List.{drop_all}
use Rattle.std.proofs.lemmas.Nat.{div-mul-add}
use Rattle.std.proofs.lemmas.Option.{get_or_from_slice_get}
use Rattle.far_types.specs.declared.refusal.Refusal.{Refusal}
use Rattle.far_types.specs.declared.refusal.Refusal.TheVariants as refusal
use Rattle.far_types.specs.declared.spec.Spec.{Spec}
use Rattle.far_types.specs.Bounds.{needs}
use Rattle.far_types.specs.FirstOf.{first_of}
use Rattle.far_scopes.proofs.RefusingWrites.{next-is}
use Rattle.far_rows.specs.declared.column_index.ColumnIndex.{ColumnIndex}
use Rattle.far_rows.specs.Rows.{Rows, AreRows, object_of}
use Rattle.far_rows.specs.Moving.{object_at, object_in, object_refusal}
use Rattle.far_rows.specs.Refusing.{away_at, absent_at, absent_in}
use Rattle.far_rows.specs.Jobs.{evac_refusal}
use Rattle.far_table.specs.Watching.{needed_from}
use Rattle.far_table.proofs.EditsSetRefusals.{found-at, object-there}

module _ {K : Type 0} (content : K → List ℕ) (held : Rows K) (are : AreRows content held) (p : ℕ) (inside : p < length held.alive) where
  -- a column of a row group with places is refused exactly if its object is away
  pub lend-due : (c : ℕ) (s : ColumnIndex) → slice_get held.column_indexes c ≡ Some s → evac_refusal held c (p / held.size) ≡ first_of (((away_at held (p / held.size) s).0, refusal.Absent c (p / held.size)) ∷ [])
  lend-due c s lies =
      let g = p / held.size in
      let there = object-there content held are c s lies p inside in
      let object : object_at held c g ≡ Some (object_in s there.0) = ap (option_and_then (λ (u : ColumnIndex). option_map (object_in u) (object_of held u g))) lies ∙ ap (option_map (object_in s)) there.1 in
      let known : object_refusal held c g ≡ None = λ i. first_of ((is_none (lies i), refusal.NoColumn) ∷ (is_none (object i), refusal.OutOfRange) ∷ []) in
      let here : first_of (absent_in held c g ∷ []) ≡ first_of (((away_at held g s).0, refusal.Absent c g) ∷ []) = ap (λ (t : Option ColumnIndex). first_of (option_map_or (absent_at held c g) t (false, refusal.StaleJob) ∷ [])) lies in
      ap (λ (o : Option Refusal). option_or o (first_of (absent_in held c g ∷ []))) known ∙ here

-- the row group of a row group's first place is this row group
pub first-place : (g size : ℕ) → 0 < size → (g * size) / size ≡ g
first-place g size some = let e : g * size ≡ g * size + 0 = omega arith in ap (λ n. n / size) e ∙ div-mul-add g size 0 some

module _ {K : Type 0} (r : Rows K) (spec : Spec) (g : ℕ) where
  abbrev pub left : ℕ → Option Refusal
  left k = first_of (needed_from r spec g k (drop k r.column_indexes))

  stands : (k : ℕ) (s : ColumnIndex) → slice_get r.column_indexes k ≡ Some s → k < length r.column_indexes → drop k r.column_indexes ≡ s ∷ drop (k + 1) r.column_indexes
  stands k s at below = next-is r.column_indexes k s below (sym (get_or_from_slice_get r.column_indexes k s s at))

  pub next-here : (k : ℕ) (s : ColumnIndex) → k < length r.column_indexes → slice_get r.column_indexes k ≡ Some s → (needs spec k && (away_at r g s).0) ≡ false → left k ≡ left (k + 1)
  next-here k s below at here =
      ap (λ (column_indexes : List ColumnIndex). first_of (needed_from r spec g k column_indexes)) (stands k s at below)
      ∙ ap (λ (b : Bool). cond b (Some (refusal.Absent k g)) (left (k + 1))) here

  pub next-away : (k : ℕ) (s : ColumnIndex) → k < length r.column_indexes → slice_get r.column_indexes k ≡ Some s → (needs spec k && (away_at r g s).0) ≡ true → left k ≡ Some (refusal.Absent k g)
  next-away k s below at away =
      ap (λ (column_indexes : List ColumnIndex). first_of (needed_from r spec g k column_indexes)) (stands k s at below)
      ∙ ap (λ (b : Bool). cond b (Some (refusal.Absent k g)) (left (k + 1))) away

  -- after the last column no refusal is left
  pub none-left : (k : ℕ) → length r.column_indexes ≤ k → left k ≡ None
  none-left k past = ap (λ (column_indexes : List ColumnIndex). first_of (needed_from r spec g k column_indexes)) (drop_all k r.column_indexes past)

-- a row group has a place, from the size and the length that the rows return
pub begun-at : {K : Type 0} (g : ℕ) (rows held : Rows K) → rows ≡ held → (size len : ℕ) → rows.size ≡ size → length rows.alive ≡ len → g * size < len → g * held.size < length held.alive
begun-at g rows held same size len group all begun = subst (λ (r : Rows _). g * r.size < length r.alive) same (subst (λ (n : ℕ). g * n < length rows.alive) (sym group) (subst (λ (n : ℕ). g * size < n) (sym all) begun))

not-due : (b : Bool) (e : Refusal) → None ≡ cond b (Some e) None → b ≡ false
not-due true e free = absurd cc
not-due false e free = refl

is-due : (b : Bool) (e answered : Refusal) → Some answered ≡ cond b (Some e) None → (b ≡ true) × (e ≡ answered)
is-due true e answered due = (refl, cc)
is-due false e answered due = absurd cc

and-false : (b : Bool) → (b && false) ≡ false
and-false true = refl
and-false false = refl

module _ {K : Type 0} (content : K → List ℕ) (held : Rows K) (are : AreRows content held) (spec : Spec) (g : ℕ) (begun : g * held.size < length held.alive) where
  -- a column of the row group is refused exactly if its object is away
  pub lend-at : (c : ℕ) (s : ColumnIndex) → slice_get held.column_indexes c ≡ Some s → evac_refusal held c g ≡ first_of (((away_at held g s).0, refusal.Absent c g) ∷ [])
  lend-at c s lies = subst (λ (h : ℕ). evac_refusal held c h ≡ first_of (((away_at held h s).0, refusal.Absent c h) ∷ [])) (first-place g held.size are.some) (lend-due content held are (g * held.size) begun c s lies)

  -- a column that is not needed causes no refusal
  pub step-past : (k : ℕ) → k < length held.column_indexes → needs spec k ≡ false → left held spec g k ≡ left held spec g (k + 1)
  step-past k below idle =
      let found = found-at held.column_indexes k below in
      next-here held spec g k found.0 below found.1 (ap (λ b. b && (away_at held g found.0).0) idle)

  -- a column that is in memory causes no refusal
  pub step-here : (k : ℕ) → k < length held.column_indexes → None ≡ evac_refusal held k g → left held spec g k ≡ left held spec g (k + 1)
  step-here k below here =
      let found = found-at held.column_indexes k below in
      let answered = not-due (away_at held g found.0).0 (refusal.Absent k g) (here ∙ lend-at k found.0 found.1) in
      next-here held spec g k found.0 below found.1 (ap (λ b. needs spec k && b) answered ∙ and-false (needs spec k))

  -- a needed column that is away causes the refusal
  pub step-away : (k : ℕ) (e : Refusal) → k < length held.column_indexes → needs spec k ≡ true → Some e ≡ evac_refusal held k g → left held spec g k ≡ Some e
  step-away k e below wanted away =
      let found = found-at held.column_indexes k below in
      let due = is-due (away_at held g found.0).0 (refusal.Absent k g) e (away ∙ lend-at k found.0 found.1) in
      next-away held spec g k found.0 below found.1 (λ i. wanted i && due.0 i) ∙ ap Some due.1
