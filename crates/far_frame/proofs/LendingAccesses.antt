-- Accesses to row groups of a column: their objects are touched, and the history records them.
use Rattle.std.proofs.Common.{◌≡◌, ℕ, ◌+◌, ◌-◌, ◌*◌, ◌/◌, ◌<◌, ◌≤◌, ◌⊎◌, List, [], ◌∷◌, inl, inr, refl, sym, ap, ◌∙◌, arith}
use Rattle.std.specs.List.{range_with_len}
use Rattle.std.proofs.lemmas.Bool.{cases_lt, le-ltb, lt-ltb}
use Rattle.std.proofs.lemmas.Nat.{div-mul-add}
use Rattle.std.proofs.Math.Nat.{div-mul-le_self}
use Rattle.far_columns.specs.Pieces.{overlapped_groups, overlapped_count}
use Rattle.far_columns.proofs.PiecesLaws.{overlapped-step, rest, rows}
use Rattle.far_rows.specs.Rows.{Rows}
use Rattle.far_frame.specs.State.{State}
use Rattle.far_frame.specs.Lending.{AreObserved, after_touch_all, after_access_all}

-- the row groups of a range are the group of its first place and the groups of the places after that group
pub overlapped-next : (size from to : ℕ) → 0 < size → from < to → overlapped_groups size from to ≡ from / size ∷ overlapped_groups size ((from / size + 1) * size) to
overlapped-next size from to some more = overlapped-step size some from to more ∙ ap (λ l. from / size ∷ l) (behind (cases_lt ((from / size + 1) * size) to)) where
  next : ℕ
  next = (from / size + 1) * size

  of-next : next / size ≡ from / size + 1
  of-next = (let e : next ≡ (from / size + 1) * size + 0 = omega arith in ap (λ n. n / size) e) ∙ div-mul-add (from / size + 1) size 0 some

  behind : (next < to) ⊎ (to ≤ next) → range_with_len (from / size + 1) (rest size some from to more) ≡ overlapped_groups size next to
  behind (inl later) = (
      let count : overlapped_count size next to ≡ (to - 1) / size + 1 - next / size = rw (lt-ltb next to later) refl in
      let left : rest size some from to more ≡ overlapped_count size next to = omega (arith, count, of-next) in
      (λ i. range_with_len (sym of-next i) (left i)))
  behind (inr past) = (
      let none : overlapped_count size next to ≡ 0 = rw (le-ltb next to past) refl in
      let down = div-mul-le_self (to - 1) size in
      let left : rest size some from to more ≡ 0 = elim (cases_lt (from / size) ((to - 1) / size)) [ inl later ↦ absurd (let over = rows size some from to more later in omega (arith, over, down, past, more)) | inr at ↦ omega (arith, at) ] in
      (ap (range_with_len (from / size + 1)) left ∙ ap (range_with_len (next / size)) (sym none)))

pub overlapped-none : (size from to : ℕ) → to ≤ from → overlapped_groups size from to ≡ []
overlapped-none size from to past = (let none : overlapped_count size from to ≡ 0 = rw (le-ltb from to past) refl in ap (range_with_len (from / size)) none)

-- some row groups are accessed already, and the ones in `left` are not yet
pub record IsObserving {K : Type 0} (column : ℕ) (all left : List ℕ) (old mid : State K) : Type 0 where
  pub table : mid.table ≡ old.table
  pub rows : after_touch_all mid.rows column left ≡ after_touch_all old.rows column all
  pub accesses : after_access_all mid.accesses column left ≡ after_access_all old.accesses column all

module _ {K : Type 0} (column : ℕ) (all : List ℕ) (old : State K) where
  pub observing-none : IsObserving column all all old old
  observing-none = record { table = refl; rows = refl; accesses = refl }

  pub observing-more : (group : ℕ) (left : List ℕ) (mid new : State K) → IsObserving column all (group ∷ left) old mid → AreObserved column (group ∷ []) mid new → IsObserving column all left old new
  observing-more group left mid new is one = record {
    table = one.table ∙ is.table;
    rows = ap (λ (r : Rows K). after_touch_all r column left) one.rows ∙ is.rows;
    accesses = ap (λ (accesses : List (List ℕ)). after_access_all accesses column left) one.accesses ∙ is.accesses;
  }

  pub observing-all : (mid : State K) → IsObserving column all [] old mid → AreObserved column all old mid
  observing-all mid is = record { table = is.table; rows = is.rows; accesses = is.accesses }
