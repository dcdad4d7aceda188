-- The partials of pieces that are folded separately are the partials of the whole table.
use Rattle.std.proofs.Common.{◌≡◌, inl, inr, ℕ, suc, ◌+◌, ◌<◌, ◌≤◌, Bool, true, false, List, [], ◌∷◌, ◌++◌, length, refl, sym, ap, subst, ◌∙◌, arith, slice_index_or, Result, Ok, Err, Option, Some}
use Rattle.std.specs.Prelude.{◌==◌, cond, IfOk, IsOk, is_ok}
use Rattle.std.specs.List.{cons_option}
use Rattle.std.specs.Result.{result_ok}
use Rattle.std.proofs.lemmas.Bool.{cases_lt}
use Rattle.std.proofs.lemmas.List.{append_assoc}
use Rattle.far_types.specs.declared.refusal.Refusal.{Refusal}
use Rattle.far_types.specs.declared.refusal.Refusal.TheVariants.{NoMemory, BadSchema, BadSpec, NoColumn, WrongKind, RowWidth, TextTooLong, NoRow, RemovedRow, TableFull, ChunkFull, NoAggregate, TooManyAggregates, OutOfRange, Building, Absent, RegionFull, NotPinned, Pinned, StaleJob, FarFault, FarFull, EditsUsedUp}
use Rattle.far_types.specs.declared.spec.Spec.{Spec}
use Rattle.far_types.specs.Refusals.{number_of}
use Rattle.far_types.specs.Table.{Place}
use Rattle.far_store.specs.Faults.{faults_of, faults_in, FailsOnlyIf}
use Rattle.far_offload.specs.declared.partial.PartialDone.{PartialDone}
use Rattle.far_aggregates.specs.Recounting.{partial_at, partials_from}
use Rattle.far_table.specs.declared.piece.Piece.{Piece}
use Rattle.far_table.specs.Pieces.{IsPiece, all_partials, AreWhole, HaveFewFaults}

clash : {A : Type 0} {r : Result A Refusal} {e : Refusal} → r ≡ Err e → IsOk r → ⊥
clash is whole = let it : false ≡ true = sym (ap is_ok is) ∙ whole in absurd cc

few-of : (e : Refusal) → faults_of e ≤ 1
few-of e = elim (number_of e == 21) as (λ (b : Bool). cond b 1 0 ≤ 1) [ true ↦ omega arith | false ↦ omega arith ]

few-in : {A : Type 0} (r : Result A Refusal) → faults_in r ≤ 1
few-in (Ok x) = omega arith
few-in (Err e) = few-of e

-- only FarFault is a fault
is-fault : (e : Refusal) → 0 < faults_of e → e ≡ FarFault
is-fault NoMemory up = absurd (omega (arith, up))
is-fault BadSchema up = absurd (omega (arith, up))
is-fault BadSpec up = absurd (omega (arith, up))
is-fault NoColumn up = absurd (omega (arith, up))
is-fault WrongKind up = absurd (omega (arith, up))
is-fault RowWidth up = absurd (omega (arith, up))
is-fault TextTooLong up = absurd (omega (arith, up))
is-fault NoRow up = absurd (omega (arith, up))
is-fault RemovedRow up = absurd (omega (arith, up))
is-fault TableFull up = absurd (omega (arith, up))
is-fault ChunkFull up = absurd (omega (arith, up))
is-fault NoAggregate up = absurd (omega (arith, up))
is-fault TooManyAggregates up = absurd (omega (arith, up))
is-fault OutOfRange up = absurd (omega (arith, up))
is-fault (Building left) up = absurd (omega (arith, up))
is-fault (Absent column group) up = absurd (omega (arith, up))
is-fault RegionFull up = absurd (omega (arith, up))
is-fault NotPinned up = absurd (omega (arith, up))
is-fault Pinned up = absurd (omega (arith, up))
is-fault StaleJob up = absurd (omega (arith, up))
is-fault FarFault up = refl
is-fault FarFull up = absurd (omega (arith, up))
is-fault EditsUsedUp up = absurd (omega (arith, up))

-- a call that counts a fault was refused with FarFault, and so its store may fail
pub rises-only-if : {A may_fail : Type 0} (r : Result A Refusal) → FailsOnlyIf may_fail r → 0 < faults_in r → may_fail
rises-only-if (Ok x) cause up = absurd (omega (arith, up))
rises-only-if (Err e) cause up = cause (is-fault e up)

-- a meter that rises by another rises only if the store may fail, if that is so of both
pub one_cause : {may_fail : Type 0} (before at more : ℕ) → (before < at → may_fail) → (0 < more → may_fail) → before < at + more → may_fail
one_cause before at more earlier new up =
    elim (cases_lt before at) [ inl risen ↦ earlier risen | inr still ↦ new (omega (arith, still, up)) ]

module _ (may_fail : Type 0) (spec : Spec) (wide : ℕ) (places : List Place) where
  -- these are the pieces from number i on
  abbrev pub AreFrom : ℕ → List Piece → Type 0
  AreFrom i pieces = (k : ℕ) (d : Piece) → k < length pieces → IsPiece may_fail spec wide places (i + k) (slice_index_or pieces k d)

  rest-from : (i : ℕ) (piece : Piece) (pieces : List Piece) → AreFrom i (piece ∷ pieces) → AreFrom (i + 1) pieces
  rest-from i piece pieces are k d within =
      let e : i + suc k ≡ i + 1 + k = omega arith in
      subst (λ n. IsPiece may_fail spec wide places n (slice_index_or pieces k d)) e (are (suc k) d (omega (arith, within)))

  first-from : (i : ℕ) (piece : Piece) (pieces : List Piece) → AreFrom i (piece ∷ pieces) → IsPiece may_fail spec wide places i piece
  first-from i piece pieces are =
      let e : i + 0 ≡ i = omega arith in
      subst (λ n. IsPiece may_fail spec wide places n piece) e (are 0 piece (omega arith))

  of-piece : (i : ℕ) (piece : Piece) → IsPiece may_fail spec wide places i piece → IsOk piece.partial → result_ok piece.partial ≡ Some (partial_at spec wide places i)
  of-piece i piece is whole = by piece.partial refl where
    by : (r : Result PartialDone Refusal) → piece.partial ≡ r → result_ok piece.partial ≡ Some (partial_at spec wide places i)
    by (Ok done) at = ap result_ok at ∙ ap Some (subst (λ (p : Result PartialDone Refusal). IfOk p (λ it. it ≡ partial_at spec wide places i)) at is.partial)
    by (Err e) at = absurd (clash at whole)

  -- their partials are the partials of the table from number i on
  pub all-from : (i : ℕ) (pieces : List Piece) → AreFrom i pieces → AreWhole pieces → all_partials pieces ≡ partials_from spec wide places i (length pieces)
  all-from i [] are whole = refl
  all-from i (piece ∷ pieces) are whole =
      ap (λ (o : Option PartialDone). cons_option o (all_partials pieces)) (of-piece i piece (first-from i piece pieces are) whole.0)
      ∙ ap (λ (rest : List PartialDone). partial_at spec wide places i ∷ rest) (all-from (i + 1) pieces (rest-from i piece pieces are) whole.1)

  -- each piece met at most one fault, and none if the store never fails
  first-few : {i : ℕ} (piece : Piece) → IsPiece may_fail spec wide places i piece → (piece.meter ≤ 1) × (0 < piece.meter → may_fail)
  first-few piece is = (
    subst (λ n. n ≤ 1) (sym is.faults) (few-in piece.partial),
    (λ up. rises-only-if piece.partial is.cause (subst (λ n. 0 < n) is.faults up)),
  )

  pub few-faults : (i : ℕ) (pieces : List Piece) → AreFrom i pieces → HaveFewFaults may_fail pieces
  few-faults i [] are = tt
  few-faults i (piece ∷ pieces) are = (
    first-few piece (first-from i piece pieces are),
    few-faults (i + 1) pieces (rest-from i piece pieces are),
  )

-- the partials that are collected, and the pieces that are not collected yet
pub record AreGathered (pieces : List Piece) (partials : List PartialDone) (rest : List Piece) : Type 0 where
  pub all : partials ++ all_partials rest ≡ all_partials pieces
  pub whole : AreWhole rest → AreWhole pieces

pub none-gathered : (pieces : List Piece) → AreGathered pieces [] pieces
none-gathered pieces = record { all = refl; whole = λ whole. whole }

-- collecting the partial of one more piece
pub one-gathered : (pieces : List Piece) (partials new : List PartialDone) (piece : Piece) (rest : List Piece) → AreGathered pieces partials (piece ∷ rest) → IsOk piece.partial → IfOk piece.partial (λ done. new ≡ partials ++ done ∷ []) → AreGathered pieces new rest
one-gathered pieces partials new piece rest are ok added = record {
  all = by piece.partial refl ∙ are.all;
  whole = λ whole. are.whole (ok, whole);
} where
  by : (r : Result PartialDone Refusal) → piece.partial ≡ r → new ++ all_partials rest ≡ partials ++ cons_option (result_ok piece.partial) (all_partials rest)
  by (Ok done) at =
      ap (λ (l : List PartialDone). l ++ all_partials rest) (subst (λ (p : Result PartialDone Refusal). IfOk p (λ it. new ≡ partials ++ it ∷ [])) at added)
      ∙ append_assoc partials (done ∷ []) (all_partials rest)
      ∙ ap (λ (p : Result PartialDone Refusal). partials ++ cons_option (result_ok p) (all_partials rest)) (sym at)
  by (Err e) at = absurd (clash at ok)
