-- The deltas of an edit can be undone, and its pairs can be retracted once the rows are changed.
use Rattle.std.proofs.Common.{inl, inr, ◌≡◌, ◌≢◌, ℕ, zero, suc, ◌/◌, ◌<◌, cond, List, [], ◌∷◌, ◌++◌, length, map, take, drop, refl, sym, ap, ◌∙◌, subst, arith, None, Some, slice_get, slice_set, replicate, ◌-◌}
use Rattle.std.specs.Prelude.{◌==◌, IsSome, option_map}
use Rattle.std.proofs.lemmas.Bool.Decides.{eqb_tells}
use Rattle.std.proofs.lemmas.List.{length-map}
use Rattle.std.proofs.lemmas.Option.{none-some}
use Rattle.std.proofs.Math.Seq.{take-append_seam}
use Rattle.far_types.specs.declared.cell.Cell.{Cell}
use Rattle.far_types.specs.Cells.{Cells, cells_of}
use Rattle.far_types.specs.Edits.{change_at, with_cell, after_remove}
use Rattle.far_types.specs.Table.{Place, in_group}
use Rattle.far_aggregates.specs.declared.pending.Pending.{Pending}
use Rattle.far_aggregates.specs.Accumulators.{RegistryEntry, PlacesFit, Keeps, registered_in, registered_of}
use Rattle.far_aggregates.specs.Changed.{with_cell_at}
use Rattle.far_aggregates.specs.Pairs.{row_gives, place_gives, alive_with, change_of}
use Rattle.far_aggregates.specs.Deltas.{row_delta, with_delta, undo, EachMayUndo}
use Rattle.far_aggregates.specs.Retract.{after_retract, EachMayRetract}
use Rattle.far_aggregates.specs.Pending.{AreUpToDate, KeepsAsBefore, IsAliveAt, UndoesAll, RetractsAll}
use Rattle.far_aggregates.specs.Reserve.{AreReserved}
use Rattle.far_aggregates.specs.Until.{zip_all}
use Rattle.far_aggregates.proofs.AccumulatorsEdits.{after_insert, set_may_retract, after_set, removed-adds_all}
use Rattle.far_aggregates.proofs.ListLaws.{length-zip_all}

-- the cells of a row with another cell in a column, by column number

pub get-set_same : {X : Type 0} (xs : List X) (i : ℕ) (x : X) → IsSome (slice_get xs i) → slice_get (slice_set xs i x) i ≡ Some x
get-set_same [] i x h = cc
get-set_same (y ∷ xs) zero x h = refl
get-set_same (y ∷ xs) (suc i) x h = get-set_same xs i x h

pub get-set_other : {X : Type 0} (xs : List X) (i k : ℕ) (x : X) → k ≢ i → slice_get (slice_set xs i x) k ≡ slice_get xs k
get-set_other [] i k x h = refl
get-set_other (y ∷ xs) zero zero x h = absurd (h refl)
get-set_other (y ∷ xs) zero (suc k) x h = refl
get-set_other (y ∷ xs) (suc i) zero x h = refl
get-set_other (y ∷ xs) (suc i) (suc k) x h = get-set_other xs i k x (λ e. h (ap suc e))

changed-cell : (row : List Cell) (column : ℕ) (cell : Cell) (k : ℕ) → IsSome (slice_get row column) → cond (k == column) (Some cell) (slice_get row k) ≡ slice_get (slice_set row column cell) k
changed-cell row column cell k h = elim (eqb_tells k column) as (λ o. cond (k == column) (Some cell) (slice_get row k) ≡ slice_get (slice_set row column cell) k) [
  | inl t ↦ ap (λ b. cond b (Some cell) (slice_get row k)) t.0 ∙ sym (ap (slice_get (slice_set row column cell)) t.1 ∙ get-set_same row column cell h)
  | inr t ↦ ap (λ b. cond b (Some cell) (slice_get row k)) t.0 ∙ sym (get-set_other row column k cell t.1)
]

changed-cells : (row : List Cell) (column : ℕ) (cell : Cell) → IsSome (slice_get row column) → with_cell_at column cell (cells_of row) ≡ cells_of (slice_set row column cell)
changed-cells row column cell h = λ i k. changed-cell row column cell k h i

-- the registry entries that were lent for changes are the whole registry
pub written : {X : Type 0} (n : ℕ) (new old : List X) → length new ≡ n → take n (new ++ drop (length new) old) ≡ new
written n new old h = ap (λ k. take k (new ++ drop (length new) old)) (sym h) ∙ take-append_seam new (drop (length new) old)

-- the part that the table shows depends only on the shown part of each registry entry
pub shown-alike : (old new : List RegistryEntry) → map registered_in new ≡ map registered_in old → registered_of new ≡ registered_of old
shown-alike old new h =
    let many : length new ≡ length old = sym (length-map new registered_in) ∙ ap length h ∙ length-map old registered_in in
    ap (λ n. map registered_in new ++ replicate (32 - n) None) many ∙ ap (λ l. l ++ replicate (32 - length old) None) h

-- the numbers of the places still fit 64 bits after a removal
fit-removed : (i : ℕ) (ps : List Place) → PlacesFit ps → PlacesFit (change_at after_remove i ps)
fit-removed i [] h = tt
fit-removed zero (p ∷ ps) h = h
fit-removed (suc i) (p ∷ ps) h = (h.0, fit-removed i ps h.1)

-- the aggregates are up to date after an insert
pub insert-applied : (size place : ℕ) (cells : Cells) (old mid new : List RegistryEntry) → 0 < size → AreReserved (place / size) mid → KeepsAsBefore old mid
    → new ≡ zip_all (with_delta (place / size)) mid (map (row_delta size place (row_gives cells)) mid)
    → (places : List Place) (row : List Cell) → length places ≡ place → cells ≡ cells_of row → Keeps size places old → Keeps size (places ++ alive_with row ∷ []) new
insert-applied size place cells old mid new positive reserved before is places row count same kept =
    after_insert size place places (places ++ alive_with row ∷ []) (alive_with row) mid new (sym count) refl positive (before size places kept) reserved
    (is ∙ ap (λ f. zip_all (with_delta (place / size)) mid (map (row_delta size place (row_gives f)) mid)) same)

-- the deltas can be undone
pub retracts-undo : (g : ℕ) (old mid new : List RegistryEntry) (pending : Pending) → KeepsAsBefore old mid → pending.group ≡ g → length pending.applied.items ≡ length new
    → EachMayUndo g (length new) new pending.applied.items → zip_all (undo g) new pending.applied.items ≡ mid → UndoesAll old new pending
retracts-undo g old mid new pending before at len may is = record {
  may = record { len = omega arith; may = subst (λ n. EachMayUndo n (length new) new pending.applied.items) (sym at) may };
  kept = λ size places h. subst (Keeps size places) (sym (ap (λ n. zip_all (undo n) new pending.applied.items) at ∙ is)) (before size places h);
}

-- without aggregates and deltas, there is nothing to undo
pub nothing-retracts-undo : (registry : List RegistryEntry) (pending : Pending) → registry ≡ [] → pending.applied.items ≡ [] → UndoesAll registry registry pending
nothing-retracts-undo registry pending empty none = record {
  may = record {
    len = omega (arith, ap length none);
    may = λ k s c within at there. absurd (none-some c (sym (ap (λ l. slice_get l k) none) ∙ there));
  };
  kept = λ size places h. subst (λ (s : List RegistryEntry). Keeps size places (zip_all (undo pending.group) s pending.applied.items)) (sym empty) tt;
}

-- the pairs can be retracted if a place x becomes f x
retracts-on : (size place : ℕ) (f : Place → Place) (x : Place) (old mid new : List RegistryEntry) (pending : Pending) (places : List Place) → 0 < size → AreReserved (place / size) mid → KeepsAsBefore old mid
    → pending.group ≡ place / size → pending.to_retract.items ≡ map (change_of size place (place_gives x)) mid
    → new ≡ zip_all (with_delta (place / size)) mid (map (row_delta size place (place_gives (f x))) mid)
    → slice_get places place ≡ Some x → AreUpToDate size places old → PlacesFit (change_at f place places)
    → RetractsAll size (place / size) (change_at f place places) new pending
retracts-on size place f x old mid new pending places positive reserved before at went applied here kept fit =
    let after = change_at f place places in
    let there : Some (f x) ≡ option_map f (slice_get places place) = sym (ap (option_map f) here) in
    let many : length pending.to_retract.items ≡ length mid = ap length went ∙ length-map mid (change_of size place (place_gives x)) in
    let more : length new ≡ length mid = ap length applied ∙ length-zip_all (with_delta (place / size)) mid (map (row_delta size place (place_gives (f x))) mid) in
    record {
      at = at;
      may = record {
        len = omega arith;
        may = subst (λ n. EachMayRetract n (in_group size (place / size) after) new pending.to_retract.items) (sym at)
            (set_may_retract size f places after place x (f x) mid new pending.to_retract.items positive refl (sym here) there went applied (before size places kept.kept) reserved kept.fit fit);
      };
      kept = after_set size f places after place x (f x) mid new pending.to_retract.items positive refl (sym here) there went applied (before size places kept.kept) reserved
          (zip_all (after_retract pending.group (in_group size (place / size) after)) new pending.to_retract.items)
          (ap (λ n. zip_all (after_retract n (in_group size (place / size) after)) new pending.to_retract.items) at);
    }

-- the pairs can be retracted after a set
pub set-retracts : (size place column : ℕ) (cell : Cell) (cells : Cells) (old mid new : List RegistryEntry) (pending : Pending) → 0 < size → IsSome (cells column) → AreReserved (place / size) mid → KeepsAsBefore old mid
    → pending.group ≡ place / size → pending.to_retract.items ≡ map (change_of size place (row_gives cells)) mid
    → new ≡ zip_all (with_delta (place / size)) mid (map (row_delta size place (row_gives (with_cell_at column cell cells))) mid)
    → (places : List Place) → IsAliveAt cells place places → AreUpToDate size places old → PlacesFit (change_at (with_cell column cell) place places)
    → RetractsAll size (place / size) (change_at (with_cell column cell) place places) new pending
set-retracts size place column cell cells old mid new pending positive has reserved before at went applied places there kept fit =
    retracts-on size place (with_cell column cell) (alive_with there.0) old mid new pending places positive reserved before at
    (went ∙ ap (λ (f : Cells). map (change_of size place (row_gives f)) mid) there.1)
    (applied ∙ ap (λ (f : Cells). zip_all (with_delta (place / size)) mid (map (row_delta size place (row_gives f)) mid)) (ap (with_cell_at column cell) there.1 ∙ changed-cells there.0 column cell (subst (λ (f : Cells). IsSome (f column)) there.1 has)))
    there.2 kept fit

-- the pairs can be retracted after a removal
pub remove-retracts : (size place : ℕ) (cells : Cells) (old mid : List RegistryEntry) (pending : Pending) → 0 < size → AreReserved (place / size) mid → KeepsAsBefore old mid
    → pending.group ≡ place / size → pending.to_retract.items ≡ map (change_of size place (row_gives cells)) mid
    → (places : List Place) → IsAliveAt cells place places → AreUpToDate size places old
    → RetractsAll size (place / size) (change_at after_remove place places) mid pending
remove-retracts size place cells old mid pending positive reserved before at went places there kept =
    retracts-on size place after_remove (alive_with there.0) old mid mid pending places positive reserved before at
    (went ∙ ap (λ (f : Cells). map (change_of size place (row_gives f)) mid) there.1)
    (sym (removed-adds_all size place (alive_with there.0) mid))
    there.2 kept (fit-removed place places kept.fit)
