-- A legal history keeps the number of places within the limit.
use Rattle.std.proofs.Common.{◌≡◌, ℕ, ◌+◌, ◌≤◌, Bool, true, false, not, List, [], ◌∷◌, ◌++◌, length, None, Some, refl, sym, subst, arith}
use Rattle.std.proofs.lemmas.Bool.Decides.{nat_tests}
use Rattle.std.proofs.lemmas.List.{length-append}
use Rattle.std.specs.List.{list_any}
use Rattle.std.specs.Prelude.{◌==◌}
use Rattle.far_types.specs.declared.cell.Cell.{Cell}
use Rattle.far_types.specs.declared.edit.Edit.{Edit}
use Rattle.far_types.specs.declared.edit.Edit.TheVariants as edit
use Rattle.far_types.specs.declared.refusal.Refusal.{Refusal}
use Rattle.far_types.specs.declared.refusal.Refusal.TheVariants as refusal
use Rattle.far_types.specs.Cells.{is_too_long}
use Rattle.far_types.specs.Edits.{after_edit, edit_refusal, kinds_fit, overfills, places_after, after_remove, with_cell}
use Rattle.far_types.specs.FirstOf.{first_of}
use Rattle.far_types.specs.Table.{Place, Table}
use Rattle.far_aggregates.proofs.TableGroups.{length-changed}
use Rattle.far_sessions.specs.Histories.{replay_on, IsLegalOn}
use Rattle.far_sessions.specs.declared.view.Entry.{Entry}

-- if no test of a list applies, the fourth does not
fourth-free : (a b c d : Bool) (q r s t : Refusal) (rest : List (Bool × Refusal)) → first_of ((a, q) ∷ (b, r) ∷ (c, s) ∷ (d, t) ∷ rest) ≡ None → d ≡ false
fourth-free true b c d q r s t rest free = absurd (let some : Some q ≡ None = free in cc)
fourth-free false true c d q r s t rest free = absurd (let some : Some r ≡ None = free in cc)
fourth-free false false true d q r s t rest free = absurd (let some : Some s ≡ None = free in cc)
fourth-free false false false true q r s t rest free = absurd (let some : Some t ≡ None = free in cc)
fourth-free false false false false q r s t rest free = refl

-- an accepted insert finds the table not full
place-left : (table : Table) (row : List Cell) → edit_refusal table (edit.Insert row) ≡ None → (length table.places == table.limits.places) ≡ false
place-left table row may =
    fourth-free (not (kinds_fit table.schema row)) (not (length row == length table.schema)) (list_any is_too_long row) (length table.places == table.limits.places)
    refusal.WrongKind refusal.RowWidth refusal.TextTooLong refusal.TableFull
    ((overfills table.schema table.limits (edit.Insert row) table.places, refusal.ChunkFull) ∷ (table.edits == table.limits.edits, refusal.EditsUsedUp) ∷ []) may

one-more : (n most : ℕ) → n ≤ most → (n == most) ≡ false → n + 1 ≤ most
one-more n most few ne = grind (arith, nat_tests)

length-more : (places : List Place) (place : Place) → length places + 1 ≡ length (places ++ place ∷ [])
length-more places place = omega (arith, length-append places (place ∷ []))

-- an accepted edit keeps the number of places within the limit
few-after : (table : Table) (e : Edit) → edit_refusal table e ≡ None → length table.places ≤ table.limits.places → length (places_after e table.places) ≤ table.limits.places
few-after table (edit.Insert row) may few =
    subst (λ n. n ≤ table.limits.places) (length-more table.places _) (one-more (length table.places) table.limits.places few (place-left table row may))
few-after table (edit.Set p c cell) may few = subst (λ n. n ≤ table.limits.places) (sym (length-changed (with_cell c cell) p table.places)) few
few-after table (edit.Remove p) may few = subst (λ n. n ≤ table.limits.places) (sym (length-changed after_remove p table.places)) few

-- so does a legal history
pub few-places : (table : Table) (log : List Entry) → IsLegalOn table log → length table.places ≤ table.limits.places → length (replay_on table log).places ≤ table.limits.places
few-places table [] legal few = few
few-places table (e ∷ log) legal few = few-places (after_edit e.edit table) log legal.1 (few-after table e.edit legal.0 few)
