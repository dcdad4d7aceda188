-- What a legal history does to a table.
use Rattle.std.proofs.Common.{◌≡◌, ◌+◌, ◌≤◌, List, [], ◌∷◌, ◌++◌, length, None, Bool, true, false, refl, ap, ◌∙◌, arith}
use Rattle.std.proofs.lemmas.Bool.Decides.{nat_tests}
use Rattle.std.specs.Prelude.{◌==◌}
use Rattle.far_types.specs.declared.edit.Edit.{Edit}
use Rattle.far_types.specs.declared.refusal.Refusal.{Refusal}
use Rattle.far_types.specs.declared.refusal.Refusal.TheVariants as refusal
use Rattle.far_types.specs.Edits.{after_edit, edit_refusal, edit_faults, overfills}
use Rattle.far_types.specs.FirstOf.{first_of}
use Rattle.far_types.specs.Table.{Table}
use Rattle.far_sessions.specs.Histories.{replay_on, IsLegalOn}
use Rattle.far_sessions.specs.declared.view.Entry.{Entry}

pub schema_stays : (table : Table) (log : List Entry) → (replay_on table log).schema ≡ table.schema
schema_stays table [] = refl
schema_stays table (e ∷ log) = schema_stays (after_edit e.edit table) log

pub limits_stay : (table : Table) (log : List Entry) → (replay_on table log).limits ≡ table.limits
limits_stay table [] = refl
limits_stay table (e ∷ log) = limits_stay (after_edit e.edit table) log

-- replaying adds the history's length to the count of edits
pub edits_count : (table : Table) (log : List Entry) → (replay_on table log).edits ≡ table.edits + length log
edits_count table [] = omega arith
edits_count table (e ∷ log) = omega (arith, edits_count (after_edit e.edit table) log)

-- if no case refuses, the last test is false
last_free : (cases : List (Bool × Refusal)) (b : Bool) (r : Refusal) → first_of (cases ++ (b, r) ∷ []) ≡ None → b ≡ false
last_free [] true r free = absurd cc
last_free [] false r free = refl
last_free ((true, e) ∷ cases) b r free = absurd cc
last_free ((false, e) ∷ cases) b r free = last_free cases b r free

-- an accepted edit finds the limit of edits not reached
pub edits_left : (table : Table) (e : Edit) → edit_refusal table e ≡ None → (table.edits == table.limits.edits) ≡ false
edits_left table e may =
    last_free (edit_faults table.schema table.limits table.places e ++ (overfills table.schema table.limits e table.places, refusal.ChunkFull) ∷ [])
    (table.edits == table.limits.edits) refusal.EditsUsedUp
    (ap first_of (append_more (edit_faults table.schema table.limits table.places e)) ∙ may)
  where
    append_more : (cases : List (Bool × Refusal))
        → (cases ++ (overfills table.schema table.limits e table.places, refusal.ChunkFull) ∷ []) ++ (table.edits == table.limits.edits, refusal.EditsUsedUp) ∷ []
        ≡ cases ++ (overfills table.schema table.limits e table.places, refusal.ChunkFull) ∷ (table.edits == table.limits.edits, refusal.EditsUsedUp) ∷ []
    append_more [] = refl
    append_more (case ∷ cases) = ap (λ more. case ∷ more) (append_more cases)

-- a legal history is no longer than the limits allow
pub few_edits : (table : Table) (log : List Entry) → IsLegalOn table log → table.edits ≤ table.limits.edits → table.edits + length log ≤ table.limits.edits
few_edits table [] legal few = omega (arith, few)
few_edits table (e ∷ log) legal few =
    let ne = edits_left table e.edit legal.0 in
    let more : table.edits + 1 ≤ table.limits.edits = grind (arith, nat_tests) in
    omega (arith, few_edits (after_edit e.edit table) log legal.1 more)
