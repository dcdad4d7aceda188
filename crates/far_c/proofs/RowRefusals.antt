-- Why a row of a world's table is not lent.
use Rattle.std.proofs.Common.{◌≡◌, ◌∙◌, ℕ, ◌≤◌, ◌<◌, ◌/◌, Bool, true, false, length, Option, Some, Result, inl, inr, refl, sym, ap, subst}
use Rattle.std.specs.Prelude.{if◌then◌else◌, nat_lt}
use Rattle.std.proofs.lemmas.Bool.{cases_lt, le-ltb, lt-ltb}
use Rattle.far_types.specs.declared.refusal.Refusal.{Refusal}
use Rattle.far_types.specs.declared.refusal.Refusal.TheVariants as refusal
use Rattle.far_types.specs.FirstOf.{first_of}
use Rattle.far_host.specs.HostTickets.{TicketState}
use Rattle.far_rows.specs.Refusing.{absents}
use Rattle.far_scopes.specs.Refusing.{refusal_in}
use Rattle.far_table.specs.State.{LiveState}
use Rattle.far_frame.specs.State.{State, live}
use Rattle.far_frame.specs.Worlds.{World}
use Rattle.far_c.specs.Reading.{row_refusal}

by-place : (b : Bool) (here other : Option Refusal) (r : Option Refusal) → (b ≡ true → r ≡ here) → (b ≡ false → r ≡ other) → r ≡ (if b then here else other)
by-place true here other r first second = first refl
by-place false here other r first second = second refl

pub row-refused : {X : Type 0} (view : LiveState TicketState) (state : State TicketState) (old : World TicketState) → view ≡ live state → state ≡ old.state → (place : ℕ) (r : Result X Refusal)
    → (length view.table.places ≤ place → refusal_in r ≡ Some refusal.NoRow) → (place < length view.table.places → refusal_in r ≡ first_of (absents view.rows (place / view.table.limits.group)))
    → refusal_in r ≡ row_refusal old.state place
row-refused view state old is same place r past there =
    let past' = subst (λ (v : LiveState TicketState). length v.table.places ≤ place → refusal_in r ≡ Some refusal.NoRow) (is ∙ ap live same) past in
    let there' = subst (λ (v : LiveState TicketState). place < length v.table.places → refusal_in r ≡ first_of (absents v.rows (place / v.table.limits.group))) (is ∙ ap live same) there in
    by-place (nat_lt place (length old.state.table.places)) (first_of (absents old.state.rows (place / old.state.table.limits.group))) (Some refusal.NoRow) (refusal_in r)
    (λ on. elim (cases_lt place (length old.state.table.places)) [ inl less ↦ there' less | inr beyond ↦ absurd (let off : true ≡ false = sym on ∙ le-ltb place (length old.state.table.places) beyond in cc) ])
    (λ off. elim (cases_lt place (length old.state.table.places)) [ inl less ↦ absurd (let on : true ≡ false = sym (lt-ltb place (length old.state.table.places) less) ∙ off in cc) | inr beyond ↦ past' beyond ])
