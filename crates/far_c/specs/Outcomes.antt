-- The effect of a call on the table of its handle, by the code that the call returns.
use Rattle.std.specs.Prelude.{◌≡◌, ℕ, ◌≤◌, ◌<◌, ◌^◌, ◌⊎◌, List, [], ◌∷◌, Option, Some, ⊤, IsSomeAnd, option_map}
use Rattle.std.specs.Option.{MatchOption}
use Rattle.far_types.specs.declared.refusal.Refusal.{Refusal}
use Rattle.far_types.specs.declared.refusal.Refusal.TheVariants.{NoMemory}
use Rattle.far_types.specs.Refusals.{number_of as refusal_number}
use Rattle.far_frame.specs.declared.step.Step.{Step}
use Rattle.far_frame.specs.declared.step.Reply.{Reply}
use Rattle.far_frame.specs.declared.step.Reply.TheVariants as reply
use Rattle.far_frame.specs.Steps.{IsStep}
use Rattle.far_c.specs.Contents.{content, number_of}
use Rattle.far_c.specs.declared.unread.Unread.{Unread}
use Rattle.far_c.specs.declared.unread.Unread.TheVariants as unread
use Rattle.far_c.specs.TableState.{TableState}

-- a reply is not a refusal
abbrev pub IsAccepted : Reply → Type 0
IsAccepted (reply.Refused why) = ⊥
IsAccepted _ = ⊤

-- a step is served with this reply, and nothing else changes
abbrev pub IsServed : Step → Reply → TableState → TableState → Type 0
IsServed step given old new = IsStep content number_of old.world step given new.world
    × (new ≡ record old { world = new.world })

-- the table with only its last refusal changed
abbrev pub refused_with : TableState → Refusal → TableState
refused_with t why = record t { refusal = Some why }

-- memory ran out before the table was called
abbrev pub IsOutOfMemory : TableState → TableState → Type 0
IsOutOfMemory old new = new ≡ refused_with old NoMemory

-- a step is refused by the refusal with this code, which the handle keeps; the effect is that of
-- the refused step, which does not change the table
abbrev pub IsRefused : ℕ → Step → TableState → TableState → Type 0
IsRefused code step old new = IsSomeAnd new.refusal
    (λ why. (code ≡ refusal_number why)
    × IsServed step (reply.Refused why) old (record new { refusal = old.refusal }))

-- a step is refused, or memory ran out while its argument was made
abbrev pub IsRefusedOrStopped : ℕ → Step → TableState → TableState → Type 0
IsRefusedOrStopped code step old new = IsRefused code step old new
    ⊎ ((code ≡ 1) × IsOutOfMemory old new)

-- both handles are open, and this relation holds between their tables
abbrev pub Behind : (TableState → TableState → Type 0) → Option TableState → Option TableState
    → Type 0
Behind relates old new = IsSomeAnd old (λ before. IsSomeAnd new (relates before))

-- a call that only reads is refused by the refusal that is due, which has this code. Nothing
-- changes except that the handle keeps it
abbrev pub IsDue : (TableState → Option Refusal) → ℕ → TableState → TableState → Type 0
IsDue due code old new = IsSomeAnd (due old)
    (λ why. (code ≡ refusal_number why) × (new ≡ refused_with old why))

-- a code is the code of the refusal that is due
abbrev pub IsNumberOf : Option Refusal → ℕ → Type 0
IsNumberOf due code = option_map refusal_number due ≡ Some code

-- a code is the code of a refusal
abbrev pub IsRefusal : ℕ → Type 0
IsRefusal code = (1 ≤ code) × (code < 100)

-- arguments cannot be read: nothing changes, unless memory ran out, which is kept as a refusal
abbrev pub IsTurnedAway : Unread → ℕ → TableState → TableState → Type 0
IsTurnedAway unread.BadArgument code old new = (code ≡ 103) × (new ≡ old)
IsTurnedAway unread.NoUtf8 code old new = (code ≡ 102) × (new ≡ old)
IsTurnedAway unread.NoMemory code old new = (code ≡ 1) × IsOutOfMemory old new

-- a number is in the list
abbrev pub IsOneOf : List ℕ → ℕ → Type 0
IsOneOf [] n = ⊥
IsOneOf (m ∷ ms) n = (n ≡ m) ⊎ IsOneOf ms n

-- the handle is closed, or the call's arguments are rejected with one of these codes. Nothing
-- changes
abbrev pub IsRejected : List ℕ → ℕ → Option TableState → Option TableState → Type 0
IsRejected codes code old new = (new ≡ old) × MatchOption old (code ≡ 100) (λ _. IsOneOf codes code)

-- the handle is closed, or the call is rejected with a code for this reason. Nothing changes
abbrev pub IsRejectedFor : (TableState → ℕ → Type 0) → ℕ → Option TableState → Option TableState
    → Type 0
IsRejectedFor why code old new = (new ≡ old)
    × MatchOption old (code ≡ 100) (λ table. why table code)

-- the handle is closed, or a call of many steps is rejected with a code for this reason. No step is
-- refused, so the last refusal is unchanged
abbrev pub IsStoppedFor : (TableState → ℕ → Type 0) → ℕ → Option TableState → Option TableState
    → Type 0
IsStoppedFor why code old new = (option_map (λ table. table.refusal) new
    ≡ option_map (λ table. table.refusal) old)
    × MatchOption old (code ≡ 100) (λ table. why table code)

-- the arguments of a call do not fit the table
abbrev pub IsUnfit : Type 0 → TableState → ℕ → Type 0
IsUnfit fits table code = (code ≡ 103) × ¬ fits

-- the limit of counted faults is reached
abbrev pub IsUsedUp : TableState → ℕ → Type 0
IsUsedUp table code = (code ≡ 106) × (2 ^ 62 ≤ table.world.faults)
