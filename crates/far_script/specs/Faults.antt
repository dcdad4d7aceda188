-- The faults that end a script, the exit status for each, and what stops a reader.
use Rattle.std.specs.Prelude.{◌≡◌, ℕ, ◌+◌, ⊤, ◌⊎◌, ◌≤◌, ◌<◌, List, length, Option, IfSome}
use Rattle.far_script.specs.declared.fault.ShellFault.{ShellFault}
use Rattle.far_script.specs.declared.fault.ShellFault.TheVariants.{BadStart, Input, Output, Memory, Turns}

-- the exit status for each fault. A script that runs to its end has status 0
abbrev pub status_of : ShellFault → ℕ
status_of BadStart = 2
status_of Input = 3
status_of Output = 3
status_of Memory = 4
status_of Turns = 5

-- a condition that holds if the fault is `Input`
abbrev pub IfInput : ShellFault → Type 0 → Type 0
IfInput BadStart holds = ⊤
IfInput Input holds = holds
IfInput Output holds = ⊤
IfInput Memory holds = ⊤
IfInput Turns holds = ⊤

-- a condition that holds if the fault is `Memory` or `Output`
abbrev pub IfHalted : ShellFault → Type 0 → Type 0
IfHalted BadStart holds = ⊤
IfHalted Input holds = ⊤
IfHalted Output holds = holds
IfHalted Memory holds = holds
IfHalted Turns holds = ⊤

-- why no more bytes came although the end was not found: readers of this type may fail, or the reads are used up, or the
-- bytes are used up and the reader has more. The numbers are the reads and bytes that were allowed before, and those still
-- allowed
abbrev pub IsCut : Type 0 → ℕ → ℕ → ℕ → ℕ → Option (List ℕ) → Type 0
IsCut may_fail reads bytes reads_left bytes_left known =
    may_fail
    ⊎ (((reads_left ≡ 0) × (reads + bytes_left ≤ bytes))
    ⊎ ((bytes_left ≡ 0) × IfSome known (λ coming. bytes < length coming)))
