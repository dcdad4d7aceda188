-- The aggregates of a table by their numbers.
use Rattle.std.specs.Prelude.{◌≡◌, ℕ, ◌+◌, ◌==◌, Bool, false, cond, List, [], ◌∷◌, Option, None, Some, slice_get, slice_set}
use Rattle.std.specs.Option.{option_map_or}
use Rattle.far_types.specs.declared.refusal.Refusal.{Refusal}
use Rattle.far_types.specs.declared.refusal.Refusal.TheVariants as refusal
use Rattle.far_types.specs.declared.answer.Answer.{Answer}
use Rattle.far_types.specs.Answers.{answer_over}
use Rattle.far_types.specs.Table.{Place, Registered, rows_of, is_pending, left}
use Rattle.far_aggregates.specs.Accumulators.{RegistryEntry, registered_of}

-- an optional option as one option
abbrev pub flattened : {A : Type 0} → Option (Option A) → Option A
flattened None = None
flattened (Some inner) = inner

-- the lowest number under which no aggregate is registered, in a list that begins with number a
abbrev pub free_from : ℕ → List (Option Registered) → Option ℕ
free_from a [] = None
free_from a (None ∷ rest) = Some a
free_from a (Some aggregate ∷ rest) = free_from (a + 1) rest

-- the aggregate with this number
abbrev pub aggregate_in : List RegistryEntry → ℕ → Option Registered
aggregate_in registry a = flattened (slice_get (registered_of registry) a)

-- whether a row group is pending in an aggregate
abbrev pub is_pending_in : Option Registered → ℕ → Bool
is_pending_in aggregate g = option_map_or (λ r. is_pending r.pending g) aggregate false

-- the refusal to answer: there is no aggregate, or row groups are pending; `None` if it answers
abbrev pub ask_refusal : Option Registered → Option Refusal
ask_refusal None = Some refusal.NoAggregate
ask_refusal (Some aggregate) = cond (left aggregate.pending == 0) None
    (Some (refusal.Building (left aggregate.pending)))

-- an aggregate in which this row group is no longer pending
abbrev pub after_scan : ℕ → Registered → Registered
after_scan g aggregate = record aggregate { pending = slice_set aggregate.pending g false }

-- this is the answer of an aggregate over the rows of these places, and no row group is pending
abbrev pub Answers : List Place → Option Registered → Answer → Type 0
Answers places None answer = ⊥
Answers places (Some aggregate) answer = (left aggregate.pending ≡ 0)
    × (answer ≡ answer_over aggregate.spec (rows_of places))
