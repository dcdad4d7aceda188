-- An aggregate that is computed from scratch, whatever row groups are pending.
use Rattle.std.specs.Prelude.{◌≡◌, ℕ, ◌+◌, ◌<◌, ◌≤◌, ◌&&◌, ◌⊎◌, not, nat_lt, [], ◌∷◌, Option, None, Some, is_none, IsSomeAnd, OnOk, Result}
use Rattle.far_types.specs.declared.answer.Answer.{Answer}
use Rattle.far_types.specs.declared.refusal.Refusal.{Refusal}
use Rattle.far_types.specs.declared.refusal.Refusal.TheVariants as refusal
use Rattle.far_types.specs.FirstOf.{first_of}
use Rattle.far_types.specs.Table.{Table, answer_now}
use Rattle.far_table.specs.Watching.{aggregate_at}

-- why a recount is refused before a row is read: there is no such aggregate, or the number of workers is not 1 to 64
abbrev pub recount_refusal : Table → ℕ → ℕ → Option Refusal
recount_refusal table a workers = first_of (
    (is_none (aggregate_at table a), refusal.NoAggregate)
    ∷ (not (nat_lt 0 workers && nat_lt workers 65), refusal.OutOfRange)
    ∷ [])

-- a number of workers that a recount takes
pub record AreWorkers (workers : ℕ) : Type 0 where
  -- at least one
  pub some : 0 < workers
  -- at most 64
  pub few : workers ≤ 64

-- this is the answer of an aggregate over the current rows
abbrev pub IsAnswerNow : Table → ℕ → Answer → Type 0
IsAnswerNow table a answer = IsSomeAnd (aggregate_at table a)
    (λ aggregate. answer ≡ answer_now aggregate.spec table)

-- why rows are not folded: the store failed, and the caller's meter rose; or memory ran out, and it did not
abbrev pub FoldRefusal : ℕ → ℕ → Refusal → Type 0
FoldRefusal old new given = ((given ≡ refusal.FarFault) × (old < new))
    ⊎ ((given ≡ refusal.NoMemory) × (new ≡ old))

-- why a recount is refused: for the refusal that is due, which keeps the meter; else as folding rows is refused
abbrev pub RecountRefusal : Option Refusal → ℕ → ℕ → Refusal → Type 0
RecountRefusal (Some due) old new given = (given ≡ due) × (new ≡ old)
RecountRefusal None old new given = FoldRefusal old new given

-- what folding the rows in some pieces adds to the caller's meter, which was `old` and is `new`
pub record CountsFaults {A : Type 0} (may_fail : Type 0) (pieces old new : ℕ)
    (result : Result A Refusal) : Type 0 where
  -- an answer leaves it
  pub none : OnOk result (new ≡ old)
  -- it rises only if the store may fail
  pub cause : old < new → may_fail
  -- each piece adds at most one, because it ends at its first fault
  pub most : new ≤ old + pieces
