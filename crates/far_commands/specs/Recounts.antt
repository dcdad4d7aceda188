-- The reply to a recount.
use Rattle.std.specs.Prelude.{◌≡◌, ◌⊎◌, ◌<◌, ◌≤◌, ℕ, List}
use Rattle.far_types.specs.declared.answer.Answer.{Answer}
use Rattle.far_types.specs.declared.refusal.Refusal.{Refusal}
use Rattle.far_types.specs.Table.{Table}
use Rattle.far_table.specs.Recounting.{recount_refusal, IsAnswerNow, RecountRefusal}
use Rattle.far_script.specs.Printing.{answer_text, refusal_text}

-- the number of threads that fold the rows of a recount, if the table has that many row groups
abbrev pub recount_workers : ℕ
recount_workers = 4

-- a recount is refused: there is no such aggregate, a store fails that may fail, or memory ran out. Each thread meets at
-- most one fault, which the world does not count
abbrev pub IsNotRecounted : Type 0 → Table → ℕ → Refusal → Type 0
IsNotRecounted may_fail table a why =
    (faults : ℕ) × RecountRefusal (recount_refusal table a recount_workers) 0 faults why
    × (faults ≤ recount_workers)
    × (0 < faults → may_fail)

-- the text is the reply to a recount: the answer computed from scratch, or the refusal
abbrev pub Recounts : Type 0 → Table → ℕ → List ℕ → Type 0
Recounts may_fail table a text = ((answer : Answer) × IsAnswerNow table a answer
    × (text ≡ answer_text answer))
    ⊎ ((why : Refusal) × IsNotRecounted may_fail table a why × (text ≡ refusal_text why))
