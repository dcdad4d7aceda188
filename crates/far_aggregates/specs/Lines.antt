-- The line of one key, as an answer has it.
use Rattle.std.specs.Prelude.{◌≡◌, ℕ, cond, List, [], ◌∷◌, Option, None, Some, option_map}
use Rattle.std.specs.Ordering.{eq_by_cmp}
use Rattle.std.specs.FinMap as fin
use Rattle.far_types.specs.declared.answer.Answer.{Answer}
use Rattle.far_types.specs.declared.answer.Answer.TheVariants as answer
use Rattle.far_types.specs.declared.key.Key.{Key}
use Rattle.far_types.specs.Answers.{Totals}
use Rattle.far_types.specs.Keys.{line_cmp}
use Rattle.far_types.specs.Table.{Place, Registered}
use Rattle.far_aggregates.specs.declared.line.Line.{Line}
use Rattle.far_aggregates.specs.declared.line.Line.TheVariants as line
use Rattle.far_aggregates.specs.Aggregates.{Answers}

-- the values of the line with this key, if there is one
abbrev pub found_in : {A B : Type 0} → List (Option Key × A × B) → Option Key
    → Option (A × B)
found_in [] key = None
found_in (one ∷ lines) key = cond (eq_by_cmp line_cmp key one.0) (Some (one.1, one.2))
    (found_in lines key)

-- the line of a key in an answer, if the answer has one
abbrev pub line_in : Answer → Option Key → Option Line
line_in (answer.Totals lines) key = option_map (λ found. line.Totals found.0 found.1)
    (found_in lines key)
line_in (answer.Extrema lines) key = option_map (λ found. line.Extrema found.0 found.1)
    (found_in lines key)

-- an aggregate has an answer over the rows of these places, in which this is the line of a key, or `None`
abbrev pub AnswersKey : List Place → Option Registered → Option Key → Option Line → Type 0
AnswersKey places aggregate key found = (all : Answer) × Answers places aggregate all
    × (found ≡ line_in all key)

-- without a key column, totals have no value under a key
abbrev pub KeysFit : Option ℕ → Totals → Type 0
KeysFit column totals = column ≡ None → (key : Key) → fin.get totals (Some key) ≡ None
