-- The answer that a handle holds, and its lines as C receives them.
use Rattle.std.specs.Prelude.{◌≡◌, ◌<◌, ◌+◌, ◌-◌, ℕ, ℤ, min, List, length, Option, None, Some, IsSomeAnd, slice_get}
use Rattle.far_types.specs.declared.answer.Answer.{Answer}
use Rattle.far_types.specs.declared.answer.Answer.TheVariants as answer
use Rattle.far_types.specs.declared.key.Key.{Key}
use Rattle.far_types.specs.declared.key.Key.TheVariants as key
use Rattle.far_frame.specs.declared.step.Step.TheVariants as step
use Rattle.far_frame.specs.declared.step.Reply.TheVariants as reply
use Rattle.far_frame.specs.Steps.{IsStep}
use Rattle.far_table.specs.Recounting.{IsAnswerNow}
use Rattle.far_c.specs.declared.answer.FcLine.{FcLine}
use Rattle.far_c.specs.Contents.{content, number_of}
use Rattle.far_c.specs.Sums.{AreWordsOf}
use Rattle.far_c.specs.TableState.{TableState}

-- the number of lines of an answer
abbrev pub lines_in : Answer → ℕ
lines_in (answer.Totals lines) = length lines
lines_in (answer.Extrema lines) = length lines

-- an aggregate was asked: the handle holds its answer, which has this many lines
abbrev pub IsAsked : ℕ → ℕ → TableState → TableState → Type 0
IsAsked a lines old new = IsSomeAnd new.answer
    (λ answer. IsStep content number_of old.world (step.Ask a) (reply.Answer answer) new.world
    × (lines ≡ lines_in answer)
    × (new ≡ record old { world = new.world; answer = Some answer }))

-- an aggregate was recounted: the handle holds its answer, which has this many lines
abbrev pub IsRecounted : ℕ → ℕ → TableState → TableState → Type 0
IsRecounted a lines old new = IsSomeAnd new.answer
    (λ answer. IsAnswerNow old.world.state.table a answer × (lines ≡ lines_in answer)
    × (new ≡ record old { answer = Some answer }))

-- a key, as the kind, the number and the text of a line
abbrev pub IsKey : Option Key → ℕ → ℤ → List ℕ → Type 0
IsKey None kind number text = kind ≡ 0
IsKey (Some (key.Int n)) kind number text = (kind ≡ 1) × (number ≡ n)
IsKey (Some (key.Text t)) kind number text = (kind ≡ 2) × (text ≡ t)

-- a line has this key
abbrev pub HasKey : Option Key → FcLine → Type 0
HasKey key line = IsKey key line.key_kind line.key_number line.key_text.now

-- a line of totals: its key, its count, and its sum in two words
abbrev pub IsTotalLine : Option Key × ℕ × ℤ → FcLine → Type 0
IsTotalLine found line = (line.fold ≡ 0) × HasKey found.0 line × (line.count ≡ found.1)
    × AreWordsOf found.2 line.sum_low line.sum_high

-- a line of extrema: its key, its least and its greatest value
abbrev pub IsExtremaLine : Option Key × ℤ × ℤ → FcLine → Type 0
IsExtremaLine found line = (line.fold ≡ 1) × HasKey found.0 line × (line.min ≡ found.1)
    × (line.max ≡ found.2)

-- the line of an answer at an index
abbrev pub IsLineAt : Answer → ℕ → FcLine → Type 0
IsLineAt (answer.Totals lines) index line = IsSomeAnd (slice_get lines index)
    (λ found. IsTotalLine found line)
IsLineAt (answer.Extrema lines) index line = IsSomeAnd (slice_get lines index)
    (λ found. IsExtremaLine found line)

-- an index past the end of an answer
abbrev pub IsPast : Answer → ℕ → Type 0
IsPast (answer.Totals lines) index = slice_get lines index ≡ None
IsPast (answer.Extrema lines) index = slice_get lines index ≡ None

-- the first `count` lines are the lines of an answer from an index on
abbrev pub AreLinesAt : Answer → ℕ → ℕ → List FcLine → Type 0
AreLinesAt answer from count lines = (k : ℕ) → k < count
    → IsSomeAnd (slice_get lines k) (λ line. IsLineAt answer (from + k) line)

-- the number of lines of an answer from an index on, but at most `room`
abbrev pub lines_from : Answer → ℕ → ℕ → ℕ
lines_from answer from room = min room (lines_in answer - from)
