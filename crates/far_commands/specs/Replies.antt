-- The replies to the commands of a script.
use Rattle.std.specs.Prelude.{◌≡◌, ℕ, ◌+◌, List, [], ◌∷◌, ◌++◌, length, map, Option, None, Some, codes, IsUtf8}
use Rattle.csv.specs.Reading.{default_config, records, strip_bom}
use Rattle.far_types.specs.declared.cell.Kind.{Kind}
use Rattle.far_types.specs.declared.edit.Edit.TheVariants as edit
use Rattle.far_types.specs.declared.refusal.Refusal.{Refusal}
use Rattle.far_frame.specs.declared.step.Step.{Step}
use Rattle.far_frame.specs.declared.step.Step.TheVariants as step
use Rattle.far_frame.specs.declared.step.Reply.{Reply}
use Rattle.far_frame.specs.declared.step.Reply.TheVariants as reply
use Rattle.far_frame.specs.Lending.{int_piece, text_piece}
use Rattle.far_commands.specs.declared.command.Command.{Command}
use Rattle.far_commands.specs.declared.command.Command.TheVariants as command
use Rattle.far_script.specs.Fields.{cells_from}
use Rattle.far_commands.specs.Commands.{command_of}
use Rattle.far_commands.specs.Pieces.{pieces_text, next_text}
use Rattle.far_script.specs.Printing.{numbered_text, answer_text, refusal_text}
use Rattle.far_commands.specs.Progress.{At}
use Rattle.far_commands.specs.Recounts.{Recounts}
use Rattle.far_commands.specs.Rules.{Rules}

-- the text for `Done` as the reply to this step
abbrev pub done_text : Step → List ℕ
done_text (step.Carry n) = codes "carried\n"
done_text _ = codes "ok\n"

-- the text of a reply: its line, or the lines of an answer or of a part of a column
abbrev pub reply_text : List ℕ → Reply → List ℕ
reply_text done (reply.Place place) = numbered_text (codes "place") place
reply_text done reply.Done = done
reply_text done (reply.Aggregate a) = numbered_text (codes "aggregate") a
reply_text done (reply.Answer answer) = answer_text answer
reply_text done (reply.Ints copies) = pieces_text (map int_piece copies.items)
reply_text done (reply.Texts copies) = pieces_text (map text_piece copies.items)
reply_text done (reply.Job n) = numbered_text (codes "job") n
reply_text done (reply.Next groups) = next_text groups.items
reply_text done (reply.Refused refusal) = refusal_text refusal

-- the step that inserts the fields of a record as a row
abbrev pub insert_of_record : List Kind → List (List ℕ) → Step
insert_of_record kinds fields = step.Edit (edit.Insert (cells_from kinds 0 fields))

-- a load stops at a refusal, and continues after any other reply
abbrev pub AfterReply : Reply → (Refusal → Type 0) → Type 0 → Type 0
AfterReply (reply.Refused refusal) ends goes = ends refusal
AfterReply _ ends goes = goes

-- the records of a text for the csv reader
abbrev pub records_of : List ℕ → List (List (List ℕ))
records_of text = records default_config (strip_bom text)

module _ {W : Type 0} (rules : Rules W) where
  -- a step is served, and the text is its reply
  abbrev pub Takes : W → Step → List ℕ → W → Type 0
  Takes old s text new = (given : Reply) × rules.Steps old s given new
      × (text ≡ reply_text (done_text s) given)

  -- the records of a load are inserted in order, up to the first that is refused. `count` were inserted before
  abbrev pub Loads : ℕ → W → List (List (List ℕ)) → List ℕ → W → Type 0
  Loads count old [] text new = (new ≡ old) × (text ≡ numbered_text (codes "loaded") count)
  Loads count old (fields ∷ more) text new =
      (given : Reply) × (mid : W)
      × rules.Steps old (insert_of_record (rules.table_in old).schema fields) given mid
      × AfterReply given
      (λ refusal. (new ≡ mid)
      × (text ≡ numbered_text (codes "loaded") count ++ refusal_text refusal))
      (Loads (count + 1) mid more text new)

  -- a command is served, and the text is its reply. `rows` are the bytes of its load, and empty for any other command
  abbrev pub Serves : W → Command → List ℕ → List ℕ → W → Type 0
  Serves old (command.Step s) rows text new = (rows ≡ []) × Takes old s text new
  Serves old (command.Load count) rows text new = (length rows ≡ count)
      × IsUtf8 rows
      × Loads 0 old (records_of rows) text new
  Serves old command.Dump rows text new = (rows ≡ [])
      × rules.Lists old text
      × (new ≡ old)
  Serves old (command.Renew capacity) rows text new = (rows ≡ [])
      × rules.Moves capacity old text new
  Serves old (command.Recount a) rows text new = (rows ≡ [])
      × Recounts rules.MayFail (rules.table_in old) a text
      × (new ≡ old)

  -- a line is served, and the text is its reply. If it spells no command, nothing changes
  abbrev pub ServesLine : ℕ → W → Option Command → List ℕ → List ℕ → W → Type 0
  ServesLine number old None rows text new = (rows ≡ [])
      × (text ≡ numbered_text (codes "syntax command") number)
      × (new ≡ old)
  ServesLine number old (Some asked) rows text new = Serves old asked rows text new

  -- a line is answered. An empty line has no reply and is no command. Any other is valid UTF-8 and counts as the next
  -- command
  abbrev pub AnswersLine : At W → List ℕ → List ℕ → List ℕ → At W → Type 0
  AnswersLine old [] rows text new = (rows ≡ []) × (text ≡ []) × (new ≡ old)
  AnswersLine old (c ∷ cs) rows text new =
      IsUtf8 (c ∷ cs) × (new.number ≡ old.number + 1)
      × ServesLine new.number old.world (command_of (rules.table_in old.world).schema (c ∷ cs))
      rows text new.world
      × rules.Stays new.world
