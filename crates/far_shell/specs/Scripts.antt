-- The replies to the lines of a script, and to a whole script.
use Rattle.std.specs.Prelude.{◌≡◌, ◌⊎◌, ℕ, List, [], ◌∷◌, ◌++◌, Some, IsUtf8, codes}
use Rattle.std.specs.List.{flat_map}
use Rattle.far_store.specs.declared.store.FarTickets.{Ghosts as Tickets}
use Rattle.far_script.specs.Lines.{Blank, IsOneLine, without_return}
use Rattle.far_script.specs.Openings.{Opened, Schema, start_in}
use Rattle.far_commands.specs.Progress.{At}
use Rattle.far_commands.specs.Replies.{AnswersLine}
use Rattle.far_commands.specs.Rules.{Rules}
use Rattle.far_commands.specs.TableRules.{table_rules}
use Rattle.far_commands.specs.WorldRules.{world_rules}

-- a turn: a line of a script without its line feed, the bytes of its load, and its reply
pub record Turn : Type 0 where
  pub line : List ℕ
  pub rows : List ℕ
  pub text : List ℕ

-- the bytes of a turn in the script
abbrev pub bytes_of : Turn → List ℕ
bytes_of turn = turn.line ++ 10 ∷ turn.rows

-- the reply of a turn
abbrev pub text_of : Turn → List ℕ
text_of turn = turn.text

-- this line is the first command of a script: it comes after empty lines, is not empty and is valid UTF-8. It may lack its
-- line feed only if nothing follows
pub record Begins (bytes : List ℕ) (spent : Type 0) (line : List ℕ) : Type 0 where
  pub blanks : List (List ℕ)
  pub blank : List ℕ
  pub empty : Blank blank blanks
  pub raw : List ℕ
  pub one : IsOneLine raw
  pub some : ¬ (line ≡ [])
  pub text : IsUtf8 line
  pub is : ((bytes ≡ blank ++ (raw ++ 10 ∷ [])) × (line ≡ without_return raw))
      ⊎ ((bytes ≡ blank ++ raw) × (line ≡ raw) × spent)

module _ {W : Type 0} (rules : Rules W) where
  -- the state of a script after its first command opened an empty table
  abbrev pub IsNew : Opened → At W → Type 0
  IsNew opened at = rules.IsOpened opened at.world × (at.number ≡ 1)

  -- these bytes are the first command of a script, and it opens an empty table of its columns and limits
  abbrev pub Opens : List ℕ → Type 0 → At W → Type 0
  Opens bytes spent at = (line : List ℕ) × (opened : Opened) × Begins bytes spent line
      × (start_in line ≡ Some (Schema opened))
      × IsNew opened at

  -- a turn takes the script from the old state to the new one, and prints the reply
  abbrev pub IsTurn : At W → Turn → At W → Type 0
  IsTurn old turn new = IsOneLine turn.line
      × AnswersLine rules old (without_return turn.line) turn.rows turn.text new

  -- turns are taken one after another
  abbrev pub AreTurns : At W → List Turn → At W → Type 0
  AreTurns old [] new = new ≡ old
  AreTurns old (turn ∷ turns) new = (mid : At W) × IsTurn old turn mid × AreTurns mid turns new

  -- these bytes are whole lines with their loads, and the text is their replies
  abbrev pub AnswersLines : At W → List ℕ → List ℕ → At W → Type 0
  AnswersLines old bytes text new = (turns : List Turn) × (bytes ≡ flat_map bytes_of turns)
      × (text ≡ flat_map text_of turns)
      × AreTurns old turns new

  -- the text is the replies to the rest of a script: to its whole lines, and to a last line without a line feed, which may
  -- be empty
  pub record Ends (old : At W) (script text : List ℕ) : Type 0 where
    pub bytes : List ℕ
    pub printed : List ℕ
    pub mid : At W
    pub answered : AnswersLines old bytes printed mid
    pub last : List ℕ
    pub line : IsOneLine last
    pub tail : List ℕ
    pub new : At W
    pub answers : AnswersLine rules mid last [] tail new
    pub whole : script ≡ bytes ++ last
    pub said : text ≡ printed ++ tail

  -- the text is the replies to a script whose first command, already taken, opens a table of these columns and limits:
  -- `ok`, and the replies to the lines after it
  abbrev pub IsServed : Opened → List ℕ → List ℕ → Type 0
  IsServed opened bytes text = (at : At W) × (tail : List ℕ) × IsNew opened at
      × Ends at bytes tail
      × (text ≡ codes "ok\n" ++ tail)

  -- the text is the replies to a whole script over a table, by these rules
  pub record IsScriptBy (script text : List ℕ) : Type 0 where
    pub first : List ℕ
    pub rest : List ℕ
    pub tail : List ℕ
    pub at : At W
    pub opens : Opens first (rest ≡ []) at
    pub ends : Ends at rest tail
    pub whole : script ≡ first ++ rest
    pub said : text ≡ codes "ok\n" ++ tail

-- the text is the replies to a whole script over a table, for a user who sees its rows and aggregates, and which of its
-- chunks are away or pinned, and who knows whether its far stores may fail
abbrev pub IsTableScript : Type 0 → List ℕ → List ℕ → Type 0
IsTableScript may_fail script text = IsScriptBy (table_rules may_fail) script text

-- the same with objects, space, jobs and the store, so that more is said of the replies
abbrev pub IsScript : {S K : Type 0} → Tickets S K → List ℕ → List ℕ → Type 0
IsScript tickets script text = IsScriptBy (world_rules tickets) script text
