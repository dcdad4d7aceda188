-- What the parts of a script do to a state, of any type.
use Rattle.std.specs.Prelude.{ℕ, List}
use Rattle.far_types.specs.Table.{Table}
use Rattle.far_frame.specs.declared.step.Step.{Step}
use Rattle.far_frame.specs.declared.step.Reply.{Reply}
use Rattle.far_script.specs.Openings.{Opened}

-- what a script's parts do to a state of type W. The replies to a script are defined once, by these
pub record Rules (W : Type 0) : Type 1 where
  -- the plain table in the state
  pub table_in : W → Table
  -- a first command for these columns and limits opens this state
  pub IsOpened : Opened → W → Type 0
  -- the first state becomes the second by a step with this reply
  pub Steps : W → Step → Reply → W → Type 0
  -- the text is the reply to `dump`, which changes nothing
  pub Lists : W → List ℕ → Type 0
  -- the text is the reply to a renewal for this capacity, and the second state is the one after it
  pub Moves : ℕ → W → List ℕ → W → Type 0
  -- what holds of the state after each command
  pub Stays : W → Type 0
  -- whether the script's far stores may fail
  pub MayFail : Type 0

-- two sets of rules at once: one for a state, and one for what is seen of it
abbrev pub both : {V W : Type 0} → (V → W) → Rules V → Rules W → Rules V
both view rules seen = record {
  table_in = rules.table_in;
  IsOpened = λ opened new. rules.IsOpened opened new × seen.IsOpened opened (view new);
  Steps = λ old s given new.
      rules.Steps old s given new × seen.Steps (view old) s given (view new);
  Lists = λ at text. rules.Lists at text × seen.Lists (view at) text;
  Moves = λ capacity old text new.
      rules.Moves capacity old text new × seen.Moves capacity (view old) text (view new);
  Stays = λ new. rules.Stays new × seen.Stays (view new);
  MayFail = rules.MayFail;
}
