-- The reply to a line.
use Rattle.std.proofs.Common.{◌≡◌, ◌+◌, ℕ, List, [], ◌∷◌, length, refl}
use Rattle.std.specs.Prelude.{IsUtf8}
use Rattle.far_commands.specs.Commands.{command_of}
use Rattle.far_commands.specs.Progress.{At}
use Rattle.far_commands.specs.Replies.{AnswersLine, ServesLine}
use Rattle.far_commands.specs.Rules.{Rules}

module _ {W : Type 0} (rules : Rules W) where
  -- the reply to a line that is not empty
  pub answers-command : (old new : At W) (line rows text : List ℕ) → (length line ≡ 0 → ⊥) → IsUtf8 line → new.number ≡ old.number + 1
      → ServesLine rules new.number old.world (command_of (rules.table_in old.world).schema line) rows text new.world → rules.Stays new.world → AnswersLine rules old line rows text new
  answers-command old new [] rows text some utf8 number serves stays = absurd (some refl)
  answers-command old new (c ∷ cs) rows text some utf8 number serves stays = (utf8, number, serves, stays)

  pub answers-empty : (at : At W) (line : List ℕ) → line ≡ [] → AnswersLine rules at line [] [] at
  answers-empty at line e = rw e (refl, refl, refl)
