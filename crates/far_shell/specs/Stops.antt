-- The sentences for a run of sessions that ended early, without a full stop.
use Rattle.std.specs.Prelude.{List, ℕ, codes}
use Rattle.far_shell.specs.declared.sessions.outcome.Stop.{Stop}
use Rattle.far_shell.specs.declared.sessions.outcome.Stop.TheVariants.{Memory, Turns, Answers}

-- the sentence that says why a run ended early
abbrev pub sentence_of : Stop → List ℕ
sentence_of Memory = codes "memory ran out"
sentence_of (Turns given) = codes "an edit could not be made"
sentence_of (Answers given) = codes "the closed stripes have another answer"
