-- The text that an engine's failure prints: a sentence without a full stop.
use Rattle.std.specs.Prelude.{List, ℕ, Option, Some, codes}
use Rattle.std.specs.Fmt.{◌++?◌}
use Rattle.far_store.specs.declared.engine.Failure.{Failure}
use Rattle.far_store.specs.declared.engine.Failure.TheVariants.{NoMemory, Engine}

-- the text of a failure, given the text of the engine's own reason
abbrev pub failure_text : {E : Type 0} → (E → Option (List ℕ)) → Failure E
    → Option (List ℕ)
failure_text text NoMemory = Some (codes "memory ran out")
failure_text text (Engine error) = Some (codes "the engine failed: ") ++? text error
