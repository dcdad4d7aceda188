use Rattle.std.proofs.Common.{◌≡◌}
use Rattle.std.specs.Prelude.{All}
use Rattle.far_texts.specs.Texts.{Lists}
use Rattle.far_texts.specs.Columns.{AreTextColumns}
use Rattle.far_rows_tests.proofs.columns.texts.no_texts.Given as goal

abbrev pub invariant-loop-k : goal.invariant-loop-k
invariant-loop-k l = ((lists : Lists) → AreTextColumns lists l.columns.items) × All (λ c. c.size ≡ l.layout.group) l.columns.items
