use Rattle.std.proofs.Common.{◌≡◌, ◌++◌, length, map}
use Rattle.csv.specs.Writing.{default_writer, fields_text}
use Rattle.far_types.specs.Lent.{text_cell}
use Rattle.far_commands.specs.Listings.{cell_text}
use Rattle.far_commands.proofs.lending.more_texts.Given as goal

abbrev pub invariant-loop-it : goal.invariant-loop-it
invariant-loop-it g l = l.page ++ fields_text default_writer (map cell_text (map (λ it. text_cell it.0) l.texts)) ≡ l.fn.page ++ fields_text default_writer (map cell_text (map (λ it. text_cell it.0) l.fn.texts))

abbrev pub decreases-loop-it : goal.decreases-loop-it
decreases-loop-it g l = length l.texts
