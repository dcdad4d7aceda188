use Rattle.std.proofs.Common.{◌≡◌, ◌++◌}
use Rattle.std.specs.List.{AllByRecursion}
use Rattle.far_extrema.specs.Holders.{IsTopped}
use Rattle.far_extrema.specs.Entries.{numbered, lines_of}
use Rattle.far_extrema.proofs.number_tree.add_lines.Given as goal

abbrev pub invariant-loop-number : goal.invariant-loop-number
invariant-loop-number l = record {
  made : l.lines.items ++ lines_of (numbered l.number-iterator) ≡ l.initial.lines.items ++ lines_of (numbered l.fn.tree.entries);
  topped : AllByRecursion IsTopped (numbered l.number-iterator) → AllByRecursion IsTopped (numbered l.fn.tree.entries);
}
