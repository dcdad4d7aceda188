use Rattle.std.proofs.Common.{◌≡◌, ◌++◌}
use Rattle.std.specs.List.{AllByRecursion}
use Rattle.far_extrema.specs.Holders.{IsTopped}
use Rattle.far_extrema.specs.Entries.{texted, lines_of}
use Rattle.far_extrema.proofs.texts.add_lines.Given as goal

abbrev pub invariant-loop-text : goal.invariant-loop-text
invariant-loop-text l = record {
  made : l.lines.items ++ lines_of (texted l.text-iterator) ≡ l.initial.lines.items ++ lines_of (texted l.fn.texts.entries);
  topped : AllByRecursion IsTopped (texted l.text-iterator) → AllByRecursion IsTopped (texted l.fn.texts.entries);
}
