use Rattle.std.proofs.Common.{◌≡◌, ◌++◌, drop}
use Rattle.std.specs.List.{AllByRecursion}
use Rattle.far_extrema.specs.Holders.{IsTopped}
use Rattle.far_extrema.specs.Entries.{numbered, lines_of}
use Rattle.far_extrema.specs.Numbers.{placed}
use Rattle.far_extrema.proofs.dense.add_lines.Given as goal

abbrev pub invariant-loop-place : goal.invariant-loop-place
invariant-loop-place l = record {
  made : l.lines.items ++ lines_of (numbered (placed l.place (drop l.place l.dense.items))) ≡ l.initial.lines.items ++ lines_of (numbered (placed 0 l.dense.items));
  topped : AllByRecursion IsTopped (numbered (placed l.place (drop l.place l.dense.items))) → AllByRecursion IsTopped (numbered (placed 0 l.dense.items));
}
