use Rattle.std.proofs.Common.{◌≡◌, ◌+◌, ◌-◌, ◌^◌, ◌≤◌, length, min}
use Rattle.far_c.specs.Parts.{cells_in, texts_of}
use Rattle.far_c.proofs.texts.size_of_texts.Given as goal

abbrev pub invariant-loop-cell : goal.invariant-loop-cell
invariant-loop-cell l = record {
  low : l.size ≤ 2 ^ 64 - 1;
  size : min (l.size + length (texts_of (cells_in l.texts))) (2 ^ 64 - 1) ≡ min (length (texts_of (cells_in l.initial.texts))) (2 ^ 64 - 1);
}

abbrev pub decreases-loop-cell : goal.decreases-loop-cell
decreases-loop-cell l = length l.texts
