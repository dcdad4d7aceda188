use Rattle.std.proofs.Common.{◌≡◌, drop, length}
use Rattle.far_c.specs.Answering.{AreLinesAt}
use Rattle.far_c.proofs.lines.write_lines.Given as goal

abbrev pub invariant-loop-k : goal.invariant-loop-k
invariant-loop-k l = record {
  long : length l.lines ≡ length l.initial.lines;
  written : AreLinesAt l.answer l.from l.k l.lines;
  rest : drop l.k l.lines ≡ drop l.k l.initial.lines;
}
