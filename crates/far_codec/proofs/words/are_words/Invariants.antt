use Rattle.std.proofs.Common.{◌≡◌, map, take}
use Rattle.std.specs.List.{AllByRecursion}
use Rattle.far_codec.proofs.words.are_words.Given as goal

abbrev pub invariant-loop-i : goal.invariant-loop-i
invariant-loop-i g l = record {
  same : take l.i l.words ≡ map g.T.EightBytes.written (take l.i l.list);
  range : AllByRecursion g.T.EightBytes.in_range (take l.i l.list);
}
