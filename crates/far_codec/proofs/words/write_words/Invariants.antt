use Rattle.std.proofs.Common.{◌≡◌, length, map, take}
use Rattle.std.specs.List.{AllByRecursion}
use Rattle.far_codec.proofs.words.write_words.Given as goal

abbrev pub invariant-loop-j : goal.invariant-loop-j
invariant-loop-j g l = record {
  len : length l.words ≡ length l.block;
  written : take l.j l.words ≡ map g.T.EightBytes.written (take l.j l.block);
  range : AllByRecursion g.T.EightBytes.in_range (take l.j l.block);
}
