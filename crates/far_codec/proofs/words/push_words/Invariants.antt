use Rattle.std.proofs.Common.{◌≡◌, ◌*◌, ◌++◌, take}
use Rattle.std.specs.List.{flat_map, AllByRecursion}
use Rattle.far_codec.proofs.words.push_words.Given as goal

abbrev pub invariant-loop-i : goal.invariant-loop-i
invariant-loop-i g l = record {
  written : l.form.items ≡ l.fn.form.items ++ flat_map g.T.EightBytes.written (take (64 * l.i) l.list);
  range : AllByRecursion g.T.EightBytes.in_range (take (64 * l.i) l.list);
}

abbrev pub invariant-loop-element : goal.invariant-loop-element
invariant-loop-element g l = record {
  written : l.form.items ≡ l.initial.form.items ++ flat_map g.T.EightBytes.written (take l.element-index l.rest);
  range : AllByRecursion g.T.EightBytes.in_range (take l.element-index l.rest);
}
