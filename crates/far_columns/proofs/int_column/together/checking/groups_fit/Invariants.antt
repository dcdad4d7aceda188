use Rattle.std.proofs.Common.{◌≡◌, length, map, take}
use Rattle.far_columns.proofs.int_column.together.checking.groups_fit.Given as goal

abbrev pub invariant-loop-k : goal.invariant-loop-k
invariant-loop-k g l = record {
  long : length l.sizes ≡ 16;
  so : take l.k l.sizes ≡ take l.k (map (λ c. c.size) l.columns);
}
