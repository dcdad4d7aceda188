use Rattle.std.proofs.Common.{◌≡◌, ◌≤◌, replicate, vec_len, vec_capacity}
use Rattle.far_columns.proofs.vector.default_values.Given as goal

abbrev pub invariant-loop : goal.invariant-loop
invariant-loop g l = record {
  default_value : l.list.items ≡ replicate l.counter l.default_value;
  long : vec_len l.list ≡ l.counter;
  space : l.count ≤ vec_capacity l.list;
}
