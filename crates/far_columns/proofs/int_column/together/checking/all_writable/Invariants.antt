use Rattle.std.proofs.Common.{◌≡◌, take}
use Rattle.std.specs.Prelude.{drop, All, None}
use Rattle.far_columns.specs.Refusing.{push_refusal}
use Rattle.far_columns.specs.NumbersTogether.{some_written_out}
use Rattle.far_columns.proofs.int_column.together.checking.all_writable.Given as goal

abbrev pub invariant-loop-column : goal.invariant-loop-column
invariant-loop-column g l = record {
  rest : (some_written_out l.objects l.columns).0 ≡ (some_written_out l.objects (drop l.column-index l.columns)).0;
  free : All (λ c. push_refusal l.objects c ≡ None) (take l.column-index l.columns);
}
