use Rattle.std.proofs.Common.{◌≡◌, sym, subst}
use Rattle.std.specs.Prelude.{AllPairs}
use Rattle.far_columns.proofs.NumbersUndo.{same_length-undone}
use Rattle.far_columns.proofs.int_column.together.unpush_numbers.Goals as goal

pub returns-clause-are : goal.returns-clause-are
returns-clause-are g c = record {
  all_disjoint = c.unbegin_groups.ensures.all_disjoint;
  same_length = subst (AllPairs (λ c d. (c.size ≡ d.size) × (c.len ≡ d.len))) (sym c.unbegin_groups.ensures.unpushed) (same_length-undone c.args.columns.now c.requires.are.same_length);
}
