use Rattle.std.proofs.Common.{[], ◌∷◌, None, Some}
use Rattle.std.specs.Prelude.{pos, negsuc, codes}
use Rattle.far_types.specs.declared.spec.Fold.TheVariants as fold
use Rattle.far_types.specs.declared.filter.Op.TheVariants as op
use Rattle.far_types.specs.declared.filter.Test.TheVariants as test
use Rattle.far_types.specs.Examples.{of_column, row, a, b, some_missing}
use Rattle.far_types.proofs.AnswersComputation.{answer_over-computed}
use Rattle.far_types.proofs.laws.worked_answers.Goals as goal

pub returns : goal.returns
returns c = record {
  over_no_rows = (answer_over-computed (of_column fold.Totals None []) [], answer_over-computed (of_column fold.Extrema None []) [], answer_over-computed (of_column fold.Totals (Some 1) []) []);
  totals_by_key = (
    answer_over-computed (of_column fold.Totals (Some 1) []) (row (pos 5) a ∷ row (pos 7) b ∷ row (pos 5) a ∷ []),
    answer_over-computed (of_column fold.Totals (Some 1) []) (row (pos 5) a ∷ row (pos 5) a ∷ []),
  );
  exact_sum = answer_over-computed (of_column fold.Totals None []) (row (negsuc 9223372036854775807) a ∷ row (negsuc 9223372036854775807) a ∷ []);
  least_and_greatest = (
    answer_over-computed (of_column fold.Extrema None []) (row (pos 3) a ∷ row (pos 3) a ∷ row (pos 9) a ∷ []),
    answer_over-computed (of_column fold.Extrema None []) (row (pos 3) a ∷ row (pos 9) a ∷ []),
    answer_over-computed (of_column fold.Extrema None []) (row (pos 9) a ∷ []),
  );
  filtered = answer_over-computed (of_column fold.Extrema (Some 1) (test.Int 0 op.Gt (pos 4) ∷ test.TextBegins 1 a ∷ []))
      (row (pos 5) (codes "ab") ∷ row (pos 4) (codes "ab") ∷ row (pos 9) b ∷ row (pos 8) (codes "ab") ∷ []);
  with_missing = (
    answer_over-computed (of_column fold.Totals (Some 1) []) some_missing,
    answer_over-computed (of_column fold.Totals None (test.Int 0 op.Ne (pos 9) ∷ [])) some_missing,
  );
}
