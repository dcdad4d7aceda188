use Rattle.far_types.proofs.AnswersLines.{total_lines-ascend, total_lines-occur, total_lines-count, total_lines-sum, total_lines-counted, total_lines-bounded}
use Rattle.far_types.proofs.laws.total_lines_are_by_key.Goals as goal

pub returns : goal.returns
returns c = record { ascending = total_lines-ascend; occurring = total_lines-occur; counts = total_lines-count; sums = total_lines-sum; counted = total_lines-counted; bounded = total_lines-bounded }
