use Rattle.far_types.proofs.AnswersLines.{extrema_lines-ascend, extrema_lines-occur, extrema_lines-least, extrema_lines-greatest}
use Rattle.far_types.proofs.laws.extrema_lines_are_by_key.Goals as goal

pub returns : goal.returns
returns c = record { ascending = extrema_lines-ascend; occurring = extrema_lines-occur; minima = extrema_lines-least; maxima = extrema_lines-greatest }
