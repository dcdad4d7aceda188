use Rattle.std.proofs.Common.{Some, sym, ap, ◌∙◌}
use Rattle.far_extrema.specs.Live.{all_groups}
use Rattle.far_aggregates.proofs.LinesLaws.{range-there, range-none}
use Rattle.far_aggregates.proofs.readings.extrema_line.Goals as goal

pub returns-in-Some : goal.returns-in-Some
returns-in-Some c = ap Some c.of_extrema.ensures ∙ range-there (all_groups c.args.live.now.groups) c.args.key.now c.in-Some.found (sym c.in-Some.ensures)

pub returns-in-None : goal.returns-in-None
returns-in-None c = range-none (all_groups c.args.live.now.groups) c.args.key.now (sym c.in-None.ensures)
