use Rattle.far_frame.proofs.TableRows.{run-rows}
use Rattle.far_frame.proofs.laws.table_rows_are_those_of_the_plain_list.Goals as goal

pub returns : goal.returns
returns c = run-rows
