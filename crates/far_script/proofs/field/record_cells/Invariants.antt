use Rattle.std.proofs.Common.{◌≡◌, ◌++◌, drop}
use Rattle.csv.specs.Records.{fields_of}
use Rattle.far_script.specs.Fields.{cells_from}
use Rattle.far_script.proofs.field.record_cells.Given as goal

abbrev pub invariant-loop-i : goal.invariant-loop-i
invariant-loop-i l = l.cells.items ++ cells_from l.kinds l.i (drop l.i (fields_of l.fields)) ≡ cells_from l.kinds 0 (fields_of l.fields)
