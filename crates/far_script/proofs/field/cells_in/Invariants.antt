use Rattle.std.proofs.Common.{◌≡◌, ◌≤◌, ◌++◌, take, vec_len}
use denote.Shadow.{shadow}
use denote.Text.{Utf8}
use Rattle.std.specs.List.{slice_split}
use Rattle.far_script.specs.OneRecord.{is_comma}
use Rattle.far_script.specs.Fields.{cells_from}
use Rattle.far_script.proofs.FieldsLaws.{cells-left, length-left}
use Rattle.far_script.proofs.field.cells_in.Given as goal

abbrev pub invariant-loop-more : goal.invariant-loop-more
invariant-loop-more l = record {
  text : shadow (Utf8 l.rest);
  there : l.count ≤ vec_len l.cells;
  cells : take l.count l.cells.items ++ cells-left l.kinds l.count l.more l.rest ≡ cells_from l.kinds 0 (slice_split is_comma l.text);
}

abbrev pub decreases-loop-more : goal.decreases-loop-more
decreases-loop-more l = length-left l.more l.rest
