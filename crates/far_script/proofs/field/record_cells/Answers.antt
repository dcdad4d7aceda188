use Rattle.std.proofs.Common.{arith, rules, sym}
use Rattle.csv.specs.Records.{fields_of}
use Rattle.far_script.proofs.FieldsLaws.{fields-go-on, has-field_at}
use Rattle.far_script.proofs.field.record_cells.Goals as goal
use Rattle.far_script.proofs.field.record_cells.Goals.{in-Some+in_ok-cell+in_ok-push, in_default}

pub loop-i-preserved : goal.loop-i-preserved
loop-i-preserved c = elim c.match-get.branch [
  | in-Some+in_ok-cell+in_ok-push w ↦
      rw w.cells-is (fields-go-on _ _ c.loop-i.i (fields_of c.args.fields.now) _ w.in-Some.field.now _ _ _
      (sym w.in-Some.ensures.value) w.in_ok-cell.ensures.cell (search rules) w.in_ok-push.ensures.items c.loop-i.invariant)
  | in_default w ↦ absurd (has-field_at (fields_of c.args.fields.now) c.loop-i.i (grind (arith, c.len-i-end.ensures, c.loop-i-test.true)) (sym w.in_default.ensures.value))
]
