use Rattle.std.proofs.Common.{sym, ap, ◌∙◌, option_map, Some, arith}
use Rattle.csv.specs.Records.{fields_of}
use Rattle.far_script.specs.Fields.{cell_of}
use Rattle.far_script.proofs.FieldsLaws.{only-field, has-field_at}
use Rattle.far_script.proofs.field.lone_record_cell.Goals as goal

pub returns-in_ok-cell-in-Some : goal.returns-in_ok-cell-in-Some
returns-in_ok-cell-in-Some c =
    let one = only-field (fields_of c.args.fields.now) c.in-Some.field.now (sym c.len.ensures ∙ c.if-len-ne1.false) (sym c.in-Some.ensures.value) in
    record { cell = ap (λ cell. Some cell) c.in_ok-cell-in-Some.ensures.cell ∙ sym (ap (option_map (cell_of c.args.column)) one) }

pub returns-in-None : goal.returns-in-None
returns-in-None c = absurd (has-field_at (fields_of c.args.fields.now) 0 (grind (arith, c.len.ensures, c.if-len-ne1.false)) (sym c.in-None.ensures.value))
