use Rattle.std.proofs.Common.{sym, ap, ◌∙◌, option_map, Some}
use Rattle.far_script.specs.Fields.{cells_from}
use Rattle.far_script.proofs.FieldsLaws.{empty-record, plain-record}
use Rattle.far_script.proofs.field.row.Goals as goal

pub returns-then-is_empty : goal.returns-then-is_empty
returns-then-is_empty c = record { row = sym (ap (option_map (cells_from c.args.kinds.now 0)) (empty-record c.args.text.now (sym c.if-is_empty.ensures))) }

pub returns-then-is_plain : goal.returns-then-is_plain
returns-then-is_plain c =
    let found = plain-record c.args.text.now (sym c.if-is_empty.ensures) (sym c.if-is_plain.ensures) in
    record { row = ap (λ cells. Some cells) (c.new.ensures ∙ c.in_ok-cells_in.ensures.cells) ∙ sym (ap (option_map (cells_from c.args.kinds.now 0)) found) }
