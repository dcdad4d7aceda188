use Rattle.std.proofs.Common.{◌≡◌, sym, ap, ◌∙◌, option_map, Some, to_z, of_z, w64, rules, arith}
use Rattle.far_types.specs.declared.cell.Kind.TheVariants as kind
use Rattle.far_script.specs.Fields.{cell_of, only_field}
use Rattle.far_script.proofs.FieldsLaws.{empty-record, plain-record}
use Rattle.far_script.proofs.NumbersFields.{lone-number}
use Rattle.far_script.proofs.PartLaws.{one-part}
use Rattle.far_script.specs.OneRecord.{is_comma}
use Rattle.far_script.proofs.field.lone_cell.Goals as goal

pub returns-then-is_empty : goal.returns-then-is_empty
returns-then-is_empty c = record { cell = sym (ap (λ fields. option_map (cell_of c.args.column) (only_field fields)) (empty-record c.args.text.now (sym c.if-is_empty.ensures))) }

pub returns-then-not-has_comma : goal.returns-then-not-has_comma
returns-then-not-has_comma c =
    let found = plain-record c.args.text.now (sym c.if-is_empty.ensures) (sym c.if-is_plain.ensures) in
    let has = c.if-not-has_comma.ensures in
    let one = one-part is_comma c.args.text.now (grind (arith, has, c.as_bytes.ensures.value)) in
    record {
      cell = ap (λ cell. Some cell) c.in_ok-cell.ensures.cell
          ∙ sym (ap (λ fields. option_map (cell_of c.args.column) (only_field fields)) (found ∙ ap (λ fields. Some fields) one));
    }

pub returns-in-Some : goal.returns-in-Some
returns-in-Some c =
    let made = lone-number c.args.text.now c.in-Some.number (sym c.signed_number.ensures ∙ c.in-Some.is) in
    let back : to_z w64 (of_z w64 c.in-Some.number) ≡ c.in-Some.number = search rules in
    let column : c.args.column ≡ Some kind.Int = search rules in
    record { cell = rw (back, column) (sym made) }
