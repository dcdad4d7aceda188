use Rattle.std.proofs.Common.{◌≡◌, ◌∙◌, vec_len, rules}
use Rattle.csv.specs.Writing.{default_writer, field_text}
use Rattle.far_script.proofs.PrintingLaws.{quoted-row, without-end}
use Rattle.far_script.proofs.page.Page.quoted_field.Goals as goal

pub returns : goal.returns
returns c = record {
  ok =
      let row = c.in_ok-text.ensures.row ∙ quoted-row c.args.field.now c.requires in
      let same : c.as_slice.result.now ≡ field_text default_writer c.args.field.now =
      c.as_slice.ensures.value ∙ without-end c.in_ok-text.text.items _ _ (vec_len c.in_ok-text.text) row (search rules) c.pop-end.ensures.rest in
      rw same at c.bytes.ensures.ok;
}
