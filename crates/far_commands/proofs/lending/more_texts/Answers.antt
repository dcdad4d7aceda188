use Rattle.std.proofs.Common.{◌++◌, ◌∙◌, ℕ, Bool, List, Option, map, ap, sym}
use Rattle.std.specs.Prelude.{option_copied}
use Rattle.csv.specs.Writing.{default_writer, field_text, fields_text}
use Rattle.far_types.specs.Lent.{text_cell}
use Rattle.far_commands.specs.Listings.{cell_text}
use Rattle.far_commands.proofs.PiecesLending.{field-next, fields-none}
use Rattle.far_commands.proofs.lending.more_texts.Goals as goal

pub loop-it-preserved : goal.loop-it-preserved
loop-it-preserved g c =
    let page = c.loop-it.page in
    field-next (text_cell (option_copied c.in-Some.it.text)) (map (λ (it : Option (List ℕ) × Bool). text_cell it.0) c.next.new.self) page c.cell.new.page _
    (c.in_ok-cell.ensures.ok ∙ (λ i. c.in_ok-byte.ensures.ok i ++ field_text default_writer (cell_text (c.of_text.ensures i))))
    (sym (ap (λ (texts : List (Option (List ℕ) × Bool)). page ++ fields_text default_writer (map cell_text (map (λ it. text_cell it.0) texts))) c.in-Some.ensures.first) ∙ c.loop-it.invariant)

pub returns : goal.returns
returns g c = record {
  ok =
      let page = c.loop-it.page in
      fields-none page _ (sym (ap (λ (texts : List (Option (List ℕ) × Bool)). page ++ fields_text default_writer (map cell_text (map (λ it. text_cell it.0) texts))) c.in_default.ensures.none.0) ∙ c.loop-it.invariant);
}
