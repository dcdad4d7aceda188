use Rattle.std.proofs.Common.{◌≡◌, ◌++◌, ◌∷◌, [], ◌<◌, ◌∙◌, ℕ, Bool, List, Option, length, map, ap, sym, arith, false}
use Rattle.std.specs.Prelude.{option_copied}
use Rattle.csv.specs.Writing.{default_writer, fields_text}
use Rattle.far_types.specs.Lent.{text_cell}
use Rattle.far_commands.specs.Listings.{cell_text, field_in_record, row_line}
use Rattle.far_commands.proofs.PiecesLending.{row-more}
use Rattle.far_commands.proofs.PiecesLaws.{row-empty}
use Rattle.far_commands.proofs.lending.text_row.Goals as goal

pub returns-in_default : goal.returns-in_default
returns-in_default g c = record {
  ok =
      let none : length c.args.texts.now < 1 = rw c.in_default.ensures.none.0 (omega arith) in
      rw (row-empty (λ (it : Option (List ℕ) × Bool). text_cell it.0) c.args.texts.now none) c.text.ensures.ok;
}

pub returns : goal.returns
returns g c = record {
  ok =
      let page = c.args.page.now in
      let first = text_cell (option_copied c.in-Some.first.text) in
      let second = text_cell (option_copied c.in-Some-next.second.text) in
      let rest = map (λ (it : Option (List ℕ) × Bool). text_cell it.0) c.next-2.new.self in
      let printed : c.more_texts.new.page ++ 10 ∷ [] ≡ page ++ row_line (map (λ (it : Option (List ℕ) × Bool). text_cell it.0) c.args.texts.now) =
      ap (λ (t : List ℕ). t ++ 10 ∷ []) (c.in_ok-more_texts.ensures.ok
      ∙ ap (λ (t : List ℕ). t ++ fields_text default_writer (map cell_text rest)) (c.in_ok-two_fields.ensures.ok
      ∙ (λ i. ((page ++ field_in_record false (cell_text (c.of_text-2.ensures i))) ++ 44 ∷ []) ++ field_in_record false (cell_text (c.of_text-3.ensures i)))))
      ∙ row-more page first second rest
      ∙ sym (ap (λ (texts : List (Option (List ℕ) × Bool)). page ++ row_line (map (λ it. text_cell it.0) texts)) (c.in-Some.ensures.first ∙ ap (λ texts. (option_copied c.in-Some.first.text, c.in-Some.first.alive) ∷ texts) c.in-Some-next.ensures.first)) in
      rw (sym printed) c.text-2.ensures.ok;
}
