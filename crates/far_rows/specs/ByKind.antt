-- Why appending a row is refused, tested kind by kind.
-- Internal: no public contract cites it.
use Rattle.std.specs.Prelude.{ℕ, ◌/◌, List, length, Option}
use Rattle.std.specs.Option.{option_or}
use Rattle.far_types.specs.declared.refusal.Refusal.{Refusal}
use Rattle.far_types.specs.FirstOf.{first_of}
use Rattle.far_columns.specs.NumbersTogether.{push_numbers_refusal}
use Rattle.far_texts.specs.RefusingTogether.{push_texts_refusal}
use Rattle.far_rows.specs.ColumnIndexes.{Values}
use Rattle.far_rows.specs.Rows.{Rows}
use Rattle.far_rows.specs.Refusing.{absents}

-- why appending a row is refused: an object of its row group is away, or else the text columns refuse, or else the number columns do
abbrev pub kinds_refusal : {K : Type 0} → (K → List ℕ) → Rows K → Values
    → Option Refusal
kinds_refusal content r values =
    option_or (first_of (absents r (length r.alive / r.size)))
    (option_or (push_texts_refusal content r.text_objects r.texts values.texts)
    (push_numbers_refusal r.number_objects r.numbers))
