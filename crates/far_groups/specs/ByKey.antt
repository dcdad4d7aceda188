-- Counts and sums by key: under no key alone, in a list by small number, in a tree of numbers, of texts, or of keys.
use Rattle.std.specs.Prelude.{ℕ, ℤ, [], ◌∷◌, Option, None, IsSome}
use Rattle.far_types.specs.declared.key.Key.{Key}
use Rattle.far_types.specs.Answers.{Totals}
use Rattle.far_groups.specs.declared.by_key.ByKey.{ByKey}
use Rattle.far_groups.specs.declared.by_key.Form.{Form}
use Rattle.far_groups.specs.declared.by_key.Form.TheVariants.{Plain, Dense, Numbered, Texts, Keyed}
use Rattle.far_groups.specs.CountSums.{totals_of}
use Rattle.far_groups.specs.KeyTree.{by_number, by_text}
use Rattle.far_groups.specs.Dense.{by_place}

-- a count and a sum under no key
abbrev pub plain_totals : ℕ × ℤ → Totals
plain_totals count_sum = totals_of ((None, count_sum) ∷ [])

-- the totals of a form
abbrev pub in_form : Form → Totals
in_form (Plain count_sum) = plain_totals count_sum
in_form (Dense dense) = by_place dense.items
in_form (Numbered numbers) = by_number numbers.entries
in_form (Texts texts) = by_text texts.entries
in_form (Keyed keys) = totals_of keys.entries

-- the totals of counts and sums by key
abbrev pub totals_in : ByKey → Totals
totals_in by_key = in_form by_key.form

-- whether a count and a sum under a key may need another form; a form without keys needs one only for an actual key
abbrev pub MayBeElsewhere : Form → Option Key → Type 0
MayBeElsewhere (Plain count_sum) key = IsSome key
MayBeElsewhere (Dense dense) key = Unit {0}
MayBeElsewhere (Numbered numbers) key = Unit {0}
MayBeElsewhere (Texts texts) key = Unit {0}
MayBeElsewhere (Keyed keys) key = Unit {0}
