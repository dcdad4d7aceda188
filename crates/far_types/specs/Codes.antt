-- Codes of keys, totals and extrema, which distinguish the values of a model.
use Rattle.std.specs.Prelude.{◌≡◌, ℕ, ℤ, List, refl, ◌⊎◌}
use Rattle.std.proofs.Common.{inl, inr}
use Rattle.std.specs.Coded.{Coded, code_by, coded×, coded⊎, coded_ℕ, coded_ℤ, coded_option, coded_list}
use Rattle.std.specs.FinMap as fin
use Rattle.far_types.specs.declared.key.Key.{Key}
use Rattle.far_types.specs.declared.key.Key.TheVariants as key
use Rattle.far_types.specs.Answers.{Totals, Extrema}

-- a key as a number or a text
abbrev pub of_key : Key → ℤ ⊎ List ℕ
of_key (key.Int number) = inl number
of_key (key.Text text) = inr text

-- the key of a number or a text
abbrev pub to_key : ℤ ⊎ List ℕ → Key
to_key (inl number) = key.Int number
to_key (inr text) = key.Text text

-- the key of a key's number or text is the key itself
pub back_to_key : (k : Key) → to_key (of_key k) ≡ k
back_to_key (key.Int number) = refl
back_to_key (key.Text text) = refl

-- the code of keys
abbrev pub coded_key : Coded Key
coded_key = code_by (ℤ ⊎ List ℕ) (coded⊎ coded_ℤ (coded_list coded_ℕ))
    of_key to_key back_to_key

-- the code of totals
abbrev pub coded_totals : Coded Totals
coded_totals = fin.code (coded_option coded_key) (coded× coded_ℕ coded_ℤ)

-- the code of extrema
abbrev pub coded_extrema : Coded Extrema
coded_extrema = fin.code (coded_option coded_key) (coded× coded_ℤ coded_ℤ)
