-- Kinds between commas.
use Rattle.std.proofs.Common.{◌≡◌, ◌<◌, ℕ, List, [], ◌∷◌, ◌++◌, Option, None, option_map, length, ◌∙◌, refl, sym, ap}
use Rattle.std.specs.List.{slice_split, position_or_len, before_first, after_first}
use Rattle.std.proofs.lemmas.List.Splits.{slice_split_first}
use Rattle.far_types.specs.declared.cell.Kind.{Kind}
use Rattle.far_script.specs.OneRecord.{is_comma}
use Rattle.far_script.specs.Openings.{kind_named, kinds_named}
use Rattle.far_script.proofs.PartLaws.{last-part}

-- if a name is not a kind, the word names no kinds
no-kind : (before : List Kind) (name : List ℕ) (names : List (List ℕ)) → kind_named name ≡ None → option_map (λ more. before ++ more) (kinds_named (name ∷ names)) ≡ None
no-kind before name names h = rw h refl

pub no-kind-first : (before : List Kind) (rest name : List ℕ) (whole : Option (List Kind))
    → (position_or_len is_comma rest < length rest) × (name ≡ before_first is_comma rest)
    → None ≡ kind_named name
    → option_map (λ more. before ++ more) (kinds_named (slice_split is_comma rest)) ≡ whole → None ≡ whole
no-kind-first before rest name whole found h e =
    sym (no-kind before (before_first is_comma rest) (slice_split is_comma (after_first is_comma rest)) (rw found.1 at (sym h)))
    ∙ sym (ap (λ (names : List (List ℕ)). option_map (λ more. before ++ more) (kinds_named names)) (slice_split_first is_comma rest 0 found.0))
    ∙ e

pub no-kind-last : (before : List Kind) (rest : List ℕ) (whole : Option (List Kind)) → position_or_len is_comma rest ≡ length rest
    → None ≡ kind_named rest
    → option_map (λ more. before ++ more) (kinds_named (slice_split is_comma rest)) ≡ whole → None ≡ whole
no-kind-last before rest whole found h e =
    sym (no-kind before rest [] (sym h))
    ∙ sym (ap (λ (names : List (List ℕ)). option_map (λ more. before ++ more) (kinds_named names)) (last-part is_comma rest found))
    ∙ e
