-- Columns after a value is appended to each.
use Rattle.std.proofs.Common.{◌≡◌, ℕ, ◌+◌, List, [], ◌∷◌, length, refl, arith}
use Rattle.std.specs.Prelude.{ℤ, Option, All}
use Rattle.std.proofs.lemmas.List.Elements.{All-nil, All-cons, All-head, All-tail}
use Rattle.far_columns.specs.Vector.{Vector}
use Rattle.far_columns.specs.Effects.{after_push as number_pushed}
use Rattle.far_texts.specs.Texts.{Texts}
use Rattle.far_texts.specs.Effects.{after_push as text_pushed}
use Rattle.far_columns.specs.NumbersTogether.{NumberColumns, after_push_all as all_numbers_pushed}
use Rattle.far_texts.specs.Together.{after_push_all as all_texts_pushed}

pub as-many-numbers : (n : ℕ) (columns : NumberColumns) → length (all_numbers_pushed n columns) ≡ length columns
as-many-numbers n [] = refl
as-many-numbers n (c ∷ columns) = let rest = as-many-numbers (n + 1) columns in omega (arith, rest)

pub as-many-texts : (n : ℕ) (columns : List Texts) → length (all_texts_pushed n columns) ≡ length columns
as-many-texts n [] = refl
as-many-texts n (c ∷ columns) = let rest = as-many-texts (n + 1) columns in omega (arith, rest)

-- a property of each column after a value is appended to it
pub all-numbers : (P Q : Vector (Option ℤ) → Type 0) → ((c : Vector (Option ℤ)) (o : ℕ) → P c → Q (number_pushed c o)) → (n : ℕ) (columns : NumberColumns) → All P columns → All Q (all_numbers_pushed n columns)
all-numbers P Q each n [] all = All-nil Q
all-numbers P Q each n (c ∷ columns) all =
    All-cons Q (number_pushed c n) (all_numbers_pushed (n + 1) columns) (each c n (All-head P c columns all)) (all-numbers P Q each (n + 1) columns (All-tail P c columns all))

pub all-texts : (P Q : Texts → Type 0) → ((c : Texts) (o : ℕ) → P c → Q (text_pushed c o)) → (n : ℕ) (columns : List Texts) → All P columns → All Q (all_texts_pushed n columns)
all-texts P Q each n [] all = All-nil Q
all-texts P Q each n (c ∷ columns) all =
    All-cons Q (text_pushed c n) (all_texts_pushed (n + 1) columns) (each c n (All-head P c columns all)) (all-texts P Q each (n + 1) columns (All-tail P c columns all))
