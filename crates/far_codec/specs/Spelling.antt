-- When bytes are the spelling of a list: its encoding.
use Rattle.std.specs.Prelude.{◌≡◌, ℕ, List, All}

-- the bytes are the spelling of the list, whose elements are in the range of their type
pub record IsSpelled {X : Type 0} (in_range : X → Type 0) (has_spelling : List X → Type 0)
    (spelling : List X → List ℕ) (list : List X) (bytes : List ℕ) : Type 0 where
  pub range : All in_range list
  pub has : has_spelling list
  pub is : bytes ≡ spelling list
