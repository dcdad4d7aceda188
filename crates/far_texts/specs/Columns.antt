-- Several columns of texts in the same objects, as the columns of a table are.
use Rattle.std.specs.Prelude.{ℕ, List, All, AllPairs}
use Rattle.far_scopes.specs.Movement.{Movement, AreClean, AreHere}
use Rattle.far_texts.specs.Texts.{Texts, Lists, IsTextColumn, AreDisjoint, KeepsOthers}

-- each is a column, and no two have an object in common
pub record AreTextColumns (lists : Lists) (columns : List Texts) : Type 0 where
  pub each : All (IsTextColumn lists) columns
  pub disjoint : AllPairs AreDisjoint columns

-- a call changes c to c'; every column disjoint from c is unchanged, and is disjoint from c'
pub record ChangesColumn (old new : Lists) (c c' : Texts) : Type 0 where
  pub is : IsTextColumn new c'
  pub others : KeepsOthers old new c
  pub disjoint : (d : Texts) → IsTextColumn old d → AreDisjoint c d → AreDisjoint c' d

-- a call keeps both facts about the copies of objects in a store
pub record KeepsCopies {K : Type 0} (content : K → List ℕ) (is_of : K → List ℕ → Type 0)
    (old new : Movement ℕ K) : Type 0 where
  -- if each clean object was equal to its copy, it still is
  pub clean : AreClean (λ bytes. bytes) content old → AreClean (λ bytes. bytes) content new
  -- tickets of a store remain tickets of that store
  pub store : (id : List ℕ) → AreHere is_of id old → AreHere is_of id new
