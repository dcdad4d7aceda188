-- Several vectors in the same objects, as the columns of a table are.
use Rattle.std.specs.Prelude.{ℕ, List, Option, All, AllPairs}
use Rattle.far_columns.specs.Vector.{Vector, IsVector, AreDisjoint, IsUntouched}

module _ {X : Type 0} where
  -- each is a vector, and no two have an object in common
  pub record AreVectors (lists : ℕ → Option (List X)) (vectors : List (Vector X)) : Type 0 where
    pub each : All (IsVector lists) vectors
    pub disjoint : AllPairs AreDisjoint vectors

  -- a call changes v to v', and changes no vector that is disjoint from v
  pub record ChangesVector (old new : ℕ → Option (List X)) (v v' : Vector X) : Type 0 where
    pub is : IsVector new v'
    pub others : (w : Vector X) → IsVector old w → AreDisjoint v w → IsUntouched old new v' w
