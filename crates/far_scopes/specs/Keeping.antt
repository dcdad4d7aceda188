-- What calls keep.
use Rattle.std.specs.Prelude.{◌≡◌, ℕ, List, length}
use Rattle.far_scopes.specs.Movement.{Movement, list_of, AreClean, AreHere, ChangesObject}
use Rattle.far_scopes.specs.Effects.{after_write, after_overwrite}

module _ {X K : Type 0} (meaning : List ℕ → List X) (content : K → List ℕ)
    (is_of : K → List ℕ → Type 0) where
  -- what every call keeps, accepted or refused: both facts about the copies of objects in a store
  pub record KeepsCopies (old new : Movement X K) : Type 0 where
    -- if each clean object's list was what its ticket means, it still is
    pub clean : AreClean meaning content old → AreClean meaning content new
    -- tickets of a store remain tickets of that store
    pub store : (id : List ℕ) → AreHere is_of id old → AreHere is_of id new

  -- what a call that changes no list keeps, accepted or refused
  pub record KeepsLists (old new : Movement X K) : Type 0 where
    -- each object, local or away, has the same list
    pub lists : (p : ℕ) → list_of meaning content new p ≡ list_of meaning content old p
    -- both facts about the copies of objects in a store
    pub copies : KeepsCopies old new

  -- what a mutable borrow of n elements of object o, from index i on, keeps, whatever is written to them
  pub record KeepsWhileLent (old : Movement X K) (o i n : ℕ) : Type 0 where
    -- if each clean object's list was what its ticket means, it still is
    pub clean : (range : List X) → length range ≡ n → AreClean meaning content old
        → AreClean meaning content (after_overwrite (after_write old o) o i range)
    -- every other object keeps its word and its record
    pub others : (range : List X)
        → ChangesObject old (after_overwrite (after_write old o) o i range) o
    -- tickets of a store remain tickets of that store
    pub store : (range : List X) (id : List ℕ) → AreHere is_of id old
        → AreHere is_of id (after_overwrite (after_write old o) o i range)
