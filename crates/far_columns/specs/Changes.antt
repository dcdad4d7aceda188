-- What calls on a vector do to it and to the objects, and what they leave alone.
use Rattle.std.specs.Prelude.{◌≡◌, ℕ, List, [], ◌∷◌, ◌++◌, length, take, drop, None, true}
use Rattle.far_log.specs.RegionState.{spaces_of, fit_in_order}
use Rattle.far_scopes.specs.Movement.{Movement, ChangesObject, AreHere, AreClean, list_of, is_local, pins_of}
use Rattle.far_scopes.specs.Effects.{after_uncreate}
use Rattle.far_columns.specs.Vector.{Vector, KeepsOthers, elements, object_at}
use Rattle.far_columns.specs.Vectors.{ChangesVector}
use Rattle.far_columns.specs.Effects.{is_full, after_push, objects_after_push, after_unpush}
use Rattle.far_columns.specs.Refusing.{push_refusal}

-- the vector v' has just begun a row group, for its last element
pub record BeginsGroup {X K : Type 0} (old new : Movement X K) (v v' : Vector X) : Type 0 where
  -- `unpush` would undo the push
  pub unpushed : after_unpush v' ≡ v
  pub uncreated : after_uncreate new ≡ old
  -- the row group's object is local and has no pin
  pub local : is_local new (length old.records) ≡ true
  pub unpinned : pins_of new (length old.records) ≡ 0
  -- further objects fit now exactly if all of them, with this one as the first, fitted before
  pub next : (lens : List ℕ)
      → fit_in_order (spaces_of old.memory.state) (v.size ∷ lens)
      ≡ fit_in_order (spaces_of new.memory.state) lens

module _ {X K : Type 0} (meaning : List ℕ → List X) (content : K → List ℕ) where
  -- the element x was appended to v, which is now v'
  pub record VectorPushed (old new : Movement X K) (v v' : Vector X) (x : X) : Type 0 where
    pub vector : v' ≡ after_push v (length old.records)
    pub objects : new ≡ objects_after_push old v x
    pub elements : elements (list_of meaning content new) v'
        ≡ elements (list_of meaning content old) v ++ x ∷ []
    pub begun : is_full v ≡ true → BeginsGroup old new v v'
    pub free : push_refusal old v ≡ None

  -- a range was written over the elements `from` up to `to`
  pub record PartWritten (old new : Movement X K) (v : Vector X) (from to : ℕ)
      (range : List X) : Type 0 where
    pub elements : elements (list_of meaning content new) v
        ≡ take from (elements (list_of meaning content old) v)
        ++ (range ++ drop to (elements (list_of meaning content old) v))
    pub vector : ChangesVector (list_of meaning content old) (list_of meaning content new) v v
    pub lists : KeepsOthers (list_of meaning content old) (list_of meaning content new)
        (object_at v from)
    pub clean : AreClean meaning content old → AreClean meaning content new

  module _ (is_of : K → List ℕ → Type 0) (old new : Movement X K) where
    -- a call keeps both facts about the copies of objects in a store
    pub record KeepsCopies : Type 0 where
      -- if each clean object's list was what its ticket means, it still is
      pub clean : AreClean meaning content old → AreClean meaning content new
      -- tickets of a store remain tickets of that store
      pub store : (id : List ℕ) → AreHere is_of id old → AreHere is_of id new

    -- a call that changes object o leaves alone the lists, the words and the records of all others
    pub record ChangesOnly (o : ℕ) : Type 0 where
      pub lists : KeepsOthers (list_of meaning content old) (list_of meaning content new) o
      pub others : ChangesObject old new o
      pub copies : KeepsCopies
