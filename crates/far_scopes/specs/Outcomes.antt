-- What accepted calls do.
use Rattle.std.specs.Prelude.{◌≡◌, ℕ, List, ◌∷◌, length, true, Some}
use Rattle.far_types.specs.declared.name.Name.{Name}
use Rattle.far_log.specs.RegionState.{spaces_of, fit_in_order}
use Rattle.far_scopes.specs.declared.replacement.Replacement.{Replacement}
use Rattle.far_scopes.specs.Memory.{ChangesList}
use Rattle.far_scopes.specs.Movement.{Movement, list_of, is_local, pins_of, ChangesObject}
use Rattle.far_scopes.specs.Replacing.{ChangesLists}
use Rattle.far_scopes.specs.Effects.{after_create, after_uncreate, after_replace, after_replace_all, after_leave, after_arrive}

module _ {X K : Type 0} (meaning : List ℕ → List X) (content : K → List ℕ)
    (old new : Movement X K) where
  -- an object with this name and this list is created; its number is the count of objects before
  pub record IsCreated (name : Name) (items : List X) : Type 0 where
    -- the new state
    pub state : new ≡ after_create old name items
    -- only the new object's list changes
    pub list : ChangesList (list_of meaning content old) (list_of meaning content new)
        (length old.records) (Some items)
    -- removing the object gives the old state
    pub undone : after_uncreate new ≡ old
    -- the object may be removed: it is local and has no pin
    pub last : (is_local new (length old.records) ≡ true) × (pins_of new (length old.records) ≡ 0)
    -- further lists fit exactly if this list, followed by them, fitted before
    pub next : (lens : List ℕ)
        → fit_in_order (spaces_of old.memory.state) (length items ∷ lens)
        ≡ fit_in_order (spaces_of new.memory.state) lens
    -- every other object keeps its word and its record
    pub others : ChangesObject old new (length old.records)

  -- object o has this new list and counts as written
  pub record IsReplaced (o : ℕ) (items : List X) : Type 0 where
    -- the new state
    pub state : new ≡ after_replace old o items
    -- only this object's list changes
    pub list : ChangesList (list_of meaning content old) (list_of meaning content new) o
        (Some items)
    -- every other object keeps its word and its record
    pub others : ChangesObject old new o

  -- each listed object has its new list and counts as written
  pub record AreReplaced (lists : List (Replacement X)) : Type 0 where
    -- the new state
    pub state : new ≡ after_replace_all old lists
    -- only the listed objects' lists change
    pub each : ChangesLists (list_of meaning content old) (list_of meaning content new) lists
    -- there are as many objects as before
    pub count : length new.records ≡ length old.records

module _ {X K : Type 0} (old new : Movement X K) where
  -- object o is evicted; its newest far copy has this ticket
  pub record IsDeparted (o : ℕ) (ticket : K) : Type 0 where
    -- the new state
    pub state : new ≡ after_leave old o ticket
    -- every other object keeps its word and its record
    pub others : ChangesObject old new o

  -- object o is local again, with this list
  pub record IsArrived (o : ℕ) (items : List X) : Type 0 where
    -- the new state
    pub state : new ≡ after_arrive old o items
    -- every other object keeps its word and its record
    pub others : ChangesObject old new o
