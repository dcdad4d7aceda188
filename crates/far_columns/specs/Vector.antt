-- A list of elements that is stored in objects, one object for each row group.
use Rattle.std.specs.Prelude.{◌≡◌, ◌≢◌, ℕ, ◌+◌, ◌-◌, ◌*◌, ◌/◌, ◌<◌, ◌≤◌, ◌^◌, ◌++◌, List, length, drop, take, replicate, Option, [], unwrap_or, IsSomeAnd, All, AllPairs, slice_index}
use Rattle.std.specs.List.{flat_map}
use Rattle.far_types.specs.Table.{in_group}

-- a vector: the column that names its objects, the size of a row group, the objects of row groups 0, 1, 2 and so on, the number of
-- elements, and the default value of unused places
pub record Vector (X : Type 0) : Type 0 where
  pub column : ℕ
  pub size : ℕ
  pub objects : List ℕ
  pub len : ℕ
  pub default_value : X

module _ {X : Type 0} where
  -- the vector has one object for each row group with an element, in the order in which they were made
  pub record IsShaped (v : Vector X) : Type 0 where
    pub some : 0 < v.size
    pub short : v.size < 2 ^ 32
    pub few : length v.objects ≤ 2 ^ 28
    pub sorted : AllPairs (λ o p. o < p) v.objects
    pub enough : v.len ≤ length v.objects * v.size
    pub needed : length v.objects * v.size < v.len + v.size

  -- the list for the next row group has the size of a row group, and all but its first element have the default value
  pub record IsLayout (v : Vector X) (next : List X) : Type 0 where
    pub shaped : IsShaped v
    pub long : length next ≡ v.size
    pub default_value : drop 1 next ≡ replicate (v.size - 1) v.default_value

  -- the number of the object with place i
  abbrev pub object_at : Vector X → ℕ → ℕ
  object_at v i = slice_index v.objects (i / v.size)

  -- the list of row group g's object: the elements of its places, then the default value for each unused place
  abbrev pub group_list : Vector X → List X → ℕ → List X
  group_list v elements g =
      let used : List X = in_group v.size g elements
      in used ++ replicate (v.size - length used) v.default_value

  -- no object is in both vectors
  abbrev pub AreDisjoint : Vector X → Vector X → Type 0
  AreDisjoint v w = All (λ o. All (λ p. o ≢ p) w.objects) v.objects

  -- every object except o keeps its list
  abbrev pub KeepsOthers : (ℕ → Option (List X)) → (ℕ → Option (List X)) → ℕ
      → Type 0
  KeepsOthers old new o = (p : ℕ) → p ≢ o → new p ≡ old p

  module _ (lists : ℕ → Option (List X)) where
    -- the values of all places in some objects, used or not, in order
    abbrev pub places : List ℕ → List X
    places objects = flat_map (λ o. unwrap_or (lists o) []) objects

    -- the elements of a vector
    abbrev pub elements : Vector X → List X
    elements v = take v.len (places v.objects)

    -- each object of a vector has a list of a row group's size, and unused places have the default value
    pub record IsVector (v : Vector X) : Type 0 where
      pub whole : All (λ o. IsSomeAnd (lists o) (λ list. length list ≡ v.size)) v.objects
      pub unused : drop v.len (places v.objects)
          ≡ replicate (length v.objects * v.size - v.len) v.default_value

  -- a range is written over the places of a vector from the i-th on, and each of its objects' lists has a row group's size
  pub record WritesPlaces (old new : ℕ → Option (List X)) (v : Vector X) (i : ℕ)
      (range : List X) : Type 0 where
    pub whole : All (λ o. IsSomeAnd (new o) (λ list. length list ≡ v.size)) v.objects
    pub places : places new v.objects
        ≡ take i (places old v.objects)
        ++ (range ++ drop (i + length range) (places old v.objects))

  -- after a call on another vector, which is now v, the vector w keeps its elements and shares no object with v
  pub record IsUntouched (old new : ℕ → Option (List X)) (v w : Vector X) : Type 0 where
    pub is : IsVector new w
    pub elements : elements new w ≡ elements old w
    pub disjoint : AreDisjoint v w
