-- For each key the min-maxes of the row groups in which it occurs, and the extrema of row groups that result from them.
-- Internal: no public contract cites it.
use Rattle.std.specs.Prelude.{◌≡◌, ◌≢◌, ◌==◌, ◌≤◌, ◌&&◌, ℕ, zero, suc, ℤ, Bool, true, false, cond, List, [], ◌∷◌, ◌++◌, Option, None, Some, option_map, refl}
use Rattle.std.specs.Coded.{Coded, code_by, coded×, coded_ℕ, coded_ℤ, coded_list, coded_option, coded_bool}
use Rattle.std.specs.List.{filter_map}
use Rattle.std.specs.Ordering.{eq_by_cmp}
use Rattle.std.specs.FinMap as fin
use Rattle.far_types.specs.declared.key.Key.{Key}
use Rattle.far_types.specs.Keys.{line_cmp}
use Rattle.far_types.specs.Codes.{coded_key}
use Rattle.far_types.specs.Answers.{ByKey, Extrema}
use Rattle.far_types.specs.Effects.{min_max_with}
use Rattle.far_extrema.specs.Spreads.{MinMaxes, at, joined_to, IsTopOf, IsSet}

-- the holding of a key: the min-maxes of the row groups in which it occurs, their joined min-max, and whether it is reserved for one more
pub record Holding : Type 0 where
  pub min_maxes : MinMaxes
  pub top : Option (ℤ × ℤ)
  pub reserved : Bool

-- the holding of each key
abbrev pub Holders : Type 0
Holders = ByKey Holding

-- the code of a holding
abbrev pub coded_holding : Coded Holding
coded_holding =
    code_by (MinMaxes × (Option (ℤ × ℤ) × Bool))
    (coded× (coded_list (coded× coded_ℕ (coded× coded_ℤ coded_ℤ)))
    (coded× (coded_option (coded× coded_ℤ coded_ℤ)) coded_bool))
    (λ holding. (holding.min_maxes, (holding.top, holding.reserved)))
    (λ p. record { min_maxes = p.0; top = p.1.0; reserved = p.1.1 })
    (λ _. refl)

-- the code of the holdings of all keys, which tells one value from another
abbrev pub coded_holders : Coded Holders
coded_holders = fin.code (coded_option coded_key) coded_holding

-- the holdings by key, from entries
abbrev pub holders_of : List (Option Key × Holding) → Holders
holders_of entries = fin.from_entries entries

-- the min-max of a row group in the holding of a key, if there is one
abbrev pub min_max_in : Option Holding → ℕ → Option (ℤ × ℤ)
min_max_in None group = None
min_max_in (Some holding) group = at holding.min_maxes group

-- the min-max of a key in a row group
abbrev pub min_max_at : Holders → ℕ → Option Key → Option (ℤ × ℤ)
min_max_at holders group key = min_max_in (fin.get holders key) group

-- whether a key has a holding that is reserved
abbrev pub reserved_in : Option Holding → Option (Bool)
reserved_in None = None
reserved_in (Some holding) = cond holding.reserved (Some true) None

-- whether a key is reserved for one more row group
abbrev pub reserved_at : Holders → Option Key → Option (Bool)
reserved_at holders key = reserved_in (fin.get holders key)

-- the map of these keys to their values; a key without a value is left out
abbrev pub picked : {V : Type 0} → (Option Key → Option V) → List (Option Key) → ByKey V
picked f keys = fin.from_entries
    (filter_map (λ key. option_map (λ value. (key, value)) (f key)) keys)

-- the extrema of a row group
abbrev pub group_in : Holders → ℕ → Extrema
group_in holders group = picked (min_max_at holders group) (fin.keys holders)

-- the extrema of the row groups below this number
abbrev pub groups_in : Holders → ℕ → List Extrema
groups_in holders zero = []
groups_in holders (suc n) = groups_in holders n ++ group_in holders n ∷ []

-- the keys that are reserved for one more row group
abbrev pub reserved_keys : Holders → ByKey (Bool)
reserved_keys holders = picked (reserved_at holders) (fin.keys holders)

-- whether no key occurs in a row group from this number on
abbrev pub AreReserved : ℕ → Holders → Type 0
AreReserved count holders = (g : ℕ) → (key : Option Key) → count ≤ g
    → min_max_at holders g key ≡ None

-- whether the kept min-max of an entry is the joined min-max of all its row groups
abbrev pub IsTopped : Option Key × Holding → Type 0
IsTopped entry = IsTopOf entry.1.min_maxes entry.1.top

-- whether this is the joined min-max of a key over all row groups, or none if the key occurs in none
abbrev pub IsTopUnder : Holders → Option Key → Option (ℤ × ℤ) → Type 0
IsTopUnder holders key top = (count : ℕ) → AreReserved count holders
    → joined_to count (λ g. min_max_at holders g key) ≡ top

-- the line of a key in an answer, if it occurs in a row group
abbrev pub line_of : Option Key × Holding → Option (Option Key × ℤ × ℤ)
line_of entry = option_map (λ (top : ℤ × ℤ). (entry.0, top.0, top.1)) entry.1.top

-- whether a key has this min-max in a row group, or none there, and all other min-maxes are unchanged
abbrev pub IsPut : Holders → ℕ → Option Key → Option (ℤ × ℤ) → Holders → Type 0
IsPut old group key min_max new = (g : ℕ) → (q : Option Key)
    → min_max_at new g q
    ≡ cond (g == group && eq_by_cmp line_cmp q key) min_max (min_max_at old g q)

-- whether a value is observed under a key in a row group, and all other min-maxes are unchanged
abbrev pub IsObserved : Holders → ℕ → Option Key → ℤ → Holders → Type 0
IsObserved old group key value new = IsPut old group key
    (Some (min_max_with value (min_max_at old group key))) new

-- whether a key has this value in a row group, and either further values with this min-max or no further values
abbrev pub HasWith : Holders → ℕ → Option Key → ℤ → Option (ℤ × ℤ) → Type 0
HasWith holders group key value left =
    min_max_at holders group key ≡ Some (min_max_with value left)

-- whether a row group has these min-maxes, and all other row groups are unchanged
abbrev pub IsGroup : Holders → ℕ → Extrema → Holders → Type 0
IsGroup old group extrema new = (g : ℕ) → (q : Option Key)
    → min_max_at new g q ≡ cond (g == group) (fin.get extrema q) (min_max_at old g q)

-- whether all min-maxes are unchanged
abbrev pub HaveSameMinMaxes : Holders → Holders → Type 0
HaveSameMinMaxes old new = (g : ℕ) → (q : Option Key)
    → min_max_at new g q ≡ min_max_at old g q

-- whether the same keys are reserved as before
abbrev pub HaveSameReserved : Holders → Holders → Type 0
HaveSameReserved old new = (q : Option Key) → reserved_at new q ≡ reserved_at old q

-- whether the same keys are reserved as before, apart from this key
abbrev pub HaveSameOtherReserved : Holders → Option Key → Holders → Type 0
HaveSameOtherReserved old key new = (q : Option Key) → eq_by_cmp line_cmp q key ≡ false
    → reserved_at new q ≡ reserved_at old q

-- whether each reserved key stays reserved
abbrev pub KeepsReserved : Holders → Holders → Type 0
KeepsReserved old new = (q : Option Key) → reserved_at old q ≢ None
    → reserved_at new q ≢ None

-- whether each key of these extrema is reserved
abbrev pub AreReservedFor : Extrema → Holders → Type 0
AreReservedFor extrema holders = (q : Option Key) → fin.get extrema q ≢ None
    → reserved_at holders q ≢ None

-- whether a row group is removed from a holding; a holding that is not kept has no row group left, and is not reserved
abbrev pub IsCleared : ℕ → Holding → Bool → Holding → Type 0
IsCleared group old kept new = IsSet old.min_maxes group None new.min_maxes
    × (new.reserved ≡ old.reserved)
    × (kept ≡ false → (new.min_maxes ≡ []) × (new.reserved ≡ false))

-- whether a row group is removed from the holding of a key, and the key is reserved as before
abbrev pub AreCleared : ℕ → Option Holding → Option Holding → Type 0
AreCleared group old new =
    ((g : ℕ) → min_max_in new g ≡ cond (g == group) None (min_max_in old g))
    × (reserved_in new ≡ reserved_in old)

-- whether a row group is removed from the holdings of all keys, and the same keys are reserved as before
abbrev pub AreAllCleared : ℕ → Holders → Holders → Type 0
AreAllCleared group old new = (key : Option Key)
    → AreCleared group (fin.get old key) (fin.get new key)

-- whether two holdings have the same min-maxes, and both or neither are reserved; so a vacant holding is like none
abbrev pub AreLike : Option Holding → Option Holding → Type 0
AreLike old new = ((g : ℕ) → min_max_in new g ≡ min_max_in old g)
    × (reserved_in new ≡ reserved_in old)

-- whether the holdings of all keys are alike: no min-max and no reserved key differs
abbrev pub AreAlike : Holders → Holders → Type 0
AreAlike old new = HaveSameMinMaxes old new × HaveSameReserved old new

-- whether a holding, if there is one, has no row group and is not reserved
abbrev pub IsVacant : Option Holding → Type 0
IsVacant None = Unit {0}
IsVacant (Some holding) = (holding.min_maxes ≡ []) × (holding.reserved ≡ false)
