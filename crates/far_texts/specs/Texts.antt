-- A column of texts in objects, one for each row group: its parts, and its texts.
use Rattle.std.specs.Prelude.{◌≡◌, ◌≢◌, ℕ, min, ◌-◌, ◌*◌, ◌/◌, ◌+◌, ◌≤◌, ◌<◌, ◌^◌, List, [], length, Option, Some, IsSomeAnd, unwrap_or, slice_get, slice_index, AllPairs}
use Rattle.std.specs.List.{flat_map}
use Rattle.far_codec.specs.TextForm.{texts_meaning, IsTextsForm}
use Rattle.far_scopes.specs.Movement.{Movement, list_of}

-- a column: its number, the size of a row group, the limit of a row group's form in bytes, the object of each row group, and the number of
-- texts
pub record Texts : Type 0 where
  pub column : ℕ
  pub size : ℕ
  pub limit : ℕ
  pub objects : List ℕ
  pub len : ℕ

-- the list of each object that has one, by object number
abbrev pub Lists : Type 0
Lists = ℕ → Option (List ℕ)

-- the lists of objects whose elements are the bytes of a far form of texts
abbrev pub lists_of : {K : Type 0} → (K → List ℕ) → Movement ℕ K → Lists
lists_of content m = list_of (λ bytes. bytes) content m

-- the column has one object for each row group that was begun, and its sizes are within their limits
pub record HasGroups (c : Texts) : Type 0 where
  pub some : 0 < c.size
  pub small : c.size ≤ 2 ^ 16
  pub short : c.limit ≤ 2 ^ 24
  pub few : length c.objects ≤ 2 ^ 28
  pub held : c.len ≤ length c.objects * c.size
  pub begun : length c.objects * c.size < c.len + c.size

-- the texts that the list of an object encodes
abbrev pub texts_at : Lists → ℕ → List (Option (List ℕ))
texts_at lists o = texts_meaning (unwrap_or (lists o) [])

-- the texts of a column: the texts of its objects, joined
abbrev pub texts_in : Lists → Texts → List (Option (List ℕ))
texts_in lists c = flat_map (texts_at lists) c.objects

-- the object with a place
abbrev pub object_at : Texts → ℕ → ℕ
object_at c place = slice_index c.objects (place / c.size)

-- how many places of a row group are used
abbrev pub used_in : Texts → ℕ → ℕ
used_in c group = min c.size (c.len - group * c.size)

-- the bytes are the far form of a row group's texts, one for each used place
pub record IsGroupForm (c : Texts) (group : ℕ) (bytes : List ℕ) : Type 0 where
  pub form : IsTextsForm bytes
  pub count : length (texts_meaning bytes) ≡ used_in c group
  pub short : length bytes ≤ c.limit

-- the column's texts are in these lists: each row group has an object of its own, whose list is the form of its texts
pub record IsTextColumn (lists : Lists) (c : Texts) : Type 0 where
  pub once : AllPairs (λ o p. o ≢ p) c.objects
  pub each : (group o : ℕ) → slice_get c.objects group ≡ Some o
      → IsSomeAnd (lists o) (IsGroupForm c group)

-- two columns have no object in common
abbrev pub AreDisjoint : Texts → Texts → Type 0
AreDisjoint c d = (group other o : ℕ)
    → slice_get c.objects group ≡ Some o → slice_get d.objects other ≢ Some o

-- every column that has no object in common with c remains a column and keeps its texts
pub record KeepsOthers (old new : Lists) (c : Texts) : Type 0 where
  pub columns : (d : Texts) → IsTextColumn old d → AreDisjoint c d → IsTextColumn new d
  pub texts : (d : Texts) → IsTextColumn old d → AreDisjoint c d
      → texts_in new d ≡ texts_in old d
