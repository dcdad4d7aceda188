-- Borrowed texts of a part of a column.
use Rattle.std.specs.Prelude.{◌≡◌, ℕ, ◌+◌, ◌-◌, ◌*◌, ◌/◌, ◌≤◌, ◌<◌, nat_lt, ◌||◌, if◌then◌else◌, List, [], ◌∷◌, length, Option, None, Some, slice_index, slice_range}
use Rattle.std.specs.Option.{option_or}
use Rattle.far_types.specs.declared.refusal.Refusal.{Refusal}
use Rattle.far_types.specs.declared.refusal.Refusal.TheVariants as refusal
use Rattle.far_types.specs.FirstOf.{first_of}
use Rattle.far_scopes.specs.Movement.{Movement}
use Rattle.far_scopes.specs.Refusing.{first_absent}
use Rattle.far_texts.specs.Texts.{Texts, Lists, HasGroups, lists_of, IsTextColumn, IsGroupForm}
use Rattle.far_texts.specs.Refusing.{text_refusal}

-- the objects of the row groups with places of the part; an empty part has none
abbrev pub overlapped_objects : Texts → ℕ → ℕ → List ℕ
overlapped_objects c from to =
    if nat_lt from to
    then slice_range c.objects (from / c.size) ((to - 1) / c.size + 1)
    else []

-- why lending the texts of a part is refused (`texts`)
abbrev pub texts_refusal : {K : Type 0} → Movement ℕ K → Texts → ℕ → ℕ
    → Option Refusal
texts_refusal m c from to =
    option_or
    (first_of ((nat_lt c.len to || nat_lt to from, refusal.OutOfRange) ∷ []))
    (first_absent m (overlapped_objects c from to))

-- the texts of `count` places from this one on exist, and their objects are local
pub record AreLent {K : Type 0} (content : K → List ℕ) (m : Movement ℕ K)
    (c : Texts) (place count : ℕ) : Type 0 where
  pub is : IsTextColumn (lists_of content m) c
  pub groups : HasGroups c
  pub within : place + count ≤ c.len
  pub here : (p : ℕ) → place ≤ p → p < place + count → text_refusal content m c p ≡ None

-- internal: a place, and the row group that contains it or ends before it, with its form. The index counts from that row group's beginning
pub record IsCursor (lists : Lists) (c : Texts)
    (place group index : ℕ) (form : List ℕ) : Type 0 where
  pub begun : group < length c.objects
  pub at : place ≡ group * c.size + index
  pub within : index ≤ c.size
  pub lent : lists (slice_index c.objects group) ≡ Some form
  pub is : IsGroupForm c group form

-- internal: the texts may be lent, and a cursor is at the first of them, if there is one
pub record AreRead {K : Type 0} (content : K → List ℕ) (m : Movement ℕ K)
    (c : Texts) (place count group index : ℕ) (form : List ℕ) : Type 0 where
  pub lent : AreLent content m c place count
  pub cursor : 0 < count → IsCursor (lists_of content m) c place group index form
