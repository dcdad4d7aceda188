-- Several columns of numbers, to each of which a number is appended at once.
use Rattle.std.specs.Prelude.{◌≡◌, ℕ, ℤ, ◌+◌, not, if◌then◌else◌, Bool, List, [], ◌∷◌, ◌++◌, map, Option, All, AllPairs}
use Rattle.std.specs.List.{list_all, list_any}
use Rattle.far_types.specs.declared.refusal.Refusal.{Refusal}
use Rattle.far_types.specs.declared.refusal.Refusal.TheVariants as refusal
use Rattle.far_types.specs.FirstOf.{first_of}
use Rattle.far_log.specs.RegionState.{spaces_of, fit_in_order}
use Rattle.far_scopes.specs.Movement.{Movement}
use Rattle.far_scopes.specs.Refusing.{absent, written_out}
use Rattle.far_columns.specs.Vector.{Vector, IsVector, AreDisjoint, elements, object_at}
use Rattle.far_columns.specs.Vectors.{AreVectors}
use Rattle.far_columns.specs.Effects.{is_full, after_push, objects_after_push}
use Rattle.far_columns.specs.Numbers.{Numbers}

-- the list of each object that has one, by object number
abbrev pub NumberLists : Type 0
NumberLists = ℕ → Option Numbers

-- columns of numbers
abbrev pub NumberColumns : Type 0
NumberColumns = List (Vector (Option ℤ))

-- columns of one table: their numbers are in these lists, and all have the same length and the same size of row groups
pub record AreNumberColumns (lists : NumberLists) (columns : NumberColumns) : Type 0 where
  pub all_disjoint : AreVectors lists columns
  pub same_length : AllPairs (λ c d. (c.size ≡ d.size) × (c.len ≡ d.len)) columns

-- whether the next places begin row groups: all do, or none
abbrev pub all_begin : NumberColumns → Bool
all_begin columns = list_all is_full columns

-- each column with one more number; n is the number of the first new object
abbrev pub after_push_all : ℕ → NumberColumns → NumberColumns
after_push_all n [] = []
after_push_all n (c ∷ columns) = after_push c n ∷ after_push_all (n + 1) columns

-- each column's numbers, followed by its new one
abbrev pub all_numbers_with : NumberLists → NumberColumns → Numbers → List Numbers
all_numbers_with lists [] numbers = []
all_numbers_with lists (c ∷ columns) [] = []
all_numbers_with lists (c ∷ columns) (number ∷ numbers) =
    (elements lists c ++ number ∷ []) ∷ all_numbers_with lists columns numbers

-- every column that is disjoint from these remains a column, keeps its numbers, and is disjoint from the changed columns
pub record KeepsNumbers (old new : NumberLists) (columns becoming : NumberColumns) : Type 0 where
  pub is : (w : Vector (Option ℤ)) → IsVector old w → All (λ c. AreDisjoint c w) columns
      → IsVector new w
  pub numbers : (w : Vector (Option ℤ)) → IsVector old w → All (λ c. AreDisjoint c w) columns
      → elements new w ≡ elements old w
  pub disjoint : (w : Vector (Option ℤ)) → IsVector old w
      → All (λ c. AreDisjoint c w) columns → All (λ c. AreDisjoint c w) becoming

module _ {K : Type 0} where
  -- the objects after a number was appended to each column, one column after another
  abbrev pub objects_after_push_all : Movement (Option ℤ) K → NumberColumns → Numbers
      → Movement (Option ℤ) K
  objects_after_push_all m [] numbers = m
  objects_after_push_all m (c ∷ columns) [] = m
  objects_after_push_all m (c ∷ columns) (number ∷ numbers) =
      objects_after_push_all (objects_after_push m c number) columns numbers

  module _ (m : Movement (Option ℤ) K) (columns : NumberColumns) where
    -- for each column in order: its last row group's object is away
    abbrev pub absents : List (Bool × Refusal)
    absents = map (λ c. absent m (object_at c c.len)) columns

    -- some last row group's object was written as often as the limits allow
    abbrev pub some_written_out : Bool × Refusal
    some_written_out =
        (list_any (λ c. (written_out m (object_at c c.len)).0) columns, refusal.EditsUsedUp)

    -- the objects of new row groups, placed in order, do not fit
    abbrev pub no_space_for_groups : Bool × Refusal
    no_space_for_groups = (
      not (fit_in_order (spaces_of m.memory.state) (map (λ c. c.size) columns)),
      refusal.RegionFull,
    )

    -- why appending a number to each of the columns is refused (`push_numbers`)
    abbrev pub push_numbers_refusal : Option Refusal
    push_numbers_refusal =
        first_of (if all_begin columns then no_space_for_groups ∷ []
        else absents ++ some_written_out ∷ [])
