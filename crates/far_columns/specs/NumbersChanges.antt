-- What calls on several columns of numbers do to them and to the objects, and what they leave alone.
use Rattle.std.specs.Prelude.{◌≡◌, ℕ, ℤ, ◌+◌, if◌then◌else◌, true, List, length, map, Option, None}
use Rattle.far_codec.specs.Reading.{ints_meaning}
use Rattle.far_scopes.specs.Movement.{Movement}
use Rattle.far_columns.specs.Effects.{after_unpush}
use Rattle.far_columns.specs.Changes.{KeepsCopies}
use Rattle.far_columns.specs.Numbers.{Numbers, number_lists, numbers_in}
use Rattle.far_columns.specs.NumbersTogether.{NumberColumns, KeepsNumbers, all_begin, after_push_all, all_numbers_with, objects_after_push_all, push_numbers_refusal}
use Rattle.far_columns.specs.NumbersUndo.{AreBegunLast, after_uncreate_all}

-- the columns have just begun row groups, each for its last number
pub record BeginGroups {K : Type 0} (old new : Movement (Option ℤ) K)
    (columns becoming : NumberColumns) : Type 0 where
  -- their objects are the last ones
  pub last : AreBegunLast new becoming
  -- `unpush_numbers` would undo the push
  pub unpushed : map after_unpush becoming ≡ columns
  pub uncreated : after_uncreate_all (length columns) new ≡ old

module _ {K : Type 0} (content : K → List ℕ) (old new : Movement (Option ℤ) K)
    (was becoming : NumberColumns) where
  -- one of these numbers was appended to each column
  pub record NumbersPushed (list : Numbers) : Type 0 where
    pub columns : becoming ≡ after_push_all (length old.records) was
    pub objects : new ≡ objects_after_push_all old was list
    pub numbers : map (numbers_in content new) becoming
        ≡ all_numbers_with (number_lists content old) was list
    pub count : length new.records
        ≡ length old.records + (if all_begin was then length was else 0)
    pub begun : all_begin was ≡ true → BeginGroups old new was becoming
    pub free : push_numbers_refusal old was ≡ None

  -- a call that changes these columns leaves alone every column that is disjoint from them
  pub record ChangesNumbers (is_of : K → List ℕ → Type 0) : Type 0 where
    pub others : KeepsNumbers (number_lists content old) (number_lists content new) was becoming
    pub copies : KeepsCopies ints_meaning content is_of old new
