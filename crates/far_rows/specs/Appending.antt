-- What must be true of columns before a row is appended to them.
-- Internal: no public contract cites it.
use Rattle.std.specs.Prelude.{◌≡◌, ℕ, ℤ, ◌+◌, ◌≤◌, ◌^◌, true, List, length, Option, None}
use Rattle.far_scopes.specs.Movement.{Movement}
use Rattle.far_texts.specs.Texts.{Texts, lists_of}
use Rattle.far_texts.specs.Together.{AreColumns, all_begin as all_texts_begin}
use Rattle.far_texts.specs.RefusingTogether.{push_texts_refusal}
use Rattle.far_columns.specs.Numbers.{Numbers, number_lists}
use Rattle.far_columns.specs.NumbersTogether.{NumberColumns, AreNumberColumns, all_begin, push_numbers_refusal}

module _ {K : Type 0} (content : K → List ℕ) where
  -- one of these numbers may be appended to each column of a table
  pub record MayTakeNumbers (m : Movement (Option ℤ) K) (columns : NumberColumns)
      (numbers : Numbers) : Type 0 where
    pub are : AreNumberColumns (number_lists content m) columns
    pub same_length : length numbers ≡ length columns
    pub few : all_begin columns ≡ true → length m.records + length columns ≤ 2 ^ 28
    pub free : push_numbers_refusal m columns ≡ None

  -- one of these texts may be appended to each column of a table
  pub record MayTakeTexts (m : Movement ℕ K) (columns : List Texts)
      (texts : List (Option (List ℕ))) : Type 0 where
    pub are : AreColumns (lists_of content m) columns
    pub same_length : length texts ≡ length columns
    pub few : all_texts_begin columns ≡ true → length m.records + length columns ≤ 2 ^ 28
    pub free : push_texts_refusal content m columns texts ≡ None
