-- What appending a text to each of several columns does, and what it leaves alone.
use Rattle.std.specs.Prelude.{◌≡◌, ℕ, ◌+◌, if◌then◌else◌, true, false, List, length, map, Option, All}
use Rattle.far_scopes.specs.Movement.{Movement}
use Rattle.far_texts.specs.Texts.{Texts, IsTextColumn, AreDisjoint, lists_of, texts_in}
use Rattle.far_texts.specs.Columns.{KeepsCopies}
use Rattle.far_texts.specs.Together.{AreColumns, all_begin, next_forms, after_push_all, all_texts_with, ChangesTo, KeepsColumns, after_create_all, AreReplaced}

module _ {K : Type 0} (content : K → List ℕ) (old : Movement ℕ K) (columns : List Texts) where
  -- for each column, the object of its new text and that object's new form
  abbrev pub forms_with : List (Option (List ℕ)) → List (ℕ × List ℕ)
  forms_with texts = next_forms (lists_of content old) (length old.records) columns texts

  -- a text was appended to each column; the columns are now columns'
  pub record TextsPushed (appended : List (Option (List ℕ))) (new : Movement ℕ K)
      (columns' : List Texts) : Type 0 where
    -- each column has one place more, and a new object if row groups begin
    pub pushed : columns' ≡ after_push_all (length old.records) columns
    -- if row groups begin, these objects were made, in the order of the columns
    pub begun : all_begin columns ≡ true
        → new ≡ after_create_all old columns (forms_with appended)
    -- otherwise the last object of each column was written
    pub replaced : all_begin columns ≡ false → AreReplaced old (forms_with appended) new
    -- so there is one more object for each row group that begins
    pub count : length new.records
        ≡ length old.records + (if all_begin columns then length columns else 0)
    -- each of these objects has its new form, and no other list changes
    pub lists : ChangesTo (lists_of content old) (lists_of content new) (forms_with appended)
    -- so each column has its new text after its earlier ones
    pub texts : map (texts_in (lists_of content new)) columns'
        ≡ all_texts_with (lists_of content old) columns appended

  -- a call changes columns to columns', or is refused; every other column is unchanged
  pub record ChangesColumns (is_of : K → List ℕ → Type 0) (new : Movement ℕ K)
      (columns' : List Texts) : Type 0 where
    -- they remain columns of one table
    pub are : AreColumns (lists_of content new) columns'
    -- every column disjoint from them remains a column and keeps its texts
    pub others : KeepsColumns (lists_of content old) (lists_of content new) columns
    -- every column disjoint from them remains disjoint
    pub disjoint : (d : Texts) → IsTextColumn (lists_of content old) d
        → All (λ c. AreDisjoint c d) columns → All (λ c. AreDisjoint c d) columns'
    pub copies : KeepsCopies content is_of old new
