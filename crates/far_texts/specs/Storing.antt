-- Storing the new forms of columns: in objects that are made, or in the last object of each column.
-- Internal: no public contract cites it.
use Rattle.std.specs.Prelude.{◌≡◌, ℕ, ◌+◌, ◌≤◌, ◌^◌, true, Bool, List, length, map, Option, Some, None, All}
use Rattle.far_types.specs.FirstOf.{first_of}
use Rattle.far_log.specs.RegionState.{spaces_of, fit_in_order}
use Rattle.far_scopes.specs.declared.replacement.Replacement.{Replacement}
use Rattle.far_scopes.specs.Memory.{ChangesList}
use Rattle.far_scopes.specs.Movement.{Movement}
use Rattle.far_scopes.specs.Effects.{after_create, after_replace, after_replace_all}
use Rattle.far_scopes.specs.Refusing.{replace_all_refusal}
use Rattle.far_scopes.specs.Replacing.{ChangesLists}
use Rattle.far_texts.specs.Texts.{Texts, HasGroups, lists_of}
use Rattle.far_texts.specs.Effects.{last_object, after_push}
use Rattle.far_texts.specs.Refusing.{next_length_refusal}
use Rattle.far_texts.specs.Together.{AreColumns, AreNextForms, all_begin, forms_of, next_forms, after_push_all, ChangesTo, after_create_all}
use Rattle.far_texts.specs.RefusingTogether.{first_tests}

-- the new forms, placed one after another, fit
abbrev pub all_fit : {K : Type 0} → Movement ℕ K → List (Replacement ℕ) → Bool
all_fit m forms = fit_in_order (spaces_of m.memory.state) (map (λ r. length r.list.items) forms)

module _ {K : Type 0} (content : K → List ℕ) (old : Movement ℕ K) where
  -- a row group of a column begins with this form; the column is now c'
  pub record GroupBegun (c : Texts) (form : List ℕ) (new : Movement ℕ K)
      (c' : Texts) : Type 0 where
    pub pushed : c' ≡ after_push c (length old.records)
    pub created : new
        ≡ after_create old record { column = c.column; group = length c.objects } form
    pub list : ChangesList (lists_of content old) (lists_of content new)
        (length old.records) (Some form)

  -- the last row group of a column has this form; the column is now c'
  pub record GroupExtended (c : Texts) (form : List ℕ) (new : Movement ℕ K)
      (c' : Texts) : Type 0 where
    pub pushed : c' ≡ after_push c (length old.records)
    pub replaced : new ≡ after_replace old (last_object c) form
    pub list : ChangesList (lists_of content old) (lists_of content new) (last_object c) (Some form)

  module _ (columns : List Texts) (forms : List (Replacement ℕ)) where
    -- a row group of each column begins with its form; the columns are now columns'
    pub record GroupsBegun (new : Movement ℕ K) (columns' : List Texts) : Type 0 where
      pub pushed : columns' ≡ after_push_all (length old.records) columns
      pub created : new ≡ after_create_all old columns (forms_of forms)
      pub count : length new.records ≡ length old.records + length columns
      pub lists : ChangesTo (lists_of content old) (lists_of content new) (forms_of forms)
      pub space : all_fit old forms ≡ true

    -- the last row group of each column has its form; the columns are now columns'
    pub record GroupsExtended (new : Movement ℕ K) (columns' : List Texts) : Type 0 where
      pub pushed : (n : ℕ) → columns' ≡ after_push_all n columns
      pub replaced : new ≡ after_replace_all old forms
      pub count : length new.records ≡ length old.records
      pub lists : ChangesLists (lists_of content old) (lists_of content new) forms
      pub free : replace_all_refusal old forms ≡ None

    -- these forms were made, one for each column with its text, and may be stored
    pub record AreMade (texts : List (Option (List ℕ))) : Type 0 where
      pub are : AreColumns (lists_of content old) columns
      pub same_length : length texts ≡ length columns
      pub few : all_begin columns ≡ true → length old.records + length columns ≤ 2 ^ 28
      -- no column has more objects than there are, and no unused number has a list
      pub objects : All (λ c. length c.objects ≤ length old.records) columns
      pub groups : All HasGroups columns
      pub fresh : (p : ℕ) → length old.records ≤ p → lists_of content old p ≡ None
      -- the forms that are replaced are local
      pub here : All (λ c. next_length_refusal content old c ≡ None) columns
      -- none of the first tests refuses
      pub free : first_of (first_tests content old columns texts) ≡ None
      -- they are the new forms of the columns, in order, and each is valid
      pub given : forms_of forms
          ≡ next_forms (lists_of content old) (length old.records) columns texts
      pub valid : AreNextForms (lists_of content old) columns texts
