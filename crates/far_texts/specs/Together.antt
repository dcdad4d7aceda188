-- Several columns of texts, to each of which a text is appended at once.
use Rattle.std.specs.Prelude.{◌≡◌, ◌≢◌, ℕ, ◌+◌, ◌<◌, ◌≤◌, if◌then◌else◌, Bool, List, [], ◌∷◌, ◌++◌, length, map, Option, Some, All, AllPairs, slice_get}
use Rattle.std.specs.List.{list_all}
use Rattle.far_codec.specs.TextForm.{texts_form, texts_meaning, IsTextsForm}
use Rattle.far_scopes.specs.declared.replacement.Replacement.{Replacement}
use Rattle.far_scopes.specs.Movement.{Movement}
use Rattle.far_scopes.specs.Effects.{after_create, after_replace_all}
use Rattle.far_texts.specs.Texts.{Texts, Lists, IsTextColumn, AreDisjoint, texts_in}
use Rattle.far_texts.specs.Columns.{AreTextColumns}
use Rattle.far_texts.specs.Effects.{begins_group, last_object, group_with_next, after_push}

-- columns of one table: their texts are in these lists, and all have the same length and the same size of row groups
pub record AreColumns (lists : Lists) (columns : List Texts) : Type 0 where
  pub all_disjoint : AreTextColumns lists columns
  pub same_length : AllPairs (λ c d. (c.size ≡ d.size) × (c.len ≡ d.len)) columns

-- whether the next places begin row groups: all do, or none
abbrev pub all_begin : List Texts → Bool
all_begin columns = list_all begins_group columns

-- the object of a column's next text, where o is the number of a new object
abbrev pub object_for : Texts → ℕ → ℕ
object_for c o = if begins_group c then o else last_object c

-- for each column, the object of its next text and that object's new form; n is the number of the first new object
abbrev pub next_forms : Lists → ℕ → List Texts → List (Option (List ℕ))
    → List (ℕ × List ℕ)
next_forms lists n [] texts = []
next_forms lists n (c ∷ columns) [] = []
next_forms lists n (c ∷ columns) (text ∷ texts) =
    (object_for c n, texts_form (group_with_next lists c text))
    ∷ next_forms lists (n + 1) columns texts

-- the next place's row group with this text has a valid form, which is not empty and within the limit
pub record IsNextForm (lists : Lists) (c : Texts) (text : Option (List ℕ)) : Type 0 where
  pub form : IsTextsForm (texts_form (group_with_next lists c text))
  pub means : texts_meaning (texts_form (group_with_next lists c text))
      ≡ group_with_next lists c text
  pub short : length (texts_form (group_with_next lists c text)) ≤ c.limit
  pub some : 0 < length (texts_form (group_with_next lists c text))

-- each column has such a form with its next text
abbrev pub AreNextForms : Lists → List Texts → List (Option (List ℕ)) → Type 0
AreNextForms lists columns texts = (k : ℕ) (c : Texts) (text : Option (List ℕ))
    → slice_get columns k ≡ Some c → slice_get texts k ≡ Some text
    → IsNextForm lists c text

-- each column with one more text
abbrev pub after_push_all : ℕ → List Texts → List Texts
after_push_all n [] = []
after_push_all n (c ∷ columns) = after_push c n ∷ after_push_all (n + 1) columns

-- each column's texts, followed by its new one
abbrev pub all_texts_with : Lists → List Texts → List (Option (List ℕ))
    → List (List (Option (List ℕ)))
all_texts_with lists [] texts = []
all_texts_with lists (c ∷ columns) [] = []
all_texts_with lists (c ∷ columns) (text ∷ texts) =
    (texts_in lists c ++ text ∷ []) ∷ all_texts_with lists columns texts

-- each of these objects gets the list paired with it, and no other list changes
pub record ChangesTo (old new : Lists) (forms : List (ℕ × List ℕ)) : Type 0 where
  pub here : All (λ form. new form.0 ≡ Some form.1) forms
  pub others : (p : ℕ) → All (λ form. p ≢ form.0) forms → new p ≡ old p

-- every column that has no object in common with these remains a column and keeps its texts
pub record KeepsColumns (old new : Lists) (columns : List Texts) : Type 0 where
  pub stay : (d : Texts) → IsTextColumn old d
      → All (λ c. AreDisjoint c d) columns → IsTextColumn new d
  pub texts : (d : Texts) → IsTextColumn old d
      → All (λ c. AreDisjoint c d) columns → texts_in new d ≡ texts_in old d

-- replacements as pairs: the object, and its new list
abbrev pub forms_of : List (Replacement ℕ) → List (ℕ × List ℕ)
forms_of lists = map (λ r. (r.object, r.list.items)) lists

module _ {K : Type 0} where
  -- the objects after one was made for each column, with the form paired with it
  abbrev pub after_create_all : Movement ℕ K → List Texts → List (ℕ × List ℕ)
      → Movement ℕ K
  after_create_all m [] forms = m
  after_create_all m (c ∷ columns) [] = m
  after_create_all m (c ∷ columns) (form ∷ forms) =
      after_create_all
      (after_create m record { column = c.column; group = length c.objects } form.1)
      columns forms

  -- the objects after these got their new forms, all of which were placed before an old one was dropped
  abbrev pub AreReplaced : Movement ℕ K → List (ℕ × List ℕ) → Movement ℕ K → Type 0
  AreReplaced old forms new = (lists : List (Replacement ℕ))
      × (forms_of lists ≡ forms) × (new ≡ after_replace_all old lists)
