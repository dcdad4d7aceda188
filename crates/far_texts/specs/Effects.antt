-- The effects of calls on a column of texts and its objects.
use Rattle.std.specs.Prelude.{◌≡◌, ℕ, ◌+◌, ◌-◌, ◌*◌, ◌%◌, ◌==◌, if◌then◌else◌, Bool, List, [], ◌∷◌, ◌++◌, length, Option, Some, slice_index, slice_set}
use Rattle.far_codec.specs.TextForm.{texts_form}
use Rattle.far_scopes.specs.Memory.{ChangesList}
use Rattle.far_scopes.specs.Movement.{Movement}
use Rattle.far_scopes.specs.Effects.{after_create, after_replace}
use Rattle.far_texts.specs.Texts.{Texts, Lists, lists_of, texts_at, texts_in, object_at}

-- whether the next place begins a row group
abbrev pub begins_group : Texts → Bool
begins_group c = c.len == length c.objects * c.size

-- the object of the last row group
abbrev pub last_object : Texts → ℕ
last_object c = slice_index c.objects (length c.objects - 1)

-- the texts of a place's row group, with this text at the place
abbrev pub group_with : Lists → Texts → ℕ → Option (List ℕ) → List (Option (List ℕ))
group_with lists c place text = slice_set (texts_at lists (object_at c place)) (place % c.size) text

-- the texts of the next place's row group, with this text appended
abbrev pub group_with_next : Lists → Texts → Option (List ℕ) → List (Option (List ℕ))
group_with_next lists c text =
    (if begins_group c then [] else texts_at lists (last_object c)) ++ text ∷ []

-- the column with one more text; if a row group begins, a new object is made, with number o
abbrev pub after_push : Texts → ℕ → Texts
after_push c o = record c {
  objects = if begins_group c then c.objects ++ o ∷ [] else c.objects;
  len = c.len + 1;
}

module _ {K : Type 0} (content : K → List ℕ) (m : Movement ℕ K) (c : Texts) where
  -- the object of the next place: a new one if the place begins a row group
  abbrev pub next_object : ℕ
  next_object = if begins_group c then length m.records else last_object c

  -- the objects after the text at a place is set
  abbrev pub set_in : ℕ → Option (List ℕ) → Movement ℕ K
  set_in place text =
      after_replace m (object_at c place)
      (texts_form (group_with (lists_of content m) c place text))

  -- the objects after a text is appended
  abbrev pub objects_after_push : Option (List ℕ) → Movement ℕ K
  objects_after_push text =
      let form : List ℕ = texts_form (group_with_next (lists_of content m) c text)
      in if begins_group c
      then after_create m record { column = c.column; group = length c.objects } form
      else after_replace m (last_object c) form

  -- the text at a place was set
  pub record TextSet (place : ℕ) (text : Option (List ℕ)) (new : Movement ℕ K) : Type 0 where
    -- the object of the place's row group was written, and nothing else
    pub moved : new ≡ set_in place text
    -- its list is the form of the row group with the text, and no other list changes
    pub list : ChangesList (lists_of content m) (lists_of content new) (object_at c place)
        (Some (texts_form (group_with (lists_of content m) c place text)))
    -- so the column has the text at the place
    pub texts : texts_in (lists_of content new) c
        ≡ slice_set (texts_in (lists_of content m) c) place text

  -- a text was appended; the column is now c'
  pub record TextPushed (text : Option (List ℕ)) (new : Movement ℕ K)
      (c' : Texts) : Type 0 where
    -- the column has one place more, and a new object if a row group begins
    pub pushed : c' ≡ after_push c (length m.records)
    -- that object was made, or the last one was written, and nothing else changes
    pub moved : new ≡ objects_after_push text
    -- its list is the form of the row group with the text, and no other list changes
    pub list : ChangesList (lists_of content m) (lists_of content new) next_object
        (Some (texts_form (group_with_next (lists_of content m) c text)))
    -- so the column has the new text after its earlier ones
    pub texts : texts_in (lists_of content new) c'
        ≡ texts_in (lists_of content m) c ++ text ∷ []
