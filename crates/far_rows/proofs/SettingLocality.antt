-- Setting a cell evicts no object, and brings none back.
use Rattle.std.proofs.Common.{◌≡◌, ℕ, zero, suc, ◌+◌, true, false, not, List, [], ◌∷◌, length, ℤ, Option, None, Some, refl, ap, subst, ◌∙◌}
use Rattle.std.specs.Prelude.{is_some, IfSome, slice_get, slice_set}
use Rattle.std.specs.Option.{option_map_or}
use Rattle.far_types.specs.declared.refusal.Refusal.TheVariants as refusal
use Rattle.far_pointer.specs.declared.pointer.At.{At}
use Rattle.far_pointer.specs.declared.pointer.Pointer.{Pointer}
use Rattle.far_pointer.specs.declared.pointer.Pointer.TheVariants.{Local, Remote}
use Rattle.far_pointer.specs.Layout.{with_dirty, with_hot, with_at}
use Rattle.far_scopes.specs.Memory.{at_of, place_of}
use Rattle.far_scopes.specs.Movement.{Movement, is_local}
use Rattle.far_scopes.specs.Effects.{after_write, after_replace}
use Rattle.far_scopes.specs.Placing.{spot}
use Rattle.far_scopes.specs.Refusing.{absent}
use Rattle.far_codec.specs.TextForm.{texts_form}
use Rattle.far_columns.specs.Vector.{Vector, object_at as number_at}
use Rattle.far_columns.specs.Effects.{after_write_range}
use Rattle.far_texts.specs.Texts.{Texts, lists_of, object_at as text_at}
use Rattle.far_texts.specs.Effects.{group_with, set_in as text_set_in}
use Rattle.far_rows.specs.declared.column_index.ColumnIndex.{ColumnIndex}
use Rattle.far_rows.specs.declared.column_index.ColumnIndex.TheVariants as column_index
use Rattle.far_rows.specs.declared.new_cell.NewCell.{NewCell}
use Rattle.far_rows.specs.declared.new_cell.NewCell.TheVariants as new
use Rattle.far_rows.specs.Rows.{Rows, object_of}
use Rattle.far_rows.specs.Refusing.{away_at, absents, absents_from}
use Rattle.far_rows.specs.Setting.{set_in}

-- the words after the word of object o is changed
abbrev words_with : List Pointer → ℕ → (Pointer → Pointer) → List Pointer
words_with words o change = option_map_or (λ word. slice_set words o (change word)) (slice_get words o) words

with-later : (word : Pointer) (words : List Pointer) (o : ℕ) (change : Pointer → Pointer) → words_with (word ∷ words) (suc o) change ≡ word ∷ words_with words o change
with-later word words o change = found (slice_get words o) where
  found : (at : Option Pointer) → option_map_or (λ w. slice_set (word ∷ words) (suc o) (change w)) at (word ∷ words) ≡ word ∷ option_map_or (λ w. slice_set words o (change w)) at words
  found None = refl
  found (Some w) = refl

-- if a change of a word keeps whether its object is local, the objects that are local stay so
still-local : (change : Pointer → Pointer) → ((word : Pointer) → is_some (at_of (change word)) ≡ is_some (at_of word)) → (words : List Pointer) (o p : ℕ) → is_some (place_of (words_with words o change) p) ≡ is_some (place_of words p)
still-local change same [] o p = refl
still-local change same (word ∷ words) zero zero = same word
still-local change same (word ∷ words) zero (suc p) = refl
still-local change same (word ∷ words) (suc o) zero = ap (λ (ws : List Pointer). is_some (place_of ws zero)) (with-later word words o change)
still-local change same (word ∷ words) (suc o) (suc p) = ap (λ (ws : List Pointer). is_some (place_of ws (suc p))) (with-later word words o change) ∙ still-local change same words o p

mark : (word : Pointer) → is_some (at_of (with_hot (with_dirty word) true)) ≡ is_some (at_of word)
mark (Local at dirty hot far) = refl
mark Remote = refl

move : (to : At) (word : Pointer) → is_some (at_of (with_at word to)) ≡ is_some (at_of word)
move to (Local at dirty hot far) = refl
move to Remote = refl

module _ {X K : Type 0} where
  after_write-local : (m : Movement X K) (o p : ℕ) → is_local (after_write m o) p ≡ is_local m p
  after_write-local m o p = still-local (λ word. with_hot (with_dirty word) true) mark m.memory.words o p

  replaced-local : (m : Movement X K) (o : ℕ) (list : List X) (p : ℕ) → is_local (after_replace m o list) p ≡ is_local m p
  replaced-local m o list p =
      let to = spot m.memory.state (length list) in
      still-local (λ word. with_hot (with_dirty word) true) mark (words_with m.memory.words o (λ word. with_at word to)) o p
      ∙ still-local (λ word. with_at word to) (move to) m.memory.words o p

module _ {K : Type 0} (r : Rows K) (g : ℕ) where
  away_at-numbers : (m : Movement (Option ℤ) K) → ((o : ℕ) → is_local m o ≡ is_local r.number_objects o) → (s : ColumnIndex) → (away_at (record r { number_objects = m }) g s).0 ≡ (away_at r g s).0
  away_at-numbers m same (column_index.Text i) = refl
  away_at-numbers m same (column_index.Number i) = by (object_of r (column_index.Number i) g) where
    by : (o : Option ℕ) → (option_map_or (absent m) o (false, refusal.StaleJob)).0 ≡ (option_map_or (absent r.number_objects) o (false, refusal.StaleJob)).0
    by None = refl
    by (Some o) = ap not (same o)

  away_at-texts : (m : Movement ℕ K) → ((o : ℕ) → is_local m o ≡ is_local r.text_objects o) → (s : ColumnIndex) → (away_at (record r { text_objects = m }) g s).0 ≡ (away_at r g s).0
  away_at-texts m same (column_index.Number i) = refl
  away_at-texts m same (column_index.Text i) = by (object_of r (column_index.Text i) g) where
    by : (o : Option ℕ) → (option_map_or (absent m) o (false, refusal.StaleJob)).0 ≡ (option_map_or (absent r.text_objects) o (false, refusal.StaleJob)).0
    by None = refl
    by (Some o) = ap not (same o)

  absents-same : (now : Rows K) → ((s : ColumnIndex) → (away_at now g s).0 ≡ (away_at r g s).0) → (n : ℕ) (column_indexes : List ColumnIndex) → absents_from now g n column_indexes ≡ absents_from r g n column_indexes
  absents-same now same n [] = refl
  absents-same now same n (s ∷ column_indexes) =
      let here = same s in
      let rest = absents-same now same (n + 1) column_indexes in
      λ k. (here k, refusal.Absent n g) ∷ rest k

  set-column_index : (content : K → List ℕ) (s : ColumnIndex) (place : ℕ) (value : NewCell) → absents (set_in content r s place value) g ≡ absents r g
  set-column_index content (column_index.Number i) place (new.Number number) = by (slice_get r.numbers i) where
    by : (found : Option (Vector (Option ℤ))) → absents (record r { number_objects = option_map_or (λ c. after_write_range r.number_objects c place (number ∷ [])) found r.number_objects }) g ≡ absents r g
    by None = refl
    by (Some c) = absents-same (record r { number_objects = after_write_range r.number_objects c place (number ∷ []) }) (away_at-numbers (after_write_range r.number_objects c place (number ∷ [])) (λ o. after_write-local r.number_objects (number_at c place) o)) 0 r.column_indexes
  set-column_index content (column_index.Text i) place (new.Text text) = by (slice_get r.texts i) where
    by : (found : Option Texts) → absents (record r { text_objects = option_map_or (λ c. text_set_in content r.text_objects c place text) found r.text_objects }) g ≡ absents r g
    by None = refl
    by (Some c) = absents-same (record r { text_objects = text_set_in content r.text_objects c place text }) (away_at-texts (text_set_in content r.text_objects c place text) (λ o. replaced-local r.text_objects (text_at c place) (texts_form (group_with (lists_of content r.text_objects) c place text)) o)) 0 r.column_indexes
  set-column_index content (column_index.Number i) place (new.Text text) = refl
  set-column_index content (column_index.Text i) place (new.Number number) = refl

-- the flags do not change
alive-column_index : {K : Type 0} (content : K → List ℕ) (r : Rows K) (s : ColumnIndex) (place : ℕ) (value : NewCell) → (set_in content r s place value).alive ≡ r.alive
alive-column_index content r (column_index.Number i) place (new.Number number) = refl
alive-column_index content r (column_index.Text i) place (new.Text text) = refl
alive-column_index content r (column_index.Number i) place (new.Text text) = refl
alive-column_index content r (column_index.Text i) place (new.Number number) = refl

module _ {K : Type 0} (content : K → List ℕ) (r now : Rows K) (place : ℕ) (value : NewCell) where
  -- setting a value in a column that exists keeps which objects of each row group are away
  pub set-here : (s : ColumnIndex) (found : Option ColumnIndex) → found ≡ Some s → IfSome found (λ t. now ≡ set_in content r t place value) → (g : ℕ) → absents now g ≡ absents r g
  set-here s found at moved g = ap (λ (rows : Rows K). absents rows g) (subst (λ (o : Option ColumnIndex). IfSome o (λ t. now ≡ set_in content r t place value)) at moved) ∙ set-column_index r g content s place value

  pub set-alive : (s : ColumnIndex) (found : Option ColumnIndex) → found ≡ Some s → IfSome found (λ t. now ≡ set_in content r t place value) → now.alive ≡ r.alive
  set-alive s found at moved = ap (λ (rows : Rows K). rows.alive) (subst (λ (o : Option ColumnIndex). IfSome o (λ t. now ≡ set_in content r t place value)) at moved) ∙ alive-column_index content r s place value
