-- How steps change which chunks of a table are away, and their pins.
use Rattle.std.proofs.Common.{◌≡◌, ◌≤◌, ℕ, zero, suc, ◌+◌, ◌==◌, ◌&&◌, ℤ, Bool, true, false, if◌then◌else◌, List, [], ◌∷◌, ◌++◌, length, Option, None, Some, IfSome, refl, sym, ap, subst, ◌∙◌, arith}
use Rattle.std.specs.Prelude.{cond, option_map, slice_get}
use Rattle.std.specs.Option.{option_and_then, option_map_or}
use Rattle.std.proofs.lemmas.Bool.{and_from, and_parts, eq-eqb, eqb-true}
use Rattle.std.proofs.lemmas.Option.{slice_get_past}
use Rattle.far_types.specs.declared.edit.Edit.{Edit}
use Rattle.far_types.specs.declared.edit.Edit.TheVariants as edit
use Rattle.far_types.specs.Table.{Table}
use Rattle.far_columns.specs.Vector.{Vector}
use Rattle.far_columns.specs.Effects.{is_full}
use Rattle.far_texts.specs.Texts.{Texts}
use Rattle.far_texts.specs.Effects.{begins_group}
use Rattle.far_texts.specs.Together.{after_push_all as texts_after_push_all}
use Rattle.far_columns.specs.NumbersTogether.{NumberColumns, after_push_all}
use Rattle.far_rows.specs.declared.column_index.ColumnIndex.{ColumnIndex}
use Rattle.far_rows.specs.declared.column_index.ColumnIndex.TheVariants as column_index
use Rattle.far_rows.specs.declared.new_cell.NewCell.{NewCell}
use Rattle.far_rows.specs.declared.new_cell.NewCell.TheVariants as new_cell
use Rattle.far_rows.specs.declared.object.Object.{Object}
use Rattle.far_rows.specs.declared.object.Object.TheVariants as object
use Rattle.far_rows.specs.ColumnIndexes.{Values, kind_of}
use Rattle.far_rows.specs.Coldest.{pins_at}
use Rattle.far_rows.specs.Effects.{IsPushed}
use Rattle.far_rows.specs.Moving.{object_at, object_in, after_touch}
use Rattle.far_rows.specs.Rows.{Rows, object_of}
use Rattle.far_rows.specs.Setting.{set_in, kind_in}
use Rattle.far_table.specs.Live.{Moves}
use Rattle.far_frame.specs.Lending.{after_touch_all}
use Rattle.far_table.specs.State.{LiveState}
use Rattle.far_frame.specs.State.{State, live}
use Rattle.far_frame.specs.TableRuns.{changed}
use Rattle.far_frame.specs.TableViews.{is_gone, gone_at, pins_of_group, table_of, IsKept}
use Rattle.far_frame.proofs.MovementAway.{says_away}
use Rattle.far_frame.proofs.MovementPins.{says_pins}
use Rattle.far_frame.proofs.PinsRows.{no-some, one-some}
use Rattle.far_frame.proofs.RowsAway.{KeepsAwayRows, rows-edited, rows-gone, rows-pins}

get-more : (xs : List ℕ) (y g o : ℕ) → slice_get xs g ≡ Some o → slice_get (xs ++ y ∷ []) g ≡ Some o
get-more [] y g o is = no-some o is
get-more (x ∷ xs) y zero o is = is
get-more (x ∷ xs) y (suc g) o is = get-more xs y g o is

get-new : (xs : List ℕ) (y g o : ℕ) → slice_get xs g ≡ None → slice_get (xs ++ y ∷ []) g ≡ Some o → y ≤ o
get-new [] y zero o none is = (let same : y ≡ o = one-some y o is in omega (arith, same))
get-new [] y (suc g) o none is = no-some o is
get-new (x ∷ xs) y zero o none is = no-some x (sym none)
get-new (x ∷ xs) y (suc g) o none is = get-new xs y g o none is

-- pushing an element keeps a column's objects, and a new object has a higher number than all others
number-kept : (columns : NumberColumns) (n i g o : ℕ) → option_and_then (λ (c : Vector (Option ℤ)). slice_get c.objects g) (slice_get columns i) ≡ Some o → option_and_then (λ (c : Vector (Option ℤ)). slice_get c.objects g) (slice_get (after_push_all n columns) i) ≡ Some o
number-kept [] n i g o is = no-some o is
number-kept (c ∷ columns) n zero g o is = by (is_full c) where
  by : (b : Bool) → slice_get (if b then record c { objects = c.objects ++ n ∷ []; len = c.len + 1 } else record c { len = c.len + 1 }).objects g ≡ Some o
  by true = get-more c.objects n g o is
  by false = is
number-kept (c ∷ columns) n (suc i) g o is = number-kept columns (n + 1) i g o is

number-new : (columns : NumberColumns) (n i g o : ℕ) → option_and_then (λ (c : Vector (Option ℤ)). slice_get c.objects g) (slice_get columns i) ≡ None → option_and_then (λ (c : Vector (Option ℤ)). slice_get c.objects g) (slice_get (after_push_all n columns) i) ≡ Some o → n ≤ o
number-new [] n i g o none is = no-some o is
number-new (c ∷ columns) n zero g o none is = by (is_full c) is where
  by : (b : Bool) → slice_get (if b then record c { objects = c.objects ++ n ∷ []; len = c.len + 1 } else record c { len = c.len + 1 }).objects g ≡ Some o → n ≤ o
  by true now = get-new c.objects n g o none now
  by false now = no-some o (sym none ∙ now)
number-new (c ∷ columns) n (suc i) g o none is = (let low : n + 1 ≤ o = number-new columns (n + 1) i g o none is in omega (arith, low))

text-kept : (columns : List Texts) (n i g o : ℕ) → option_and_then (λ (c : Texts). slice_get c.objects g) (slice_get columns i) ≡ Some o → option_and_then (λ (c : Texts). slice_get c.objects g) (slice_get (texts_after_push_all n columns) i) ≡ Some o
text-kept [] n i g o is = no-some o is
text-kept (c ∷ columns) n zero g o is = by (begins_group c) where
  by : (b : Bool) → slice_get (if b then c.objects ++ n ∷ [] else c.objects) g ≡ Some o
  by true = get-more c.objects n g o is
  by false = is
text-kept (c ∷ columns) n (suc i) g o is = text-kept columns (n + 1) i g o is

text-new : (columns : List Texts) (n i g o : ℕ) → option_and_then (λ (c : Texts). slice_get c.objects g) (slice_get columns i) ≡ None → option_and_then (λ (c : Texts). slice_get c.objects g) (slice_get (texts_after_push_all n columns) i) ≡ Some o → n ≤ o
text-new [] n i g o none is = no-some o is
text-new (c ∷ columns) n zero g o none is = by (begins_group c) is where
  by : (b : Bool) → slice_get (if b then c.objects ++ n ∷ [] else c.objects) g ≡ Some o → n ≤ o
  by true now = get-new c.objects n g o none now
  by false now = no-some o (sym none ∙ now)
text-new (c ∷ columns) n (suc i) g o none is = (let low : n + 1 ≤ o = text-new columns (n + 1) i g o none is in omega (arith, low))

tests : (d c h g : ℕ) → d ≡ c → h ≡ g → (d == c && h == g) ≡ true
tests d c h g column group = and_from (d == c) (h == g) (eq-eqb d c column) (eq-eqb h g group)

-- if one object's value changes, the value of only one chunk changes, since each object belongs to one chunk
module _ {A : Type 0} (at : ℕ → ℕ → Option Object) (only : (c g d h : ℕ) (o : Object) → at c g ≡ Some o → at d h ≡ Some o → (c ≡ d) × (g ≡ h)) (old new : Object → A) (other x : A) (c g : ℕ) (o : Object) (is : at c g ≡ Some o) (now : new o ≡ x) (rest : (p : Object) → (p ≡ o → ⊥) → new p ≡ old p) where
  pub one-changed : (d h : ℕ) → option_map_or new (at d h) other ≡ changed c g x (λ d h. option_map_or old (at d h) other) d h
  one-changed d h = by (d == c && h == g) refl where
    same : (p : Option Object) → at d h ≡ p → (p ≡ Some o → ⊥) → option_map_or new p other ≡ option_map_or old p other
    same None lies apart = refl
    same (Some p) lies apart = rest p (λ is. apart (ap Some is))

    by : (b : Bool) → (d == c && h == g) ≡ b → option_map_or new (at d h) other ≡ cond b x (option_map_or old (at d h) other)
    by true both =
        let parts = and_parts (d == c) (h == g) both in
        let column : d ≡ c = eqb-true d c parts.0 in
        let group : h ≡ g = eqb-true h g parts.1 in
        ap (λ (p : Option Object). option_map_or new p other) ((λ i. at (column i) (group i)) ∙ is) ∙ now
    by false apart = same (at d h) refl (λ lies. (let one = only d h c g o lies is in let on : (d == c && h == g) ≡ true = tests d c h g one.0 one.1 in absurd (let wrong : true ≡ false = sym on ∙ apart in cc)))

module _ {K : Type 0} where
  -- rows with the same columns have the same object in each row group
  pub objects-same : (old new : Rows K) → new.column_indexes ≡ old.column_indexes → new.numbers ≡ old.numbers → new.texts ≡ old.texts → object_at new ≡ object_at old
  objects-same old new indexes numbers texts = λ i c g. option_and_then (λ s. option_map (object_in s) (of s g i)) (slice_get (indexes i) c) where
    of : (s : ColumnIndex) (g : ℕ) → object_of new s g ≡ object_of old s g
    of (column_index.Number j) g = ap (λ (l : NumberColumns). option_and_then (λ (c : Vector (Option ℤ)). slice_get c.objects g) (slice_get l j)) numbers
    of (column_index.Text j) g = ap (λ (l : List Texts). option_and_then (λ (c : Texts). slice_get c.objects g) (slice_get l j)) texts

  -- a change that keeps objects, pins and absence changes only the table
  pub moved-view : (old new : State K) (table : Table) → new.table ≡ table → object_at new.rows ≡ object_at old.rows → KeepsAwayRows old.rows new.rows → table_of new ≡ record (table_of old) { table = table }
  moved-view old new table made objects k = λ i. record {
    table = made i;
    is_away = λ c g. option_map_or (λ o. rows-gone old.rows new.rows k o i) (objects i c g) false;
    pins = λ c g. option_map_or (λ o. rows-pins old.rows new.rows k o i) (objects i c g) 0;
  }

  -- touching an object keeps which object each row group has
  touched : (r : Rows K) (q : Object) → object_at (after_touch r q) ≡ object_at r
  touched r (object.Number q) = objects-same r (after_touch r (object.Number q)) refl refl refl
  touched r (object.Text q) = objects-same r (after_touch r (object.Text q)) refl refl refl

  pub all-touched : (column : ℕ) (lent : List ℕ) (r : Rows K) → object_at (after_touch_all r column lent) ≡ object_at r
  all-touched column [] r = refl
  all-touched column (g ∷ lent) r = all-touched column lent (option_map_or (after_touch r) (object_at r column g) r) ∙ one (object_at r column g) where
    one : (found : Option Object) → object_at (option_map_or (after_touch r) found r) ≡ object_at r
    one None = refl
    one (Some o) = touched r o

  -- an edit
  module _ (content : K → List ℕ) (old new : State K) (kept : IsKept content old) where
    abbrev r : Rows K
    r = old.rows

    set-objects : (s : ColumnIndex) (place : ℕ) (value : NewCell) → object_at (set_in content r s place value) ≡ object_at r
    set-objects (column_index.Number i) place (new_cell.Number number) = objects-same r (set_in content r (column_index.Number i) place (new_cell.Number number)) refl refl refl
    set-objects (column_index.Text i) place (new_cell.Text text) = objects-same r (set_in content r (column_index.Text i) place (new_cell.Text text)) refl refl refl
    set-objects (column_index.Number i) place (new_cell.Text text) = refl
    set-objects (column_index.Text i) place (new_cell.Number number) = refl

    set-found : (found : Option ColumnIndex) (place : ℕ) (value : NewCell) → option_map kind_of found ≡ Some (kind_in value) → IfSome found (λ s. new.rows ≡ set_in content r s place value) → object_at new.rows ≡ object_at r
    set-found None place value of moved = no-some (kind_in value) of
    set-found (Some s) place value of moved = (λ i. object_at (moved i)) ∙ set-objects s place value

    -- the object has a higher number than all objects before the edit
    abbrev IsNew : Object → Type 0
    IsNew (object.Number o) = length r.number_objects.records ≤ o
    IsNew (object.Text o) = length r.text_objects.records ≤ o

    -- a row group keeps its object, or has none and may get a new one
    abbrev Follows : Option Object → Option Object → Type 0
    Follows (Some o) now = now ≡ Some o
    Follows None now = IfSome now IsNew

    module _ (values : Values) (h : IsPushed content r values new.rows) where
      number-follows : (was now : Option ℕ) → ((o : ℕ) → was ≡ Some o → now ≡ Some o) → ((o : ℕ) → was ≡ None → now ≡ Some o → length r.number_objects.records ≤ o) → Follows (option_map (λ p. object.Number p) was) (option_map (λ p. object.Number p) now)
      number-follows (Some o) now keeps fresh = ap (λ (p : Option ℕ). option_map (λ q. object.Number q) p) (keeps o refl)
      number-follows None None keeps fresh = tt
      number-follows None (Some o) keeps fresh = fresh o refl refl

      text-follows : (was now : Option ℕ) → ((o : ℕ) → was ≡ Some o → now ≡ Some o) → ((o : ℕ) → was ≡ None → now ≡ Some o → length r.text_objects.records ≤ o) → Follows (option_map (λ p. object.Text p) was) (option_map (λ p. object.Text p) now)
      text-follows (Some o) now keeps fresh = ap (λ (p : Option ℕ). option_map (λ q. object.Text q) p) (keeps o refl)
      text-follows None None keeps fresh = tt
      text-follows None (Some o) keeps fresh = fresh o refl refl

      index-follows : (g : ℕ) (s : ColumnIndex) → Follows (option_map (object_in s) (object_of r s g)) (option_map (object_in s) (object_of new.rows s g))
      index-follows g (column_index.Number i) = subst (λ (l : NumberColumns). Follows (option_map (λ p. object.Number p) (object_of r (column_index.Number i) g)) (option_map (λ p. object.Number p) (option_and_then (λ (c : Vector (Option ℤ)). slice_get c.objects g) (slice_get l i)))) (sym h.numbers)
          (number-follows (object_of r (column_index.Number i) g) (option_and_then (λ (c : Vector (Option ℤ)). slice_get c.objects g) (slice_get (after_push_all (length r.number_objects.records) r.numbers) i)) (λ o is. number-kept r.numbers (length r.number_objects.records) i g o is) (λ o none is. number-new r.numbers (length r.number_objects.records) i g o none is))
      index-follows g (column_index.Text i) = subst (λ (l : List Texts). Follows (option_map (λ p. object.Text p) (object_of r (column_index.Text i) g)) (option_map (λ p. object.Text p) (option_and_then (λ (c : Texts). slice_get c.objects g) (slice_get l i)))) (sym h.texts)
          (text-follows (object_of r (column_index.Text i) g) (option_and_then (λ (c : Texts). slice_get c.objects g) (slice_get (texts_after_push_all (length r.text_objects.records) r.texts) i)) (λ o is. text-kept r.texts (length r.text_objects.records) i g o is) (λ o none is. text-new r.texts (length r.text_objects.records) i g o none is))

      insert-follows : (c g : ℕ) → Follows (object_at r c g) (object_at new.rows c g)
      insert-follows c g = subst (λ (l : List ColumnIndex). Follows (object_at r c g) (option_and_then (λ s. option_map (object_in s) (object_of new.rows s g)) (slice_get l c))) (sym h.column_indexes) (found (slice_get r.column_indexes c)) where
        found : (f : Option ColumnIndex) → Follows (option_and_then (λ s. option_map (object_in s) (object_of r s g)) f) (option_and_then (λ s. option_map (object_in s) (object_of new.rows s g)) f)
        found None = tt
        found (Some s) = index-follows g s

    past-gone : (o : Object) → IsNew o → is_gone r o ≡ false
    past-gone (object.Number o) past = ap says_away (slice_get_past r.number_objects.memory.words o (omega (arith, past, kept.numbers)))
    past-gone (object.Text o) past = ap says_away (slice_get_past r.text_objects.memory.words o (omega (arith, past, kept.texts)))

    past-pins : (o : Object) → IsNew o → pins_at r o ≡ 0
    past-pins (object.Number o) past = ap says_pins (slice_get_past r.number_objects.records o past)
    past-pins (object.Text o) past = ap says_pins (slice_get_past r.text_objects.records o past)

    follows-gone : KeepsAwayRows r new.rows → (was now : Option Object) → Follows was now → option_map_or (is_gone new.rows) now false ≡ option_map_or (is_gone r) was false
    follows-gone k (Some o) now is = ap (λ (p : Option Object). option_map_or (is_gone new.rows) p false) is ∙ rows-gone r new.rows k o
    follows-gone k None None is = refl
    follows-gone k None (Some o) is = rows-gone r new.rows k o ∙ past-gone o is

    follows-pins : KeepsAwayRows r new.rows → (was now : Option Object) → Follows was now → option_map_or (pins_at new.rows) now 0 ≡ option_map_or (pins_at r) was 0
    follows-pins k (Some o) now is = ap (λ (p : Option Object). option_map_or (pins_at new.rows) p 0) is ∙ rows-pins r new.rows k o
    follows-pins k None None is = refl
    follows-pins k None (Some o) is = rows-pins r new.rows k o ∙ past-pins o is

    -- an edit keeps which chunks are away, and their pins; a new chunk is local and has no pin
    pub edited-view : (table : Table) → new.table ≡ table → (e : Edit) → Moves content r e new.rows → table_of new ≡ record (table_of old) { table = table }
    edited-view table made (edit.Insert row) h =
        let k = rows-edited content r new.rows (edit.Insert row) h in
        λ i. record {
          table = made i;
          is_away = λ c g. follows-gone k (object_at r c g) (object_at new.rows c g) (insert-follows h.0 h.2 c g) i;
          pins = λ c g. follows-pins k (object_at r c g) (object_at new.rows c g) (insert-follows h.0 h.2 c g) i;
        }
    edited-view table made (edit.Set place column cell) h = moved-view old new table made (set-found (slice_get r.column_indexes column) place h.0 h.2 h.3.moved) (rows-edited content r new.rows (edit.Set place column cell) h)
    edited-view table made (edit.Remove place) h = moved-view old new table made (objects-same r new.rows (ap (λ (r : Rows K). r.column_indexes) h) (ap (λ (r : Rows K). r.numbers) h) (ap (λ (r : Rows K). r.texts) h)) (rows-edited content r new.rows (edit.Remove place) h)

  -- the table's state, from a live table's state
  pub live-view : (new : State K) (l : LiveState K) → live new ≡ l → table_of new ≡ record { table = l.table; is_away = gone_at l.rows; pins = pins_of_group l.rows }
  live-view new l h = λ i. record { table = (h i).table; is_away = gone_at (h i).rows; pins = pins_of_group (h i).rows }
