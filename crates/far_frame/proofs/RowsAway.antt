-- Changes of rows that keep the pins of their objects, and which of them are away and local.
use Rattle.std.proofs.Common.{◌≡◌, ℕ, Bool, true, false, List, [], ◌∷◌, length, ℤ, Option, None, Some, IfSome, refl, sym, ap, subst}
use Rattle.std.specs.Prelude.{option_map, slice_get}
use Rattle.std.specs.Option.{option_map_or}
use Rattle.std.proofs.lemmas.Option.{none-some}
use Rattle.far_types.specs.declared.cell.Kind.{Kind}
use Rattle.far_types.specs.declared.cell.Kind.TheVariants as kind
use Rattle.far_types.specs.declared.edit.Edit.{Edit}
use Rattle.far_types.specs.declared.edit.Edit.TheVariants as edit
use Rattle.far_scopes.specs.Movement.{Movement, pins_of}
use Rattle.far_codec.specs.TextForm.{texts_form}
use Rattle.far_columns.specs.Vector.{Vector}
use Rattle.far_columns.specs.Effects.{after_write_range}
use Rattle.far_texts.specs.Texts.{Texts, lists_of, object_at as text_at}
use Rattle.far_texts.specs.Effects.{group_with, set_in as text_set_in}
use Rattle.far_texts.specs.Together.{all_begin, next_forms}
use Rattle.far_rows.specs.declared.column_index.ColumnIndex.{ColumnIndex}
use Rattle.far_rows.specs.declared.column_index.ColumnIndex.TheVariants as column_index
use Rattle.far_rows.specs.declared.new_cell.NewCell.{NewCell}
use Rattle.far_rows.specs.declared.new_cell.NewCell.TheVariants as new_cell
use Rattle.far_rows.specs.declared.object.Object.{Object}
use Rattle.far_rows.specs.declared.object.Object.TheVariants as object
use Rattle.far_rows.specs.Rows.{Rows, TextsMoved}
use Rattle.far_rows.specs.Coldest.{pins_at}
use Rattle.far_rows.specs.ColumnIndexes.{kind_of}
use Rattle.far_rows.specs.Setting.{set_in, kind_in}
use Rattle.far_rows.specs.Moving.{object_at, after_touch}
use Rattle.far_table.specs.Live.{Moves}
use Rattle.far_table.specs.Moving.{IsCompactedOf}
use Rattle.far_frame.specs.Lending.{after_touch_all}
use Rattle.far_frame.specs.TableViews.{is_gone}
use Rattle.far_frame.proofs.MovementAway.{KeepsAway, keeps-same, keeps-then, keeps-after_touch, keeps-compacted, keeps-after_replace, keeps-after_replace_all, keeps-set, keeps-all_pushed, keeps-after_create_all}

module _ {K : Type 0} where
  -- the objects of the rows keep their pins, are away exactly if they were away before, and are local if they were local
  pub record KeepsAwayRows (old new : Rows K) : Type 0 where
    pub numbers : KeepsAway old.number_objects new.number_objects
    pub texts : KeepsAway old.text_objects new.text_objects

  rows-same : (r : Rows K) → KeepsAwayRows r r
  rows-same r = record { numbers = keeps-same r.number_objects; texts = keeps-same r.text_objects }

  pub rows-are : (old mid new : Rows K) → new ≡ mid → KeepsAwayRows old mid → KeepsAwayRows old new
  rows-are old mid new is k = subst (KeepsAwayRows old) (sym is) k

  pub rows-gone : (old new : Rows K) → KeepsAwayRows old new → (o : Object) → is_gone new o ≡ is_gone old o
  rows-gone old new k (object.Number o) = k.numbers.away o
  rows-gone old new k (object.Text o) = k.texts.away o

  pub rows-pins : (old new : Rows K) → KeepsAwayRows old new → (o : Object) → pins_at new o ≡ pins_at old o
  rows-pins old new k (object.Number o) = k.numbers.pins o
  rows-pins old new k (object.Text o) = k.texts.pins o

  -- an edit keeps them
  module _ (content : K → List ℕ) (r : Rows K) where
    rows-column_index : (s : ColumnIndex) (place : ℕ) (value : NewCell) → KeepsAwayRows r (set_in content r s place value)
    rows-column_index (column_index.Number i) place (new_cell.Number number) = by (slice_get r.numbers i) where
      by : (found : Option (Vector (Option ℤ))) → KeepsAwayRows r (record r { number_objects = option_map_or (λ c. after_write_range r.number_objects c place (number ∷ [])) found r.number_objects })
      by None = rows-same r
      by (Some c) = record { numbers = keeps-set r.number_objects c place number; texts = keeps-same r.text_objects }
    rows-column_index (column_index.Text i) place (new_cell.Text text) = by (slice_get r.texts i) where
      by : (found : Option Texts) → KeepsAwayRows r (record r { text_objects = option_map_or (λ c. text_set_in content r.text_objects c place text) found r.text_objects })
      by None = rows-same r
      by (Some c) = record { numbers = keeps-same r.number_objects; texts = keeps-after_replace r.text_objects (text_at c place) (texts_form (group_with (lists_of content r.text_objects) c place text)) }
    rows-column_index (column_index.Number i) place (new_cell.Text text) = rows-same r
    rows-column_index (column_index.Text i) place (new_cell.Number number) = rows-same r

    rows-set : (new : Rows K) (place : ℕ) (value : NewCell) (found : Option ColumnIndex) → option_map kind_of found ≡ Some (kind_in value) → IfSome found (λ s. new ≡ set_in content r s place value) → KeepsAwayRows r new
    rows-set new place value None of moved = absurd (none-some (kind_in value) of)
    rows-set new place value (Some s) of moved = rows-are r (set_in content r s place value) new moved (rows-column_index s place value)

    texts-moved : (texts : List (Option (List ℕ))) (now : Movement ℕ K) (b : Bool) → all_begin r.texts ≡ b → TextsMoved content r texts now → KeepsAway r.text_objects now
    texts-moved texts now true is moved = subst (KeepsAway r.text_objects) (sym (moved.begun is)) (keeps-after_create_all r.texts r.text_objects (next_forms (lists_of content r.text_objects) (length r.text_objects.records) r.texts texts))
    texts-moved texts now false is moved = (let lists = moved.replaced is in subst (KeepsAway r.text_objects) (sym lists.2) (keeps-after_replace_all r.text_objects lists.0))

    pub rows-edited : (new : Rows K) (e : Edit) → Moves content r e new → KeepsAwayRows r new
    rows-edited new (edit.Insert row) h = record {
      numbers = subst (KeepsAway r.number_objects) (sym h.2.number_objects) (keeps-all_pushed r.numbers r.number_objects h.0.numbers);
      texts = texts-moved h.0.texts new.text_objects (all_begin r.texts) refl h.2.text_objects;
    }
    rows-edited new (edit.Set place column cell) h = rows-set new place h.0 (slice_get r.column_indexes column) h.2 h.3.moved
    rows-edited new (edit.Remove place) h = record {
      numbers = subst (KeepsAway r.number_objects) (sym (ap (λ (t : Rows K). t.number_objects) h)) (keeps-same r.number_objects);
      texts = subst (KeepsAway r.text_objects) (sym (ap (λ (t : Rows K). t.text_objects) h)) (keeps-same r.text_objects);
    }

  -- a lend keeps them
  rows-after_touch : (r : Rows K) (o : Object) → KeepsAwayRows r (after_touch r o)
  rows-after_touch r (object.Number o) = record { numbers = keeps-after_touch r.number_objects o; texts = keeps-same r.text_objects }
  rows-after_touch r (object.Text o) = record { numbers = keeps-same r.number_objects; texts = keeps-after_touch r.text_objects o }

  rows-then : (a b c : Rows K) → KeepsAwayRows a b → KeepsAwayRows b c → KeepsAwayRows a c
  rows-then a b c h k = record { numbers = keeps-then a.number_objects b.number_objects c.number_objects h.numbers k.numbers; texts = keeps-then a.text_objects b.text_objects c.text_objects h.texts k.texts }

  pub rows-after_touch_all : (column : ℕ) (lent : List ℕ) (r : Rows K) → KeepsAwayRows r (after_touch_all r column lent)
  rows-after_touch_all column [] r = rows-same r
  rows-after_touch_all column (g ∷ lent) r =
      let mid : Rows K = option_map_or (after_touch r) (object_at r column g) r in
      rows-then r mid (after_touch_all mid column lent) (one (object_at r column g)) (rows-after_touch_all column lent mid) where
        one : (found : Option Object) → KeepsAwayRows r (option_map_or (after_touch r) found r)
        one None = rows-same r
        one (Some o) = rows-after_touch r o

  -- a compaction keeps them
  pub rows-compacted : (k : Kind) (segment : ℕ) (old new : Rows K) → IsCompactedOf k segment old new → KeepsAwayRows old new
  rows-compacted kind.Int segment old new h = record {
    numbers = keeps-compacted old.number_objects new.number_objects segment h.0 (λ p. ap (λ (r : Rows K). pins_of r.number_objects p) h.1);
    texts = subst (KeepsAway old.text_objects) (sym (ap (λ (r : Rows K). r.text_objects) h.1)) (keeps-same old.text_objects);
  }
  rows-compacted kind.Text segment old new h = record {
    numbers = subst (KeepsAway old.number_objects) (sym (ap (λ (r : Rows K). r.number_objects) h.1)) (keeps-same old.number_objects);
    texts = keeps-compacted old.text_objects new.text_objects segment h.0 (λ p. ap (λ (r : Rows K). pins_of r.text_objects p) h.1);
  }
