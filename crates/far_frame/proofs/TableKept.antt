-- The invariant of a table, from its parts.
use Rattle.std.proofs.Common.{◌≡◌, ℕ, List, map, length, sym, ap, subst, ◌∙◌}
use Rattle.far_types.specs.declared.cell.Kind.{Kind}
use Rattle.far_types.specs.declared.limits.Limits.{Limits}
use Rattle.far_types.specs.Bounds.{AreLimits}
use Rattle.far_types.specs.Table.{Place}
use Rattle.far_rows.specs.ColumnIndexes.{kind_of}
use Rattle.far_rows.specs.Places.{places_in}
use Rattle.far_rows.specs.Rows.{Rows, AreRows}
use Rattle.far_frame.specs.State.{State}
use Rattle.far_frame.specs.TableViews.{IsKept}

module _ {K : Type 0} (content : K → List ℕ) (s : State K) (held : Rows K) (limits : Limits) (schema : List Kind) (places : List Place) where
  pub is-kept : held ≡ s.rows → limits ≡ s.table.limits → schema ≡ s.table.schema → places ≡ s.table.places
      → AreLimits limits → AreRows content held → map kind_of held.column_indexes ≡ schema → places ≡ places_in content held → held.size ≡ limits.group
      → length held.number_objects.records ≡ length held.number_objects.memory.words → length held.text_objects.records ≡ length held.text_objects.memory.words
      → IsKept content s
  is-kept of_rows of_limits of_schema of_places bounds rows kinds lies size numbers texts = record {
    limits = subst AreLimits of_limits bounds;
    rows = subst (AreRows content) of_rows rows;
    kinds = ap (λ (r : Rows K). map kind_of r.column_indexes) (sym of_rows) ∙ kinds ∙ of_schema;
    places = sym of_places ∙ lies ∙ ap (places_in content) of_rows;
    size = ap (λ (r : Rows K). r.size) (sym of_rows) ∙ size ∙ ap (λ (l : Limits). l.group) of_limits;
    numbers = subst (λ (r : Rows K). length r.number_objects.records ≡ length r.number_objects.memory.words) of_rows numbers;
    texts = subst (λ (r : Rows K). length r.text_objects.records ≡ length r.text_objects.memory.words) of_rows texts;
  }
