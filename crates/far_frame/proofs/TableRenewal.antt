-- After a migration to another store a table has the same rows, and its chunks their pins; the same chunks are away.
use Rattle.std.proofs.Common.{◌≡◌, ℕ, zero, suc, false, List, [], ◌∷◌, map, refl, ◌∙◌}
use Rattle.std.specs.Prelude.{option_map, slice_get}
use Rattle.std.specs.Option.{option_and_then, option_map_or}
use Rattle.far_pointer.specs.declared.pointer.Pointer.{Pointer}
use Rattle.far_pointer.specs.declared.pointer.Pointer.TheVariants.{Local, Remote}
use Rattle.far_scopes.specs.Renewal.{renewed_word}
use Rattle.far_rows.specs.declared.column_index.ColumnIndex.{ColumnIndex}
use Rattle.far_rows.specs.declared.column_index.ColumnIndex.TheVariants as column_index
use Rattle.far_rows.specs.declared.object.Object.{Object}
use Rattle.far_rows.specs.declared.object.Object.TheVariants as object
use Rattle.far_rows.specs.Moving.{object_at, object_in}
use Rattle.far_rows.specs.Renewal.{RowsTickets, renewed_rows}
use Rattle.far_rows.specs.Rows.{Rows, object_of}
use Rattle.far_frame.specs.Renewing.{IsMigrated}
use Rattle.far_frame.specs.State.{State}
use Rattle.far_frame.specs.TableRefusals.{TableState}
use Rattle.far_frame.specs.TableViews.{is_gone, gone_at, pins_of_group, table_of}
use Rattle.far_frame.proofs.MovementAway.{says_away}
use Rattle.far_frame.proofs.PinsRenewal.{rows-pinned}

away-renewed : (words : List Pointer) (o : ℕ) → says_away (slice_get (map renewed_word words) o) ≡ says_away (slice_get words o)
away-renewed [] o = refl
away-renewed (Local at dirty hot far ∷ words) zero = refl
away-renewed (Remote ∷ words) zero = refl
away-renewed (word ∷ words) (suc o) = away-renewed words o

module _ {K L : Type 0} (r : Rows K) (tickets : RowsTickets L) where
  same-object : (s : ColumnIndex) (g : ℕ) → object_of (renewed_rows r tickets) s g ≡ object_of r s g
  same-object (column_index.Number i) g = refl
  same-object (column_index.Text i) g = refl

  same-objects : (c g : ℕ) → object_at (renewed_rows r tickets) c g ≡ object_at r c g
  same-objects c g = λ i. option_and_then (λ s. option_map (object_in s) (same-object s g i)) (slice_get r.column_indexes c)

  same-gone : (o : Object) → is_gone (renewed_rows r tickets) o ≡ is_gone r o
  same-gone (object.Number o) = away-renewed r.number_objects.memory.words o
  same-gone (object.Text o) = away-renewed r.text_objects.memory.words o

pub migrated-view : {K L : Type 0} (content : K → List ℕ) (new_content : L → List ℕ) (old : State K) (new : State L) → IsMigrated content new_content old new → table_of new ≡ table_of old
migrated-view content new_content old new h =
    let seen : TableState = record { table = old.table; is_away = gone_at (renewed_rows old.rows h.tickets); pins = pins_of_group (renewed_rows old.rows h.tickets) } in
    let moved : table_of new ≡ seen = λ i. table_of (h.state i) in
    let same : seen ≡ table_of old = λ i. record {
      table = old.table;
      is_away = λ c g. option_map_or (λ o. same-gone old.rows h.tickets o i) (same-objects old.rows h.tickets c g i) false;
      pins = λ c g. option_map_or (λ o. rows-pinned content new_content old.rows h.tickets h.renews o i) (same-objects old.rows h.tickets c g i) 0;
    } in
    moved ∙ same
