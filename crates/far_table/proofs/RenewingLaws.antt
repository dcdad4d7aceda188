-- Moving the far copies to another store keeps the invariant of a table's rows, and the places.
use Rattle.std.proofs.Common.{◌≡◌, ℕ, zero, suc, List, [], ◌∷◌, length, map, Option, refl, sym, ap, subst, ◌∙◌, arith}
use Rattle.std.specs.List.{zip}
use Rattle.far_types.specs.declared.cell.Kind.{Kind}
use Rattle.far_types.specs.declared.limits.Limits.{Limits}
use Rattle.far_scopes.specs.declared.object_record.ObjectRecord.{ObjectRecord}
use Rattle.far_scopes.specs.Movement.{Movement}
use Rattle.far_scopes.specs.Renewal.{Renews, after_renew, renewed_record}
use Rattle.far_rows.specs.ColumnIndexes.{Values}
use Rattle.far_rows.specs.Rows.{Rows, all_cells}
use Rattle.far_rows.specs.Renewal.{RowsTickets, RenewsRows, renewed_rows}
use Rattle.far_table.specs.TableRows.{TableRows, AreTableRows, rows_in}
use Rattle.far_table.specs.Renewing.{renewed_table_rows}
use Rattle.far_table.proofs.MovingLaws.{AreAsWritten, AreStill, writes, still-invariant, still-places}

module _ {K L : Type 0} where
  writes-renewed : (records : List (ObjectRecord K)) (tickets : List (Option L)) → length tickets ≡ length records → (o : ℕ) → writes (map (λ (e : ObjectRecord K × Option L). renewed_record e.0 e.1) (zip records tickets)) o ≡ writes records o
  writes-renewed [] tickets same_length o = refl
  writes-renewed (e ∷ records) [] same_length o = absurd (omega (arith, same_length))
  writes-renewed (e ∷ records) (ticket ∷ tickets) same_length zero = refl
  writes-renewed (e ∷ records) (ticket ∷ tickets) same_length (suc o) = writes-renewed records tickets (omega (arith, same_length)) o

  module _ (content : K → List ℕ) (new_content : L → List ℕ) where
    renewed-unwritten : {X : Type 0} (m : Movement X K) (tickets : List (Option L)) → Renews content new_content m tickets → AreAsWritten m (after_renew m tickets)
    renewed-unwritten m tickets renews = record { max_writes = refl; versions = writes-renewed m.records tickets renews.same_length }

    module _ (r : Rows K) (tickets : RowsTickets L) (renews : RenewsRows content new_content r tickets) where
      renewed-still : AreStill r (renewed_rows r tickets)
      renewed-still = record {
        column_indexes = refl;
        size = refl;
        numbers = refl;
        texts = refl;
        alive = refl;
        number_objects = renewed-unwritten r.number_objects tickets.numbers renews.numbers;
        text_objects = renewed-unwritten r.text_objects tickets.texts renews.texts;
      }

      module _ (schema : List Kind) (limits : Limits) (new_row : Values) (edits : ℕ) (now : Rows L) (is : now ≡ renewed_rows r tickets) (cells : all_cells new_content now ≡ all_cells content r) where
        still : AreStill r now
        still = subst (AreStill r) (sym is) renewed-still

        pub renewed-invariant : AreTableRows content schema limits r new_row edits → AreTableRows new_content schema limits now new_row edits
        renewed-invariant kept = still-invariant content schema limits r new_row edits new_content now cells still kept

        pub renewed-rows : (t : TableRows K) → rows_in content schema limits r new_row edits ≡ t → rows_in new_content schema limits now new_row edits ≡ renewed_table_rows t tickets
        renewed-rows t view = (
            let places = still-places content schema limits r new_row edits new_content now cells still in
            (λ i. record { schema = schema; limits = limits; places = places i; edits = edits; new_row = new_row; held = is i })
            ∙ ap (λ (u : TableRows K). renewed_table_rows u tickets) view)
