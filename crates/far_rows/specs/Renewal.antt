-- Rows after their far copies were put into another store.
use Rattle.std.specs.Prelude.{ℕ, List, Option}
use Rattle.far_scopes.specs.Renewal.{Renews, after_renew, AreTicketsHere}
use Rattle.far_rows.specs.Rows.{Rows}

-- the tickets of the objects of numbers and of the objects of texts, each list by object number
pub record RowsTickets (L : Type 0) : Type 0 where
  pub numbers : List (Option L)
  pub texts : List (Option L)

-- each of these tickets is of the store with this id
pub record AreTicketsAt {L : Type 0} (is_of : L → List ℕ → Type 0) (id : List ℕ)
    (tickets : RowsTickets L) : Type 0 where
  pub numbers : AreTicketsHere is_of id tickets.numbers
  pub texts : AreTicketsHere is_of id tickets.texts

module _ {K L : Type 0} where
  -- these tickets renew the rows: each kind's tickets renew its objects
  pub record RenewsRows (content : K → List ℕ) (new_content : L → List ℕ) (r : Rows K)
      (tickets : RowsTickets L) : Type 0 where
    pub numbers : Renews content new_content r.number_objects tickets.numbers
    pub texts : Renews content new_content r.text_objects tickets.texts

  -- the rows after their objects got these tickets
  abbrev pub renewed_rows : Rows K → RowsTickets L → Rows L
  renewed_rows r tickets = record {
    column_indexes = r.column_indexes;
    size = r.size;
    numbers = r.numbers;
    texts = r.texts;
    number_objects = after_renew r.number_objects tickets.numbers;
    text_objects = after_renew r.text_objects tickets.texts;
    alive = r.alive;
  }
