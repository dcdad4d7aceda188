-- After a migration to another store each object has its pins, and is local if it was local.
use Rattle.std.proofs.Common.{◌≡◌, ℕ, zero, suc, List, [], ◌∷◌, map, length, Option, refl, ap, ◌∙◌}
use Rattle.std.specs.Prelude.{is_some, slice_get}
use Rattle.std.specs.List.{zip}
use Rattle.std.specs.Option.{option_map_or}
use Rattle.far_pointer.specs.declared.pointer.Pointer.{Pointer}
use Rattle.far_pointer.specs.declared.pointer.Pointer.TheVariants.{Local, Remote}
use Rattle.far_scopes.specs.declared.object_record.ObjectRecord.{ObjectRecord}
use Rattle.far_scopes.specs.Memory.{at_of, place_of}
use Rattle.far_scopes.specs.Renewal.{renewed_word, renewed_record}
use Rattle.far_rows.specs.declared.object.Object.{Object}
use Rattle.far_rows.specs.declared.object.Object.TheVariants as object
use Rattle.far_rows.specs.Coldest.{pins_at}
use Rattle.far_rows.specs.Renewal.{RowsTickets, RenewsRows, renewed_rows}
use Rattle.far_rows.specs.Rows.{Rows}
use Rattle.far_frame.specs.Pins.{ArePinnedHere, is_here}
use Rattle.far_frame.specs.Renewing.{IsMigratedTo}
use Rattle.far_frame.specs.State.{State}
use Rattle.far_frame.specs.Worlds.{World}

at-renewed : (word : Pointer) → at_of (renewed_word word) ≡ at_of word
at-renewed (Local at dirty hot far) = refl
at-renewed Remote = refl

place-renewed : (words : List Pointer) (o : ℕ) → place_of (map renewed_word words) o ≡ place_of words o
place-renewed [] o = refl
place-renewed (word ∷ words) zero = at-renewed word
place-renewed (word ∷ words) (suc o) = place-renewed words o

none-long : {A : Type 0} (n : ℕ) → zero ≡ suc n → A
none-long n h = absurd (let no : ⊥ = cc in no)

same-rest : (n m : ℕ) → suc n ≡ suc m → n ≡ m
same-rest n m h = cc

module _ {K L : Type 0} where
  object_record-pins : (records : List (ObjectRecord K)) (tickets : List (Option L)) → length tickets ≡ length records → (o : ℕ) → option_map_or (λ e. e.pins) (slice_get (map (λ (e : ObjectRecord K × Option L). renewed_record e.0 e.1) (zip records tickets)) o) 0 ≡ option_map_or (λ e. e.pins) (slice_get records o) 0
  object_record-pins [] tickets same_length o = refl
  object_record-pins (e ∷ records) [] same_length o = none-long (length records) same_length
  object_record-pins (e ∷ records) (t ∷ tickets) same_length zero = refl
  object_record-pins (e ∷ records) (t ∷ tickets) same_length (suc o) = object_record-pins records tickets (same-rest (length tickets) (length records) same_length) o

  rows-local : (r : Rows K) (tickets : RowsTickets L) (o : Object) → is_here (renewed_rows r tickets) o ≡ is_here r o
  rows-local r tickets (object.Number o) = ap is_some (place-renewed r.number_objects.memory.words o)
  rows-local r tickets (object.Text o) = ap is_some (place-renewed r.text_objects.memory.words o)

  module _ (content : K → List ℕ) (new_content : L → List ℕ) where
    pub rows-pinned : (r : Rows K) (tickets : RowsTickets L) → RenewsRows content new_content r tickets → (o : Object) → pins_at (renewed_rows r tickets) o ≡ pins_at r o
    rows-pinned r tickets renews (object.Number o) = object_record-pins r.number_objects.records tickets.numbers renews.numbers.same_length o
    rows-pinned r tickets renews (object.Text o) = object_record-pins r.text_objects.records tickets.texts renews.texts.same_length o

    -- each object keeps its pins
    pub migrated-pins : (id : List ℕ) (old : World K) (new : World L) → IsMigratedTo content new_content id old new → (o : Object) → pins_at new.state.rows o ≡ pins_at old.state.rows o
    migrated-pins id old new h o = ap (λ (t : State L). pins_at t.rows o) h.migrated.state ∙ rows-pinned old.state.rows h.migrated.tickets h.migrated.renews o

    -- each object is local if it was local
    pub migrated-here : (id : List ℕ) (old : World K) (new : World L) → IsMigratedTo content new_content id old new → (o : Object) → is_here new.state.rows o ≡ is_here old.state.rows o
    migrated-here id old new h o = ap (λ (t : State L). is_here t.rows o) h.migrated.state ∙ rows-local old.state.rows h.migrated.tickets o

    -- each pinned object is local, if this was so before
    pub migrated-holds : (id : List ℕ) (old : World K) (new : World L) → ArePinnedHere old.state.rows → IsMigratedTo content new_content id old new → ArePinnedHere new.state.rows
    migrated-holds id old new all h o some = migrated-here id old new h o ∙ all o (λ none. some (migrated-pins id old new h o ∙ none))
