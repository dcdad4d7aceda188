-- Calls that only move objects keep the invariant of a table's rows, and the places.
use Rattle.std.proofs.Common.{◌≡◌, ◌≢◌, ◌↔◌, ℕ, zero, suc, ◌+◌, ◌-◌, ℤ, List, [], ◌∷◌, length, map, Option, None, Some, Result, refl, sym, ap, subst, ◌∙◌, arith}
use Rattle.std.specs.Prelude.{All, IsSomeAnd, IsErrOf, OnOk, OnErr, slice_get, slice_set}
use Rattle.std.specs.declared.result.Result.TheVariants.{Ok, Err}
use Rattle.std.specs.Option.{option_map_or}
use Rattle.std.proofs.lemmas.Result.{on_ok_weaker}
use Rattle.far_types.specs.declared.cell.Kind.{Kind}
use Rattle.far_types.specs.declared.cell.Kind.TheVariants as kind
use Rattle.far_types.specs.declared.limits.Limits.{Limits}
use Rattle.far_types.specs.declared.refusal.Refusal.{Refusal}
use Rattle.far_types.specs.declared.refusal.Refusal.TheVariants as refusal
use Rattle.far_types.specs.Cells.{RowFits}
use Rattle.far_scopes.specs.declared.object_record.ObjectRecord.{ObjectRecord}
use Rattle.far_scopes.specs.Effects.{with_record, after_leave, after_arrive, after_pin as after_pin_in, after_unpin as after_unpin_in, after_touch as after_touch_in}
use Rattle.far_scopes.specs.Movement.{Movement, version_of}
use Rattle.far_evacuator.specs.Jobs.{CarriedEvacuation, CarriedFetch}
use Rattle.far_texts.specs.Texts.{Texts, lists_of}
use Rattle.far_columns.specs.Numbers.{number_lists}
use Rattle.far_scopes.proofs.Outcomes.{by-outcome}
use Rattle.far_rows.specs.declared.object.Object.{Object}
use Rattle.far_rows.specs.declared.object.Object.TheVariants as object
use Rattle.far_rows.specs.declared.column_index.ColumnIndex.{ColumnIndex}
use Rattle.far_rows.specs.ColumnIndexes.{Values, kind_of, row_of}
use Rattle.far_rows.specs.Rows.{Rows, all_cells}
use Rattle.far_rows.specs.Places.{places_in, places_of}
use Rattle.far_rows.specs.Moving.{object_at, after_pin, after_unpin, after_touch}
use Rattle.far_rows.specs.Jobs.{IsEvacAccepted, IsFetchAccepted, IsAfterArrive, IsAfterInstall, HasNoSpace, after_leave_in, after_commit, pins_by}
use Rattle.far_aggregates.specs.Accumulators.{PlacesFit}
use Rattle.far_table.specs.TableRows.{TableRows, AreWritten, AreTableRows, rows_in}
use Rattle.far_table.specs.Moving.{AreMoved, IsPinned, IsUnpinned, IsTouched, IsCommitted, IsInstalled, IsCompactedOf}

-- no object was written, and the limit of writes is the same
pub record AreAsWritten {X K L : Type 0} (old : Movement X K) (new : Movement X L) : Type 0 where
  pub max_writes : new.max_writes ≡ old.max_writes
  pub versions : (o : ℕ) → version_of new o ≡ version_of old o

-- only objects moved, and none was written; they may be in another store
pub record AreStill {K L : Type 0} (old : Rows K) (new : Rows L) : Type 0 where
  pub column_indexes : new.column_indexes ≡ old.column_indexes
  pub size : new.size ≡ old.size
  pub numbers : new.numbers ≡ old.numbers
  pub texts : new.texts ≡ old.texts
  pub alive : new.alive ≡ old.alive
  pub number_objects : AreAsWritten old.number_objects new.number_objects
  pub text_objects : AreAsWritten old.text_objects new.text_objects

module _ {K : Type 0} where
  abbrev pub writes : List (ObjectRecord K) → ℕ → ℕ
  writes records o = option_map_or (λ e. e.version) (slice_get records o) 0

  with-later : (e : ObjectRecord K) (records : List (ObjectRecord K)) (o : ℕ) (change : ObjectRecord K → ObjectRecord K) → with_record (e ∷ records) (suc o) change ≡ e ∷ with_record records o change
  with-later e records o change = found (slice_get records o) where
    found : (at : Option (ObjectRecord K)) → option_map_or (λ object_record. slice_set (e ∷ records) (suc o) (change object_record)) at (e ∷ records) ≡ e ∷ option_map_or (λ object_record. slice_set records o (change object_record)) at records
    found None = refl
    found (Some object_record) = refl

  -- a change of an object's record that keeps its version keeps the number of writes
  writes-with : (records : List (ObjectRecord K)) (o : ℕ) (change : ObjectRecord K → ObjectRecord K) → ((e : ObjectRecord K) → (change e).version ≡ e.version) → (p : ℕ) → writes (with_record records o change) p ≡ writes records p
  writes-with [] o change same p = refl
  writes-with (e ∷ records) zero change same zero = same e
  writes-with (e ∷ records) zero change same (suc p) = refl
  writes-with (e ∷ records) (suc o) change same zero = ap (λ l. writes l 0) (with-later e records o change)
  writes-with (e ∷ records) (suc o) change same (suc p) = ap (λ l. writes l (suc p)) (with-later e records o change) ∙ writes-with records o change same p

  module _ {X : Type 0} (m : Movement X K) where
    unwritten : AreAsWritten m m
    unwritten = record { max_writes = refl; versions = λ o. refl }

    after_pin-unwritten : (o : ℕ) → AreAsWritten m (after_pin_in m o)
    after_pin-unwritten o = record { max_writes = refl; versions = writes-with m.records o (λ e. record e { pins = e.pins + 1 }) (λ e. refl) }

    unpinned-unwritten : (o : ℕ) → AreAsWritten m (after_unpin_in m o)
    unpinned-unwritten o = record { max_writes = refl; versions = writes-with m.records o (λ e. record e { pins = e.pins - 1 }) (λ e. refl) }

    after_leave-unwritten : (o : ℕ) (ticket : K) → AreAsWritten m (after_leave m o ticket)
    after_leave-unwritten o ticket = record { max_writes = refl; versions = writes-with m.records o (λ e. record e { leavings = e.leavings + 1; ticket = Some ticket }) (λ e. refl) }

  module _ (r : Rows K) where
    number-still : (m : Movement (Option ℤ) K) → AreAsWritten r.number_objects m → AreStill r (record r { number_objects = m })
    number-still m same = record { column_indexes = refl; size = refl; numbers = refl; texts = refl; alive = refl; number_objects = same; text_objects = unwritten r.text_objects }

    text-still : (m : Movement ℕ K) → AreAsWritten r.text_objects m → AreStill r (record r { text_objects = m })
    text-still m same = record { column_indexes = refl; size = refl; numbers = refl; texts = refl; alive = refl; number_objects = unwritten r.number_objects; text_objects = same }

    pub nothing-still : AreStill r r
    nothing-still = number-still r.number_objects (unwritten r.number_objects)

    after_pin-one : (some : Object) → AreStill r (after_pin r some)
    after_pin-one (object.Number o) = number-still (after_pin_in r.number_objects o) (after_pin-unwritten r.number_objects o)
    after_pin-one (object.Text o) = text-still (after_pin_in r.text_objects o) (after_pin-unwritten r.text_objects o)

    unpinned-one : (some : Object) → AreStill r (after_unpin r some)
    unpinned-one (object.Number o) = number-still (after_unpin_in r.number_objects o) (unpinned-unwritten r.number_objects o)
    unpinned-one (object.Text o) = text-still (after_unpin_in r.text_objects o) (unpinned-unwritten r.text_objects o)

    after_touch-one : (some : Object) → AreStill r (after_touch r some)
    after_touch-one (object.Number o) = number-still (after_touch_in r.number_objects o) record { max_writes = refl; versions = λ p. refl }
    after_touch-one (object.Text o) = text-still (after_touch_in r.text_objects o) record { max_writes = refl; versions = λ p. refl }

    sent-away : (of : Kind) (o : ℕ) (ticket : K) → AreStill r (after_leave_in r of o ticket)
    sent-away kind.Int o ticket = number-still (after_leave r.number_objects o ticket) (after_leave-unwritten r.number_objects o ticket)
    sent-away kind.Text o ticket = text-still (after_leave r.text_objects o ticket) (after_leave-unwritten r.text_objects o ticket)

    module _ (now : Rows K) where
      one-still : {A : Type 0} (change : A → Rows K) → ((some : A) → AreStill r (change some)) → (found : Option A) → IsSomeAnd found (λ some. now ≡ change some) → AreStill r now
      one-still change each None is = absurd is
      one-still change each (Some one) is = subst (AreStill r) (sym is) (each one)

      pub pinned-still : (column group : ℕ) → IsPinned column group r now → AreStill r now
      pinned-still column group is = one-still (after_pin r) after_pin-one (object_at r column group) is

      pub unpinned-still : (column group : ℕ) → IsUnpinned column group r now → AreStill r now
      unpinned-still column group is = one-still (after_unpin r) unpinned-one (object_at r column group) is

      pub touched-still : (column group : ℕ) → IsTouched column group r now → AreStill r now
      touched-still column group is = one-still (after_touch r) after_touch-one (object_at r column group) is

      pub committed-still : (number_of : K → ℕ) (carried : CarriedEvacuation K) → IsCommitted number_of carried r now → AreStill r now
      committed-still number_of carried is = subst (AreStill r) (sym is.away) (sent-away carried.job.kind carried.job.object carried.ticket)

      arrived-still : (content : K → List ℕ) (of : Kind) (o : ℕ) → IsAfterArrive content r of o now → AreStill r now
      arrived-still content kind.Int o is = one-still (λ (list : List (Option ℤ)). record r { number_objects = after_arrive r.number_objects o list }) (λ list. number-still (after_arrive r.number_objects o list) record { max_writes = refl; versions = λ p. refl }) (number_lists content r.number_objects o) is
      arrived-still content kind.Text o is = one-still (λ (list : List ℕ). record r { text_objects = after_arrive r.text_objects o list }) (λ list. text-still (after_arrive r.text_objects o list) record { max_writes = refl; versions = λ p. refl }) (lists_of content r.text_objects o) is

      pub installed-still : (content : K → List ℕ) (number_of : K → ℕ) (fetched : CarriedFetch K) → IsInstalled content number_of fetched r now → AreStill r now
      installed-still content number_of fetched is = arrived-still content fetched.job.kind fetched.job.object is.back

      pub compacted-still : (of : Kind) (segment : ℕ) → IsCompactedOf of segment r now → AreStill r now
      compacted-still kind.Int segment is = subst (AreStill r) (sym is.1) (number-still (record r.number_objects { memory = now.number_objects.memory }) record { max_writes = refl; versions = λ p. refl })
      compacted-still kind.Text segment is = subst (AreStill r) (sym is.1) (text-still (record r.text_objects { memory = now.text_objects.memory }) record { max_writes = refl; versions = λ p. refl })

some-pin : (n : ℕ) → suc n ≡ 0 → ⊥
some-pin n is = omega (arith, is)

no-pin : (n : ℕ) → ¬ (n ≢ 0) → n ≡ 0
no-pin zero h = refl
no-pin (suc n) h = absurd (h (some-pin n))

not-refused : {A : Type 0} (done : A) (e : Refusal) → IsErrOf (Ok done) e → ⊥
not-refused done e h = cc

module _ {K A : Type 0} (number_of : K → ℕ) (old now : Rows K) where
  pub committed-both : (r : Result A Refusal) (carried : CarriedEvacuation K) → OnOk r (IsEvacAccepted number_of old carried) → OnOk r (now ≡ after_commit old carried)
      → (IsErrOf r refusal.Pinned ↔ (IsEvacAccepted number_of old carried × (pins_by old carried ≢ 0))) → OnOk r (IsCommitted number_of carried old now)
  committed-both (Ok done) carried accepted away after_pin = record { accepted = accepted; free = no-pin (pins_by old carried) (λ some. not-refused done refusal.Pinned (after_pin.1 (accepted, some))); away = away }
  committed-both (Err given) carried accepted away after_pin = accepted

  pub installed-both : (r : Result A Refusal) (content : K → List ℕ) (fetched : CarriedFetch K) → OnOk r (IsFetchAccepted number_of old fetched) → OnOk r (IsAfterInstall content old fetched now)
      → (IsErrOf r refusal.RegionFull ↔ (IsFetchAccepted number_of old fetched × HasNoSpace content old fetched)) → OnOk r (IsInstalled content number_of fetched old now)
  installed-both (Ok done) content fetched accepted back full = record { accepted = accepted; space = λ none. not-refused done refusal.RegionFull (full.1 (accepted, none)); back = back }
  installed-both (Err given) content fetched accepted back full = accepted

module _ {K : Type 0} (content : K → List ℕ) (schema : List Kind) (limits : Limits) (old : Rows K) (new_row : Values) (edits : ℕ) where
  written-still : {X L : Type 0} (m : Movement X K) (now : Movement X L) → AreAsWritten m now → AreWritten limits edits m → AreWritten limits edits now
  written-still m now kept are = record { max_writes = kept.max_writes ∙ are.max_writes; versions = λ o. (let before = are.versions o in let same = kept.versions o in omega (arith, before, same)) }

  module _ {L : Type 0} (new_content : L → List ℕ) (now : Rows L) (cells : all_cells new_content now ≡ all_cells content old) (still : AreStill old now) where
    pub still-places : places_in new_content now ≡ places_in content old
    still-places = λ i. places_of (cells i) (still.alive i)

    pub still-invariant : AreTableRows content schema limits old new_row edits → AreTableRows new_content schema limits now new_row edits
    still-invariant kept = record {
      bounds = kept.bounds;
      kinds = ap (map kind_of) still.column_indexes ∙ kept.kinds;
      layout = record { group = still.size ∙ kept.layout.group; limit = subst (λ (cs : List Texts). All (λ c. c.limit ≡ limits.text_size) cs) (sym still.texts) kept.layout.limit };
      few = omega (arith, ap length still.alive, kept.few);
      edits_few = kept.edits_few;
      numbers_written = written-still old.number_objects now.number_objects still.number_objects kept.numbers_written;
      texts_written = written-still old.text_objects now.text_objects still.text_objects kept.texts_written;
      numbers = kept.numbers ∙ sym (ap length still.numbers);
      texts = kept.texts ∙ sym (ap length still.texts);
      fit = subst PlacesFit (sym still-places) kept.fit;
      new_row_fit = subst (λ (column_indexes : List ColumnIndex). RowFits (row_of column_indexes new_row)) (sym still.column_indexes) kept.new_row_fit;
    }

  -- a call moved objects or was refused
  module _ {A : Type 0} (t : TableRows K) (is : rows_in content schema limits old new_row edits ≡ t) (r : Result A Refusal) (now : Rows K) (moves : Rows K → Rows K → Type 0) (ok : OnOk r (moves old now)) (err : OnErr r (now ≡ old)) (cells : all_cells content now ≡ all_cells content old) (still : moves old now → AreStill old now) where
    pub moved-invariant : AreTableRows content schema limits old new_row edits → AreTableRows content schema limits now new_row edits
    moved-invariant kept = still-invariant content now cells (by-outcome r ok err still (λ (same : now ≡ old). subst (AreStill old) (sym same) (nothing-still old))) kept

    pub moved-rows : OnOk r (AreMoved moves t (rows_in content schema limits now new_row edits))
    moved-rows = on_ok_weaker r (λ (done : moves old now). (
        let places = still-places content now cells (still done) in
        subst (λ (was : TableRows K). AreMoved moves was (rows_in content schema limits now new_row edits)) is
        record { stays = λ i. record { schema = schema; limits = limits; places = places i; edits = edits; new_row = new_row; held = now }; held = done }
        )) ok
