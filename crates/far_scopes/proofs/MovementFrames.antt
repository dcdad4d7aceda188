-- What calls do not change: the words and records of other objects, and the store of their tickets.
use Rattle.std.proofs.Common.{◌≡◌, ◌≢◌, ℕ, zero, suc, arith, ◌<◌, ◌+◌, inl, inr, List, [], ◌∷◌, length, Some, refl, sym, ap, subst, ◌∙◌, ◌-◌}
use Rattle.std.specs.Prelude.{Bool, true, false, ◌==◌, if◌then◌else◌, IfSome, is_some, slice_get}
use Rattle.std.specs.Option.{option_map_or, option_and_then}
use Rattle.std.proofs.lemmas.Bool.{cases_eq}
use Rattle.std.proofs.lemmas.Option.{slice_get_within}
use Rattle.far_pointer.specs.declared.pointer.Pointer.{Pointer}
use Rattle.far_scopes.specs.declared.object_record.ObjectRecord.{ObjectRecord}
use Rattle.far_scopes.specs.Memory.{Memory}
use Rattle.far_scopes.specs.Placing.{with_word, replaced}
use Rattle.far_scopes.specs.declared.replacement.Replacement.{Replacement}
use Rattle.far_scopes.specs.Effects.{with_record, with_lens, after_pin, after_unpin, after_write, after_write_all, after_overwrite, after_replace}
use Rattle.far_scopes.specs.Entering.{after_pin_all, after_close}
use Rattle.far_scopes.specs.Movement.{Movement, ChangesObject, AreHere, AreTracked, has_copy, word_of, ticket_of, pins_of}
use Rattle.far_scopes.proofs.MemoryPlaces.{cases_option}
use Rattle.far_scopes.proofs.MemoryWordPlaces.{slice_get-set_other, slice_get-set_same}

-- a change of one record changes no other record
pub object_record-with_other : {K : Type 0} (records : List (ObjectRecord K)) (o : ℕ) (change : ObjectRecord K → ObjectRecord K) (p : ℕ) → p ≢ o → slice_get (with_record records o change) p ≡ slice_get records p
object_record-with_other records o change p ne = elim (cases_option (slice_get records o)) [
  | inl none ↦ rw none refl
  | inr (object_record, is) ↦ rw is (slice_get-set_other records o p (change object_record) ne)
]

pub word-with_other : {X : Type 0} (memory : Memory X) (o : ℕ) (change : Pointer → Pointer) (p : ℕ) → p ≢ o → slice_get (with_word memory o change).words p ≡ slice_get memory.words p
word-with_other memory o change p ne = elim (cases_option (slice_get memory.words o)) [
  | inl none ↦ rw none refl
  | inr (word, is) ↦ rw is (slice_get-set_other memory.words o p (change word) ne)
]

module _ {X K : Type 0} where
  module _ (is_of : K → List ℕ → Type 0) (id : List ℕ) where
    -- one object changes, and its new ticket is of the store too
    pub here-one : (old new : Movement X K) (o : ℕ) → ChangesObject old new o → AreHere is_of id old → IfSome (ticket_of new o) (λ ticket. is_of ticket id) → AreHere is_of id new
    here-one old new o others here one p = elim (cases_eq p o) [
      | inl same ↦ subst (λ k. IfSome (ticket_of new k) (λ ticket. is_of ticket id)) (sym same) one
      | inr ne ↦ rw (others.records p ne) (here p)
    ]

    -- one object changes, and its ticket does not
    pub here-unchanged : (old new : Movement X K) (o : ℕ) → ChangesObject old new o → ticket_of new o ≡ ticket_of old o → AreHere is_of id old → AreHere is_of id new
    here-unchanged old new o others same here = here-one old new o others here (rw same (here o))

-- a changed record keeps its ticket if the change keeps tickets
pub ticket-with : {K : Type 0} (records : List (ObjectRecord K)) (o : ℕ) (change : ObjectRecord K → ObjectRecord K) → ((e : ObjectRecord K) → (change e).ticket ≡ e.ticket) → option_and_then (λ (e : ObjectRecord K). e.ticket) (slice_get (with_record records o change) o) ≡ option_and_then (λ (e : ObjectRecord K). e.ticket) (slice_get records o)
ticket-with {K = K} records o change same = elim (cases_option (slice_get records o)) [
  | inl none ↦ rw none (ap (option_and_then (λ (e : ObjectRecord K). e.ticket)) none)
  | inr (object_record, is) ↦ rw is (ap (option_and_then (λ (e : ObjectRecord K). e.ticket)) (slice_get-set_same records o (change object_record) (slice_get_within records o object_record is)) ∙ same object_record)
]

pub if-either : {A : Type 0} (P : A → Type 0) (b : Bool) (x y : A) → P x → P y → P (if b then x else y)
if-either P true x y p q = p
if-either P false x y p q = q

module _ {X K : Type 0} (m : Movement X K) (o : ℕ) where
  pub others-after_write : ChangesObject m (after_write m o) o
  others-after_write = record { words = word-with_other m.memory o _; records = object_record-with_other m.records o _ }

  pub others-after_overwrite : (i : ℕ) (ws : List X) → ChangesObject m (after_overwrite (after_write m o) o i ws) o
  others-after_overwrite i ws = record { words = others-after_write.words; records = others-after_write.records }

  pub others-after_replace : (list : List X) → ChangesObject m (after_replace m o list) o
  others-after_replace list =
      let mid : Movement X K = record m { memory = replaced m.memory o list; records = with_record m.records o (λ object_record. record object_record { len = length list }) } in
      record {
        words = λ p ne. word-with_other mid.memory o _ p ne ∙ word-with_other m.memory o _ p ne;
        records = λ p ne. object_record-with_other mid.records o _ p ne ∙ object_record-with_other m.records o _ p ne;
      }

  module _ (is_of : K → List ℕ → Type 0) (id : List ℕ) (here : AreHere is_of id m) where
    pub here-recorded : (change : ObjectRecord K → ObjectRecord K) → ((e : ObjectRecord K) → (change e).ticket ≡ e.ticket) → AreHere is_of id record m { records = with_record m.records o change }
    here-recorded change same = here-unchanged is_of id m record m { records = with_record m.records o change } o record { words = λ p ne. refl; records = object_record-with_other m.records o change } (ticket-with m.records o change same) here

    pub here-after_write : AreHere is_of id (after_write m o)
    here-after_write = here-recorded (λ object_record. record object_record { version = object_record.version + 1 }) (λ e. refl)

pub here-replaced : {X K : Type 0} (m : Movement X K) (o : ℕ) (list : List X) (is_of : K → List ℕ → Type 0) (id : List ℕ) → AreHere is_of id m → AreHere is_of id (after_replace m o list)
here-replaced m o list is_of id here =
    here-after_write record m { records = with_record m.records o (λ object_record. record object_record { len = length list }) } o is_of id (here-recorded m o is_of id here (λ object_record. record object_record { len = length list }) (λ e. refl))

module _ {X K : Type 0} (is_of : K → List ℕ → Type 0) (id : List ℕ) where
  pub here-after_pin_all : (m : Movement X K) (objects : List ℕ) → AreHere is_of id m → AreHere is_of id (after_pin_all m objects)
  here-after_pin_all m [] here = here
  here-after_pin_all m (o ∷ objects) here = here-after_pin_all (after_pin m o) objects (here-recorded m o is_of id here (λ object_record. record object_record { pins = object_record.pins + 1 }) (λ e. refl))

  pub here-closed : (m : Movement X K) (objects : List ℕ) → AreHere is_of id m → AreHere is_of id (after_close m objects).0
  here-closed m [] here = here
  here-closed m (o ∷ objects) here = if-either (λ (r : Movement X K × ℕ). AreHere is_of id r.0) (pins_of m o == 0) _ _
      (here-closed m objects here)
      (here-closed (after_unpin m o) objects (here-recorded m o is_of id here (λ object_record. record object_record { pins = object_record.pins - 1 }) (λ e. refl)))

some-within : {A : Type 0} (xs : List A) (i : ℕ) → i < length xs → (x : A) × (slice_get xs i ≡ Some x)
some-within [] i h = absurd (omega (arith, h))
some-within (x ∷ xs) zero h = (x, refl)
some-within (x ∷ xs) (suc i) h = some-within xs i (omega (arith, h))

-- an object has a ticket exactly if its word says that there is a far copy
pub copy-has_ticket : {X K : Type 0} (meaning : List ℕ → List X) (content : K → List ℕ) (spelled : List X → List ℕ → Type 0) (m : Movement X K) → AreTracked meaning content spelled m → (o : ℕ) → o < length m.records → is_some (ticket_of m o) ≡ option_map_or has_copy (word_of m o) false
copy-has_ticket meaning content spelled m tracked o h =
    let (object_record, e) = some-within m.records o h in
    let (word, w) = some-within m.memory.words o (omega (arith, tracked.same_length, h)) in
    rw (e, w) (sym (tracked.each o word object_record w e).copy)

module _ {X K : Type 0} (is_of : K → List ℕ → Type 0) (id : List ℕ) where
  here-lens : (m : Movement X K) (lists : List (Replacement X)) → AreHere is_of id m → AreHere is_of id record m { records = with_lens m.records lists }
  here-lens m [] here = here
  here-lens m (r ∷ rs) here =
      here-lens record m { records = with_record m.records r.object (λ object_record. record object_record { len = length r.list.items }) } rs (here-recorded m r.object is_of id here (λ object_record. record object_record { len = length r.list.items }) (λ e. refl))

  here-after_write_all : (m : Movement X K) (lists : List (Replacement X)) → AreHere is_of id m → AreHere is_of id (after_write_all m lists)
  here-after_write_all m [] here = here
  here-after_write_all m (r ∷ rs) here = here-after_write_all (after_write m r.object) rs (here-after_write m r.object is_of id here)

  -- the lists of several objects are replaced
  pub here-replaced_all : (m now : Movement X K) (lists : List (Replacement X)) → now.records ≡ with_lens m.records lists → AreHere is_of id m → AreHere is_of id (after_write_all now lists)
  here-replaced_all m now lists records here = here-after_write_all now lists (λ o. rw records (here-lens m lists here o))
