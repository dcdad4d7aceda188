-- The far copies of objects.
use Rattle.std.proofs.Common.{◌≡◌, ℕ, ◌<◌, true, false, inl, inr, List, length, Option, Some, None, refl, sym, ap, subst, ◌∙◌}
use Rattle.std.specs.Prelude.{IfSome, IsSomeAnd, option_map, slice_get}
use Rattle.std.specs.Option.{option_and_then, option_or}
use Rattle.far_pointer.specs.declared.pointer.Pointer.{Pointer}
use Rattle.far_pointer.specs.declared.pointer.Pointer.TheVariants.{Local, Remote}
use Rattle.far_pointer.specs.Layout.{HasWord, is_dirty}
use Rattle.far_scopes.specs.declared.object_record.ObjectRecord.{ObjectRecord}
use Rattle.far_scopes.specs.Memory.{list_in}
use Rattle.far_scopes.specs.Movement.{Movement, has_copy, word_of, record_of, dirty, ticket_of, list_of, AreClean, IsTracked, AreTracked}
use Rattle.far_scopes.proofs.MemoryPlaces.{cases_option}
use Rattle.far_scopes.proofs.MovementDepartures.{word-there}
use Rattle.far_scopes.proofs.MovementArrivals.{not-within}
use Rattle.far_evacuator.specs.Acceptance.{IsFarForm}

-- a word that is not dirty has the far bit
pub copy-clean : (word : Pointer) → HasWord word → is_dirty word ≡ false → has_copy word ≡ true
copy-clean (Local at d h true) has clean = refl
copy-clean (Local at true h false) has clean = cc
copy-clean (Local at false h false) has clean = let none : false ≡ true = has.2 in cc
copy-clean Remote has clean = refl

-- if an option's image is Some y, the option is Some x, and y is the image of x
pub mapped : {A B : Type 0} (f : A → B) (o : Option A) (y : B) → option_map f o ≡ Some y → (x : A) × (o ≡ Some x) × (f x ≡ y)
mapped f None y is = cc
mapped f (Some x) y is = let same : Some (f x) ≡ Some y = is in (x, refl, cc)

module _ {X K : Type 0} (meaning : List ℕ → List X) (content : K → List ℕ) (spelled : List X → List ℕ → Type 0) (m : Movement X K) (tracked : AreTracked meaning content spelled m) (o : ℕ) (within : o < length m.records) where
  abbrev object_record-there : (e : ObjectRecord K) × (record_of m o ≡ Some e)
  object_record-there = elim (cases_option (record_of m o)) [
    | inl none ↦ absurd (not-within m.records o within none)
    | inr some ↦ some
  ]

  abbrev object_record : ObjectRecord K
  object_record = object_record-there.0

  pub was : record_of m o ≡ Some object_record
  was = object_record-there.1

  ticket-was : ticket_of m o ≡ object_record.ticket
  ticket-was = ap (λ e. option_and_then (λ (x : ObjectRecord K). x.ticket) e) was

  abbrev word-was : (w : Pointer) × (slice_get m.memory.words o ≡ Some w)
  word-was = word-there m.memory.words o (subst (λ n. o < n) tracked.same_length within)

  of-object_record : IsTracked meaning content spelled m.max_writes m.leavings word-was.0 (list_in m.memory o) object_record
  of-object_record = tracked.each o word-was.0 object_record word-was.1 was

  -- the content of a ticket spells what the ticket means
  pub far-spelled : (ticket : K) → ticket_of m o ≡ Some ticket → spelled (meaning (content ticket)) (content ticket)
  far-spelled ticket is = subst (λ (t : Option K). IfSome t (λ k. spelled (meaning (content k)) (content k))) (sym ticket-was ∙ is) of-object_record.far

  -- the content of a clean object's ticket spells its list
  pub clean-spelled : AreClean meaning content m → dirty m o ≡ false → (list : List X) → list_in m.memory o ≡ Some list → (bytes : List ℕ) → option_map content (ticket_of m o) ≡ Some bytes → spelled list bytes
  clean-spelled clean is_clean list lent bytes under =
      let (ticket, is, same) = mapped content (ticket_of m o) bytes under in
      let means : Some list ≡ Some (meaning (content ticket)) = sym (ap (λ l. option_or l (option_map (λ k. meaning (content k)) (ticket_of m o))) lent) ∙ clean o is_clean ∙ ap (λ t. option_map (λ k. meaning (content k)) t) is in
      let list_is : list ≡ meaning (content ticket) = cc in
      subst (λ b. spelled list b) same (rw list_is (far-spelled ticket is))

  -- an object that is away has the list that its ticket's content means
  module _ (away : word_of m o ≡ Some Remote) (bytes : List ℕ) (under : option_map content (ticket_of m o) ≡ Some bytes) where
    abbrev its : (ticket : K) × (ticket_of m o ≡ Some ticket) × (content ticket ≡ bytes)
    its = mapped content (ticket_of m o) bytes under

    pub away-spelled : spelled (meaning bytes) bytes
    away-spelled = subst (λ b. spelled (meaning b) b) its.2 (far-spelled its.0 its.1)

    pub away-list : list_of meaning content m o ≡ Some (meaning bytes)
    away-list = rw (away, its.1, its.2) refl

    away-long : length (meaning bytes) ≡ object_record.len
    away-long = subst (λ b. length (meaning b) ≡ object_record.len) its.2 (subst (λ (t : Option K). IsSomeAnd t (λ k. length (meaning (content k)) ≡ object_record.len)) (sym ticket-was ∙ its.1) ((tracked.each o Remote object_record away was).away refl).1)

    -- the length of that list is the recorded one
    pub away-length : (len : ℕ) → option_map (λ (e : ObjectRecord K). e.len) (record_of m o) ≡ Some len → length (meaning bytes) ≡ len
    away-length len is = let same : Some object_record.len ≡ Some len = sym (ap (λ e. option_map (λ (x : ObjectRecord K). x.len) e) was) ∙ is in away-long ∙ cc

    -- the content is a far form of the object's element type and length
    pub away-form : IsFarForm spelled m o bytes
    away-form = rw was (meaning bytes, away-long, away-spelled)
