-- Objects after their far copies moved to another store.
use Rattle.std.proofs.Common.{◌≡◌, ◌⊎◌, ℕ, zero, suc, Bool, true, false, inl, inr, List, [], ◌∷◌, length, map, cond, Option, Some, None, IsSome, refl, sym, ap, subst, ◌∙◌, arith}
use Rattle.std.specs.Prelude.{is_some, slice_get, option_map, IfSome, IsSomeAnd}
use Rattle.std.specs.List.{zip}
use Rattle.std.specs.Option.{option_and_then, option_map_or, option_or}
use Rattle.std.proofs.lemmas.Bool.{cases_Bool}
use Rattle.std.proofs.lemmas.List.{length-map}
use Rattle.std.proofs.lemmas.Option.{slice_get-map}
use Rattle.far_pointer.specs.declared.pointer.Pointer.{Pointer}
use Rattle.far_pointer.specs.declared.pointer.Pointer.TheVariants.{Local, Remote}
use Rattle.far_pointer.specs.Layout.{is_dirty}
use Rattle.far_log.specs.RegionState.{part_of}
use Rattle.far_scopes.specs.declared.object_record.ObjectRecord.{ObjectRecord}
use Rattle.far_scopes.specs.Memory.{at_of, place_of, list_in}
use Rattle.far_scopes.specs.Movement.{Movement, is_local, dirty, ticket_of, list_of, AreClean, AreHere, IsTracked, AreTracked}
use Rattle.far_scopes.specs.Renewal.{renewed_word, renewed_record, after_renew, ticket_in, Renews, AreTicketsHere}
use Rattle.far_scopes.proofs.MemoryPlaces.{none_or_some, same_some}
use Rattle.far_scopes.proofs.MemoryWordPlaces.{some-true}
use Rattle.far_scopes.proofs.RenewalWords.{place-renewed, list-renewed}

module _ {K L : Type 0} where
  abbrev pub records-renewed : List (ObjectRecord K) → List (Option L) → List (ObjectRecord L)
  records-renewed records tickets = map (λ (e : ObjectRecord K × Option L). renewed_record e.0 e.1) (zip records tickets)

  -- if one of two lists of equal length is empty, no record remains
  pub none-left : (records : List (ObjectRecord K)) (tickets : List (Option L)) → length records ≡ length tickets → (length records ≡ 0) ⊎ (length tickets ≡ 0) → records-renewed records tickets ≡ []
  none-left [] tickets same_length spent = refl
  none-left (e ∷ records) [] same_length spent = refl
  none-left (e ∷ records) (t ∷ tickets) same_length (inl spent) = absurd (omega (arith, spent))
  none-left (e ∷ records) (t ∷ tickets) same_length (inr spent) = absurd (omega (arith, spent))

  length-renewed : (records : List (ObjectRecord K)) (tickets : List (Option L)) → length tickets ≡ length records → length (records-renewed records tickets) ≡ length records
  length-renewed [] tickets same_length = refl
  length-renewed (e ∷ records) [] same_length = absurd (omega (arith, same_length))
  length-renewed (e ∷ records) (t ∷ tickets) same_length = ap suc (length-renewed records tickets (omega (arith, same_length)))

  object_record-renewed : (records : List (ObjectRecord K)) (tickets : List (Option L)) (o : ℕ) → length tickets ≡ length records → slice_get (records-renewed records tickets) o ≡ option_map (λ e. renewed_record e (ticket_in tickets o)) (slice_get records o)
  object_record-renewed [] tickets o same_length = refl
  object_record-renewed (e ∷ records) [] o same_length = absurd (omega (arith, same_length))
  object_record-renewed (e ∷ records) (t ∷ tickets) zero same_length = refl
  object_record-renewed (e ∷ records) (t ∷ tickets) (suc o) same_length = object_record-renewed records tickets o (omega (arith, same_length))

  ticket-renewed : (records : List (ObjectRecord K)) (tickets : List (Option L)) (o : ℕ) → length tickets ≡ length records → option_and_then (λ (e : ObjectRecord L). e.ticket) (slice_get (records-renewed records tickets) o) ≡ ticket_in tickets o
  ticket-renewed [] [] o same_length = refl
  ticket-renewed [] (t ∷ tickets) o same_length = absurd (omega (arith, same_length))
  ticket-renewed (e ∷ records) [] o same_length = absurd (omega (arith, same_length))
  ticket-renewed (e ∷ records) (t ∷ tickets) zero same_length = refl
  ticket-renewed (e ∷ records) (t ∷ tickets) (suc o) same_length = ticket-renewed records tickets o (omega (arith, same_length))

map-twice : {A B C : Type 0} (f : A → B) (g : B → C) (o : Option A) → option_map (λ x. g (f x)) o ≡ option_map g (option_map f o)
map-twice f g None = refl
map-twice f g (Some x) = refl

-- two tickets with the same content, or none
module _ {K L : Type 0} (content : K → List ℕ) (content' : L → List ℕ) where
  both-some : (old : Option K) (new : Option L) → option_map content' new ≡ option_map content old → is_some old ≡ is_some new
  both-some None None is = refl
  both-some None (Some t) is = cc
  both-some (Some k) None is = cc
  both-some (Some k) (Some t) is = refl

  and-some : (P : List ℕ → Type 0) (old : Option K) (new : Option L) → option_map content' new ≡ option_map content old → IsSomeAnd old (λ k. P (content k)) → IsSomeAnd new (λ t. P (content' t))
  and-some P None new is h = absurd h
  and-some P (Some k) None is h = cc
  and-some P (Some k) (Some t) is h = let same : Some (content' t) ≡ Some (content k) = is in subst P (let e : content k ≡ content' t = cc in e) h

  if-some : (P : List ℕ → Type 0) (old : Option K) (new : Option L) → option_map content' new ≡ option_map content old → IfSome old (λ k. P (content k)) → IfSome new (λ t. P (content' t))
  if-some P old None is h = tt
  if-some P None (Some t) is h = cc
  if-some P (Some k) (Some t) is h = let same : Some (content' t) ≡ Some (content k) = is in subst P (let e : content k ≡ content' t = cc in e) h

module _ {X K L : Type 0} (meaning : List ℕ → List X) (content : K → List ℕ) (content' : L → List ℕ) (spelled : List X → List ℕ → Type 0) where
  -- the invariant of one object
  one-renewed : (max_writes leavings : ℕ) (word : Pointer) (list : Option (List X)) (object_record : ObjectRecord K) (ticket : Option L) → IsTracked meaning content spelled max_writes leavings word list object_record
      → option_map content' ticket ≡ cond (is_some (at_of word)) None (option_map content object_record.ticket) → IsTracked meaning content' spelled max_writes leavings (renewed_word word) list (renewed_record object_record ticket)
  one-renewed max_writes leavings (Local at dirty hot far) list object_record None t is = record { version = t.version; left = t.left; some = t.some; long = t.long; away = λ remote. cc; copy = refl; far = tt }
  one-renewed max_writes leavings (Local at dirty hot far) list object_record (Some k) t is = cc
  one-renewed max_writes leavings Remote list object_record ticket t is = record {
    version = t.version;
    left = t.left;
    some = t.some;
    long = t.long;
    away = λ remote. ((t.away refl).0, and-some content content' (λ bytes. length (meaning bytes) ≡ object_record.len) object_record.ticket ticket is (t.away refl).1);
    copy = t.copy ∙ both-some content content' object_record.ticket ticket is;
    far = if-some content content' (λ bytes. spelled (meaning bytes) bytes) object_record.ticket ticket is t.far;
  }

  module _ (m : Movement X K) (tickets : List (Option L)) (renews : Renews content content' m tickets) where
    pub here-renewed : (is_of : L → List ℕ → Type 0) (id : List ℕ) → AreTicketsHere is_of id tickets → AreHere is_of id (after_renew m tickets)
    here-renewed is_of id here o = rw (ticket-renewed m.records tickets o renews.same_length) (here o)

    meant-renewed : (o : ℕ) → option_map (λ k. meaning (content' k)) (ticket_of (after_renew m tickets) o) ≡ cond (is_local m o) None (option_map (λ k. meaning (content k)) (ticket_of m o))
    meant-renewed o = ap (option_map (λ k. meaning (content' k))) (ticket-renewed m.records tickets o renews.same_length) ∙ map-twice content' meaning (ticket_in tickets o) ∙ ap (option_map meaning) (renews.each o) ∙ through (is_local m o)
      where
        through : (b : Bool) → option_map meaning (cond b None (option_map content (ticket_of m o))) ≡ cond b None (option_map (λ k. meaning (content k)) (ticket_of m o))
        through true = refl
        through false = sym (map-twice content meaning (ticket_of m o))

    list-first : (l rest : Option (List X)) → IsSome l → option_or l rest ≡ l
    list-first None rest there = cc
    list-first (Some xs) rest there = refl

    pub lists-renewed : ((p : ℕ) → IsSome (place_of m.memory.words p) → IsSome (list_in m.memory p)) → (o : ℕ) → list_of meaning content' (after_renew m tickets) o ≡ list_of meaning content m o
    lists-renewed placed o = ap (λ l. option_or l (option_map (λ k. meaning (content' k)) (ticket_of (after_renew m tickets) o))) (list-renewed m.memory o) ∙ elim (cases_Bool (is_local m o)) [
      | inl local ↦ (let there = placed o (some-true (place_of m.memory.words o) local) in list-first (list_in m.memory o) _ there ∙ sym (list-first (list_in m.memory o) _ there))
      | inr away ↦ ap (option_or (list_in m.memory o)) (meant-renewed o ∙ ap (λ b. cond b None (option_map (λ k. meaning (content k)) (ticket_of m o))) away)
    ]

    clean-word : (word : Option Pointer) → option_map_or is_dirty (option_map renewed_word word) false ≡ false → option_and_then at_of word ≡ None
    clean-word None clean = refl
    clean-word (Some (Local at dirty hot far)) clean = cc
    clean-word (Some Remote) clean = refl

    pub clean-renewed : AreClean meaning content' (after_renew m tickets)
    clean-renewed o clean =
        let away : place_of m.memory.words o ≡ None = clean-word (slice_get m.memory.words o) (ap (λ w. option_map_or is_dirty w false) (sym (slice_get-map renewed_word m.memory.words o)) ∙ clean) in
        ap (λ l. option_or l (option_map (λ k. meaning (content' k)) (ticket_of (after_renew m tickets) o))) (list-renewed m.memory o ∙ ap (option_and_then (part_of m.memory.state)) away)

    was : {A B : Type 0} (f : A → B) (old : Option A) (new : Option B) (now : B) → new ≡ option_map f old → new ≡ Some now → (x : A) × (old ≡ Some x) × (now ≡ f x)
    was f None new now is there = absurd (none_or_some new is there)
    was f (Some x) new now is there = (x, refl, same_some new there is)

    pub tracked-renewed : AreTracked meaning content spelled m → AreTracked meaning content' spelled (after_renew m tickets)
    tracked-renewed tracked = record {
      same_length = length-renewed m.records tickets renews.same_length ∙ tracked.same_length ∙ sym (length-map m.memory.words renewed_word);
      few = rw (length-renewed m.records tickets renews.same_length) tracked.few;
      each = λ o word object_record w e.
          let (word', w', same) = was renewed_word (slice_get m.memory.words o) _ word (slice_get-map renewed_word m.memory.words o) w in
          let (entry', e', is) = was (λ x. renewed_record x (ticket_in tickets o)) (slice_get m.records o) _ object_record (object_record-renewed m.records tickets o renews.same_length) e in
          let content-is : option_map content' (ticket_in tickets o) ≡ cond (is_some (at_of word')) None (option_map content entry'.ticket) = renews.each o ∙ ap (λ w. cond (is_some (option_and_then at_of w)) None (option_map content (ticket_of m o))) w' ∙ ap (λ x. cond (is_some (at_of word')) None (option_map content (option_and_then (λ (r : ObjectRecord K). r.ticket) x))) e' in
          rw (same, is, list-renewed m.memory o) (one-renewed m.max_writes m.leavings word' (list_in m.memory o) entry' (ticket_in tickets o) (tracked.each o word' entry' w' e') content-is);
      once = tracked.once;
      ordered = λ o. tracked.ordered o ∙ sym (ap is_some (place-renewed m.memory.words o));
    }
