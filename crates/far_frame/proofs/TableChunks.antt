-- Steps that pin, unpin, evict or fetch a chunk: nothing else changes.
use Rattle.std.proofs.Common.{◌≡◌, ◌<◌, ℕ, zero, suc, ◌+◌, ◌-◌, ℤ, Bool, true, false, not, List, [], ◌∷◌, length, Option, None, Some, IsSomeAnd, refl, sym, ap, ◌∙◌, arith}
use Rattle.std.specs.Prelude.{slice_get, slice_set}
use Rattle.std.specs.Option.{option_map_or}
use Rattle.std.proofs.lemmas.Option.{slice_get_within}
use Rattle.far_types.specs.declared.cell.Kind.{Kind}
use Rattle.far_types.specs.declared.cell.Kind.TheVariants as kind
use Rattle.far_types.specs.declared.refusal.Refusal.TheVariants as refusal
use Rattle.far_types.specs.FirstOf.{first_of}
use Rattle.far_types.specs.Table.{Registered, is_pending}
use Rattle.far_pointer.specs.declared.pointer.Pointer.{Pointer}
use Rattle.far_pointer.specs.declared.pointer.Pointer.TheVariants.{Local, Remote}
use Rattle.far_scopes.specs.declared.object_record.ObjectRecord.{ObjectRecord}
use Rattle.far_scopes.specs.Movement.{is_local, pins_of, word_of}
use Rattle.far_scopes.specs.Placing.{spot}
use Rattle.far_scopes.specs.Effects.{with_record, after_leave, after_arrive}
use Rattle.far_scopes.proofs.MovementFrames.{object_record-with_other}
use Rattle.far_columns.specs.Numbers.{number_lists}
use Rattle.far_evacuator.specs.Jobs.{CarriedEvacuation, CarriedFetch}
use Rattle.far_texts.specs.Texts.{lists_of}
use Rattle.far_rows.specs.declared.object.Object.{Object}
use Rattle.far_rows.specs.declared.object.Object.TheVariants as object
use Rattle.far_rows.specs.Coldest.{pins_at}
use Rattle.far_rows.specs.Jobs.{IsAfterArrive, IsEvacAcceptedIn, IsFetchAcceptedIn, after_leave_in, pins_in}
use Rattle.far_rows.specs.Moving.{object_at, after_pin, after_unpin, IsInUse}
use Rattle.far_rows.specs.Rows.{Rows}
use Rattle.far_table.specs.Offloading.{HoldsStill}
use Rattle.far_table.specs.Watching.{aggregate_at, after_scan_at}
use Rattle.far_frame.specs.declared.job.JobPhase.TheVariants as work
use Rattle.far_frame.specs.declared.step.Step.TheVariants as step
use Rattle.far_frame.specs.Jobs.{WorkOf, Commits, Installs, Merges}
use Rattle.far_frame.specs.State.{State, live}
use Rattle.far_frame.specs.TableRefusals.{TableState, due}
use Rattle.far_frame.specs.TableRuns.{changed}
use Rattle.far_frame.specs.TableViews.{is_gone, gone_at, pins_of_group, table_of, IsKept}
use Rattle.far_frame.proofs.MovementAway.{says_away}
use Rattle.far_frame.proofs.MovementPins.{false-true, reads-same, says_local, says_pins, changed-later, one_less}
use Rattle.far_frame.proofs.TableNames.{once, in-use, owner, there}
use Rattle.far_frame.proofs.TableObjects.{one-changed, objects-same, live-view}

-- writing one word changes only whether its own object is away
other-word : (words : List Pointer) (o p : ℕ) (word : Pointer) → (p ≡ o → ⊥) → says_away (slice_get (slice_set words o word) p) ≡ says_away (slice_get words p)
other-word [] o p word other = refl
other-word (w ∷ words) zero zero word other = absurd (other refl)
other-word (w ∷ words) zero (suc p) word other = refl
other-word (w ∷ words) (suc o) zero word other = refl
other-word (w ∷ words) (suc o) (suc p) word other = other-word words o p word (λ same. other (ap suc same))

word-set : (words : List Pointer) (o : ℕ) (word : Pointer) → o < length words → says_away (slice_get (slice_set words o word) o) ≡ says_away (Some word)
word-set [] o word low = absurd (omega (arith, low))
word-set (w ∷ words) zero word low = refl
word-set (w ∷ words) (suc o) word low = word-set words o word (omega (arith, low))

local-low : (words : List Pointer) (o : ℕ) (found : Option Pointer) → slice_get words o ≡ found → says_local found ≡ true → o < length words
local-low words o None at here = false-true here
local-low words o (Some word) at here = slice_get_within words o word at

not-away : (found : Option Pointer) → says_local found ≡ true → says_away found ≡ false
not-away None here = refl
not-away (Some (Local at dirty hot far)) here = refl
not-away (Some Remote) here = false-true here

some-with : {A : Type 0} (P Q : A → Type 0) (o : Option A) → ((x : A) → P x → Q x) → IsSomeAnd o P → IsSomeAnd o Q
some-with P Q None f h = absurd h
some-with P Q (Some x) f h = f x h

module _ {K : Type 0} where
  -- adding a pin, and removing one
  pin-more : (records : List (ObjectRecord K)) (o : ℕ) → o < length records → says_pins (slice_get (with_record records o (λ e. record e { pins = e.pins + 1 })) o) ≡ says_pins (slice_get records o) + 1
  pin-more [] o low = absurd (omega (arith, low))
  pin-more (e ∷ records) zero low = refl
  pin-more (e ∷ records) (suc o) low =
      ap (λ (l : List (ObjectRecord K)). says_pins (slice_get l (suc o))) (changed-later (λ (e : ObjectRecord K). record e { pins = e.pins + 1 }) e records o)
      ∙ pin-more records o (omega (arith, low))

  pin-less : (records : List (ObjectRecord K)) (o : ℕ) → says_pins (slice_get (with_record records o one_less) o) ≡ says_pins (slice_get records o) - 1
  pin-less [] o = refl
  pin-less (e ∷ records) zero = refl
  pin-less (e ∷ records) (suc o) = ap (λ (l : List (ObjectRecord K)). says_pins (slice_get l (suc o))) (changed-later one_less e records o) ∙ pin-less records o

  module _ (r : Rows K) where
    pinned-objects : (q : Object) → object_at (after_pin r q) ≡ object_at r
    pinned-objects (object.Number q) = objects-same r (after_pin r (object.Number q)) refl refl refl
    pinned-objects (object.Text q) = objects-same r (after_pin r (object.Text q)) refl refl refl

    unpinned-objects : (q : Object) → object_at (after_unpin r q) ≡ object_at r
    unpinned-objects (object.Number q) = objects-same r (after_unpin r (object.Number q)) refl refl refl
    unpinned-objects (object.Text q) = objects-same r (after_unpin r (object.Text q)) refl refl refl

    pinned-gone : (q o : Object) → is_gone (after_pin r q) o ≡ is_gone r o
    pinned-gone (object.Number q) (object.Number o) = refl
    pinned-gone (object.Number q) (object.Text o) = refl
    pinned-gone (object.Text q) (object.Number o) = refl
    pinned-gone (object.Text q) (object.Text o) = refl

    unpinned-gone : (q o : Object) → is_gone (after_unpin r q) o ≡ is_gone r o
    unpinned-gone (object.Number q) (object.Number o) = refl
    unpinned-gone (object.Number q) (object.Text o) = refl
    unpinned-gone (object.Text q) (object.Number o) = refl
    unpinned-gone (object.Text q) (object.Text o) = refl

    pinned-more : (q : Object) → IsInUse r q → pins_at (after_pin r q) q ≡ pins_at r q + 1
    pinned-more (object.Number q) low = pin-more r.number_objects.records q low
    pinned-more (object.Text q) low = pin-more r.text_objects.records q low

    pinned-less : (q : Object) → pins_at (after_unpin r q) q ≡ pins_at r q - 1
    pinned-less (object.Number q) = pin-less r.number_objects.records q
    pinned-less (object.Text q) = pin-less r.text_objects.records q

    pinned-others : (q p : Object) → (p ≡ q → ⊥) → pins_at (after_pin r q) p ≡ pins_at r p
    pinned-others (object.Number q) (object.Number p) other = ap says_pins (object_record-with_other r.number_objects.records q _ p (λ same. other (ap (λ n. object.Number n) same)))
    pinned-others (object.Text q) (object.Text p) other = ap says_pins (object_record-with_other r.text_objects.records q _ p (λ same. other (ap (λ n. object.Text n) same)))
    pinned-others (object.Number q) (object.Text p) other = refl
    pinned-others (object.Text q) (object.Number p) other = refl

    unpinned-others : (q p : Object) → (p ≡ q → ⊥) → pins_at (after_unpin r q) p ≡ pins_at r p
    unpinned-others (object.Number q) (object.Number p) other = ap says_pins (object_record-with_other r.number_objects.records q _ p (λ same. other (ap (λ n. object.Number n) same)))
    unpinned-others (object.Text q) (object.Text p) other = ap says_pins (object_record-with_other r.text_objects.records q _ p (λ same. other (ap (λ n. object.Text n) same)))
    unpinned-others (object.Number q) (object.Text p) other = refl
    unpinned-others (object.Text q) (object.Number p) other = refl

  module _ (content : K → List ℕ) (old new : State K) (kept : IsKept content old) (table : new.table ≡ old.table) where
    abbrev r : Rows K
    r = old.rows

    abbrev before : TableState
    before = table_of old

    abbrev seen : Rows K → TableState
    seen now = record { table = old.table; is_away = gone_at now; pins = pins_of_group now }

    as-seen : (now : Rows K) → new.rows ≡ now → table_of new ≡ seen now
    as-seen now is = λ i. record { table = table i; is_away = gone_at (is i); pins = pins_of_group (is i) }

    -- changing the pins of one object, or whether it is away, changes only its chunk
    pins-view : (now : Rows K) → new.rows ≡ now → object_at now ≡ object_at r → ((o : Object) → is_gone now o ≡ is_gone r o) → (x c g : ℕ) (q : Object) → object_at r c g ≡ Some q → pins_at now q ≡ x → ((p : Object) → (p ≡ q → ⊥) → pins_at now p ≡ pins_at r p) → table_of new ≡ record before { pins = changed c g x before.pins }
    pins-view now is objects gone x c g q at pinned rest =
        let same : seen now ≡ record before { pins = changed c g x before.pins } = λ i. record {
          table = old.table;
          is_away = λ d h. option_map_or (λ o. gone o i) (objects i d h) false;
          pins = λ d h. (ap (λ (p : Option Object). option_map_or (pins_at now) p 0) (λ j. objects j d h) ∙ one-changed (object_at r) (once content old kept) (pins_at r) (pins_at now) 0 x c g q at pinned rest d h) i;
        } in
        as-seen now is ∙ same

    gone-view : (now : Rows K) → new.rows ≡ now → object_at now ≡ object_at r → ((o : Object) → pins_at now o ≡ pins_at r o) → (x : Bool) (c g : ℕ) (q : Object) → object_at r c g ≡ Some q → is_gone now q ≡ x → ((p : Object) → (p ≡ q → ⊥) → is_gone now p ≡ is_gone r p) → table_of new ≡ record before { is_away = changed c g x before.is_away }
    gone-view now is objects pins x c g q at gone rest =
        let same : seen now ≡ record before { is_away = changed c g x before.is_away } = λ i. record {
          table = old.table;
          is_away = λ d h. (ap (λ (p : Option Object). option_map_or (is_gone now) p false) (λ j. objects j d h) ∙ one-changed (object_at r) (once content old kept) (is_gone r) (is_gone now) false x c g q at gone rest d h) i;
          pins = λ d h. option_map_or (λ o. pins o i) (objects i d h) 0;
        } in
        as-seen now is ∙ same

    pub pin-view : (c g : ℕ) (found : Option Object) → object_at r c g ≡ found → IsSomeAnd found (λ q. new.rows ≡ after_pin r q) → table_of new ≡ record before { pins = changed c g (before.pins c g + 1) before.pins }
    pin-view c g None at h = absurd h
    pin-view c g (Some q) at h = pins-view (after_pin r q) h (pinned-objects r q) (pinned-gone r q) (before.pins c g + 1) c g q at
        (pinned-more r q (in-use content old kept c g q at) ∙ ap (λ (p : Option Object). option_map_or (pins_at r) p 0 + 1) (sym at)) (pinned-others r q)

    pub unpin-view : (c g : ℕ) (found : Option Object) → object_at r c g ≡ found → IsSomeAnd found (λ q. new.rows ≡ after_unpin r q) → table_of new ≡ record before { pins = changed c g (before.pins c g - 1) before.pins }
    unpin-view c g None at h = absurd h
    unpin-view c g (Some q) at h = pins-view (after_unpin r q) h (unpinned-objects r q) (unpinned-gone r q) (before.pins c g - 1) c g q at
        (pinned-less r q ∙ ap (λ (p : Option Object). option_map_or (pins_at r) p 0 - 1) (sym at)) (unpinned-others r q)

    -- a chunk that was local and had no pin is evicted, or one that was away is fetched
    abbrev Leaves : Type 0
    Leaves = (c : ℕ) × (g : ℕ) × (due before (step.BeginEvac c g) ≡ None) × (before.pins c g ≡ 0) × (table_of new ≡ record before { is_away = changed c g true before.is_away })

    abbrev Arrives : Type 0
    Arrives = (c : ℕ) × (g : ℕ) × (due before (step.BeginFetch c g) ≡ None) × (table_of new ≡ record before { is_away = changed c g false before.is_away })

    leaves-view : (now : Rows K) → new.rows ≡ now → object_at now ≡ object_at r → ((o : Object) → pins_at now o ≡ pins_at r o) → (q : Object) → IsInUse r q → is_gone r q ≡ false → pins_at r q ≡ 0 → is_gone now q ≡ true → ((p : Object) → (p ≡ q → ⊥) → is_gone now p ≡ is_gone r p) → Leaves
    leaves-view now is objects pins q used local free gone rest =
        let own = owner content old kept q used in
        let fits = there content old kept own.0 own.1 q own.2 in
        let stays : gone_at r own.0 own.1 ≡ false = ap (λ (p : Option Object). option_map_or (is_gone r) p false) own.2 ∙ local in (
          own.0,
          own.1,
          (λ i. first_of ((fits.0 i, refusal.NoColumn) ∷ (fits.1 i, refusal.OutOfRange) ∷ (stays i, refusal.Absent own.0 own.1) ∷ [])),
          ap (λ (p : Option Object). option_map_or (pins_at r) p 0) own.2 ∙ free,
          gone-view now is objects pins true own.0 own.1 q own.2 gone rest,
        )

    arrives-view : (now : Rows K) → new.rows ≡ now → object_at now ≡ object_at r → ((o : Object) → pins_at now o ≡ pins_at r o) → (q : Object) → IsInUse r q → is_gone r q ≡ true → is_gone now q ≡ false → ((p : Object) → (p ≡ q → ⊥) → is_gone now p ≡ is_gone r p) → Arrives
    arrives-view now is objects pins q used away here rest =
        let own = owner content old kept q used in
        let fits = there content old kept own.0 own.1 q own.2 in
        let gone : not (gone_at r own.0 own.1) ≡ false = ap (λ (p : Option Object). not (option_map_or (is_gone r) p false)) own.2 ∙ ap not away in (
          own.0,
          own.1,
          (λ i. first_of ((fits.0 i, refusal.NoColumn) ∷ (fits.1 i, refusal.OutOfRange) ∷ (gone i, refusal.StaleJob) ∷ [])),
          gone-view now is objects pins false own.0 own.1 q own.2 here rest,
        )

    number-leaves : (o : ℕ) (ticket : K) → is_local r.number_objects o ≡ true → pins_of r.number_objects o ≡ 0 → new.rows ≡ record r { number_objects = after_leave r.number_objects o ticket } → Leaves
    number-leaves o ticket local free is =
        let low : o < length r.number_objects.memory.words = local-low r.number_objects.memory.words o (word_of r.number_objects o) refl local in
        let used : o < length r.number_objects.records = omega (arith, low, kept.numbers) in
        leaves-view (record r { number_objects = after_leave r.number_objects o ticket }) is (objects-same r (record r { number_objects = after_leave r.number_objects o ticket }) refl refl refl) pins (object.Number o) used (not-away (word_of r.number_objects o) local) free
        (word-set r.number_objects.memory.words o Remote low) others where
          pins : (p : Object) → pins_at (record r { number_objects = after_leave r.number_objects o ticket }) p ≡ pins_at r p
          pins (object.Number p) = reads-same (λ (e : ObjectRecord K). record e { leavings = e.leavings + 1; ticket = Some ticket }) says_pins (λ e. refl) r.number_objects.records o p
          pins (object.Text p) = refl

          others : (p : Object) → (p ≡ object.Number o → ⊥) → is_gone (record r { number_objects = after_leave r.number_objects o ticket }) p ≡ is_gone r p
          others (object.Number p) other = other-word r.number_objects.memory.words o p Remote (λ same. other (ap (λ n. object.Number n) same))
          others (object.Text p) other = refl

    text-leaves : (o : ℕ) (ticket : K) → is_local r.text_objects o ≡ true → pins_of r.text_objects o ≡ 0 → new.rows ≡ record r { text_objects = after_leave r.text_objects o ticket } → Leaves
    text-leaves o ticket local free is =
        let low : o < length r.text_objects.memory.words = local-low r.text_objects.memory.words o (word_of r.text_objects o) refl local in
        let used : o < length r.text_objects.records = omega (arith, low, kept.texts) in
        leaves-view (record r { text_objects = after_leave r.text_objects o ticket }) is (objects-same r (record r { text_objects = after_leave r.text_objects o ticket }) refl refl refl) pins (object.Text o) used (not-away (word_of r.text_objects o) local) free
        (word-set r.text_objects.memory.words o Remote low) others where
          pins : (p : Object) → pins_at (record r { text_objects = after_leave r.text_objects o ticket }) p ≡ pins_at r p
          pins (object.Text p) = reads-same (λ (e : ObjectRecord K). record e { leavings = e.leavings + 1; ticket = Some ticket }) says_pins (λ e. refl) r.text_objects.records o p
          pins (object.Number p) = refl

          others : (p : Object) → (p ≡ object.Text o → ⊥) → is_gone (record r { text_objects = after_leave r.text_objects o ticket }) p ≡ is_gone r p
          others (object.Text p) other = other-word r.text_objects.memory.words o p Remote (λ same. other (ap (λ n. object.Text n) same))
          others (object.Number p) other = refl

    kind-leaves : (number_of : K → ℕ) (of : Kind) (carried : CarriedEvacuation K) → IsEvacAcceptedIn number_of r of carried → pins_in r of carried.job.object ≡ 0 → new.rows ≡ after_leave_in r of carried.job.object carried.ticket → Leaves
    kind-leaves number_of kind.Int carried accepted free away = number-leaves carried.job.object carried.ticket accepted.local free away
    kind-leaves number_of kind.Text carried accepted free away = text-leaves carried.job.object carried.ticket accepted.local free away

    -- an accepted commit evicts the chunk
    pub leaves : (number_of : K → ℕ) (w : WorkOf K) → Commits number_of old w new → Leaves
    leaves number_of (work.Carried carried) h = kind-leaves number_of carried.job.kind carried h.changed.rows.accepted h.changed.rows.free h.changed.rows.away
    leaves number_of (work.Evac evac) h = absurd h
    leaves number_of (work.Fetch fetch) h = absurd h
    leaves number_of (work.Fetched fetched) h = absurd h
    leaves number_of (work.Offload build) h = absurd h
    leaves number_of (work.Offloaded build) h = absurd h

    number-arrives : (o : ℕ) (list : List (Option ℤ)) → word_of r.number_objects o ≡ Some Remote → new.rows ≡ record r { number_objects = after_arrive r.number_objects o list } → Arrives
    number-arrives o list away is =
        let low : o < length r.number_objects.memory.words = slice_get_within r.number_objects.memory.words o Remote away in
        let used : o < length r.number_objects.records = omega (arith, low, kept.numbers) in
        arrives-view (record r { number_objects = after_arrive r.number_objects o list }) is (objects-same r (record r { number_objects = after_arrive r.number_objects o list }) refl refl refl) pins (object.Number o) used (ap says_away away)
        (word-set r.number_objects.memory.words o (Local (spot r.number_objects.memory.state (length list)) false true true) low) others where
          pins : (p : Object) → pins_at (record r { number_objects = after_arrive r.number_objects o list }) p ≡ pins_at r p
          pins (object.Number p) = refl
          pins (object.Text p) = refl

          others : (p : Object) → (p ≡ object.Number o → ⊥) → is_gone (record r { number_objects = after_arrive r.number_objects o list }) p ≡ is_gone r p
          others (object.Number p) other = other-word r.number_objects.memory.words o p (Local (spot r.number_objects.memory.state (length list)) false true true) (λ same. other (ap (λ n. object.Number n) same))
          others (object.Text p) other = refl

    text-arrives : (o : ℕ) (list : List ℕ) → word_of r.text_objects o ≡ Some Remote → new.rows ≡ record r { text_objects = after_arrive r.text_objects o list } → Arrives
    text-arrives o list away is =
        let low : o < length r.text_objects.memory.words = slice_get_within r.text_objects.memory.words o Remote away in
        let used : o < length r.text_objects.records = omega (arith, low, kept.texts) in
        arrives-view (record r { text_objects = after_arrive r.text_objects o list }) is (objects-same r (record r { text_objects = after_arrive r.text_objects o list }) refl refl refl) pins (object.Text o) used (ap says_away away)
        (word-set r.text_objects.memory.words o (Local (spot r.text_objects.memory.state (length list)) false true true) low) others where
          pins : (p : Object) → pins_at (record r { text_objects = after_arrive r.text_objects o list }) p ≡ pins_at r p
          pins (object.Number p) = refl
          pins (object.Text p) = refl

          others : (p : Object) → (p ≡ object.Text o → ⊥) → is_gone (record r { text_objects = after_arrive r.text_objects o list }) p ≡ is_gone r p
          others (object.Text p) other = other-word r.text_objects.memory.words o p (Local (spot r.text_objects.memory.state (length list)) false true true) (λ same. other (ap (λ n. object.Text n) same))
          others (object.Number p) other = refl

    kind-arrives : (number_of : K → ℕ) (of : Kind) (fetched : CarriedFetch K) → IsFetchAcceptedIn number_of r of fetched → IsAfterArrive content r of fetched.job.object new.rows → Arrives
    kind-arrives number_of kind.Int fetched accepted is = back (number_lists content r.number_objects fetched.job.object) is where
      back : (found : Option (List (Option ℤ))) → IsSomeAnd found (λ list. new.rows ≡ record r { number_objects = after_arrive r.number_objects fetched.job.object list }) → Arrives
      back None k = absurd k
      back (Some list) k = number-arrives fetched.job.object list accepted.away k
    kind-arrives number_of kind.Text fetched accepted is = back (lists_of content r.text_objects fetched.job.object) is where
      back : (found : Option (List ℕ)) → IsSomeAnd found (λ list. new.rows ≡ record r { text_objects = after_arrive r.text_objects fetched.job.object list }) → Arrives
      back None k = absurd k
      back (Some list) k = text-arrives fetched.job.object list accepted.away k

    -- an accepted install fetches the chunk
    pub arrives : (number_of : K → ℕ) (w : WorkOf K) → Installs number_of old content w new → Arrives
    arrives number_of (work.Fetched fetched) h = kind-arrives number_of fetched.job.kind fetched h.changed.rows.accepted h.changed.rows.back
    arrives number_of (work.Evac evac) h = absurd h
    arrives number_of (work.Carried carried) h = absurd h
    arrives number_of (work.Fetch fetch) h = absurd h
    arrives number_of (work.Offload build) h = absurd h
    arrives number_of (work.Offloaded build) h = absurd h

  -- an accepted merge scans the row group
  pub scans : (number_of : K → ℕ) (old new : State K) (w : WorkOf K) → Merges number_of old w new → (a : ℕ) × (g : ℕ) × IsSomeAnd (aggregate_at old.table a) (λ aggregate. is_pending aggregate.pending g ≡ true) × (table_of new ≡ record (table_of old) { table = after_scan_at a g old.table })
  scans number_of old new (work.Offloaded build) h = (
    build.aggregate,
    build.group,
    some-with (HoldsStill number_of (live old) build) (λ (aggregate : Registered). is_pending aggregate.pending build.group ≡ true) (aggregate_at old.table build.aggregate) (λ aggregate still. still.pending) h.changed.accepted,
    live-view new _ h.changed.state,
  )
  scans number_of old new (work.Evac evac) h = absurd h
  scans number_of old new (work.Carried carried) h = absurd h
  scans number_of old new (work.Fetch fetch) h = absurd h
  scans number_of old new (work.Fetched fetched) h = absurd h
  scans number_of old new (work.Offload build) h = absurd h
