-- Writing over the elements of an object changes no list's length.
use Rattle.std.proofs.Common.{◌≡◌, ℕ, zero, suc, ◌+◌, ◌-◌, ◌≤◌, Bool, true, false, inl, inr, List, [], ◌∷◌, ◌++◌, length, map, nat_eq, cond, take, drop, length-take, length-drop, length-append, Option, Some, None, refl, sym, ap, ◌∙◌, arith}
use Rattle.std.specs.Prelude.{slice_set, option_map, IfSome, IsSomeAnd}
use Rattle.std.specs.Option.{option_or}
use Rattle.std.proofs.lemmas.Bool.{cases_eq, cases_lt}
use Rattle.std.proofs.lemmas.List.{get_or-set_same, get_or-set_other}
use Rattle.far_pointer.specs.declared.pointer.At.{At}
use Rattle.far_log.specs.RegionState.{Part, RegionState, list_at, segment_of, part_of}
use Rattle.far_log.specs.Effects.{after_write, after_write_at, written_over, after_overwrite as over_part}
use Rattle.far_scopes.specs.Memory.{Memory, place_of, list_in, ChangesList}
use Rattle.far_scopes.specs.Placing.{after_overwrite as after_overwrite_in}
use Rattle.far_scopes.specs.Movement.{Movement, dirty, ticket_of, list_of, AreClean, AreTracked}
use Rattle.far_scopes.specs.Effects.{after_overwrite}
use Rattle.far_scopes.proofs.MemoryPlaces.{cases_option}
use Rattle.far_scopes.proofs.MemoryWrites.{some-and}
use Rattle.far_scopes.proofs.MovementLaws.{Others, clean-one, list-one}

set-past : {A : Type 0} (xs : List A) (i : ℕ) (y : A) → length xs ≤ i → slice_set xs i y ≡ xs
set-past [] i y h = refl
set-past (x ∷ xs) zero y h = absurd (omega (arith, h))
set-past (x ∷ xs) (suc i) y h = ap (λ l. x ∷ l) (set-past xs i y (omega (arith, h)))

module _ {X : Type 0} where
  -- the length of a list, if there is one
  abbrev pub long : Option (List X) → Option ℕ
  long list = option_map (λ (xs : List X). length xs) list

  length-over : (xs : List X) (i : ℕ) (ws : List X) → length (written_over xs i ws) ≡ length xs
  length-over xs i ws =
      omega (arith, length-take (length xs) (take i xs ++ (ws ++ drop (i + length ws) xs)), length-append (take i xs) (ws ++ drop (i + length ws) xs), length-append ws (drop (i + length ws) xs), length-take i xs, length-drop (i + length ws) xs)

  long-part : (from : ℕ) (ws : List X) (ps : List (Part X)) (k : ℕ) → long (list_at (map (over_part from ws) ps) k) ≡ long (list_at ps k)
  long-part from ws [] k = refl
  long-part from ws (p ∷ ps) k = elim (nat_eq p.offset k) as (λ b. long (cond b (Some (over_part from ws p).list) (list_at (map (over_part from ws) ps) k)) ≡ long (cond b (Some p.list) (list_at ps k))) [
    | true ↦ ap Some (length-over p.list (from - p.offset) (drop (p.offset - from) ws))
    | false ↦ long-part from ws ps k
  ]

  long-at : (state : RegionState X) (at : At) (i : ℕ) (ws : List X) (q : At) → long (part_of (after_write_at state at i ws) q) ≡ long (part_of state q)
  long-at state at i ws q = elim (cases_lt at.segment (length state)) [
    | inr past ↦ rw (set-past state at.segment (after_write (segment_of state at.segment) (at.offset + i) ws) past) refl
    | inl within ↦ elim (cases_eq q.segment at.segment) [
      | inl same ↦ rw (same, get_or-set_same state at.segment (after_write (segment_of state at.segment) (at.offset + i) ws) record { parts = []; size = 0 } within) (long-part (at.offset + i) ws (segment_of state at.segment).parts q.offset)
      | inr ne ↦ rw (get_or-set_other state at.segment q.segment (after_write (segment_of state at.segment) (at.offset + i) ws) record { parts = []; size = 0 } ne) refl
    ]
  ]

  pub long-list : (memory : Memory X) (o i : ℕ) (ws : List X) (p : ℕ) → long (list_in (after_overwrite_in memory o i ws) p) ≡ long (list_in memory p)
  long-list memory o i ws p = elim (cases_option (place_of memory.words o)) [
    | inl none ↦ rw none refl
    | inr (at, is) ↦ elim (cases_option (place_of memory.words p)) [
      | inl none ↦ rw none refl
      | inr (q, there) ↦ rw (is, there) (long-at memory.state at i ws q)
    ]
  ]

some-length : (one other : ℕ) → Some one ≡ Some other → one ≡ other
some-length one other same = cc

still-long : {X : Type 0} (one other : Option (List X)) (n : ℕ) → long one ≡ long other → IfSome other (λ xs. length xs ≡ n) → IfSome one (λ xs. length xs ≡ n)
still-long None other n same h = tt
still-long (Some xs) None n same h = cc
still-long (Some xs) (Some ys) n same h = some-length (length xs) (length ys) same ∙ h

some-then : {A : Type 0} {B : Type 0} (P : A → Type 0) (o : Option A) → ((x : A) → P x → B) → IsSomeAnd o P → B
some-then P None f h = absurd h
some-then P (Some x) f h = f x h

true-or-false : (b : Bool) → b ≡ true → b ≡ false → ⊥
true-or-false b one other = cc

module _ {X K : Type 0} (meaning : List ℕ → List X) (content : K → List ℕ) (spelled : List X → List ℕ → Type 0) (m : Movement X K) (o i : ℕ) (ws : List X) where
  pub tracked-after_overwrite : AreTracked meaning content spelled m → AreTracked meaning content spelled (after_overwrite m o i ws)
  tracked-after_overwrite tracked = record {
    same_length = tracked.same_length;
    few = tracked.few;
    each = λ p word object_record w e. let t = tracked.each p word object_record w e in
        record { version = t.version; left = t.left; some = t.some; long = still-long (list_in (after_overwrite_in m.memory o i ws) p) (list_in m.memory p) object_record.len (long-list m.memory o i ws p) t.long; away = t.away; copy = t.copy; far = t.far };
    once = tracked.once;
    ordered = tracked.ordered;
  }

  module _ (now : List X) (change : ChangesList (list_in m.memory) (list_in (after_overwrite_in m.memory o i ws)) o (Some now)) where
    others : Others meaning content m (after_overwrite m o i ws) o
    others = record { words = λ p ne. refl; records = λ p ne. refl; lists = change.others }

    pub list-after_overwrite : ChangesList (list_of meaning content m) (list_of meaning content (after_overwrite m o i ws)) o (Some now)
    list-after_overwrite = list-one meaning content m (after_overwrite m o i ws) o others (Some now) (ap (λ l. option_or l (option_map (λ ticket. meaning (content ticket)) (ticket_of m o))) change.here)

    pub clean-after_overwrite : dirty m o ≡ true → AreClean meaning content m → AreClean meaning content (after_overwrite m o i ws)
    clean-after_overwrite marked clean = clean-one meaning content m (after_overwrite m o i ws) o others clean (λ c. absurd (true-or-false (dirty m o) marked c))

    -- compared with the objects before it counted as written
    pub list-since : (before : Movement X K) → ((p : ℕ) → list_of meaning content m p ≡ list_of meaning content before p) → ChangesList (list_of meaning content before) (list_of meaning content (after_overwrite m o i ws)) o (Some now)
    list-since before lists = record { here = list-after_overwrite.here; others = λ p ne. list-after_overwrite.others p ne ∙ lists p }

-- writing over a range of an object's elements
module _ {X K : Type 0} (meaning : List ℕ → List X) (content : K → List ℕ) (spelled : List X → List ℕ → Type 0) (before m : Movement X K) (o from to : ℕ)
    (parts : (p : ℕ) → list_in m.memory p ≡ list_in before.memory p) (lists : (p : ℕ) → list_of meaning content m p ≡ list_of meaning content before p) where
  -- the list after a range of it changes
  abbrev pub with_range : List X → List X → List X
  with_range list range = take from list ++ (range ++ drop to list)

  abbrev RangeIn : List X → Type 0
  RangeIn list = (range : List X) → length range ≡ to - from → ChangesList (list_in m.memory) (list_in (after_overwrite_in m.memory o from range)) o (Some (with_range list range))

  abbrev RangeOf : List X → Type 0
  RangeOf list = (range : List X) → length range ≡ to - from → ChangesList (list_of meaning content before) (list_of meaning content (after_overwrite m o from range)) o (Some (with_range list range))

  pub range-since : IsSomeAnd (list_in m.memory o) RangeIn → IsSomeAnd (list_in before.memory o) RangeOf
  range-since alone = rw (sym (parts o)) (some-and RangeIn RangeOf (list_in m.memory o) (λ list change range long. list-since meaning content spelled m o from range (with_range list range) (change range long) before lists) alone)

  pub clean-range : dirty m o ≡ true → IsSomeAnd (list_in m.memory o) RangeIn → (range : List X) → length range ≡ to - from → AreClean meaning content m → AreClean meaning content (after_overwrite m o from range)
  clean-range marked alone range long clean = some-then RangeIn (list_in m.memory o) (λ list change. clean-after_overwrite meaning content spelled m o from range (with_range list range) (change range long) marked clean) alone
