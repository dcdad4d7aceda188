-- The refusal that is due to a step of a table, in a user's words.
use Rattle.std.proofs.Common.{◌≡◌, ◌⊎◌, inl, inr, ℕ, zero, suc, ◌+◌, ◌==◌, ◌&&◌, ◌<◌, ◌||◌, not, Bool, true, false, List, map, [], ◌∷◌, ◌++◌, length, Option, None, Some, refl, sym, ap, subst, ◌∙◌, arith}
use Rattle.std.specs.Prelude.{is_none, nat_lt, option_map, slice_get}
use Rattle.std.specs.List.{enumerate_from}
use Rattle.std.specs.Option.{option_and_then, option_map_or, option_or}
use Rattle.std.proofs.lemmas.List.{append_assoc}
use Rattle.far_types.specs.declared.cell.Kind.{Kind}
use Rattle.far_types.specs.declared.edit.Edit.{Edit}
use Rattle.far_types.specs.declared.edit.Edit.TheVariants as edit
use Rattle.far_types.specs.declared.refusal.Refusal.{Refusal}
use Rattle.far_types.specs.declared.refusal.Refusal.TheVariants as refusal
use Rattle.far_types.specs.declared.spec.Spec.{Spec}
use Rattle.far_types.specs.Bounds.{needs}
use Rattle.far_types.specs.Edits.{edit_faults, overfills}
use Rattle.far_types.specs.FirstOf.{first_of}
use Rattle.far_types.specs.MayRefuse.{MayRefuse}
use Rattle.far_types.specs.Table.{Registered, is_pending}
use Rattle.far_pointer.specs.declared.pointer.Pointer.{Pointer}
use Rattle.far_pointer.specs.declared.pointer.Pointer.TheVariants.{Local, Remote}
use Rattle.far_scopes.specs.Refusing.{absent}
use Rattle.far_columns.specs.Pieces.{overlapped_groups}
use Rattle.far_rows.specs.declared.column_index.ColumnIndex.{ColumnIndex}
use Rattle.far_rows.specs.declared.column_index.ColumnIndex.TheVariants as column_index
use Rattle.far_rows.specs.declared.object.Object.{Object}
use Rattle.far_rows.specs.declared.object.Object.TheVariants as object
use Rattle.far_rows.specs.ColumnIndexes.{kind_of}
use Rattle.far_rows.specs.Coldest.{pins_at}
use Rattle.far_rows.specs.Jobs.{evac_refusal, fetch_refusal}
use Rattle.far_rows.specs.Moving.{object_at, object_in, object_refusal, pins_used, pin_refusal, unpin_refusal, unpin_refusal_of, IsInUse}
use Rattle.far_rows.specs.Refusing.{absent_at, absent_in, absents, absents_from, away_at}
use Rattle.far_rows.specs.Rows.{Rows, object_of}
use Rattle.far_table.specs.Edits.{edit_due, group_of, no_space}
use Rattle.far_table.specs.Offloading.{dirty_from, offload_refusal}
use Rattle.far_table.specs.Watching.{group_count, needed_from, scan_refusal}
use Rattle.far_frame.specs.declared.step.Step.TheVariants as step
use Rattle.far_frame.specs.Lending.{lend_refusal}
use Rattle.far_frame.specs.Pins.{is_here}
use Rattle.far_frame.specs.State.{State, live}
use Rattle.far_frame.specs.TableRefusals.{TableState, any_away, away, due, edit_tests, edited_group, no_column, no_group, scan_due, IsReason}
use Rattle.far_frame.specs.TableViews.{is_gone, gone_at, pins_of_group, table_of, IsKept}
use Rattle.far_frame.proofs.FirstOfLaws.{AllTell, found-last}
use Rattle.far_frame.proofs.MovementAway.{says_away}
use Rattle.far_frame.proofs.MovementPins.{says_local}
use Rattle.far_frame.proofs.PinsRows.{no-some, one-some, not-on}
use Rattle.far_frame.proofs.TableNames.{in-use, column-there, group-there, same-places}

-- a list of tests with others inserted whose refusals all have the property P
found-between : (P : Refusal → Type 0) (xs n : List (Bool × Refusal)) (d : Bool × Refusal) (e : Refusal) → AllTell P n → first_of (xs ++ (n ++ d ∷ [])) ≡ Some e → (first_of (xs ++ d ∷ []) ≡ Some e) ⊎ ((first_of xs ≡ None) × P e)
found-between P [] n d e all is = elim (found-last P n d e all is) [ inl last ↦ inl last | inr other ↦ inr (refl, other) ]
found-between P ((true, x) ∷ xs) n d e all is = inl is
found-between P ((false, x) ∷ xs) n d e all is = found-between P xs n d e all is

free-after : (n : List (Bool × Refusal)) (d : Bool × Refusal) → first_of (n ++ d ∷ []) ≡ None → first_of (d ∷ []) ≡ None
free-after [] d free = free
free-after ((true, x) ∷ n) d free = no-some x (sym free)
free-after ((false, x) ∷ n) d free = free-after n d free

free-between : (xs n : List (Bool × Refusal)) (d : Bool × Refusal) → first_of (xs ++ (n ++ d ∷ [])) ≡ None → first_of (xs ++ d ∷ []) ≡ None
free-between [] n d free = free-after n d free
free-between ((true, x) ∷ xs) n d free = no-some x (sym free)
free-between ((false, x) ∷ xs) n d free = free-between xs n d free

-- two tests, and others after them whose refusals all have the property P
pub found-more : (P : Refusal → Type 0) (one two : Bool × Refusal) (more : List (Bool × Refusal)) (e : Refusal) → AllTell P more → first_of (one ∷ two ∷ more) ≡ Some e → (first_of (one ∷ two ∷ []) ≡ Some e) ⊎ ((first_of (one ∷ two ∷ []) ≡ None) × P e)
found-more P (true, d) two more e all is = inl is
found-more P (false, d) (true, c) more e all is = inl is
found-more P (false, d) (false, c) more e all is = inr (refl, told more all is) where
  told : (cases : List (Bool × Refusal)) → AllTell P cases → first_of cases ≡ Some e → P e
  told [] all is = no-some e is
  told ((true, d) ∷ cases) all is = subst P (one-some d e is) (all.0 refl)
  told ((false, d) ∷ cases) all is = told cases all.1 is

pub free-more : (one two : Bool × Refusal) (more : List (Bool × Refusal)) → first_of (one ∷ two ∷ more) ≡ None → first_of (one ∷ two ∷ []) ≡ None
free-more (true, d) two more is = is
free-more (false, d) (true, c) more is = is
free-more (false, d) (false, c) more is = refl

-- two pairs of tests are the same, if the second tests agree whenever the first does not apply
join : (one two one_too two_too : Bool) (a b : Refusal) (later : Option Refusal) (rest : List (Bool × Refusal)) → one ≡ one_too → (one_too ≡ false → two ≡ two_too) → (one_too ≡ false → two_too ≡ false → later ≡ first_of rest) → option_or (first_of ((one, a) ∷ (two, b) ∷ [])) later ≡ first_of ((one_too, a) ∷ (two_too, b) ∷ rest)
join one two true two_too a b later rest first second third = λ i. option_or (first_of ((first i, a) ∷ (two, b) ∷ [])) later
join one two false true a b later rest first second third = λ i. option_or (first_of ((first i, a) ∷ (second refl i, b) ∷ [])) later
join one two false false a b later rest first second third = (λ i. option_or (first_of ((first i, a) ∷ (second refl i, b) ∷ [])) later) ∙ third refl refl

-- a word that exists is local or remote
where-is : (words : List Pointer) (o : ℕ) → o < length words → not (says_local (slice_get words o)) ≡ says_away (slice_get words o)
where-is [] o low = absurd (omega (arith, low))
where-is (Local at dirty hot far ∷ words) zero low = refl
where-is (Remote ∷ words) zero low = refl
where-is (w ∷ words) (suc o) low = where-is words o (omega (arith, low))

none-later : (owed : Option Refusal) → option_or owed None ≡ owed
none-later None = refl
none-later (Some d) = refl

module _ {K : Type 0} (content : K → List ℕ) (old : State K) (kept : IsKept content old) where
  abbrev r : Rows K
  r = old.rows

  abbrev before : TableState
  before = table_of old

  -- an object in use is local or away
  gone-is : (o : Object) → IsInUse r o → not (is_here r o) ≡ is_gone r o
  gone-is (object.Number o) low = where-is r.number_objects.memory.words o (omega (arith, low, kept.numbers))
  gone-is (object.Text o) low = where-is r.text_objects.memory.words o (omega (arith, low, kept.texts))

  away-number : (found : Option ℕ) → ((p : ℕ) → found ≡ Some p → not (is_here r (object.Number p)) ≡ is_gone r (object.Number p)) → (option_map_or (absent r.number_objects) found (false, refusal.StaleJob)).0 ≡ option_map_or (is_gone r) (option_map (λ p. object.Number p) found) false
  away-number None where_is = refl
  away-number (Some p) where_is = where_is p refl

  away-text : (found : Option ℕ) → ((p : ℕ) → found ≡ Some p → not (is_here r (object.Text p)) ≡ is_gone r (object.Text p)) → (option_map_or (absent r.text_objects) found (false, refusal.StaleJob)).0 ≡ option_map_or (is_gone r) (option_map (λ p. object.Text p) found) false
  away-text None where_is = refl
  away-text (Some p) where_is = where_is p refl

  lies : (c g : ℕ) (s : ColumnIndex) → slice_get r.column_indexes c ≡ Some s → (p : ℕ) → object_of r s g ≡ Some p → object_at r c g ≡ Some (object_in s p)
  lies c g s at p is = ap (λ (f : Option ColumnIndex). option_and_then (λ t. option_map (object_in t) (object_of r t g)) f) at ∙ ap (λ (f : Option ℕ). option_map (object_in s) f) is

  away-index : (c g : ℕ) (s : ColumnIndex) → slice_get r.column_indexes c ≡ Some s → (away_at r g s).0 ≡ option_map_or (is_gone r) (option_map (object_in s) (object_of r s g)) false
  away-index c g (column_index.Number i) at = away-number (object_of r (column_index.Number i) g) (λ p is. gone-is (object.Number p) (in-use content old kept c g (object.Number p) (lies c g (column_index.Number i) at p is)))
  away-index c g (column_index.Text i) at = away-text (object_of r (column_index.Text i) g) (λ p is. gone-is (object.Text p) (in-use content old kept c g (object.Text p) (lies c g (column_index.Text i) at p is)))

  away-same : (c g : ℕ) (s : ColumnIndex) → slice_get r.column_indexes c ≡ Some s → (away_at r g s).0 ≡ gone_at r c g
  away-same c g s at = away-index c g s at ∙ ap (λ (f : Option ColumnIndex). option_map_or (is_gone r) (option_and_then (λ t. option_map (object_in t) (object_of r t g)) f) false) (sym at)

  -- whether a chunk is away
  away-is : (c g : ℕ) → not (nat_lt c (length old.table.schema)) ≡ false → absent_in r c g ≡ away before c g
  away-is c g low = by (slice_get r.column_indexes c) refl (column-there content old kept c ∙ low) where
    by : (found : Option ColumnIndex) → slice_get r.column_indexes c ≡ found → is_none found ≡ false → option_map_or (absent_at r c g) found (false, refusal.StaleJob) ≡ away before c g
    by None at there = not-on (sym there)
    by (Some s) at there = λ i. (away-same c g s at i, refusal.Absent c g)

  -- the tests of the columns of a row group, from column n on
  abbrev AreFrom : ℕ → List ColumnIndex → Type 0
  AreFrom n s = (k : ℕ) → slice_get s k ≡ slice_get r.column_indexes (n + k)

  from-first : (n : ℕ) (s : ColumnIndex) (rest : List ColumnIndex) → AreFrom n (s ∷ rest) → slice_get r.column_indexes n ≡ Some s
  from-first n s rest same = (let at : n + 0 ≡ n = omega arith in sym (same 0 ∙ ap (slice_get r.column_indexes) at))

  from-next : (n : ℕ) (s : ColumnIndex) (rest : List ColumnIndex) → AreFrom n (s ∷ rest) → AreFrom (n + 1) rest
  from-next n s rest same k = (let at : n + suc k ≡ n + 1 + k = omega arith in same (suc k) ∙ ap (slice_get r.column_indexes) at)

  all-from : AreFrom 0 r.column_indexes
  all-from k = (let at : k ≡ 0 + k = omega arith in ap (slice_get r.column_indexes) at)

  abbrev column_test : (ℕ → Bool) → ℕ → ℕ × Kind → Bool × Refusal
  column_test needed g at = (needed at.0 && before.is_away at.0 g, refusal.Absent at.0 g)

  absents-from : (g n : ℕ) (s : List ColumnIndex) → AreFrom n s → absents_from r g n s ≡ map (column_test (λ c. true) g) (enumerate_from n (map kind_of s))
  absents-from g n [] same = refl
  absents-from g n (s ∷ rest) same = λ i. (away-same n g s (from-first n s rest same) i, refusal.Absent n g) ∷ absents-from g (n + 1) rest (from-next n s rest same) i

  pub absents-are : (g : ℕ) → absents r g ≡ any_away before (λ c. true) g
  absents-are g = absents-from g 0 r.column_indexes all-from ∙ ap (λ (l : List Kind). map (column_test (λ c. true) g) (enumerate_from 0 l)) kept.kinds

  needed-from : (spec : Spec) (g n : ℕ) (s : List ColumnIndex) → AreFrom n s → needed_from r spec g n s ≡ map (column_test (needs spec) g) (enumerate_from n (map kind_of s))
  needed-from spec g n [] same = refl
  needed-from spec g n (s ∷ rest) same = λ i. (needs spec n && away-same n g s (from-first n s rest same) i, refusal.Absent n g) ∷ needed-from spec g (n + 1) rest (from-next n s rest same) i

  needed-are : (spec : Spec) (g : ℕ) → needed_from r spec g 0 r.column_indexes ≡ any_away before (needs spec) g
  needed-are spec g = needed-from spec g 0 r.column_indexes all-from ∙ ap (λ (l : List Kind). map (column_test (needs spec) g) (enumerate_from 0 l)) kept.kinds

  -- the tests of a chunk that exists
  chunk-due : (c g : ℕ) (later : Option Refusal) (rest : List (Bool × Refusal)) → (not (nat_lt c (length old.table.schema)) ≡ false → (o : Object) → object_at r c g ≡ Some o → later ≡ first_of rest) → option_or (object_refusal r c g) later ≡ first_of ((not (nat_lt c (length old.table.schema)), refusal.NoColumn) ∷ (not (nat_lt g (group_count old.table)), refusal.OutOfRange) ∷ rest)
  chunk-due c g later rest lies = join (is_none (slice_get r.column_indexes c)) (is_none (object_at r c g)) (not (nat_lt c (length old.table.schema))) (not (nat_lt g (group_count old.table))) refusal.NoColumn refusal.OutOfRange later rest (column-there content old kept c) (group-there content old kept c g)
      (λ low here. by low (object_at r c g) refl (group-there content old kept c g low ∙ here)) where
        by : not (nat_lt c (length old.table.schema)) ≡ false → (found : Option Object) → object_at r c g ≡ found → is_none found ≡ false → later ≡ first_of rest
        by low None at some = not-on (sym some)
        by low (Some o) at some = lies low o at

  -- the refusal that is due to an access
  pub access-due : (c g : ℕ) → object_refusal r c g ≡ first_of (no_column old.table c ∷ no_group old.table g ∷ [])
  access-due c g = sym (none-later (object_refusal r c g)) ∙ chunk-due c g None [] (λ low o at. refl)

  pins-used : (o : Object) → pins_used r o ≡ (pins_at r o == 65535, refusal.EditsUsedUp)
  pins-used (object.Number o) = refl
  pins-used (object.Text o) = refl

  none-left : (o : Object) → unpin_refusal_of r o ≡ first_of ((pins_at r o == 0, refusal.NotPinned) ∷ [])
  none-left (object.Number o) = refl
  none-left (object.Text o) = refl

  pins-here : (c g : ℕ) (o : Object) → object_at r c g ≡ Some o → pins_at r o ≡ pins_of_group r c g
  pins-here c g o at = ap (λ (p : Option Object). option_map_or (pins_at r) p 0) (sym at)

  pub pin-due : (c g : ℕ) → pin_refusal r c g ≡ due before (step.Pin c g)
  pin-due c g = chunk-due c g (first_of (absent_in r c g ∷ option_map_or (pins_used r) (object_at r c g) (false, refusal.StaleJob) ∷ [])) (away before c g ∷ (before.pins c g == 65535, refusal.EditsUsedUp) ∷ [])
      (λ low o at. ap (λ (t : Bool × Refusal). first_of (t ∷ option_map_or (pins_used r) (object_at r c g) (false, refusal.StaleJob) ∷ [])) (away-is c g low)
      ∙ ap (λ (p : Option Object). first_of (away before c g ∷ option_map_or (pins_used r) p (false, refusal.StaleJob) ∷ [])) at
      ∙ ap (λ (t : Bool × Refusal). first_of (away before c g ∷ t ∷ [])) (pins-used o)
      ∙ ap (λ (n : ℕ). first_of (away before c g ∷ (n == 65535, refusal.EditsUsedUp) ∷ [])) (pins-here c g o at))

  pub unpin-due : (c g : ℕ) → unpin_refusal r c g ≡ due before (step.Unpin c g)
  unpin-due c g = chunk-due c g (option_and_then (unpin_refusal_of r) (object_at r c g)) ((before.pins c g == 0, refusal.NotPinned) ∷ [])
      (λ low o at. ap (λ (p : Option Object). option_and_then (unpin_refusal_of r) p) at ∙ none-left o ∙ ap (λ (n : ℕ). first_of ((n == 0, refusal.NotPinned) ∷ [])) (pins-here c g o at))

  pub evac-due : (c g : ℕ) → evac_refusal r c g ≡ due before (step.BeginEvac c g)
  evac-due c g = chunk-due c g (first_of (absent_in r c g ∷ [])) (away before c g ∷ []) (λ low o at. (λ i. first_of (away-is c g low i ∷ [])))

  pub fetch-due : (c g : ℕ) → fetch_refusal r c g ≡ due before (step.BeginFetch c g)
  fetch-due c g = chunk-due c g (first_of ((not (absent_in r c g).0, refusal.StaleJob) ∷ [])) ((not (before.is_away c g), refusal.StaleJob) ∷ []) (λ low o at. (λ i. first_of ((not (away-is c g low i).0, refusal.StaleJob) ∷ [])))

  -- the refusal that is due to a lend
  abbrev late : ℕ → ℕ → Bool × Refusal
  late from to = (nat_lt to from || nat_lt (length old.table.places) to, refusal.OutOfRange)

  abbrev lent : ℕ → ℕ → List ℕ
  lent from to = overlapped_groups old.table.limits.group from to

  pub lend-due : (c from to : ℕ) → lend_refusal r c from to ≡ due before (step.Lend c from to)
  lend-due c from to =
      let same : lend_refusal r c from to ≡ first_of ((not (nat_lt c (length old.table.schema)), refusal.NoColumn) ∷ late from to ∷ map (absent_in r c) (lent from to)) =
      λ i. first_of ((column-there content old kept c i, refusal.NoColumn) ∷ (nat_lt to from || nat_lt (same-places content old kept i) to, refusal.OutOfRange) ∷ map (absent_in r c) (overlapped_groups (kept.size i) from to)) in
      same ∙ by (not (nat_lt c (length old.table.schema))) refl where
        by : (b : Bool) → not (nat_lt c (length old.table.schema)) ≡ b → first_of ((not (nat_lt c (length old.table.schema)), refusal.NoColumn) ∷ late from to ∷ map (absent_in r c) (lent from to)) ≡ first_of ((not (nat_lt c (length old.table.schema)), refusal.NoColumn) ∷ late from to ∷ map (away before c) (lent from to))
        by true past = ap (λ (b : Bool). first_of ((b, refusal.NoColumn) ∷ late from to ∷ map (absent_in r c) (lent from to))) past ∙ sym (ap (λ (b : Bool). first_of ((b, refusal.NoColumn) ∷ late from to ∷ map (away before c) (lent from to))) past)
        by false low = ap (λ (f : ℕ → Bool × Refusal). first_of ((not (nat_lt c (length old.table.schema)), refusal.NoColumn) ∷ late from to ∷ map f (lent from to))) (λ i g. away-is c g low i)

  -- the refusal that is due to an edit
  abbrev used : Bool × Refusal
  used = (old.table.edits == old.table.limits.edits, refusal.EditsUsedUp)

  group-same : (e : Edit) → group_of (live old) e ≡ edited_group old.table e
  group-same (edit.Insert row) = refl
  group-same (edit.Set p c cell) = refl
  group-same (edit.Remove p) = refl

  edit-tests : (e : Edit) → edit_faults old.table.schema old.table.limits old.table.places e ++ (absents r (group_of (live old) e) ++ ((overfills old.table.schema old.table.limits e old.table.places, refusal.ChunkFull) ∷ (no_space (live old) e ++ used ∷ []))) ≡ edit_tests before e ++ (no_space (live old) e ++ used ∷ [])
  edit-tests e =
      let faults = edit_faults old.table.schema old.table.limits old.table.places e in
      let full : Bool × Refusal = (overfills old.table.schema old.table.limits e old.table.places, refusal.ChunkFull) in
      let behind = no_space (live old) e ++ used ∷ [] in
      let aways = any_away before (λ c. true) (edited_group old.table e) in
      ap (λ (l : List (Bool × Refusal)). faults ++ (l ++ (full ∷ behind))) (ap (λ (g : ℕ). absents r g) (group-same e) ∙ absents-are (edited_group old.table e))
      ∙ ap (λ (l : List (Bool × Refusal)). faults ++ l) (sym (append_assoc aways (full ∷ []) behind))
      ∙ sym (append_assoc faults (aways ++ full ∷ []) behind)

  space-tells : (e : Edit) → AllTell (λ given. given ≡ refusal.RegionFull) (no_space (live old) e)
  space-tells (edit.Insert row) = ((λ full. refl), ((λ full. refl), tt))
  space-tells (edit.Set p c cell) = ((λ full. refl), tt)
  space-tells (edit.Remove p) = tt

  pub edit-free : (e : Edit) → edit_due (live old) e ≡ None → due before (step.Edit e) ≡ None
  edit-free e free = free-between (edit_tests before e) (no_space (live old) e) used (sym (ap first_of (edit-tests e)) ∙ free)

  pub edit-reason : (e : Edit) (why : Refusal) → MayRefuse (edit_due (live old) e) true why → IsReason before (step.Edit e) why
  edit-reason e why = by (edit_due (live old) e) refl where
    found : (first_of (edit_tests before e ++ used ∷ []) ≡ Some why) ⊎ ((first_of (edit_tests before e) ≡ None) × (why ≡ refusal.RegionFull)) → IsReason before (step.Edit e) why
    found (inl is) = inl is
    found (inr space) = inr (inl (space.1, space.0))

    by : (due_then : Option Refusal) → edit_due (live old) e ≡ due_then → MayRefuse due_then true why → IsReason before (step.Edit e) why
    by None is may = inr (inr (may.0, edit-free e is))
    by (Some d) is may = found (found-between (λ given. given ≡ refusal.RegionFull) (edit_tests before e) (no_space (live old) e) used why (space-tells e) (sym (ap first_of (edit-tests e)) ∙ is ∙ ap Some (sym may)))

  -- the refusal that is due to a scan or an offload of a row group
  pub scan-same : (g : ℕ) (found : Option Registered) → scan_refusal (live old) found g ≡ scan_due old.table found g (λ spec. any_away before (needs spec) g)
  scan-same g None = refl
  scan-same g (Some aggregate) = ap (λ (l : List (Bool × Refusal)). first_of ((not (nat_lt g (group_count old.table)), refusal.OutOfRange) ∷ (not (is_pending aggregate.pending g), refusal.StaleJob) ∷ l)) (needed-are aggregate.spec g)

  dirty-tell : (spec : Spec) (g n : ℕ) (s : List ColumnIndex) → AllTell (λ given. given ≡ refusal.StaleJob) (dirty_from r spec g n s)
  dirty-tell spec g n [] = tt
  dirty-tell spec g n (s ∷ rest) = ((λ is. refl), dirty-tell spec g (n + 1) rest)

  pub offload-free : (g : ℕ) (found : Option Registered) → offload_refusal (live old) found g ≡ None → scan_due old.table found g (λ spec. []) ≡ None
  offload-free g None is = no-some refusal.NoAggregate (sym is)
  offload-free g (Some aggregate) is = free-more (not (nat_lt g (group_count old.table)), refusal.OutOfRange) (not (is_pending aggregate.pending g), refusal.StaleJob) (dirty_from r aggregate.spec g 0 r.column_indexes) is

  pub offload-tells : (g : ℕ) (found : Option Registered) (e : Refusal) → offload_refusal (live old) found g ≡ Some e → (scan_due old.table found g (λ spec. []) ≡ Some e) ⊎ ((scan_due old.table found g (λ spec. []) ≡ None) × (e ≡ refusal.StaleJob))
  offload-tells g None e is = inl is
  offload-tells g (Some aggregate) e is = found-more (λ given. given ≡ refusal.StaleJob) (not (nat_lt g (group_count old.table)), refusal.OutOfRange) (not (is_pending aggregate.pending g), refusal.StaleJob) (dirty_from r aggregate.spec g 0 r.column_indexes) e (dirty-tell aggregate.spec g 0 r.column_indexes) is
