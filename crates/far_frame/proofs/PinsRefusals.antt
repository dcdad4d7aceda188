-- An object that a refusal reports as absent has no pin, if all pinned objects are local.
use Rattle.std.proofs.Common.{◌≡◌, ◌≢◌, inl, inr, ℕ, Bool, true, false, not, List, map, [], ◌∷◌, Option, None, Some, IfSome, IsSomeAnd, refl, sym, ap, subst, ◌∙◌}
use Rattle.std.specs.Prelude.{cond, option_map, slice_get}
use Rattle.std.specs.Option.{option_and_then, option_map_or, option_or}
use Rattle.std.proofs.lemmas.Bool.{cases_eq}
use Rattle.far_types.specs.declared.refusal.Refusal.{Refusal}
use Rattle.far_types.specs.declared.refusal.Refusal.TheVariants as refusal
use Rattle.far_types.specs.FirstOf.{first_of}
use Rattle.far_types.specs.MayRefuse.{MayRefuse}
use Rattle.far_scopes.specs.Movement.{is_local}
use Rattle.far_scopes.specs.Refusing.{absent}
use Rattle.far_scopes.proofs.MovementFrames.{object_record-with_other}
use Rattle.far_columns.specs.Pieces.{overlapped_groups}
use Rattle.far_rows.specs.declared.column_index.ColumnIndex.{ColumnIndex}
use Rattle.far_rows.specs.declared.column_index.ColumnIndex.TheVariants as column_index
use Rattle.far_rows.specs.declared.object.Object.{Object}
use Rattle.far_rows.specs.declared.object.Object.TheVariants as object
use Rattle.far_rows.specs.Rows.{Rows, object_of}
use Rattle.far_rows.specs.Coldest.{pins_at}
use Rattle.far_rows.specs.Moving.{object_at, object_in, object_refusal, after_pin, after_unpin, pins_used, pin_refusal}
use Rattle.far_rows.specs.Refusing.{absent_at, absent_in, no_column, no_range}
use Rattle.far_frame.specs.Lending.{lend_refusal}
use Rattle.far_frame.specs.Pins.{is_here, ArePinnedHere}
use Rattle.far_scopes.specs.declared.object_record.ObjectRecord.{ObjectRecord}
use Rattle.far_frame.proofs.MovementPins.{unpinned-some}
use Rattle.far_frame.proofs.PinsRows.{not-on, no-some, one-some, moves-after_pin, moves-unpinned}

module _ {K : Type 0} (r : Rows K) (column group : ℕ) where
  -- the test for an absent object applies exactly if the object is not local
  away-number : (found : Option ℕ) (o : Object) → option_map (λ p. object.Number p) found ≡ Some o → (option_map_or (absent r.number_objects) found (false, refusal.StaleJob)).0 ≡ not (is_here r o)
  away-number None o is = no-some o is
  away-number (Some p) o is = ap (λ (q : Object). not (is_here r q)) (one-some (object.Number p) o is)

  away-text : (found : Option ℕ) (o : Object) → option_map (λ p. object.Text p) found ≡ Some o → (option_map_or (absent r.text_objects) found (false, refusal.StaleJob)).0 ≡ not (is_here r o)
  away-text None o is = no-some o is
  away-text (Some p) o is = ap (λ (q : Object). not (is_here r q)) (one-some (object.Text p) o is)

  away-column_index : (found : Option ColumnIndex) (o : Object) → option_and_then (λ s. option_map (object_in s) (object_of r s group)) found ≡ Some o → (option_map_or (absent_at r column group) found (false, refusal.StaleJob)).0 ≡ not (is_here r o)
  away-column_index None o is = no-some o is
  away-column_index (Some (column_index.Number i)) o is = away-number (object_of r (column_index.Number i) group) o is
  away-column_index (Some (column_index.Text i)) o is = away-text (object_of r (column_index.Text i) group) o is

  away-at : (o : Object) → object_at r column group ≡ Some o → (absent_in r column group).0 ≡ not (is_here r o)
  away-at o is = away-column_index (slice_get r.column_indexes column) o is

  not-here : (b : Bool) → not b ≡ false → b ≡ true
  not-here true is = refl
  not-here false is = not-on (sym is)

  not-away : (b : Bool) → not b ≡ true → b ≡ true → ⊥
  not-away true is here = not-on is
  not-away false is here = not-on here

  none-first : (due : Option Refusal) (case : Bool × Refusal) (cases : List (Bool × Refusal)) → option_or due (first_of (case ∷ cases)) ≡ None → case.0 ≡ false
  none-first None (true, e) cases none = no-some e (sym none)
  none-first None (false, e) cases none = refl
  none-first (Some d) case cases none = no-some d (sym none)

  -- an object that may be pinned is local
  pin-here : pin_refusal r column group ≡ None → (o : Object) → object_at r column group ≡ Some o → is_here r o ≡ true
  pin-here none o is =
      not-here (is_here r o) (sym (away-at o is) ∙ none-first (object_refusal r column group) (absent_in r column group) (option_map_or (pins_used r) (object_at r column group) (false, refusal.StaleJob) ∷ []) none)

  -- an object whose test for absence applies has no pin
  pub free-away : ArePinnedHere r → (absent_in r column group).0 ≡ true → (found : Option Object) → object_at r column group ≡ found → IfSome found (λ o. pins_at r o ≡ 0)
  free-away all away None is = tt
  free-away all away (Some o) is = elim (cases_eq (pins_at r o) 0) [
    | inl none ↦ none
    | inr some ↦ absurd (not-away (is_here r o) (sym (away-at o is) ∙ away) (all o some))
  ]

  module _ (now : Rows K) where
    same-or : (q o : Object) → (is_here r q ≡ true) → (pins_at r o ≢ 0 → is_here r o ≡ true) → pins_at (after_pin r q) o ≢ 0 → is_here r o ≡ true
    same-or (object.Number q) (object.Number o) here rest some = elim (cases_eq o q) [
      | inl same ↦ subst (λ (p : ℕ). is_local r.number_objects p ≡ true) (sym same) here
      | inr other ↦ rest (λ none. some (ap (λ (e : Option (ObjectRecord K)). option_map_or (λ e. e.pins) e 0) (object_record-with_other r.number_objects.records q _ o other) ∙ none))
    ]
    same-or (object.Text q) (object.Text o) here rest some = elim (cases_eq o q) [
      | inl same ↦ subst (λ (p : ℕ). is_local r.text_objects p ≡ true) (sym same) here
      | inr other ↦ rest (λ none. some (ap (λ (e : Option (ObjectRecord K)). option_map_or (λ e. e.pins) e 0) (object_record-with_other r.text_objects.records q _ o other) ∙ none))
    ]
    same-or (object.Number q) (object.Text o) here rest some = rest some
    same-or (object.Text q) (object.Number o) here rest some = rest some

    one-after_pin : (found : Option Object) → object_at r column group ≡ found → pin_refusal r column group ≡ None → IsSomeAnd found (λ q. now ≡ after_pin r q) → ArePinnedHere r → ArePinnedHere now
    one-after_pin None at none h all o some = absurd h
    one-after_pin (Some q) at none h all o some =
        moves-after_pin r now (Some q) h o ∙ same-or q o (pin-here none q at) (all o) (subst (λ (t : Rows K). pins_at t o ≢ 0) h some)

    pub after_pin-holds : pin_refusal r column group ≡ None → IsSomeAnd (object_at r column group) (λ q. now ≡ after_pin r q) → ArePinnedHere r → ArePinnedHere now
    after_pin-holds none h all = one-after_pin (object_at r column group) refl none h all

module _ {K : Type 0} (r now : Rows K) where
  still-some : (q o : Object) → pins_at (after_unpin r q) o ≢ 0 → pins_at r o ≢ 0
  still-some (object.Number q) (object.Number o) some = unpinned-some r.number_objects q o some
  still-some (object.Text q) (object.Text o) some = unpinned-some r.text_objects q o some
  still-some (object.Number q) (object.Text o) some = some
  still-some (object.Text q) (object.Number o) some = some

  pub unpinned-holds : (found : Option Object) → IsSomeAnd found (λ q. now ≡ after_unpin r q) → ArePinnedHere r → ArePinnedHere now
  unpinned-holds None h all o some = absurd h
  unpinned-holds (Some q) h all o some = moves-unpinned r now (Some q) h o ∙ all o (still-some q o (subst (λ (t : Rows K). pins_at t o ≢ 0) h some))

-- if a lend is refused with `Absent`, this refusal was due
pub due-absent : (due : Option Refusal) (c g : ℕ) → MayRefuse due true (refusal.Absent c g) → due ≡ Some (refusal.Absent c g)
due-absent None c g h = absurd (let is : refusal.Absent c g ≡ refusal.NoMemory = h.0 in cc)
due-absent (Some d) c g h = ap Some (sym h)

module _ {K : Type 0} (r : Rows K) (column c g : ℕ) where
  absent-column_index : (group : ℕ) (found : Option ColumnIndex) (rest : Option Refusal) → slice_get r.column_indexes column ≡ found → cond (option_map_or (absent_at r column group) found (false, refusal.StaleJob)).0 (Some (option_map_or (absent_at r column group) found (false, refusal.StaleJob)).1) rest ≡ Some (refusal.Absent c g)
      → (rest ≡ Some (refusal.Absent c g) → (absent_in r c g).0 ≡ true) → (absent_in r c g).0 ≡ true
  absent-column_index group None rest at is later = later is
  absent-column_index group (Some s) rest at is later = by (absent_at r column group s).0 refl is where
    by : (b : Bool) → (absent_at r column group s).0 ≡ b → cond b (Some (refusal.Absent column group)) rest ≡ Some (refusal.Absent c g) → (absent_in r c g).0 ≡ true
    by false away is = later is
    by true away is =
        let same_column : column ≡ c = cc in
        let same_group : group ≡ g = cc in
        let returned : (absent_in r column group).0 ≡ true = ap (λ (f : Option ColumnIndex). (option_map_or (absent_at r column group) f (false, refusal.StaleJob)).0) at ∙ away in
        subst (λ (p : ℕ). (absent_in r p g).0 ≡ true) same_column (subst (λ (p : ℕ). (absent_in r column p).0 ≡ true) same_group returned)

  absent-groups : (groups : List ℕ) → first_of (map (absent_in r column) groups) ≡ Some (refusal.Absent c g) → (absent_in r c g).0 ≡ true
  absent-groups [] is = no-some (refusal.Absent c g) is
  absent-groups (group ∷ groups) is = absent-column_index group (slice_get r.column_indexes column) (first_of (map (absent_in r column) groups)) refl is (absent-groups groups)

  passed : (b : Bool) (e : Refusal) (rest : Option Refusal) → (e ≡ refusal.Absent c g → ⊥) → cond b (Some e) rest ≡ Some (refusal.Absent c g) → rest ≡ Some (refusal.Absent c g)
  passed true e rest other is = absurd (other (one-some e (refusal.Absent c g) is))
  passed false e rest other is = is

  absent-lent : (from to : ℕ) → lend_refusal r column from to ≡ Some (refusal.Absent c g) → (absent_in r c g).0 ≡ true
  absent-lent from to is =
      let groups = overlapped_groups r.size from to in
      let ranged = passed (no_column r column).0 refusal.NoColumn (first_of (no_range r from to ∷ map (absent_in r column) groups)) (λ same. cc) is in
      absent-groups groups (passed (no_range r from to).0 refusal.OutOfRange (first_of (map (absent_in r column) groups)) (λ same. cc) ranged)

pub absent-cause : {K : Type 0} (r : Rows K) (column from to c g : ℕ) → lend_refusal r column from to ≡ Some (refusal.Absent c g) → (absent_in r c g).0 ≡ true
absent-cause r column from to c g is = absent-lent r column c g from to is
