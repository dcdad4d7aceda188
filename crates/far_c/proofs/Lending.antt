-- A part of a column that is read and recorded.
use Rattle.std.proofs.Common.{◌≡◌, ◌∙◌, ℕ, ◌-◌, ◌≤◌, Bool, true, false, List, ◌∷◌, drop, length, map, Option, None, Some, Result, OnOk, inl, inr, refl, sym, ap, subst, arith}
use Rattle.std.specs.Prelude.{◌||◌, IfErr, nat_lt, slice_get}
use Rattle.std.specs.declared.result.Result.TheVariants.{Ok, Err}
use Rattle.std.proofs.lemmas.Bool.{cases_lt, lt-ltb}
use Rattle.std.proofs.lemmas.List.{length-map, length-take}
use Rattle.std.proofs.lemmas.List.Edits.{length-between}
use Rattle.far_types.specs.declared.cell.Cell.{Cell}
use Rattle.far_types.specs.Cells.{cell_at}
use Rattle.far_types.specs.Table.{Place, column as column_of, part}
use Rattle.far_table.specs.State.{LiveState}
use Rattle.far_frame.specs.State.{State, live}
use Rattle.far_types.specs.declared.cell.Kind.{Kind}
use Rattle.far_types.specs.declared.refusal.Refusal.{Refusal}
use Rattle.far_types.specs.declared.refusal.Refusal.TheVariants as refusal
use Rattle.far_types.specs.FirstOf.{first_of}
use Rattle.far_columns.specs.Pieces.{overlapped_groups}
use Rattle.far_rows.specs.Refusing.{absent_in, ints_refusal, no_column, no_range, of_numbers, of_texts, texts_refusal}
use Rattle.far_rows.specs.Rows.{Rows}
use Rattle.far_scopes.specs.Refusing.{refusal_in}
use Rattle.far_host.specs.HostTickets.{TicketState}
use Rattle.far_frame.specs.declared.step.Reply.{Reply}
use Rattle.far_frame.specs.declared.step.Reply.TheVariants as reply
use Rattle.far_frame.specs.declared.step.Step.TheVariants as step
use Rattle.far_frame.specs.Lending.{IsReplyOf, Piece, flags_of, lend_refusal, lent_part}
use Rattle.far_frame.specs.Steps.{IsStep}
use Rattle.far_frame.specs.TableRefusals.{away, due, no_column as no_such_column}
use Rattle.far_frame.specs.TableViews.{table_of}
use Rattle.far_frame.specs.Worlds.{World}
use Rattle.far_c.specs.Outcomes.{IsAccepted}
use Rattle.far_c.specs.Contents.{content, number_of}
use Rattle.far_c.specs.Parts.{IsPartLent, alive_of}
use Rattle.far_c.specs.TableState.{TableState}

-- a reply with pieces is not a refusal
accepted : (of : Option Kind) (pieces : List Piece) (given : Reply) → IsReplyOf of pieces given → IsAccepted given
accepted of pieces (reply.Ints copies) is = tt
accepted of pieces (reply.Texts copies) is = tt
accepted of pieces (reply.Place place) is = absurd is
accepted of pieces reply.Done is = absurd is
accepted of pieces (reply.Aggregate a) is = absurd is
accepted of pieces (reply.Answer answer) is = absurd is
accepted of pieces (reply.Job n) is = absurd is
accepted of pieces (reply.Next found) is = absurd is
accepted of pieces (reply.Refused why) is = absurd is

pub part-lent : (column from to : ℕ) (old new : TableState) (r : Result Unit Refusal) → new ≡ record old { world = new.world }
    → OnOk r ((given : Reply) × IsReplyOf (slice_get old.world.state.table.schema column) (lent_part old.world.state.table column from to) given × IsStep content number_of old.world (step.Lend column from to) given new.world)
    → OnOk r (IsPartLent column from to old new)
part-lent column from to old new (Ok done) same h = (h.0, accepted (slice_get old.world.state.table.schema column) (lent_part old.world.state.table column from to) h.0 h.1, (h.2, same))
part-lent column from to old new (Err why) same h = tt

-- if no test of a list applies, the second and the third do not
second-off : (x y : Bool × Refusal) (rest : List (Bool × Refusal)) → first_of (x ∷ y ∷ rest) ≡ None → y.0 ≡ false
second-off (true, e) y rest none = absurd cc
second-off (false, e) (true, f) rest none = absurd cc
second-off (false, e) (false, f) rest none = refl

third-off : (x y z : Bool × Refusal) (rest : List (Bool × Refusal)) → first_of (x ∷ y ∷ z ∷ rest) ≡ None → z.0 ≡ false
third-off (true, e) y z rest none = absurd cc
third-off (false, e) y z rest none = second-off y z rest none

without-second : (x y : Bool × Refusal) (rest : List (Bool × Refusal)) → first_of (x ∷ y ∷ rest) ≡ None → first_of (x ∷ rest) ≡ None
without-second (true, e) y rest none = absurd cc
without-second (false, e) (true, f) rest none = absurd cc
without-second (false, e) (false, f) rest none = none

neither : (a b : Bool) → (a || b) ≡ false → (a ≡ false) × (b ≡ false)
neither true b off = absurd cc
neither false b off = (refl, off)

not-below : (a b : ℕ) → nat_lt a b ≡ false → b ≤ a
not-below a b off = elim (cases_lt a b) [ inl less ↦ absurd (let on : true ≡ false = sym (lt-ltb a b less) ∙ off in cc) | inr past ↦ past ]

-- each place of a part that is lent exists
pub part-within : (world : World TicketState) (column from to : ℕ) (r : Result Unit Refusal) → refusal_in r ≡ due (table_of world.state) (step.Lend column from to) → OnOk r (to ≤ length world.state.table.places)
part-within world column from to (Ok done) is =
    let s = table_of world.state in
    let range : Bool × Refusal = (nat_lt to from || nat_lt (length s.table.places) to, refusal.OutOfRange) in
    not-below (length s.table.places) to (neither (nat_lt to from) (nat_lt (length s.table.places) to) (second-off (no_such_column s.table column) range (map (away s column) (overlapped_groups s.table.limits.group from to)) (sym is))).1
part-within world column from to (Err why) is = tt

module _ (r : Rows TicketState) (column from to : ℕ) where
  abbrev groups : List (Bool × Refusal)
  groups = map (absent_in r column) (overlapped_groups r.size from to)

  low-range : (no_range r from to).0 ≡ false → from ≤ to
  low-range off = not-below to from (neither (nat_lt to from) (nat_lt (length r.alive) to) off).0

  pub ints-low : ints_refusal r column from to ≡ None → from ≤ to
  ints-low none = low-range (third-off (no_column r column) (of_texts r column) (no_range r from to) groups none)

  -- a part that can be read can be lent
  pub ints-lent-too : ints_refusal r column from to ≡ None → lend_refusal r column from to ≡ None
  ints-lent-too none = without-second (no_column r column) (of_texts r column) (no_range r from to ∷ groups) none

  pub texts-lent-too : texts_refusal r column from to ≡ None → lend_refusal r column from to ≡ None
  texts-lent-too none = without-second (no_column r column) (of_numbers r column) (no_range r from to ∷ groups) none

-- the length of a part of a column
module _ (places : List Place) (c from to : ℕ) where
  pub part-few : (cells : List Cell) → cells ≡ part c from to places → length cells ≤ to - from
  part-few cells are = (let long = ap length are in let few = length-take (to - from) (drop from (column_of c places)) in omega (arith, long, few))

  pub part-long : (cells : List Cell) → cells ≡ part c from to places → to ≤ length places → length cells ≡ to - from
  part-long cells are within = ap length are ∙ length-between (column_of c places) from to (rw (length-map places (λ (place : Place). cell_at c place.cells)) within)

  pub flags-few : (flags : List Bool) → flags ≡ alive_of places from to → length flags ≤ to - from
  flags-few flags are = (let long = ap length are in let few = length-take (to - from) (drop from (flags_of places)) in omega (arith, long, few))

  pub flags-long : (flags : List Bool) → flags ≡ alive_of places from to → to ≤ length places → length flags ≡ to - from
  flags-long flags are within = ap length are ∙ length-between (flags_of places) from to (rw (length-map places (λ (place : Place). place.alive)) within)

-- a part that was read through a view can be lent
module _ (view : LiveState TicketState) (state : State TicketState) (old : World TicketState) (is : view ≡ live state) (same : state ≡ old.state) (column from to : ℕ) where
  pub numbers-may-be-lent : {X : Type 0} (r : Result X Refusal) → refusal_in r ≡ ints_refusal view.rows column from to → OnOk r (lend_refusal old.state.rows column from to ≡ None)
  numbers-may-be-lent (Ok lents) free = subst (λ (v : LiveState TicketState). lend_refusal v.rows column from to ≡ None) (is ∙ ap live same) (ints-lent-too view.rows column from to (sym free))
  numbers-may-be-lent (Err why) free = tt

  pub texts-may-be-lent : {X : Type 0} (r : Result X Refusal) → refusal_in r ≡ texts_refusal view.rows column from to → OnOk r (lend_refusal old.state.rows column from to ≡ None)
  texts-may-be-lent (Ok lents) free = subst (λ (v : LiveState TicketState). lend_refusal v.rows column from to ≡ None) (is ∙ ap live same) (texts-lent-too view.rows column from to (sym free))
  texts-may-be-lent (Err why) free = tt

-- consequences of a call that is accepted, and of one that is refused although no refusal is due
pub on-ok : (r : Result Unit Refusal) (P Q : Type 0) → (P → Q) → OnOk r P → OnOk r Q
on-ok (Ok done) P Q f h = f h
on-ok (Err why) P Q f h = h

pub when-refused : (r : Result Unit Refusal) (due other : Option Refusal) → due ≡ None → IfErr r (λ why. due ≡ Some why) → IfErr r (λ why. other ≡ Some why)
when-refused (Ok done) due other none h = h
when-refused (Err why) due other none h = absurd (let e : None ≡ Some why = sym none ∙ h in cc)
