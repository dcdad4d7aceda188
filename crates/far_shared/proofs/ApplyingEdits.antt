-- Why the plain table refuses an edit that a table over objects refuses.
use Rattle.std.proofs.Common.{◌≡◌, ◌⊎◌, inl, inr, ℕ, ◌+◌, ◌/◌, ◌≤◌, Bool, ◌&&◌, true, false, List, [], ◌∷◌, length, slice_get, Option, None, Some, refl, subst, arith}
use Rattle.far_types.specs.Bounds.{is_text}
use Rattle.far_types.specs.declared.cell.Cell.{Cell}
use Rattle.far_types.specs.declared.edit.Edit.{Edit}
use Rattle.far_types.specs.declared.edit.Edit.TheVariants as edit
use Rattle.far_types.specs.declared.refusal.Refusal.{Refusal}
use Rattle.far_types.specs.Edits.{after_edit, edit_faults, edit_refusal, overfills}
use Rattle.far_types.specs.FirstOf.{first_of}
use Rattle.far_types.specs.MayRefuse.{MayRefuse}
use Rattle.far_rows.specs.declared.column_index.ColumnIndex.{ColumnIndex}
use Rattle.far_rows.specs.Rows.{Rows}
use Rattle.far_rows.specs.Refusing.{absents, absents_from}
use Rattle.far_table.specs.Edits.{edit_due, group_of, no_space}
use Rattle.far_table.specs.State.{LiveState}
use Rattle.far_frame.specs.Effects.{Accepts, Refuses, edit_reply}
use Rattle.far_frame.specs.State.{State as Whole, live}
use Rattle.far_frame.specs.declared.step.Reply.{Reply}
use Rattle.far_frame.specs.declared.step.Reply.TheVariants as reply
use Rattle.far_frame.specs.declared.step.Step.TheVariants as step
use Rattle.far_frame.proofs.FirstOfLaws.{AllTell, found-plain}
use Rattle.far_frame.proofs.PlainEditsLaws.{plain-accepts}
use Rattle.far_shared.specs.Applying.{IsOfObjects, WhyNot, place_of, places_cells}
use Rattle.far_shared.specs.Editing.{IsMade}

first-holds : (a b : Bool) → (a && b) ≡ true → a ≡ true
first-holds true b both = refl
first-holds false b both = absurd cc

module _ (columns group : ℕ) (some long : Bool) where
  absents-tell : {K : Type 0} (r : Rows K) (n : ℕ) (column_indexes : List ColumnIndex) → n + length column_indexes ≤ columns → AllTell (IsOfObjects columns group some long) (absents_from r group n column_indexes)
  absents-tell r n [] few = tt
  absents-tell r n (s ∷ column_indexes) few = ((λ away. (omega (arith, few), refl)), absents-tell r (n + 1) column_indexes (omega (arith, few)))

module _ {K : Type 0} (s : LiveState K) (column_indexes : length s.rows.column_indexes ≡ length s.table.schema) where
  space-tells : (e : Edit) (columns group : ℕ) (long : Bool) → long ≡ false → AllTell (IsOfObjects columns group (places_cells s.table.schema e) long) (no_space s e)
  space-tells (edit.Insert row) columns group long short = ((λ full. (refl, short)), ((λ full. (refl, short)), tt))
  space-tells (edit.Set p c cell) columns group long short = ((λ full. (first-holds (is_text (slice_get s.table.schema c)) _ full, short)), tt)
  space-tells (edit.Remove p) columns group long short = tt

  same-group : (e : Edit) → group_of s e ≡ place_of s.table e / s.table.limits.group
  same-group (edit.Insert row) = refl
  same-group (edit.Set p c cell) = refl
  same-group (edit.Remove p) = refl

  pub plain-refuses : (e : Edit) (given : Refusal) → MayRefuse (edit_due s e) true given → WhyNot s.table e given
  plain-refuses e given may = by (edit_due s e) refl may
    where
      by : (due : Option Refusal) → edit_due s e ≡ due → MayRefuse due true given → WhyNot s.table e given
      by None is may = inr (inr (plain-accepts s e is, may.0))
      by (Some due) is may =
          let found : edit_due s e ≡ Some given = rw may is in
          let some : Bool = places_cells s.table.schema e in
          let long : Bool = overfills s.table.schema s.table.limits e s.table.places in
          let of_objects : Refusal → Type 0 = IsOfObjects (length s.table.schema) (group_of s e) some long in
          returned (found-plain of_objects (edit_faults s.table.schema s.table.limits s.table.places e) (absents s.rows (group_of s e)) (no_space s e) _ _ given
          (absents-tell (length s.table.schema) (group_of s e) some long s.rows 0 s.rows.column_indexes (omega (arith, column_indexes)))
          (λ short. space-tells e (length s.table.schema) (group_of s e) long short) found)
        where
          returned : (edit_refusal s.table e ≡ Some given) ⊎ ((first_of (edit_faults s.table.schema s.table.limits s.table.places e) ≡ None) × IsOfObjects (length s.table.schema) (group_of s e) (places_cells s.table.schema e) (overfills s.table.schema s.table.limits e s.table.places) given) → WhyNot s.table e given
          returned (inl plain) = inl plain
          returned (inr objects) = inr (inl (objects.0, subst (λ g. IsOfObjects (length s.table.schema) g (places_cells s.table.schema e) (overfills s.table.schema s.table.limits e s.table.places) given) (same-group e) objects.1))

module _ {K : Type 0} (content : K → List ℕ) (old new : Whole K) (column_indexes : length old.rows.column_indexes ≡ length old.table.schema) where
  made-free : (e : Edit) (given : Reply) → Accepts content old (step.Edit e) given new → edit_refusal old.table e ≡ None
  made-free e given h = plain-accepts (live old) e h.1.changed.due

  -- an accepted edit has the plain table's reply and effect
  made-accepted : (e : Edit) (given : Reply) → Accepts content old (step.Edit e) given new → Accepts content old (step.Edit e) (edit_reply old.table e) new
  made-accepted e given h = (refl, h.1)

  made-table : (e : Edit) (given : Reply) → Accepts content old (step.Edit e) given new → new.table ≡ after_edit e old.table
  made-table e given h = h.1.changed.table

  -- an accepted edit was made
  pub is-made : (e : Edit) (given : Reply) → Accepts content old (step.Edit e) given new → IsMade content old e new
  is-made e given h = record { may = made-free e given h; table = made-table e given h; accepted = made-accepted e given h }

  pub made-place : (row : List Cell) (place : ℕ) → Accepts content old (step.Edit (edit.Insert row)) (reply.Place place) new → place ≡ length old.table.places
  made-place row place h = (let is : reply.Place place ≡ reply.Place (length old.table.places) = h.0 in cc)

  pub made-refused : (e : Edit) (given : Refusal) → Refuses old (step.Edit e) given new → WhyNot old.table e given
  made-refused e given h = plain-refuses (live old) column_indexes e given h.1
