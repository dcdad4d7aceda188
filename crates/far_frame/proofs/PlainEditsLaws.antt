-- Why the plain list refuses an edit that a table over objects refuses.
use Rattle.std.proofs.Common.{◌≡◌, ◌⊎◌, inl, inr, ℕ, ◌+◌, true, false, List, [], ◌∷◌, Option, None, Some, refl}
use Rattle.far_types.specs.declared.edit.Edit.{Edit}
use Rattle.far_types.specs.declared.edit.Edit.TheVariants as edit
use Rattle.far_types.specs.declared.refusal.Refusal.{Refusal}
use Rattle.far_types.specs.Edits.{edit_faults, edit_refusal}
use Rattle.far_types.specs.FirstOf.{first_of}
use Rattle.far_types.specs.MayRefuse.{MayRefuse}
use Rattle.far_rows.specs.declared.column_index.ColumnIndex.{ColumnIndex}
use Rattle.far_rows.specs.Rows.{Rows}
use Rattle.far_rows.specs.Refusing.{absents, absents_from}
use Rattle.far_table.specs.Edits.{edit_due, group_of, no_space}
use Rattle.far_table.specs.State.{LiveState}
use Rattle.far_frame.specs.declared.step.Reply.{Reply}
use Rattle.far_frame.specs.declared.step.Reply.TheVariants as reply
use Rattle.far_frame.specs.declared.step.Step.TheVariants as step
use Rattle.far_frame.specs.Effects.{Accepts, Refuses}
use Rattle.far_frame.specs.PlainEdits.{IsOfObjects, IsPlainRefusal}
use Rattle.far_frame.specs.Runs.{is_refused}
use Rattle.far_frame.specs.State.{live}
use Rattle.far_frame.specs.Steps.{IsStep}
use Rattle.far_frame.specs.Worlds.{World}
use Rattle.far_frame.proofs.FirstOfLaws.{AllTell, free-plain, found-plain}
use Rattle.far_frame.proofs.StepsLaws.{served}

absents-tell : {K : Type 0} (r : Rows K) (group n : ℕ) (column_indexes : List ColumnIndex) → AllTell IsOfObjects (absents_from r group n column_indexes)
absents-tell r group n [] = tt
absents-tell r group n (s ∷ column_indexes) = ((λ away. refl), absents-tell r group (n + 1) column_indexes)

module _ {K : Type 0} (s : LiveState K) where
  space-tells : (e : Edit) → AllTell IsOfObjects (no_space s e)
  space-tells (edit.Insert row) = ((λ full. refl), ((λ full. refl), tt))
  space-tells (edit.Set p c cell) = ((λ full. refl), tt)
  space-tells (edit.Remove p) = tt

  -- an edit that the table over objects accepts is one that the plain list accepts
  pub plain-accepts : (e : Edit) → edit_due s e ≡ None → edit_refusal s.table e ≡ None
  plain-accepts e free = free-plain (edit_faults s.table.schema s.table.limits s.table.places e) (absents s.rows (group_of s e)) (no_space s e) _ _ free

  plain-refuses : (e : Edit) (given : Refusal) → MayRefuse (edit_due s e) true given → IsPlainRefusal s.table e given
  plain-refuses e given may = by (edit_due s e) refl may
    where
      by : (due : Option Refusal) → edit_due s e ≡ due → MayRefuse due true given → IsPlainRefusal s.table e given
      by None is may = inr (inr (plain-accepts e is, may.0))
      by (Some due) is may =
          let found : edit_due s e ≡ Some given = rw may is in
          returned (found-plain IsOfObjects (edit_faults s.table.schema s.table.limits s.table.places e) (absents s.rows (group_of s e)) (no_space s e) _ _ given (absents-tell s.rows (group_of s e) 0 s.rows.column_indexes) (λ short. space-tells e) found)
        where
          returned : (edit_refusal s.table e ≡ Some given) ⊎ ((first_of (edit_faults s.table.schema s.table.limits s.table.places e) ≡ None) × IsOfObjects given) → IsPlainRefusal s.table e given
          returned (inl plain) = inl plain
          returned (inr objects) = inr (inl objects)

module _ {K : Type 0} (content : K → List ℕ) (number_of : K → ℕ) (old : World K) (e : Edit) where
  pub edit-accepted : (given : Reply) (new : World K) → is_refused given ≡ false → IsStep content number_of old (step.Edit e) given new → edit_refusal old.state.table e ≡ None
  edit-accepted given new accepted h =
      let done = served (λ served. Accepts content old.state (step.Edit e) served new.state) (λ why. Refuses old.state (step.Edit e) why new.state) given accepted h.0 in
      plain-accepts (live old.state) e done.1.changed.due

  pub edit-refused : (given : Refusal) (new : World K) → IsStep content number_of old (step.Edit e) (reply.Refused given) new → IsPlainRefusal old.state.table e given
  edit-refused given new h = plain-refuses (live old.state) e given h.0.1
