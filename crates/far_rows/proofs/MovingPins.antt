-- Why pinning an object that exists is refused; the refusal names the object's column and row group.
use Rattle.std.proofs.Common.{◌≡◌, inl, inr, ℕ, Bool, false, List, [], ◌∷◌, Option, None, Some, refl, sym, ap, ◌∙◌}
use Rattle.std.specs.Prelude.{cond, is_none, option_map, slice_get}
use Rattle.std.specs.Option.{option_and_then, option_map_or, option_or}
use Rattle.std.proofs.lemmas.Option.{none-some}
use Rattle.far_types.specs.declared.refusal.Refusal.{Refusal}
use Rattle.far_types.specs.declared.refusal.Refusal.TheVariants as refusal
use Rattle.far_types.specs.FirstOf.{first_of}
use Rattle.far_scopes.specs.Refusing.{absent, pins_used_up, pin_refusal as pin_refusal_in}
use Rattle.far_scopes.proofs.MemoryPlaces.{cases_option}
use Rattle.far_rows.specs.declared.column_index.ColumnIndex.{ColumnIndex}
use Rattle.far_rows.specs.declared.column_index.ColumnIndex.TheVariants as column_index
use Rattle.far_rows.specs.declared.object.Object.TheVariants as object
use Rattle.far_rows.specs.Rows.{Rows, AreRows, object_of}
use Rattle.far_rows.specs.Moving.{object_in, object_at, pins_used, pin_refusal}
use Rattle.far_rows.specs.Refusing.{away_at, absent_at}
use Rattle.far_rows.proofs.RefusingNames.{one-named}

pub number-of : (found : Option ℕ) (o : ℕ) → option_map (λ p. object.Number p) found ≡ Some (object.Number o) → found ≡ Some o
number-of None o is = absurd cc
number-of (Some p) o is = cc

pub no-number : {A : Type 0} (found : Option ℕ) (o : ℕ) → option_map (λ p. object.Text p) found ≡ Some (object.Number o) → A
no-number None o is = absurd cc
no-number (Some p) o is = absurd cc

pub text-of : (found : Option ℕ) (o : ℕ) → option_map (λ p. object.Text p) found ≡ Some (object.Text o) → found ≡ Some o
text-of None o is = absurd cc
text-of (Some p) o is = cc

pub no-text : {A : Type 0} (found : Option ℕ) (o : ℕ) → option_map (λ p. object.Number p) found ≡ Some (object.Text o) → A
no-text None o is = absurd cc
no-text (Some p) o is = absurd cc

module _ {K : Type 0} (content : K → List ℕ) (r : Rows K) (are : AreRows content r) (column group o : ℕ) where
  pub found-in : (s : ColumnIndex) → slice_get r.column_indexes column ≡ Some s → object_at r column group ≡ option_map (object_in s) (object_of r s group)
  found-in s is = ap (option_and_then (λ (t : ColumnIndex). option_map (object_in t) (object_of r t group))) is

  pub away_at-number : (s : ColumnIndex) → slice_get r.column_indexes column ≡ Some s → object_at r column group ≡ Some (object.Number o) → away_at r group s ≡ absent r.number_objects o
  away_at-number (column_index.Number i) is at = ap (λ (f : Option ℕ). option_map_or (absent r.number_objects) f (false, refusal.StaleJob)) (number-of (object_of r (column_index.Number i) group) o (sym (found-in (column_index.Number i) is) ∙ at))
  away_at-number (column_index.Text i) is at = no-number (object_of r (column_index.Text i) group) o (sym (found-in (column_index.Text i) is) ∙ at)

  pub pin-number : object_at r column group ≡ Some (object.Number o) → pin_refusal_in r.number_objects o ≡ pin_refusal r column group
  pin-number at = elim (cases_option (slice_get r.column_indexes column)) [
    | inl none ↦ absurd (none-some (object.Number o) (sym (ap (option_and_then (λ (t : ColumnIndex). option_map (object_in t) (object_of r t group))) none) ∙ at))
    | inr (s, is) ↦
        let later = first_of (pins_used_up r.number_objects o ∷ []) in
        let returned : away_at r group s ≡ absent r.number_objects o = away_at-number s is at in
        ap (λ (case : Bool × Refusal). cond case.0 (Some case.1) later) (sym returned)
        ∙ one-named content r are group column s is later later refl
        ∙ sym (λ k. option_or (first_of ((is_none (is k), refusal.NoColumn) ∷ (is_none (at k), refusal.OutOfRange) ∷ [])) (first_of (option_map_or (absent_at r column group) (is k) (false, refusal.StaleJob) ∷ option_map_or (pins_used r) (at k) (false, refusal.StaleJob) ∷ [])))
  ]

  pub away_at-text : (s : ColumnIndex) → slice_get r.column_indexes column ≡ Some s → object_at r column group ≡ Some (object.Text o) → away_at r group s ≡ absent r.text_objects o
  away_at-text (column_index.Text i) is at = ap (λ (f : Option ℕ). option_map_or (absent r.text_objects) f (false, refusal.StaleJob)) (text-of (object_of r (column_index.Text i) group) o (sym (found-in (column_index.Text i) is) ∙ at))
  away_at-text (column_index.Number i) is at = no-text (object_of r (column_index.Number i) group) o (sym (found-in (column_index.Number i) is) ∙ at)

  pub pin-text : object_at r column group ≡ Some (object.Text o) → pin_refusal_in r.text_objects o ≡ pin_refusal r column group
  pin-text at = elim (cases_option (slice_get r.column_indexes column)) [
    | inl none ↦ absurd (none-some (object.Text o) (sym (ap (option_and_then (λ (t : ColumnIndex). option_map (object_in t) (object_of r t group))) none) ∙ at))
    | inr (s, is) ↦
        let later = first_of (pins_used_up r.text_objects o ∷ []) in
        let returned : away_at r group s ≡ absent r.text_objects o = away_at-text s is at in
        ap (λ (case : Bool × Refusal). cond case.0 (Some case.1) later) (sym returned)
        ∙ one-named content r are group column s is later later refl
        ∙ sym (λ k. option_or (first_of ((is_none (is k), refusal.NoColumn) ∷ (is_none (at k), refusal.OutOfRange) ∷ [])) (first_of (option_map_or (absent_at r column group) (is k) (false, refusal.StaleJob) ∷ option_map_or (pins_used r) (at k) (false, refusal.StaleJob) ∷ [])))
  ]
