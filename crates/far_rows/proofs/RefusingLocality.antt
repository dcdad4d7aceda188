-- If every object is local, no object of a row group is away.
use Rattle.std.proofs.Common.{◌≡◌, ℕ, ℤ, ◌+◌, ◌<◌, not, true, false, cond, List, [], ◌∷◌, length, Option, None, Some, refl, ap, ◌∙◌}
use Rattle.std.specs.Prelude.{slice_get}
use Rattle.std.specs.Option.{option_map_or, option_and_then}
use Rattle.far_types.specs.declared.refusal.Refusal.TheVariants as refusal
use Rattle.far_types.specs.FirstOf.{first_of}
use Rattle.far_codec.specs.Reading.{ints_meaning}
use Rattle.far_scopes.specs.Movement.{Movement, is_local, AreTracked}
use Rattle.far_scopes.specs.Refusing.{absent}
use Rattle.far_columns.specs.Vector.{Vector}
use Rattle.far_texts.specs.Texts.{Texts}
use Rattle.far_rows.specs.declared.column_index.ColumnIndex.{ColumnIndex}
use Rattle.far_rows.specs.declared.column_index.ColumnIndex.TheVariants as column_index
use Rattle.far_rows.specs.Rows.{Rows, AreRows}
use Rattle.far_rows.specs.Refusing.{away_at, absents, absents_from}
use Rattle.far_rows.proofs.MovementInUse.{number-in-use, text-in-use}

abbrev pub AreLocal : {X K : Type 0} → Movement X K → Type 0
AreLocal m = (o : ℕ) → o < length m.records → is_local m o ≡ true

-- if every object is local, an object that exists is not away
one-here : {X K : Type 0} (m : Movement X K) → AreLocal m → (o : Option ℕ) → ((p : ℕ) → o ≡ Some p → p < length m.records) → (option_map_or (absent m) o (false, refusal.StaleJob)).0 ≡ false
one-here m local None used = refl
one-here m local (Some o) used = ap not (local o (used o refl))

module _ {K : Type 0} (content : K → List ℕ) (r : Rows K) (are : AreRows content r) (spelled : List (Option ℤ) → List ℕ → Type 0) (numbers_tracked : AreTracked ints_meaning content spelled r.number_objects) (spelled_texts : List ℕ → List ℕ → Type 0) (texts_tracked : AreTracked (λ bytes. bytes) content spelled_texts r.text_objects) (numbers : AreLocal r.number_objects) (texts : AreLocal r.text_objects) (g : ℕ) where
  number-here : (i : ℕ) (column : Option (Vector (Option ℤ))) → slice_get r.numbers i ≡ column → (option_map_or (absent r.number_objects) (option_and_then (λ (v : Vector (Option ℤ)). slice_get v.objects g) column) (false, refusal.StaleJob)).0 ≡ false
  number-here i None at = refl
  number-here i (Some c) at = one-here r.number_objects numbers (slice_get c.objects g) (λ o there. number-in-use content spelled r.number_objects numbers_tracked r.numbers are.numbers i c at g o there)

  text-here : (i : ℕ) (column : Option Texts) → slice_get r.texts i ≡ column → (option_map_or (absent r.text_objects) (option_and_then (λ (v : Texts). slice_get v.objects g) column) (false, refusal.StaleJob)).0 ≡ false
  text-here i None at = refl
  text-here i (Some c) at = one-here r.text_objects texts (slice_get c.objects g) (λ o there. text-in-use content spelled_texts r.text_objects texts_tracked r.texts are.texts i c at g o there)

  column_index-here : (s : ColumnIndex) → (away_at r g s).0 ≡ false
  column_index-here (column_index.Number i) = number-here i (slice_get r.numbers i) refl
  column_index-here (column_index.Text i) = text-here i (slice_get r.texts i) refl

  column_indexes-here : (column_indexes : List ColumnIndex) (n : ℕ) → first_of (absents_from r g n column_indexes) ≡ None
  column_indexes-here [] n = refl
  column_indexes-here (s ∷ column_indexes) n = ap (λ b. cond b (Some (refusal.Absent n g)) (first_of (absents_from r g (n + 1) column_indexes))) (column_index-here s) ∙ column_indexes-here column_indexes (n + 1)

  pub all-here : first_of (absents r g) ≡ None
  all-here = column_indexes-here r.column_indexes 0
