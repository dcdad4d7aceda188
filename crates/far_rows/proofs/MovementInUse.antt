-- The objects of columns are in use.
use Rattle.std.proofs.Common.{◌≡◌, ℕ, ◌<◌, List, length, Option, Some, subst}
use Rattle.std.specs.Prelude.{ℤ, IsSomeAnd, slice_get}
use Rattle.std.proofs.lemmas.Option.{slice_get_within, get_or_from_slice_get}
use Rattle.far_codec.specs.Reading.{ints_meaning}
use Rattle.far_scopes.specs.Movement.{Movement, AreTracked}
use Rattle.far_columns.specs.Vector.{Vector, IsVector}
use Rattle.far_columns.proofs.MovementInUse.{in-use}
use Rattle.far_texts.specs.Texts.{Texts, IsTextColumn, IsGroupForm, lists_of}
use Rattle.far_columns.specs.Numbers.{number_lists}
use Rattle.far_columns.specs.NumbersTogether.{NumberColumns, AreNumberColumns}
use Rattle.far_texts.specs.Together.{AreColumns}

module _ {K : Type 0} (content : K → List ℕ) where
  pub number-in-use : (spelled : List (Option ℤ) → List ℕ → Type 0) (m : Movement (Option ℤ) K) → AreTracked ints_meaning content spelled m → (columns : NumberColumns) → AreNumberColumns (number_lists content m) columns
      → (i : ℕ) (c : Vector (Option ℤ)) → slice_get columns i ≡ Some c → (g o : ℕ) → slice_get c.objects g ≡ Some o → o < length m.records
  number-in-use spelled m tracked columns are i c there g o here =
      let is = subst (IsVector (number_lists content m)) (get_or_from_slice_get columns i c c there) (are.all_disjoint.each i c (slice_get_within columns i c there)) in
      let list = is.whole g o (slice_get_within c.objects g o here) in
      in-use ints_meaning content spelled m tracked o (λ list. length list ≡ c.size) (subst (λ p. IsSomeAnd (number_lists content m p) (λ list. length list ≡ c.size)) (get_or_from_slice_get c.objects g o o here) list)

  pub text-in-use : (spelled : List ℕ → List ℕ → Type 0) (m : Movement ℕ K) → AreTracked (λ bytes. bytes) content spelled m → (columns : List Texts) → AreColumns (lists_of content m) columns
      → (i : ℕ) (c : Texts) → slice_get columns i ≡ Some c → (g o : ℕ) → slice_get c.objects g ≡ Some o → o < length m.records
  text-in-use spelled m tracked columns are i c there g o here =
      let is = subst (IsTextColumn (lists_of content m)) (get_or_from_slice_get columns i c c there) (are.all_disjoint.each i c (slice_get_within columns i c there)) in
      in-use (λ bytes. bytes) content spelled m tracked o (IsGroupForm c g) (is.each g o here)
