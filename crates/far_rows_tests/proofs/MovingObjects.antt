-- Objects that are found by a column and a row group.
use Rattle.std.proofs.Common.{◌≡◌, ℕ, ℤ, ◌+◌, ◌*◌, ◌<◌, ◌≤◌, List, [], ◌∷◌, length, Option, None, Some, Ok, Err, refl, sym, ap, subst, ◌∙◌, arith}
use Rattle.std.specs.Prelude.{Result, IfOk, IsOk, is_none, is_ok, option_map, slice_get}
use Rattle.std.specs.Option.{option_and_then}
use Rattle.std.proofs.lemmas.Nat.{div_below, div-mul-add}
use Rattle.std.proofs.lemmas.Option.{none-some, same_Some, slice_get-map, get_or_from_slice_get}
use Rattle.far_types.specs.declared.cell.Kind.TheVariants as kind
use Rattle.far_types.specs.declared.name.Name.{Name}
use Rattle.far_types.specs.declared.refusal.Refusal.{Refusal}
use Rattle.far_types.specs.declared.refusal.Refusal.TheVariants as refusal
use Rattle.far_types.specs.FirstOf.{first_of}
use Rattle.far_scopes.specs.Refusing.{refusal_in}
use Rattle.far_columns.specs.Vector.{Vector, IsShaped}
use Rattle.far_texts.specs.Texts.{Texts, HasGroups}
use Rattle.far_rows.specs.declared.object.Object.{Object}
use Rattle.far_rows.specs.declared.object.Object.TheVariants as object
use Rattle.far_rows.specs.declared.column_index.ColumnIndex.{ColumnIndex}
use Rattle.far_rows.specs.declared.column_index.ColumnIndex.TheVariants as column_index
use Rattle.far_rows.specs.Moving.{object_at, object_in, object_refusal}
use Rattle.far_rows.specs.Naming.{names_of}
use Rattle.far_rows.specs.Rows.{Rows, AreRows, object_of}
use Rattle.far_rows.specs.ColumnIndexes.{IsColumnIn, kind_of}
use Rattle.far_rows.proofs.PlacesTextSize.{found-at}

module _ {K : Type 0} (r : Rows K) (column group : ℕ) (due : Object) (at : object_at r column group ≡ Some due) where
  free : (found : Option ColumnIndex) → option_and_then (λ (s : ColumnIndex). option_map (object_in s) (object_of r s group)) found ≡ Some due
      → first_of ((is_none found, refusal.NoColumn) ∷ (is_none (option_and_then (λ (s : ColumnIndex). option_map (object_in s) (object_of r s group)) found), refusal.OutOfRange) ∷ []) ≡ None
  free None is = absurd (none-some due is)
  free (Some s) is = ap (λ (some : Option Object). first_of ((is_none some, refusal.OutOfRange) ∷ [])) is

  -- an object that exists is returned
  pub answered : (result : Result Object Refusal) → IfOk result (λ found. object_at r column group ≡ Some found) → refusal_in result ≡ object_refusal r column group → result ≡ Ok due
  answered (Ok found) given refused = ap Ok (same_Some found due (sym given ∙ at))
  answered (Err e) given refused = absurd (none-some e (sym (refused ∙ free (slice_get r.column_indexes column) at)))

-- a row group with places is below the number of objects
there : (g size objects len alive : ℕ) → 0 < size → g * size < alive → len ≡ alive → len ≤ objects * size → g < objects
there g size objects len alive some used all enough = subst (λ n. n < objects) (div-mul-add g size 0 some) (div_below (g * size + 0) size objects some (omega (arith, used, all, enough)))

module _ {K : Type 0} (content : K → List ℕ) (r : Rows K) (are : AreRows content r) where
  module _ (group : ℕ) (used : group * r.size < length r.alive) where
    in-column_index : (s : ColumnIndex) → IsColumnIn (length r.numbers) (length r.texts) s → (o : ℕ) × (object_of r s group ≡ Some o)
    in-column_index (column_index.Number i) inside =
        let found = found-at r.numbers i inside in
        let v : Vector (Option ℤ) = found.0 in
        let same = get_or_from_slice_get r.numbers i v v found.1 in
        let same_length = subst (λ (w : Vector (Option ℤ)). (w.size ≡ r.size) × (w.len ≡ length r.alive)) same (are.same_length_numbers i v inside) in
        let shaped = subst IsShaped same (are.shaped i v inside) in
        let own = found-at v.objects group (there group v.size (length v.objects) v.len (length r.alive) shaped.some (subst (λ n. group * n < length r.alive) (sym same_length.0) used) same_length.1 shaped.enough) in
        (own.0, ap (option_and_then (λ (w : Vector (Option ℤ)). slice_get w.objects group)) found.1 ∙ own.1)
    in-column_index (column_index.Text i) inside =
        let found = found-at r.texts i inside in
        let v : Texts = found.0 in
        let same = get_or_from_slice_get r.texts i v v found.1 in
        let same_length = subst (λ (w : Texts). (w.size ≡ r.size) × (w.len ≡ length r.alive)) same (are.same_length_texts i v inside) in
        let has = subst HasGroups same (are.grouped i v inside) in
        let own = found-at v.objects group (there group v.size (length v.objects) v.len (length r.alive) has.some (subst (λ n. group * n < length r.alive) (sym same_length.0) used) same_length.1 has.held) in
        (own.0, ap (option_and_then (λ (w : Texts). slice_get w.objects group)) found.1 ∙ own.1)

    -- each column has an object for a row group with places
    pub begun : (column : ℕ) → column < length r.column_indexes → (some : Object) × (object_at r column group ≡ Some some)
    begun column within =
        let found = found-at r.column_indexes column within in
        let s : ColumnIndex = found.0 in
        let inside = subst (IsColumnIn (length r.numbers) (length r.texts)) (get_or_from_slice_get r.column_indexes column s s found.1) (are.column_indexes.within column s within) in
        let own = in-column_index s inside in
        (object_in s own.0, ap (option_and_then (λ (t : ColumnIndex). option_map (object_in t) (object_of r t group))) found.1 ∙ ap (option_map (object_in s)) own.1)

    pub begun-is-ok : (column : ℕ) → column < length r.column_indexes → (result : Result Object Refusal) → IfOk result (λ found. object_at r column group ≡ Some found) → refusal_in result ≡ object_refusal r column group → IsOk result
    begun-is-ok column within result given refused =
        let own = begun column within in
        ap is_ok (answered r column group own.0 own.1 result given refused)

  -- the column of an object of numbers is an int column
  pub number-owner : (o : ℕ) (name : Name) → slice_get (names_of r.number_objects) o ≡ Some name → option_map kind_of (slice_get r.column_indexes name.column) ≡ Some kind.Int
  number-owner o name at =
      let owner = are.owned_numbers o name at in
      ap (option_map kind_of) (are.placed_numbers owner.0 name.column (slice_get-map (λ (v : Vector (Option ℤ)). v.column) r.numbers owner.0 ∙ ap (option_map (λ (v : Vector (Option ℤ)). v.column)) owner.2 ∙ ap Some owner.3))

  -- the column of an object of texts is a text column
  pub text-owner : (o : ℕ) (name : Name) → slice_get (names_of r.text_objects) o ≡ Some name → option_map kind_of (slice_get r.column_indexes name.column) ≡ Some kind.Text
  text-owner o name at =
      let owner = are.owned_texts o name at in
      ap (option_map kind_of) (are.placed_texts owner.0 name.column (slice_get-map (λ (v : Texts). v.column) r.texts owner.0 ∙ ap (option_map (λ (v : Texts). v.column)) owner.2 ∙ ap Some owner.3))
