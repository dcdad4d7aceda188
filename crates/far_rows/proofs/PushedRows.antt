-- The rows after a push: what the columns may take, the invariant, and the effect on rows and objects.
use Rattle.std.proofs.Common.{◌≡◌, ℕ, ◌+◌, ◌*◌, ◌/◌, ◌<◌, ◌≤◌, ◌^◌, Bool, true, List, [], ◌∷◌, ◌++◌, length, map, None, refl, sym, ap, subst, ◌∙◌, arith}
use Rattle.std.specs.Prelude.{All, ℤ, Option}
use Rattle.std.specs.Option.{option_or}
use Rattle.std.proofs.lemmas.List.{length-map}
use Rattle.far_types.specs.FirstOf.{first_of}
use Rattle.far_codec.specs.Reading.{ints_meaning}
use Rattle.far_scopes.specs.Movement.{Movement, AreClean, version_of}
use Rattle.far_columns.specs.Vector.{IsShaped}
use Rattle.far_columns.specs.Numbers.{number_lists, numbers_in}
use Rattle.far_columns.specs.NumbersTogether.{NumberColumns, AreNumberColumns, after_push_all, push_numbers_refusal}
use Rattle.far_columns.specs.NumbersChanges.{NumbersPushed}
use Rattle.far_texts.specs.Texts.{Texts, HasGroups, lists_of, texts_in}
use Rattle.far_texts.specs.Together.{AreColumns, after_push_all as all_texts_pushed}
use Rattle.far_texts.specs.RefusingTogether.{push_texts_refusal}
use Rattle.far_texts.specs.Appending.{TextsPushed}
use Rattle.far_rows.specs.declared.column_index.ColumnIndex.TheVariants as column_index
use Rattle.far_rows.specs.Appending.{MayTakeNumbers, MayTakeTexts}
use Rattle.far_rows.specs.ByKind.{kinds_refusal}
use Rattle.far_rows.specs.ColumnIndexes.{AreColumnIndexes, Values, columns_of}
use Rattle.far_rows.specs.Effects.{AreValuesOf, IsPushed}
use Rattle.far_rows.specs.Naming.{names_of, AreNumbered, AreOwned, ArePlaced}
use Rattle.far_rows.specs.Refusing.{absents}
use Rattle.far_rows.specs.Rows.{Rows, AreRows}
use Rattle.far_rows.proofs.ColumnIndexesAppend.{all_with, numbers-with, texts-with, columns-with}
use Rattle.far_rows.proofs.EffectsGrowth.{as-many-numbers, as-many-texts, all-numbers, all-texts}
use Rattle.far_rows.proofs.EffectsNumberGrowth.{same_length-grown, count-grown}
use Rattle.far_rows.proofs.EffectsTextGrowth.{same_length-grown as texts-same_length-grown, count-grown as texts-count-grown}
use Rattle.far_rows.proofs.EffectsVersions.{number-versions, text-versions}
use Rattle.far_rows.proofs.NamingNumbers.{IsNamed, same-numbers, numbers-named}
use Rattle.far_rows.proofs.NamingNumberOwners.{numbers-owned}
use Rattle.far_rows.proofs.NamingTexts.{IsNamed as IsTextNamed, same-numbers as texts-same-numbers, texts-named}
use Rattle.far_rows.proofs.NamingTextOwners.{texts-owned}
use Rattle.far_rows.proofs.RowsGroupStarts.{IsNumbers, IsTexts, are-numbers, are-texts, numbers-few, texts-few, none-of-two}

-- a push keeps the number of columns
pub numbers-as-many : {K : Type 0} {content : K → List ℕ} {old new : Movement (Option ℤ) K} {was becoming : NumberColumns} {numbers : List (Option ℤ)} → NumbersPushed content old new was becoming numbers → length becoming ≡ length was
numbers-as-many {K} {content} {old} {new} {was} pushed = ap length pushed.columns ∙ as-many-numbers (length old.records) was

pub texts-as-many : {K : Type 0} {content : K → List ℕ} {old new : Movement ℕ K} {was becoming : List Texts} {texts : List (Option (List ℕ))} → TextsPushed content old was texts new becoming → length becoming ≡ length was
texts-as-many {K} {content} {old} {new} {was} pushed = ap length pushed.pushed ∙ as-many-texts (length old.records) was

-- all columns of rows have as many cells as there are places
module _ {K : Type 0} {content : K → List ℕ} (r : Rows K) (inv : AreRows content r) where
  pub number-columns : All (IsNumbers r.size (length r.alive)) r.numbers
  number-columns = are-numbers r.size (length r.alive) r.numbers inv.shaped inv.same_length_numbers

  pub text-columns : All (IsTexts r.size (length r.alive)) r.texts
  text-columns = are-texts r.size (length r.alive) r.texts inv.grouped inv.same_length_texts

-- rows that are seen as `now` may take a row that is not refused
module _ {K : Type 0} (content : K → List ℕ) (r now : Rows K) (view : r ≡ now) (inv : AreRows content r) (values : Values) (row : AreValuesOf now values) (free : kinds_refusal content now values ≡ None) (below : length now.alive < 2 ^ 24) where
  values-of : AreValuesOf r values
  values-of = subst (λ (s : Rows K). AreValuesOf s values) (sym view) row

  few : length r.alive < 2 ^ 24
  few = subst (λ (s : Rows K). length s.alive < 2 ^ 24) (sym view) below

  not-refused : (push_texts_refusal content r.text_objects r.texts values.texts ≡ None) × (push_numbers_refusal r.number_objects r.numbers ≡ None)
  not-refused =
      let texts_due = push_texts_refusal content r.text_objects r.texts values.texts in
      let numbers_due = push_numbers_refusal r.number_objects r.numbers in
      let here = subst (λ (s : Rows K). kinds_refusal content s values ≡ None) (sym view) free in
      none-of-two texts_due numbers_due (none-of-two (first_of (absents r (length r.alive / r.size))) (option_or texts_due numbers_due) here).1

  pub may-take-numbers : length r.number_objects.records ≤ 2 ^ 28 → MayTakeNumbers content r.number_objects r.numbers values.numbers
  may-take-numbers tracked = record {
    are = inv.numbers;
    same_length = values-of.numbers;
    few = numbers-few r.size (length r.alive) (length r.number_objects.records) inv.some few tracked r.numbers (omega (arith, inv.few)) (number-columns r inv) inv.number_objects;
    free = not-refused.1;
  }

  pub may-take-texts : length r.text_objects.records ≤ 2 ^ 28 → MayTakeTexts content r.text_objects r.texts values.texts
  may-take-texts tracked = record {
    are = inv.texts;
    same_length = values-of.texts;
    few = texts-few r.size (length r.alive) (length r.text_objects.records) inv.some few tracked r.texts (omega (arith, inv.few)) (text-columns r inv) inv.text_objects;
    free = not-refused.0;
  }

-- a value was pushed to each column of rows that are seen as `now`
module _ {K : Type 0} (content : K → List ℕ) (r now : Rows K) (view : r ≡ now) (inv : AreRows content r) (values : Values) (row : AreValuesOf now values)
    (numbers : NumberColumns) (number_objects : Movement (Option ℤ) K) {number_columns : NumberColumns} (same-numbers-were : number_columns ≡ r.numbers) (numbers-given : NumbersPushed content r.number_objects number_objects number_columns numbers values.numbers)
    (texts : List Texts) (text_objects : Movement ℕ K) {text_columns : List Texts} (same-texts-were : text_columns ≡ r.texts) (texts-given : TextsPushed content r.text_objects text_columns values.texts text_objects texts) where
  was : AreValuesOf r values
  was = subst (λ (s : Rows K). AreValuesOf s values) (sym view) row

  pushed : NumbersPushed content r.number_objects number_objects r.numbers numbers values.numbers
  pushed = subst (λ (cs : NumberColumns). NumbersPushed content r.number_objects number_objects cs numbers values.numbers) same-numbers-were numbers-given

  texts-pushed : TextsPushed content r.text_objects r.texts values.texts text_objects texts
  texts-pushed = subst (λ (cs : List Texts). TextsPushed content r.text_objects cs values.texts text_objects texts) same-texts-were texts-given

  as-many : length numbers ≡ length r.numbers
  as-many = numbers-as-many pushed

  as-many-texts-now : length texts ≡ length r.texts
  as-many-texts-now = texts-as-many texts-pushed

  -- the rows with these columns and objects
  abbrev pub rows_with : List Bool → Rows K
  rows_with alive = record { column_indexes = r.column_indexes; size = r.size; numbers = numbers; texts = texts; number_objects = number_objects; text_objects = text_objects; alive = alive }

  -- they are valid, if the columns are
  pub rows-pushed : (alive : List Bool) → length alive ≡ length r.alive + 1 → length now.alive < 2 ^ 24
      → AreNumberColumns (number_lists content number_objects) numbers → AreColumns (lists_of content text_objects) texts → All IsShaped numbers → All HasGroups texts
      → AreClean ints_meaning content number_objects → AreClean (λ bytes. bytes) content text_objects → AreRows content (rows_with alive)
  rows-pushed alive more below numbers-are texts-are shaped grouped clean_numbers clean_texts = record {
    column_indexes = subst (λ n. AreColumnIndexes r.column_indexes n (length texts)) (sym as-many) (subst (AreColumnIndexes r.column_indexes (length r.numbers)) (sym as-many-texts-now) inv.column_indexes);
    few = omega (arith, inv.few, as-many, as-many-texts-now);
    some = inv.some;
    small = inv.small;
    places = (let few = subst (λ (s : Rows K). length s.alive < 2 ^ 24) (sym view) below in omega (arith, more, few));
    numbers = numbers-are;
    texts = texts-are;
    shaped = shaped;
    grouped = grouped;
    same_length_numbers = subst (All (λ v. (v.size ≡ r.size) × (v.len ≡ length alive))) (sym pushed.columns)
        (all-numbers (λ v. (v.size ≡ r.size) × (v.len ≡ length r.alive)) (λ v. (v.size ≡ r.size) × (v.len ≡ length alive)) (same_length-grown r.size (length r.alive) (length alive) (sym more)) (length r.number_objects.records) r.numbers inv.same_length_numbers);
    same_length_texts = subst (All (λ v. (v.size ≡ r.size) × (v.len ≡ length alive))) (sym texts-pushed.pushed)
        (all-texts (λ v. (v.size ≡ r.size) × (v.len ≡ length r.alive)) (λ v. (v.size ≡ r.size) × (v.len ≡ length alive)) (texts-same_length-grown r.size (length r.alive) (length alive) (sym more)) (length r.text_objects.records) r.texts inv.same_length_texts);
    number_objects = subst (λ n. All (λ v. length number_objects.records ≡ n * length v.objects) numbers) (sym as-many) (subst (All (λ v. length number_objects.records ≡ length r.numbers * length v.objects)) (sym pushed.columns)
        (count-grown r.size (length r.alive) inv.some (length r.numbers) (length r.number_objects.records) (length number_objects.records) r.numbers (number-columns r inv) pushed.count inv.number_objects (length r.number_objects.records)));
    text_objects = subst (λ n. All (λ v. length text_objects.records ≡ n * length v.objects) texts) (sym as-many-texts-now) (subst (All (λ v. length text_objects.records ≡ length r.texts * length v.objects)) (sym texts-pushed.pushed)
        (texts-count-grown r.size (length r.alive) inv.some (length r.texts) (length r.text_objects.records) (length text_objects.records) r.texts (text-columns r inv) texts-pushed.count inv.text_objects (length r.text_objects.records)));
    numbered = subst (λ cs. AreNumbered r.column_indexes (map (λ v. v.column) numbers) (map (λ v. v.column) cs)) (sym texts-pushed.pushed)
        (subst (λ cs. AreNumbered r.column_indexes (map (λ v. v.column) cs) (map (λ v. v.column) (all_texts_pushed (length r.text_objects.records) r.texts))) (sym pushed.columns)
        (subst (λ ns. AreNumbered r.column_indexes ns (map (λ v. v.column) (all_texts_pushed (length r.text_objects.records) r.texts))) (sym (same-numbers (length r.number_objects.records) r.numbers))
        (subst (AreNumbered r.column_indexes (map (λ v. v.column) r.numbers)) (sym (texts-same-numbers (length r.text_objects.records) r.texts)) inv.numbered)));
    placed_numbers = subst (λ cs. ArePlaced r.column_indexes (λ i. column_index.Number i) (map (λ v. v.column) cs)) (sym pushed.columns)
        (subst (ArePlaced r.column_indexes (λ i. column_index.Number i)) (sym (same-numbers (length r.number_objects.records) r.numbers)) inv.placed_numbers);
    placed_texts = subst (λ cs. ArePlaced r.column_indexes (λ i. column_index.Text i) (map (λ v. v.column) cs)) (sym texts-pushed.pushed)
        (subst (ArePlaced r.column_indexes (λ i. column_index.Text i)) (sym (texts-same-numbers (length r.text_objects.records) r.texts)) inv.placed_texts);
    number_names = subst (All (IsNamed (names_of number_objects))) (sym pushed.columns)
        (subst (λ m. All (IsNamed (names_of m)) (after_push_all (length r.number_objects.records) r.numbers)) (sym pushed.objects)
        (numbers-named r.size (length r.alive) r.numbers inv.some (number-columns r inv) r.number_objects values.numbers was.numbers inv.number_names));
    text_names = subst (All (IsTextNamed (names_of text_objects))) (sym texts-pushed.pushed)
        (texts-named (lists_of content r.text_objects) r.size (length r.alive) r.texts inv.some (text-columns r inv) r.text_objects text_objects values.texts was.texts texts-pushed.begun texts-pushed.replaced inv.text_names);
    owned_numbers = subst (λ (cs : NumberColumns). AreOwned (λ v. v.column) (λ v. v.objects) (names_of number_objects) cs) (sym pushed.columns)
        (subst (λ m. AreOwned (λ v. v.column) (λ v. v.objects) (names_of m) (after_push_all (length r.number_objects.records) r.numbers)) (sym pushed.objects)
        (numbers-owned r.size (length r.alive) r.numbers inv.some (number-columns r inv) r.number_objects values.numbers was.numbers inv.owned_numbers));
    owned_texts = subst (λ (cs : List Texts). AreOwned (λ v. v.column) (λ v. v.objects) (names_of text_objects) cs) (sym texts-pushed.pushed)
        (texts-owned (lists_of content r.text_objects) r.size (length r.alive) r.texts inv.some (text-columns r inv) r.text_objects text_objects values.texts was.texts texts-pushed.begun texts-pushed.replaced inv.owned_texts);
    clean_numbers = clean_numbers;
    clean_texts = clean_texts;
  }

  -- they are the rows after the push
  pub is-pushed : (alive : List Bool) → alive ≡ r.alive ++ true ∷ [] → IsPushed content now values (rows_with alive)
  is-pushed alive longer =
      let number-cells = map (numbers_in content r.number_objects) r.numbers in
      let text-cells = map (texts_in (lists_of content r.text_objects)) r.texts in
      let many = length-map r.numbers (numbers_in content r.number_objects) in
      let many-texts = length-map r.texts (texts_in (lists_of content r.text_objects)) in
      let number-cells-now = pushed.numbers ∙ numbers-with (number_lists content r.number_objects) r.numbers values.numbers in
      let text-cells-now = texts-pushed.texts ∙ texts-with (lists_of content r.text_objects) r.texts values.texts in
      subst (λ (s : Rows K). IsPushed content s values (rows_with alive)) view record {
        column_indexes = refl;
        size = refl;
        alive = longer;
        cells =
            ap (λ ns. columns_of r.column_indexes ns (map (texts_in (lists_of content text_objects)) texts)) number-cells-now
            ∙ ap (columns_of r.column_indexes (all_with number-cells values.numbers)) text-cells-now
            ∙ columns-with number-cells text-cells values (length r.numbers) (length r.texts) (was.numbers ∙ sym many) (was.texts ∙ sym many-texts) (sym many) (sym many-texts) r.column_indexes inv.column_indexes.within;
        numbers = pushed.columns;
        number_objects = pushed.objects;
        texts = texts-pushed.pushed;
        text_objects = record { begun = texts-pushed.begun; replaced = texts-pushed.replaced };
      }

  -- no object is written more than once
  pub number-once : (o : ℕ) → version_of number_objects o ≤ version_of now.number_objects o + 1
  number-once o =
      let most = number-versions content r.size (length r.alive) r.numbers inv.some (number-columns r inv) r.number_objects inv.numbers values.numbers was.numbers o in
      subst (λ (s : Rows K). version_of number_objects o ≤ version_of s.number_objects o + 1) view
      (subst (λ (m : Movement (Option ℤ) K). version_of m o ≤ version_of r.number_objects o + 1) (sym pushed.objects) most)

  pub text-once : (o : ℕ) → version_of text_objects o ≤ version_of now.text_objects o + 1
  text-once o =
      let most = text-versions content r.size (length r.alive) r.texts inv.some (text-columns r inv) r.text_objects text_objects inv.texts values.texts was.texts texts-pushed.begun texts-pushed.replaced o in
      subst (λ (s : Rows K). version_of text_objects o ≤ version_of s.text_objects o + 1) view most
