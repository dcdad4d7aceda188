-- What storing the new forms of several columns does.
use Rattle.std.proofs.Common.{◌≡◌, ℕ, ◌+◌, ◌<◌, Bool, true, false, if◌then◌else◌, List, length, map, Option, None, Some, sym, ap, subst, ◌∙◌, arith}
use Rattle.std.specs.Prelude.{slice_get, All, ◌⊎◌, Result, IfErr}
use Rattle.std.proofs.lemmas.List.Sums.{AllPass-from_list_all}
use Rattle.far_types.specs.declared.refusal.Refusal.{Refusal}
use Rattle.far_types.specs.declared.refusal.Refusal.TheVariants.{NoMemory, RegionFull}
use Rattle.far_types.specs.FirstOf.{first_of}
use Rattle.far_log.specs.RegionState.{spaces_of, fit_in_order}
use Rattle.far_scopes.specs.declared.replacement.Replacement.{Replacement}
use Rattle.far_scopes.specs.Movement.{Movement}
use Rattle.far_scopes.specs.Refusing.{first_absent, replace_all_refusal}
use Rattle.far_scopes.specs.Replacing.{AreListedOnce}
use Rattle.far_texts.specs.Texts.{Texts, Lists, lists_of, texts_in}
use Rattle.far_texts.specs.Effects.{begins_group}
use Rattle.far_texts.specs.Columns.{KeepsCopies}
use Rattle.far_texts.specs.Together.{all_begin, after_push_all, after_create_all, all_texts_with, ChangesTo}
use Rattle.far_texts.specs.RefusingTogether.{first_tests, push_texts_refusal, MayReturn}
use Rattle.far_texts.specs.Appending.{forms_with, TextsPushed, ChangesColumns}
use Rattle.far_texts.specs.Storing.{AreMade, GroupsBegun, GroupsExtended}
use Rattle.far_texts.proofs.TogetherChecks.{none-begin}
use Rattle.far_texts.proofs.TogetherNextForms.{all-at}
use Rattle.far_texts.proofs.TogetherAppends.{all-texts, keeps-columns, same-columns}
use Rattle.far_texts.proofs.TogetherColumns.{stay-columns, stays-disjoint}
use Rattle.far_texts.proofs.TogetherGrowth.{AreNumbered}
use Rattle.far_texts.proofs.TogetherGivenForms.{length-given, given-some, given-numbered, given-changes, given-within, given-once, given-here}
use Rattle.far_texts.proofs.RefusingTogetherLaws.{begun-free, begun-full, due-replaced, all-local, refused-begun, refused-longer}

module _ {K : Type 0} (content : K → List ℕ) (m : Movement ℕ K) (columns : List Texts) (forms : List (Replacement ℕ)) (texts : List (Option (List ℕ))) (made : AreMade content m columns forms texts) where
  abbrev old : Lists
  old = lists_of content m

  abbrev n : ℕ
  n = length m.records

  abbrev lens : List ℕ
  lens = map (λ (r : Replacement ℕ). length r.list.items) forms

  pub as-many : length forms ≡ length columns
  as-many = length-given old n columns texts made.same_length forms made.given

  pub none-empty : All (λ (r : Replacement ℕ). 0 < length r.list.items) forms
  none-empty = given-some old n columns texts made.same_length forms made.given made.valid

  -- nothing is changed
  pub same : (is_of : K → List ℕ → Type 0) (now : Movement ℕ K) (columns' : List Texts) → KeepsCopies content is_of m now → (columns' ≡ columns) × (now ≡ m) → ChangesColumns content m columns is_of now columns'
  same is_of now columns' copies err =
      subst (ChangesColumns content m columns is_of now) (sym err.0)
      (subst (λ w. KeepsCopies content is_of m w → ChangesColumns content m columns is_of w columns) (sym err.1)
      (λ kept. record { are = made.are; others = same-columns old columns; disjoint = λ d is disjoint. disjoint; copies = kept }) copies)

  -- the objects got these forms
  module _ (now : Movement ℕ K) (columns' : List Texts) (pushed : columns' ≡ after_push_all n columns) (changes : ChangesTo old (lists_of content now) (forms_with content m columns texts)) where
    abbrev new : Lists
    new = lists_of content now

    changed : (is_of : K → List ℕ → Type 0) → KeepsCopies content is_of m now → ChangesColumns content m columns is_of now columns'
    changed is_of copies = subst (ChangesColumns content m columns is_of now) (sym pushed) record {
      are = stay-columns old n columns made.are made.groups made.fresh new texts made.same_length made.valid changes;
      others = keeps-columns old n columns made.are made.groups made.fresh new texts made.same_length made.valid changes;
      disjoint = stays-disjoint old n columns made.are made.groups made.fresh;
      copies = copies;
    }

    texts-are : map (texts_in new) columns' ≡ all_texts_with old columns texts
    texts-are = ap (map (texts_in new)) pushed ∙ all-texts old n columns made.are made.groups made.fresh new texts made.same_length made.valid changes

  count-by : (more : ℕ) (begins b : Bool) → b ≡ begins → n + (if b then more else 0) ≡ n + (if begins then more else 0)
  count-by more begins b is = ap (λ c. n + (if c then more else 0)) is

  -- row groups begin
  module _ (begins : all_begin columns ≡ true) where
    pub numbered : AreNumbered n forms
    numbered = given-numbered old n columns texts made.same_length forms made.given (λ k d here. all-at (λ (c : Texts). begins_group c ≡ true) columns k d (AllPass-from_list_all begins_group columns begins) here)

    module _ (now : Movement ℕ K) (columns' : List Texts) (begun : GroupsBegun content m columns forms now columns') where
      begun-changes : ChangesTo old (lists_of content now) (forms_with content m columns texts)
      begun-changes = subst (ChangesTo old (lists_of content now)) made.given begun.lists

      pub begun-pushed : TextsPushed content m columns texts now columns'
      begun-pushed = record {
        pushed = begun.pushed;
        begun = λ _. begun.created ∙ ap (after_create_all m columns) made.given;
        replaced = λ not. absurd (let never = sym begins ∙ not in cc);
        count = begun.count ∙ count-by (length columns) (all_begin columns) true (sym begins);
        lists = begun-changes;
        texts = texts-are now columns' begun.pushed begun-changes;
      }

      pub begun-changed : (is_of : K → List ℕ → Type 0) → KeepsCopies content is_of m now → ChangesColumns content m columns is_of now columns'
      begun-changed = changed now columns' begun.pushed begun-changes

      pub begun-accepted : push_texts_refusal content m columns texts ≡ None
      begun-accepted = begun-free content m columns texts (sym made.free) forms made.given begins begun.space

    pub begun-refused : {A : Type 0} (r : Result A Refusal) → IfErr r (λ e. ((e ≡ RegionFull) × (fit_in_order (spaces_of m.memory.state) lens ≡ false)) ⊎ (e ≡ NoMemory)) → IfErr r (MayReturn content m columns texts)
    begun-refused r refused = refused-begun r (push_texts_refusal content m columns texts) (first_of (first_tests content m columns texts)) (sym made.free)
        (fit_in_order (spaces_of m.memory.state) lens) (begun-full content m columns texts (sym made.free) forms made.given begins) refused

  -- the last row groups are not full
  module _ (begins : all_begin columns ≡ false) where
    pub none-begins : All (λ c. begins_group c ≡ false) columns
    none-begins = none-begin old columns made.are made.groups begins

    none-at : (k : ℕ) (c : Texts) → slice_get columns k ≡ Some c → begins_group c ≡ false
    none-at k c here = all-at (λ (d : Texts). begins_group d ≡ false) columns k c none-begins here

    pub within : All (λ (r : Replacement ℕ). r.object < length m.records) forms
    within = given-within old n columns texts made.same_length forms made.given made.are made.groups made.fresh none-at

    pub once : AreListedOnce forms
    once = given-once old n columns texts made.same_length forms made.given made.are made.groups made.fresh none-at

    same-refusal : replace_all_refusal m forms ≡ push_texts_refusal content m columns texts
    same-refusal = due-replaced content m columns texts (sym made.free) forms made.given begins
        (all-local m forms (given-here old n columns texts made.same_length forms made.given made.are made.groups made.fresh none-at content m made.here))

    module _ (now : Movement ℕ K) (columns' : List Texts) (extended : GroupsExtended content m columns forms now columns') where
      extended-changes : ChangesTo old (lists_of content now) (forms_with content m columns texts)
      extended-changes = given-changes old n columns texts made.same_length forms made.given old (lists_of content now) extended.lists

      pub extended-pushed : TextsPushed content m columns texts now columns'
      extended-pushed = record {
        pushed = extended.pushed n;
        begun = λ begin. absurd (let never = sym begins ∙ begin in cc);
        replaced = λ _. (forms, made.given, extended.replaced);
        count = extended.count ∙ omega arith ∙ count-by (length columns) (all_begin columns) false (sym begins);
        lists = extended-changes;
        texts = texts-are now columns' (extended.pushed n) extended-changes;
      }

      pub extended-changed : (is_of : K → List ℕ → Type 0) → KeepsCopies content is_of m now → ChangesColumns content m columns is_of now columns'
      extended-changed = changed now columns' (extended.pushed n) extended-changes

      pub extended-accepted : push_texts_refusal content m columns texts ≡ None
      extended-accepted = sym same-refusal ∙ extended.free

    pub extended-refused : {A : Type 0} (r : Result A Refusal) → IfErr r (λ e. (replace_all_refusal m forms ≡ Some e) ⊎ ((first_absent m (map (λ (r : Replacement ℕ). r.object) forms) ≡ None) × (e ≡ NoMemory))) → IfErr r (MayReturn content m columns texts)
    extended-refused r refused = refused-longer r (push_texts_refusal content m columns texts) (first_of (first_tests content m columns texts)) (sym made.free)
        (replace_all_refusal m forms) (first_absent m (map (λ (r : Replacement ℕ). r.object) forms) ≡ None) same-refusal refused
