-- Columns of texts in the same objects, after one of them changes.
use Rattle.std.proofs.Common.{◌≡◌, ◌≢◌, inl, inr, ℕ, ◌<◌, List, [], ◌∷◌, ◌++◌, length, get_or, None, Some, sym, ap, subst, ◌∙◌, arith}
use Rattle.std.specs.Prelude.{IsSomeAnd, slice_get, slice_set, slice_index_or}
use Rattle.std.proofs.lemmas.Bool.{cases_lt, cases_Bool}
use Rattle.std.proofs.lemmas.List.{length_push, get_or_push, get_or_append_left}
use Rattle.std.proofs.lemmas.List.Elements.{All-push}
use Rattle.std.proofs.lemmas.List.Quantifiers.{all_pairs_push}
use Rattle.std.proofs.lemmas.Option.{slice_get-get_or, slice_get_within, get_or_from_slice_get}
use Rattle.far_scopes.proofs.Several.{each-after, disjoint-after, other, was-all_disjoint}
use Rattle.far_texts.specs.Texts.{Texts, Lists, IsTextColumn, IsGroupForm, AreDisjoint, texts_in}
use Rattle.far_texts.specs.Effects.{begins_group, after_push}
use Rattle.far_texts.specs.Columns.{AreTextColumns, ChangesColumn}
use Rattle.far_texts.proofs.TextsChanges.{column-unchanged, texts-in-unchanged}
use Rattle.far_texts.proofs.EffectsAppend.{column-begun, pushed-begun, pushed-longer}

pub disjoint-turned : (c d : Texts) → AreDisjoint c d → AreDisjoint d c
disjoint-turned c d disjoint = λ group others o here there. disjoint others group o there here

-- columns are added one after another, each without an object
pub no-columns : (lists : Lists) → AreTextColumns lists []
no-columns lists = record {
  each = λ k d within. let no : ⊥ = omega (arith, within) in absurd no;
  disjoint = λ i j d below within. let no : ⊥ = omega (arith, within) in absurd no;
}

pub columns-more : (lists : Lists) (columns : List Texts) (c : Texts) → AreTextColumns lists columns → IsTextColumn lists c → c.objects ≡ [] → AreTextColumns lists (columns ++ c ∷ [])
columns-more lists columns c are is none = record {
  each = All-push (IsTextColumn lists) columns c are.each is;
  disjoint = all_pairs_push AreDisjoint columns c are.disjoint (λ k d below. λ group other o here there. omega (arith, slice_get_within c.objects other o there, ap length none));
}

module _ (old new : Lists) (columns : List Texts) (are : AreTextColumns old columns) (k : ℕ) (c c' : Texts) (at : slice_get columns k ≡ Some c) (change : ChangesColumn old new c c') where
  others-are : (d : Texts) → IsTextColumn old d → AreDisjoint c d → IsTextColumn new d × AreDisjoint c' d
  others-are d is disjoint = (change.others.columns d is disjoint, change.disjoint d is disjoint)

  pub columns-after : AreTextColumns new (slice_set columns k c')
  columns-after = record {
    each = each-after AreDisjoint disjoint-turned (IsTextColumn old) (IsTextColumn new) columns are.each are.disjoint k c c' at change.is others-are;
    disjoint = disjoint-after AreDisjoint disjoint-turned (IsTextColumn old) (IsTextColumn new) columns are.each are.disjoint k c c' at change.is others-are;
  }

  pub others-after : (j : ℕ) (d : Texts) → j ≢ k → j < length columns → texts_in new (slice_index_or (slice_set columns k c') j d) ≡ texts_in old (slice_index_or columns j d)
  others-after j d ne within =
      let all_disjoint = was-all_disjoint AreDisjoint disjoint-turned (IsTextColumn old) (IsTextColumn new) columns are.each are.disjoint k c c' at change.is others-are j d ne within in
      ap (texts_in new) (other AreDisjoint disjoint-turned (IsTextColumn old) (IsTextColumn new) columns are.each are.disjoint k c c' at change.is others-are j d ne) ∙ change.others.texts (slice_index_or columns j d) (are.each j d within) all_disjoint

-- if no list changes, no column changes
pub columns-stay : (old new : Lists) (columns : List Texts) → AreTextColumns old columns → ((o : ℕ) → new o ≡ old o) → AreTextColumns new columns
columns-stay old new columns are same = record {
  each = λ k d within. column-unchanged old new (slice_index_or columns k d) (λ j below. same (get_or (slice_index_or columns k d).objects j 0)) (are.each k d within);
  disjoint = are.disjoint;
}

pub texts-stay : (old new : Lists) (c : Texts) → ((o : ℕ) → new o ≡ old o) → texts_in new c ≡ texts_in old c
texts-stay old new c same = texts-in-unchanged old new c (λ j below. same (get_or c.objects j 0))

-- no other column has the object of a row group that was just begun, since this object had no list before
begun-disjoint : (lists : Lists) (c d : Texts) (o : ℕ) → lists o ≡ None → IsTextColumn lists d → AreDisjoint c d → AreDisjoint (column-begun c o) d
begun-disjoint lists c d o fresh is disjoint group other p here there =
    let at : get_or (c.objects ++ o ∷ []) group 0 ≡ p = get_or_from_slice_get (c.objects ++ o ∷ []) group p 0 here in
    let within = slice_get_within (c.objects ++ o ∷ []) group p here in
    elim (cases_lt group (length c.objects)) [
      | inl below ↦
          let was : get_or c.objects group 0 ≡ p = sym (get_or_append_left c.objects (o ∷ []) 0 group below) ∙ at in
          disjoint group other p (slice_get-get_or c.objects group 0 below ∙ ap Some was) there
      | inr past ↦
          let last : group ≡ length c.objects = omega (arith, within, length_push c.objects o) in
          let same : p ≡ o = sym at ∙ get_or_push c.objects o 0 group (sym last) in
          subst (λ list. IsSomeAnd list (IsGroupForm d other)) (ap lists same ∙ fresh) (is.each other p there)
    ]

pub pushed-disjoint : (lists : Lists) (c d : Texts) (o : ℕ) → lists o ≡ None → IsTextColumn lists d → AreDisjoint c d → AreDisjoint (after_push c o) d
pushed-disjoint lists c d o fresh is disjoint = elim (cases_Bool (begins_group c)) [
  | inl begins ↦ subst (λ w. AreDisjoint w d) (sym (pushed-begun c o begins)) (begun-disjoint lists c d o fresh is disjoint)
  | inr not_begins ↦ subst (λ w. AreDisjoint w d) (sym (pushed-longer c o not_begins)) disjoint
]
