-- One of several columns, to each of which a text is appended.
use Rattle.std.proofs.Common.{◌≡◌, ◌≢◌, inl, inr, ℕ, ◌<◌, eqb, Bool, true, false, cond, List, [], ◌∷◌, ◌++◌, length, get_or, Option, None, Some, refl, sym, ap, subst, ◌∙◌, arith}
use Rattle.std.proofs.lemmas.Bool.{cases_eq, cases_lt, cases_Bool, ne_eqb, eq-eqb}
use Rattle.std.proofs.lemmas.List.{length_push, get_or_push, get_or_append_left}
use Rattle.far_codec.specs.TextForm.{texts_form}
use Rattle.far_scopes.specs.Memory.{ChangesList}
use Rattle.far_texts.specs.Texts.{Texts, Lists, HasGroups, IsTextColumn, texts_in}
use Rattle.far_texts.specs.Effects.{begins_group, last_object, group_with_next, after_push}
use Rattle.far_texts.specs.Together.{object_for, IsNextForm}
use Rattle.far_texts.proofs.TextsChanges.{column-unchanged, texts-in-unchanged}
use Rattle.far_texts.proofs.EffectsAppend.{column-begun, column-longer, pushed-begun, pushed-longer, next-alone, next-behind, begun-is, begun-texts, longer-is, longer-texts}

pub object-begun : (c : Texts) (n : ℕ) → begins_group c ≡ true → object_for c n ≡ n
object-begun c n begins = ap (λ (b : Bool). cond b n (last_object c)) begins

pub object-longer : (c : Texts) (n : ℕ) → begins_group c ≡ false → object_for c n ≡ last_object c
object-longer c n begins = ap (λ (b : Bool). cond b n (last_object c)) begins

module _ (old new : Lists) (o : ℕ) (bytes : List ℕ) (here : new o ≡ Some bytes) where
  -- the lists after a change of object o's list alone
  abbrev mid : Lists
  mid p = cond (eqb p o) (Some bytes) (old p)

  mid-here : (p : ℕ) → p ≡ o → mid p ≡ Some bytes
  mid-here p same = ap (λ (b : Bool). cond b (Some bytes) (old p)) (eq-eqb p o same)

  mid-other : (p : ℕ) → p ≢ o → mid p ≡ old p
  mid-other p disjoint = ap (λ (b : Bool). cond b (Some bytes) (old p)) (ne_eqb p o disjoint)

  mid-changes : ChangesList old mid o (Some bytes)
  mid-changes = record { here = mid-here o refl; others = mid-other }

  -- a column's lists are these lists, if all its objects except o keep their lists
  mid-same : (d : Texts) → ((k : ℕ) → k < length d.objects → get_or d.objects k 0 ≢ o → new (get_or d.objects k 0) ≡ old (get_or d.objects k 0)) → (k : ℕ) → k < length d.objects → new (get_or d.objects k 0) ≡ mid (get_or d.objects k 0)
  mid-same d kept k below = elim (cases_eq (get_or d.objects k 0) o) [
    | inl same ↦ ap new same ∙ here ∙ sym (mid-here (get_or d.objects k 0) same)
    | inr disjoint ↦ kept k below disjoint ∙ sym (mid-other (get_or d.objects k 0) disjoint)
  ]

module _ (old new : Lists) (c : Texts) (is : IsTextColumn old c) (has : HasGroups c) (n : ℕ) (fresh : old n ≡ None) (text : Option (List ℕ)) (valid : IsNextForm old c text) (here : new (object_for c n) ≡ Some (texts_form (group_with_next old c text))) (kept : (k : ℕ) → k < length c.objects → get_or c.objects k 0 ≢ object_for c n → new (get_or c.objects k 0) ≡ old (get_or c.objects k 0)) where
  abbrev form : List ℕ
  form = texts_form (group_with_next old c text)

  module _ (begins : begins_group c ≡ true) where
    here-begun : new n ≡ Some form
    here-begun = ap new (sym (object-begun c n begins)) ∙ here

    begun-unchanged : (k : ℕ) → k < length (column-begun c n).objects → get_or (column-begun c n).objects k 0 ≢ n → new (get_or (column-begun c n).objects k 0) ≡ old (get_or (column-begun c n).objects k 0)
    begun-unchanged k below disjoint = elim (cases_lt k (length c.objects)) [
      | inl before ↦
          let at : get_or (c.objects ++ n ∷ []) k 0 ≡ get_or c.objects k 0 = get_or_append_left c.objects (n ∷ []) 0 k before in
          ap new at ∙ kept k before (λ same. disjoint (at ∙ same ∙ object-begun c n begins)) ∙ ap old (sym at)
      | inr behind ↦
          let last : length c.objects ≡ k = omega (arith, below, behind, length_push c.objects n) in
          absurd (disjoint (get_or_push c.objects n 0 k last))
    ]

    same-begun : (k : ℕ) → k < length (column-begun c n).objects → new (get_or (column-begun c n).objects k 0) ≡ mid old new n form here-begun (get_or (column-begun c n).objects k 0)
    same-begun = mid-same old new n form here-begun (column-begun c n) begun-unchanged

    is-begun : IsTextColumn new (after_push c n)
    is-begun = subst (IsTextColumn new) (sym (pushed-begun c n begins))
        (column-unchanged (mid old new n form here-begun) new (column-begun c n) same-begun
        (begun-is old (mid old new n form here-begun) c is has n fresh form (mid-changes old new n form here-begun) begins text (valid.means ∙ next-alone old c text begins) valid.form valid.short))

    texts-begun : texts_in new (after_push c n) ≡ texts_in old c ++ text ∷ []
    texts-begun = ap (texts_in new) (pushed-begun c n begins)
        ∙ texts-in-unchanged (mid old new n form here-begun) new (column-begun c n) same-begun
        ∙ begun-texts old (mid old new n form here-begun) c is has n fresh form (mid-changes old new n form here-begun) begins text (valid.means ∙ next-alone old c text begins)

  module _ (begins : begins_group c ≡ false) where
    here-longer : new (last_object c) ≡ Some form
    here-longer = ap new (sym (object-longer c n begins)) ∙ here

    same-longer : (k : ℕ) → k < length c.objects → new (get_or c.objects k 0) ≡ mid old new (last_object c) form here-longer (get_or c.objects k 0)
    same-longer = mid-same old new (last_object c) form here-longer (column-longer c) (λ k below disjoint. kept k below (λ same. disjoint (same ∙ object-longer c n begins)))

    is-longer : IsTextColumn new (after_push c n)
    is-longer = subst (IsTextColumn new) (sym (pushed-longer c n begins))
        (column-unchanged (mid old new (last_object c) form here-longer) new (column-longer c) same-longer
        (longer-is old (mid old new (last_object c) form here-longer) c is has begins form (mid-changes old new (last_object c) form here-longer) text (valid.means ∙ next-behind old c text begins) valid.form valid.short))

    texts-longer : texts_in new (after_push c n) ≡ texts_in old c ++ text ∷ []
    texts-longer = ap (texts_in new) (pushed-longer c n begins)
        ∙ texts-in-unchanged (mid old new (last_object c) form here-longer) new (column-longer c) same-longer
        ∙ longer-texts old (mid old new (last_object c) form here-longer) c is has begins form (mid-changes old new (last_object c) form here-longer) text (valid.means ∙ next-behind old c text begins)

  pub one-is : IsTextColumn new (after_push c n)
  one-is = elim (cases_Bool (begins_group c)) [ inl begins ↦ is-begun begins | inr begins ↦ is-longer begins ]

  pub one-texts : texts_in new (after_push c n) ≡ texts_in old c ++ text ∷ []
  one-texts = elim (cases_Bool (begins_group c)) [ inl begins ↦ texts-begun begins | inr begins ↦ texts-longer begins ]
