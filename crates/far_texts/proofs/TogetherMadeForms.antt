-- The new forms of several columns, made one after another.
use Rattle.std.proofs.Common.{◌≡◌, inl, inr, ℕ, ◌+◌, ◌<◌, ◌≤◌, List, [], ◌∷◌, ◌++◌, length, get_or, drop, Option, Some, refl, sym, ap, subst, ◌∙◌, arith, append_assoc}
use Rattle.std.specs.Prelude.{slice_get}
use Rattle.std.proofs.lemmas.Bool.{cases_lt}
use Rattle.std.proofs.lemmas.List.{map-append}
use Rattle.std.proofs.lemmas.Option.{same_Some, slice_get_read}
use Rattle.far_types.specs.FormLengths.{texts_length}
use Rattle.far_codec.specs.TextForm.{texts_form, texts_meaning, IsTextsForm}
use Rattle.far_scopes.specs.declared.replacement.Replacement.{Replacement}
use Rattle.far_scopes.proofs.RefusingWrites.{next-is}
use Rattle.far_texts.specs.Texts.{Texts, Lists}
use Rattle.far_texts.specs.Effects.{group_with_next}
use Rattle.far_texts.specs.Together.{object_for, next_forms, forms_of, IsNextForm}
use Rattle.far_texts.proofs.EffectsAppend.{form-is}

-- bytes that encode the texts of the next place's row group are its form
pub is-next : (lists : Lists) (c : Texts) (text : Option (List ℕ)) (bytes : List ℕ) → IsTextsForm bytes → texts_meaning bytes ≡ group_with_next lists c text → length bytes ≡ texts_length (group_with_next lists c text) → texts_length (group_with_next lists c text) ≤ c.limit → IsNextForm lists c text
is-next lists c text bytes form means long short =
    let is = form-is bytes (group_with_next lists c text) form means in
    let count : length (texts_form (group_with_next lists c text)) ≡ texts_length (group_with_next lists c text) = ap (λ l. length l) (sym is) ∙ long in
    record {
      form = subst IsTextsForm is form;
      means = ap texts_meaning (sym is) ∙ means;
      short = omega (arith, count, short);
      some = omega (arith, count);
    }

module _ (lists : Lists) (n : ℕ) (columns : List Texts) (texts : List (Option (List ℕ))) (k : ℕ) (c : Texts) (text : Option (List ℕ)) (within : k < length columns) (within_too : k < length texts) (read : c ≡ get_or columns k c) (read_too : text ≡ get_or texts k text) where
  -- one more form is made
  pub made-more : (made new : List (Replacement ℕ)) (r : Replacement ℕ) (all : List (ℕ × List ℕ)) → forms_of made ++ next_forms lists (n + k) (drop k columns) (drop k texts) ≡ all → new ≡ made ++ r ∷ [] → r.object ≡ object_for c (n + k) → r.list.items ≡ texts_form (group_with_next lists c text)
      → forms_of new ++ next_forms lists (n + (k + 1)) (drop (k + 1) columns) (drop (k + 1) texts) ≡ all
  made-more made new r all was is object list =
      let rest = next_forms lists (n + (k + 1)) (drop (k + 1) columns) (drop (k + 1) texts) in
      let place : n + (k + 1) ≡ n + k + 1 = omega arith in
      let form : ℕ × List ℕ = (object_for c (n + k), texts_form (group_with_next lists c text)) in
      let same : (r.object, r.list.items) ≡ form = ap (λ o. (o, r.list.items)) object ∙ ap (λ l. (object_for c (n + k), l)) list in
      let next : next_forms lists (n + k) (drop k columns) (drop k texts) ≡ form ∷ rest =
      ap (λ cs. next_forms lists (n + k) cs (drop k texts)) (next-is columns k c within read)
      ∙ ap (next_forms lists (n + k) (c ∷ drop (k + 1) columns)) (next-is texts k text within_too read_too)
      ∙ ap (λ i. form ∷ next_forms lists i (drop (k + 1) columns) (drop (k + 1) texts)) (sym place) in
      ap (λ l. forms_of l ++ rest) is
      ∙ ap (λ l. l ++ rest) (map-append (λ (s : Replacement ℕ). (s.object, s.list.items)) made (r ∷ []))
      ∙ append_assoc (forms_of made) ((r.object, r.list.items) ∷ []) rest
      ∙ ap (λ f. forms_of made ++ f ∷ rest) same
      ∙ ap (λ l. forms_of made ++ l) (sym next)
      ∙ was

  -- if the forms before form k are valid, and form k is, then all up to it are
  pub valid-more : IsNextForm lists c text → ((j : ℕ) (d : Texts) (t : Option (List ℕ)) → j < k → slice_get columns j ≡ Some d → slice_get texts j ≡ Some t → IsNextForm lists d t)
      → (j : ℕ) (d : Texts) (t : Option (List ℕ)) → j < k + 1 → slice_get columns j ≡ Some d → slice_get texts j ≡ Some t → IsNextForm lists d t
  valid-more here before j d t below at there = elim (cases_lt j k) [
    | inl earlier ↦ before j d t earlier at there
    | inr late ↦
        let same : j ≡ k = omega (arith, below, late) in
        let one : c ≡ d = same_Some c d (sym (slice_get_read columns (length columns) k c refl within read) ∙ ap (slice_get columns) (sym same) ∙ at) in
        let two : text ≡ t = same_Some text t (sym (slice_get_read texts (length texts) k text refl within_too read_too) ∙ ap (slice_get texts) (sym same) ∙ there) in
        subst (λ x. IsNextForm lists x t) one (subst (IsNextForm lists c) two here)
  ]
