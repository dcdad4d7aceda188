-- Several columns after a text is appended to each.
use Rattle.std.proofs.Common.{◌≡◌, ◌≢◌, inl, inr, ℕ, zero, suc, ◌+◌, ◌-◌, ◌<◌, ◌≤◌, List, [], ◌∷◌, ◌++◌, length, get_or, map, Option, None, Some, refl, sym, ap, subst, ◌∙◌, arith}
use Rattle.std.specs.Prelude.{All, slice_get}
use Rattle.std.proofs.lemmas.Bool.{cases_eq, cases_lt, cases_Bool}
use Rattle.std.proofs.lemmas.Option.{same_Some, slice_get-get_or, slice_get_within, get_or_from_slice_get, none-some}
use Rattle.far_codec.specs.TextForm.{texts_form}
use Rattle.far_texts.specs.Texts.{Texts, Lists, HasGroups, IsTextColumn, AreDisjoint, texts_in}
use Rattle.far_texts.specs.Effects.{begins_group, group_with_next, after_push}
use Rattle.far_texts.specs.Together.{AreColumns, object_for, next_forms, after_push_all, all_texts_with, ChangesTo, KeepsColumns, AreNextForms}
use Rattle.far_texts.proofs.TextsChanges.{column-unchanged, texts-in-unchanged}
use Rattle.far_texts.proofs.TextsGroups.{group-list}
use Rattle.far_texts.proofs.TextsSpace.{some-group}
use Rattle.far_texts.proofs.TogetherOneColumn.{object-begun, object-longer, one-is, one-texts}
use Rattle.far_texts.proofs.TogetherNextForms.{next-at, unlisted}

pub pushed-at : (n : ℕ) (columns : List Texts) (k : ℕ) (d : Texts) → k < length columns → get_or (after_push_all n columns) k d ≡ after_push (get_or columns k d) (n + k)
pushed-at n [] k d below = absurd (omega arith)
pushed-at n (c ∷ columns) zero d below = let place : n ≡ n + 0 = omega arith in ap (after_push c) place
pushed-at n (c ∷ columns) (suc k) d below = let place : n + 1 + k ≡ n + suc k = omega arith in pushed-at (n + 1) columns k d (omega arith) ∙ ap (after_push (get_or columns k d)) place

pub length-pushed : (n : ℕ) (columns : List Texts) → length (after_push_all n columns) ≡ length columns
length-pushed n [] = refl
length-pushed n (c ∷ columns) = ap suc (length-pushed (n + 1) columns)

-- each column has its texts, followed by its new one
pub texts-all : (old new : Lists) (n : ℕ) (columns : List Texts) (texts : List (Option (List ℕ))) → length texts ≡ length columns
    → ((k : ℕ) (c : Texts) (text : Option (List ℕ)) → slice_get columns k ≡ Some c → slice_get texts k ≡ Some text → texts_in new (after_push c (n + k)) ≡ texts_in old c ++ text ∷ [])
    → map (texts_in new) (after_push_all n columns) ≡ all_texts_with old columns texts
texts-all old new n [] texts same_length each = refl
texts-all old new n (c ∷ columns) [] same_length each = absurd (omega arith)
texts-all old new n (c ∷ columns) (text ∷ texts) same_length each =
    let place : n ≡ n + 0 = omega arith in
    let first = ap (λ i. texts_in new (after_push c i)) place ∙ each 0 c text refl refl in
    let rest = texts-all old new (n + 1) columns texts (omega arith) (λ k d t here there. let place : n + 1 + k ≡ n + suc k = omega arith in ap (λ i. texts_in new (after_push d i)) place ∙ each (suc k) d t here there) in
    ap (λ l. l ∷ map (texts_in new) (after_push_all (n + 1) columns)) first ∙ ap (λ l. (texts_in old c ++ text ∷ []) ∷ l) rest

-- nothing changes
pub same-columns : (lists : Lists) (columns : List Texts) → KeepsColumns lists lists columns
same-columns lists columns = record { stay = λ d is _. is; texts = λ d is _. refl }

module _ (old : Lists) (n : ℕ) (columns : List Texts) (are : AreColumns old columns) (groups : All HasGroups columns) (fresh : (p : ℕ) → n ≤ p → old p ≡ None) where
  -- column k
  module _ (k : ℕ) (c : Texts) (here : slice_get columns k ≡ Some c) where
    within : k < length columns
    within = slice_get_within columns k c here

    is-at : get_or columns k c ≡ c
    is-at = get_or_from_slice_get columns k c c here

    pub column-is : IsTextColumn old c
    column-is = subst (IsTextColumn old) is-at (are.all_disjoint.each k c within)

    pub column-groups : HasGroups c
    column-groups = subst HasGroups is-at (groups k c within)

    -- an object that has a list and is not one of the column's objects is not the object of the column's next text
    pub disjoint-from : (p : ℕ) (list : List ℕ) → old p ≡ Some list → ((g : ℕ) → slice_get c.objects g ≢ Some p) → p ≢ object_for c (n + k)
    disjoint-from p list has disjoint same = elim (cases_Bool (begins_group c)) [
      | inl begins ↦ none-some list (sym (fresh p (omega (arith, same ∙ object-begun c (n + k) begins))) ∙ has)
      | inr begins ↦
          let last = length c.objects - 1 in
          let some = some-group c column-groups begins in
          disjoint last (slice_get-get_or c.objects last 0 (omega (arith, some)) ∙ ap Some (sym (same ∙ object-longer c (n + k) begins)))
    ]

  -- two of the columns have no object in common
  pub two-disjoint : (k j : ℕ) (c d : Texts) → slice_get columns k ≡ Some c → slice_get columns j ≡ Some d → k ≢ j → (g h o : ℕ) → slice_get c.objects g ≡ Some o → slice_get d.objects h ≢ Some o
  two-disjoint k j c d here there ne g h o at same = elim (cases_lt k j) [
    | inl below ↦
        let disjoint : AreDisjoint (get_or columns k c) (get_or columns j c) = are.all_disjoint.disjoint k j c below (within j d there) in
        let disjoint_of : AreDisjoint c d = subst (λ x. AreDisjoint x d) (is-at k c here) (subst (AreDisjoint (get_or columns k c)) (get_or_from_slice_get columns j d c there) disjoint) in
        disjoint_of g h o at same
    | inr above ↦
        let disjoint : AreDisjoint (get_or columns j d) (get_or columns k d) = are.all_disjoint.disjoint j k d (omega (arith, above, ne)) (within k c here) in
        let disjoint_of : AreDisjoint d c = subst (λ x. AreDisjoint x c) (is-at j d there) (subst (AreDisjoint (get_or columns j d)) (get_or_from_slice_get columns k c d here) disjoint) in
        disjoint_of h g o same at
  ]

  module _ (new : Lists) (texts : List (Option (List ℕ))) (same_length : length texts ≡ length columns) (valid : AreNextForms old columns texts) (changes : ChangesTo old new (next_forms old n columns texts)) where
    -- the objects of a column's other row groups keep their lists
    kept : (k : ℕ) (c : Texts) → slice_get columns k ≡ Some c → (i : ℕ) → i < length c.objects → get_or c.objects i 0 ≢ object_for c (n + k) → new (get_or c.objects i 0) ≡ old (get_or c.objects i 0)
    kept k c here i below disjoint =
        let p = get_or c.objects i 0 in
        changes.others p (unlisted old n columns texts p (λ j d there. elim (cases_eq k j) [
          | inl same ↦
              let one : c ≡ d = same_Some c d (sym here ∙ ap (slice_get columns) same ∙ there) in
              λ e. disjoint (e ∙ ap (λ i. object_for d (n + i)) (sym same) ∙ ap (λ x. object_for x (n + k)) (sym one))
          | inr ne ↦ disjoint-from j d there p _ (group-list old c (column-is k c here) i below) (λ h. two-disjoint k j c d here there ne i h p (slice_get-get_or c.objects i 0 below))
        ]))

    -- the object of the next text gets its form
    gets : (k : ℕ) (c : Texts) (text : Option (List ℕ)) → slice_get columns k ≡ Some c → slice_get texts k ≡ Some text → new (object_for c (n + k)) ≡ Some (texts_form (group_with_next old c text))
    gets k c text here there =
        let form : ℕ × List ℕ = (object_for c (n + k), texts_form (group_with_next old c text)) in
        let at = next-at old n columns texts k c text here there in
        let forms = next_forms old n columns texts in
        subst (λ (f : ℕ × List ℕ). new f.0 ≡ Some f.1) (get_or_from_slice_get forms k form form at) (changes.here k form (slice_get_within forms k form at))

    module _ (k : ℕ) (c : Texts) (text : Option (List ℕ)) (here : slice_get columns k ≡ Some c) (there : slice_get texts k ≡ Some text) where
      pub each-is : IsTextColumn new (after_push c (n + k))
      each-is = one-is old new c (column-is k c here) (column-groups k c here) (n + k) (fresh (n + k) (omega arith)) text (valid k c text here there) (gets k c text here there) (kept k c here)

      pub each-texts : texts_in new (after_push c (n + k)) ≡ texts_in old c ++ text ∷ []
      each-texts = one-texts old new c (column-is k c here) (column-groups k c here) (n + k) (fresh (n + k) (omega arith)) text (valid k c text here there) (gets k c text here there) (kept k c here)

    pub all-texts : map (texts_in new) (after_push_all n columns) ≡ all_texts_with old columns texts
    all-texts = texts-all old new n columns texts same_length each-texts

    pub all-is : All (IsTextColumn new) (after_push_all n columns)
    all-is k d below =
        let inside : k < length columns = subst (λ m. k < m) (length-pushed n columns) below in
        let c = get_or columns k d in
        let at = slice_get-get_or columns k d inside in
        subst (IsTextColumn new) (sym (pushed-at n columns k d inside)) (each-is k c (get_or texts k None) at (slice_get-get_or texts k None (omega (arith, same_length, inside))))

    -- every column disjoint from these is unchanged
    others-unchanged : (d : Texts) → IsTextColumn old d → All (λ c. AreDisjoint c d) columns → (i : ℕ) → i < length d.objects → new (get_or d.objects i 0) ≡ old (get_or d.objects i 0)
    others-unchanged d is disjoint i below =
        let p = get_or d.objects i 0 in
        changes.others p (unlisted old n columns texts p (λ j c there.
        let disjoint_of : AreDisjoint c d = subst (λ x. AreDisjoint x d) (is-at j c there) (disjoint j c (within j c there)) in
        disjoint-from j c there p _ (group-list old d is i below) (λ g same. disjoint_of g i p same (slice_get-get_or d.objects i 0 below))))

    pub keeps-columns : KeepsColumns old new columns
    keeps-columns = record {
      stay = λ d is disjoint. column-unchanged old new d (others-unchanged d is disjoint) is;
      texts = λ d is disjoint. texts-in-unchanged old new d (others-unchanged d is disjoint);
    }
