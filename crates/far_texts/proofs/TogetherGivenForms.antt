-- The new forms of several columns, as they are stored in the objects.
use Rattle.std.proofs.Common.{◌≡◌, ◌≢◌, ℕ, ◌+◌, ◌-◌, ◌<◌, ◌≤◌, Bool, true, false, cond, inl, inr, List, [], ◌∷◌, length, get_or, Option, None, Some, sym, ap, subst, ◌∙◌, arith}
use Rattle.std.specs.Prelude.{All, slice_get, option_map}
use Rattle.std.proofs.lemmas.Bool.{cases_lt}
use Rattle.std.proofs.lemmas.List.{length-map, get_or-map}
use Rattle.std.proofs.lemmas.List.Elements.{All-map}
use Rattle.std.proofs.lemmas.Option.{same_Some, slice_get-get_or, slice_get-map, none-some}
use Rattle.far_codec.specs.TextForm.{texts_form}
use Rattle.far_scopes.specs.declared.replacement.Replacement.{Replacement}
use Rattle.far_types.specs.FirstOf.{first_of}
use Rattle.far_scopes.specs.Movement.{Movement}
use Rattle.far_scopes.specs.Refusing.{absent, lend_refusal}
use Rattle.far_scopes.specs.Replacing.{AreListedOnce, ChangesLists}
use Rattle.far_texts.specs.Texts.{Texts, Lists, HasGroups}
use Rattle.far_texts.specs.Effects.{begins_group, last_object, group_with_next}
use Rattle.far_texts.specs.Refusing.{next_length_refusal}
use Rattle.far_texts.specs.Together.{AreColumns, object_for, next_forms, forms_of, ChangesTo, AreNextForms}
use Rattle.far_texts.proofs.TextsGroups.{group-list}
use Rattle.far_texts.proofs.TextsSpace.{some-group}
use Rattle.far_texts.proofs.TogetherOneColumn.{object-begun, object-longer}
use Rattle.far_texts.proofs.TogetherNextForms.{next-at, length-next, all-at}
use Rattle.far_texts.proofs.TogetherAppends.{column-is, column-groups, two-disjoint}
use Rattle.far_texts.proofs.TogetherGrowth.{AreNumbered}

-- an object that is in none of the pairs is in none of the replacements
pub unlisted-given : (p : ℕ) (forms : List (Replacement ℕ)) → All (λ (form : ℕ × List ℕ). p ≢ form.0) (forms_of forms) → All (λ (r : Replacement ℕ). p ≢ r.object) forms
unlisted-given p forms un k d below same =
    let pair : Replacement ℕ → ℕ × List ℕ = λ r. (r.object, r.list.items) in
    un k (pair d) (omega (arith, below, length-map forms pair)) (same ∙ ap (λ (f : ℕ × List ℕ). f.0) (sym (get_or-map pair forms k d (pair d) below)))

-- replacement k has the object and the new form of column k
record IsGivenAt (lists : Lists) (n : ℕ) (columns : List Texts) (texts : List (Option (List ℕ))) (k : ℕ) (r : Replacement ℕ) : Type 0 where
  pub c : Texts
  pub text : Option (List ℕ)
  pub here : slice_get columns k ≡ Some c
  pub there : slice_get texts k ≡ Some text
  pub object : r.object ≡ object_for c (n + k)
  pub list : r.list.items ≡ texts_form (group_with_next lists c text)

module _ (lists : Lists) (n : ℕ) (columns : List Texts) (texts : List (Option (List ℕ))) (same_length : length texts ≡ length columns) (forms : List (Replacement ℕ)) (is : forms_of forms ≡ next_forms lists n columns texts) where
  pub length-given : length forms ≡ length columns
  length-given = sym (length-map forms (λ (r : Replacement ℕ). (r.object, r.list.items))) ∙ ap (λ l. length l) is ∙ length-next lists n columns texts same_length

  given-at : (k : ℕ) (d : Replacement ℕ) → k < length forms → IsGivenAt lists n columns texts k (get_or forms k d)
  given-at k d below =
      let r = get_or forms k d in
      let empty : Texts = record { column = 0; size = 0; limit = 0; objects = []; len = 0 } in
      let c = get_or columns k empty in
      let text = get_or texts k None in
      let here : slice_get columns k ≡ Some c = slice_get-get_or columns k empty (omega (arith, below, length-given)) in
      let there : slice_get texts k ≡ Some text = slice_get-get_or texts k None (omega (arith, below, length-given, same_length)) in
      let given : slice_get (forms_of forms) k ≡ Some (r.object, r.list.items) = slice_get-map (λ (s : Replacement ℕ). (s.object, s.list.items)) forms k ∙ ap (option_map (λ (s : Replacement ℕ). (s.object, s.list.items))) (slice_get-get_or forms k d below) in
      let form : ℕ × List ℕ = (object_for c (n + k), texts_form (group_with_next lists c text)) in
      let same : (r.object, r.list.items) ≡ form = same_Some (r.object, r.list.items) form (sym given ∙ ap (λ l. slice_get l k) is ∙ next-at lists n columns texts k c text here there) in
      record { c = c; text = text; here = here; there = there; object = ap (λ (f : ℕ × List ℕ). f.0) same; list = ap (λ (f : ℕ × List ℕ). f.1) same }

  pub given-some : AreNextForms lists columns texts → All (λ (r : Replacement ℕ). 0 < length r.list.items) forms
  given-some valid k d below =
      let at = given-at k d below in
      subst (λ l. 0 < length l) (sym at.list) (valid k at.c at.text at.here at.there).some

  -- if row groups begin, the objects are the next ones to be made
  pub given-numbered : ((k : ℕ) (c : Texts) → slice_get columns k ≡ Some c → begins_group c ≡ true) → AreNumbered n forms
  given-numbered begin k d below =
      let at = given-at k d below in
      at.object ∙ object-begun at.c (n + k) (begin k at.c at.here)

  pub given-changes : (old new : Lists) → ChangesLists old new forms → ChangesTo old new (next_forms lists n columns texts)
  given-changes old new changes = subst (ChangesTo old new) is record {
    here = All-map (λ (form : ℕ × List ℕ). new form.0 ≡ Some form.1) (λ (r : Replacement ℕ). (r.object, r.list.items)) forms changes.here;
    others = λ p un. changes.others p (unlisted-given p forms un);
  }

  module _ (are : AreColumns lists columns) (groups : All HasGroups columns) (fresh : (p : ℕ) → n ≤ p → lists p ≡ None) (begun : (k : ℕ) (c : Texts) → slice_get columns k ≡ Some c → begins_group c ≡ false) where
    -- otherwise the objects are the last objects of the columns
    last-of : (k : ℕ) (c : Texts) → slice_get columns k ≡ Some c → slice_get c.objects (length c.objects - 1) ≡ Some (last_object c)
    last-of k c here =
        let some = some-group c (column-groups lists n columns are groups fresh k c here) (begun k c here) in
        slice_get-get_or c.objects (length c.objects - 1) 0 (omega (arith, some))

    pub given-within : All (λ (r : Replacement ℕ). r.object < n) forms
    given-within k d below =
        let at = given-at k d below in
        let c = at.c in
        let o : (get_or forms k d).object ≡ last_object c = at.object ∙ object-longer c (n + k) (begun k c at.here) in
        let some = some-group c (column-groups lists n columns are groups fresh k c at.here) (begun k c at.here) in
        let list = group-list lists c (column-is lists n columns are groups fresh k c at.here) (length c.objects - 1) (omega (arith, some)) in
        subst (λ p. p < n) (sym o) (elim (cases_lt (last_object c) n) [
          | inl within ↦ within
          | inr past ↦ absurd (none-some _ (sym (fresh (last_object c) past) ∙ list))
        ])

    -- no object is away if each column's next form can be made
    pub given-here : {K : Type 0} (content : K → List ℕ) (m : Movement ℕ K) → All (λ (c : Texts). next_length_refusal content m c ≡ None) columns → All (λ (r : Replacement ℕ). None ≡ lend_refusal m r.object) forms
    given-here content m here k d below =
        let at = given-at k d below in
        let c = at.c in
        let o : (get_or forms k d).object ≡ last_object c = at.object ∙ object-longer c (n + k) (begun k c at.here) in
        let free = all-at (λ (x : Texts). next_length_refusal content m x ≡ None) columns k c here at.here in
        let lent : None ≡ lend_refusal m (last_object c) = sym (sym (ap (λ (b : Bool). first_of (cond b [] (absent m (last_object c) ∷ []))) (begun k c at.here)) ∙ free) in
        subst (λ p. None ≡ lend_refusal m p) (sym o) lent

    pub given-once : AreListedOnce forms
    given-once i j d before below same =
        let first = given-at i d (omega (arith, before, below)) in
        let second = given-at j d below in
        let one : (get_or forms i d).object ≡ last_object first.c = first.object ∙ object-longer first.c (n + i) (begun i first.c first.here) in
        let two : (get_or forms j d).object ≡ last_object second.c = second.object ∙ object-longer second.c (n + j) (begun j second.c second.here) in
        two-disjoint lists n columns are groups fresh i j first.c second.c first.here second.here (λ e. omega (arith, e, before))
        (length first.c.objects - 1) (length second.c.objects - 1) (last_object first.c) (last-of i first.c first.here)
        (last-of j second.c second.here ∙ ap Some (sym two ∙ sym same ∙ one))
