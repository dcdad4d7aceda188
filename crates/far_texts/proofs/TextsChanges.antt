-- Columns of texts after the lists of objects change.
use Rattle.std.proofs.Common.{◌≡◌, ◌≢◌, inl, inr, ℕ, ◌<◌, List, [], length, get_or, Option, None, Some, refl, sym, ap, subst, ◌∙◌, arith}
use Rattle.std.specs.Prelude.{IsSomeAnd, AllPairs, unwrap_or, slice_get}
use Rattle.std.proofs.lemmas.Bool.{cases_lt, cases_eq}
use Rattle.std.proofs.lemmas.Option.{slice_get-get_or, slice_get_within, get_or_from_slice_get}
use Rattle.far_codec.specs.TextForm.{texts_meaning}
use Rattle.far_scopes.specs.Memory.{ChangesList}
use Rattle.far_texts.specs.Texts.{Texts, Lists, IsTextColumn, IsGroupForm, KeepsOthers, texts_at, texts_in}
use Rattle.far_texts.proofs.Joined.{joined-same}

pub some-and : (list : Option (List ℕ)) (P Q : List ℕ → Type 0) → ((bytes : List ℕ) → P bytes → Q bytes) → IsSomeAnd list P → IsSomeAnd list Q
some-and None P Q then here = absurd here
some-and (Some bytes) P Q then here = then bytes here

module _ (old new : Lists) where
  -- the texts of an object whose list does not change
  pub texts-unchanged : (o : ℕ) → new o ≡ old o → texts_at new o ≡ texts_at old o
  texts-unchanged o same = ap (λ list. texts_meaning (unwrap_or list [])) same

  -- a column whose objects keep their lists
  pub column-unchanged : (d : Texts) → ((k : ℕ) → k < length d.objects → new (get_or d.objects k 0) ≡ old (get_or d.objects k 0)) → IsTextColumn old d → IsTextColumn new d
  column-unchanged d same is = record {
    once = is.once;
    each = λ group o here.
        let at : get_or d.objects group 0 ≡ o = get_or_from_slice_get d.objects group o 0 here in
        subst (λ list. IsSomeAnd list (IsGroupForm d group)) (sym (sym (ap new at) ∙ same group (slice_get_within d.objects group o here) ∙ ap old at)) (is.each group o here);
  }

  pub texts-in-unchanged : (d : Texts) → ((k : ℕ) → k < length d.objects → new (get_or d.objects k 0) ≡ old (get_or d.objects k 0)) → texts_in new d ≡ texts_in old d
  texts-in-unchanged d same = joined-same (texts_at old) (texts_at new) d.objects (λ k below. texts-unchanged (get_or d.objects k 0) (same k below))

  -- a column without the changed object keeps its lists
  module _ (o : ℕ) (now : Option (List ℕ)) (changes : ChangesList old new o now) where
    others-unchanged : (d : Texts) → ((k : ℕ) → slice_get d.objects k ≢ Some o) → (k : ℕ) → k < length d.objects → new (get_or d.objects k 0) ≡ old (get_or d.objects k 0)
    others-unchanged d disjoint k below = changes.others (get_or d.objects k 0) (λ e. disjoint k (slice_get-get_or d.objects k 0 below ∙ ap Some e))

    -- if the changed object is one of column c's objects
    pub keeps-others : (c : Texts) (g : ℕ) → slice_get c.objects g ≡ Some o → KeepsOthers old new c
    keeps-others c g here = record {
      columns = λ d is disjoint. column-unchanged d (others-unchanged d (λ k. disjoint g k o here)) is;
      texts = λ d is disjoint. texts-in-unchanged d (others-unchanged d (λ k. disjoint g k o here));
    }

    -- if the changed object is a new one
    pub keeps-others-new : (c : Texts) → old o ≡ None → KeepsOthers old new c
    keeps-others-new c none =
        let disjoint : (d : Texts) → IsTextColumn old d → (k : ℕ) → slice_get d.objects k ≢ Some o = λ d is k here. subst (λ list. IsSomeAnd list (IsGroupForm d k)) none (is.each k o here) in
        record {
          columns = λ d is _. column-unchanged d (others-unchanged d (disjoint d is)) is;
          texts = λ d is _. texts-in-unchanged d (others-unchanged d (disjoint d is));
        }

pub keeps-same : (lists : Lists) (c : Texts) → KeepsOthers lists lists c
keeps-same lists c = record { columns = λ d is _. is; texts = λ d is _. refl }

module _ (old new : Lists) (c : Texts) (is : IsTextColumn old c) where
  -- different row groups have different objects
  pub two-objects : (g k : ℕ) → g < length c.objects → k < length c.objects → k ≢ g → get_or c.objects k 0 ≢ get_or c.objects g 0
  two-objects g k begun within disjoint same = elim (cases_lt k g) [
    | inl below ↦ is.once k g 0 below begun same
    | inr above ↦ is.once g k 0 (omega (arith, disjoint)) within (sym same)
  ]

  module _ (g : ℕ) (begun : g < length c.objects) (bytes : List ℕ) (changes : ChangesList old new (get_or c.objects g 0) (Some bytes)) where
    -- the other row groups keep their lists
    pub groups-unchanged : (k : ℕ) → k < length c.objects → k ≢ g → new (get_or c.objects k 0) ≡ old (get_or c.objects k 0)
    groups-unchanged k within disjoint = changes.others (get_or c.objects k 0) (two-objects g k begun within disjoint)

    pub group-texts : texts_at new (get_or c.objects g 0) ≡ texts_meaning bytes
    group-texts = ap (λ list. texts_meaning (unwrap_or list [])) changes.here

    pub group-others : (k : ℕ) → k < length c.objects → k ≢ g → texts_at new (get_or c.objects k 0) ≡ texts_at old (get_or c.objects k 0)
    group-others k within disjoint = texts-unchanged old new (get_or c.objects k 0) (groups-unchanged k within disjoint)

    -- a column with the same objects, in the new lists
    pub column-changed : (d : Texts) → d.objects ≡ c.objects → ((k : ℕ) (form : List ℕ) → k < length c.objects → k ≢ g → IsGroupForm c k form → IsGroupForm d k form) → IsGroupForm d g bytes → IsTextColumn new d
    column-changed d same forms form = record {
      once = subst (λ os. AllPairs (λ o p. o ≢ p) os) (sym same) is.once;
      each = λ group o found.
          let here : slice_get c.objects group ≡ Some o = subst (λ os. slice_get os group ≡ Some o) same found in
          let within = slice_get_within c.objects group o here in
          let at : get_or c.objects group 0 ≡ o = get_or_from_slice_get c.objects group o 0 here in
          elim (cases_eq group g) [
            | inl e ↦
                let list : new o ≡ Some bytes = ap new (sym at ∙ ap (λ k. get_or c.objects k 0) e) ∙ changes.here in
                subst (λ l. IsSomeAnd l (IsGroupForm d group)) (sym list) (subst (λ k. IsGroupForm d k bytes) (sym e) form)
            | inr ne ↦
                let list : new o ≡ old o = sym (ap new at) ∙ groups-unchanged group within ne ∙ ap old at in
                subst (λ l. IsSomeAnd l (IsGroupForm d group)) (sym list) (some-and (old o) (IsGroupForm c group) (IsGroupForm d group) (λ b. forms group b within ne) (is.each group o here))
          ];
    }
