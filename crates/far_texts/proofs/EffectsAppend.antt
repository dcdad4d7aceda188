-- A column of texts after a text is appended.
use Rattle.std.proofs.Common.{◌≡◌, ◌≢◌, inl, inr, ℕ, suc, ◌+◌, ◌-◌, ◌*◌, ◌<◌, ◌≤◌, ◌^◌, eqb, Bool, true, false, cond, List, [], ◌∷◌, ◌++◌, length, get_or, Option, None, Some, refl, sym, ap, subst, ◌∙◌, arith, mul-le-mul_right}
use Rattle.std.specs.Prelude.{IsSomeAnd, unwrap_or}
use Rattle.std.proofs.lemmas.Bool.{eqb-true, ltb-false, cases_lt}
use Rattle.std.proofs.lemmas.Bool.Decides.{Decides-eqb}
use Rattle.std.proofs.lemmas.List.{length_push, get_or_default, get_or_push, get_or_append_left}
use Rattle.std.proofs.lemmas.List.Concat.{flat_map-append}
use Rattle.std.proofs.lemmas.List.Folds.{Any-from_list_any}
use Rattle.std.proofs.lemmas.List.Quantifiers.{all_pairs_push}
use Rattle.std.proofs.lemmas.Map.Made.{IsDistinct-from_AllPairs}
use Rattle.std.proofs.lemmas.Map.Steps.{length-le_from_distinct_below}
use Rattle.std.proofs.lemmas.Option.{slice_get-get_or, slice_get_within, get_or_from_slice_get, none-some}
use Rattle.far_types.specs.declared.refusal.Refusal.{Refusal}
use Rattle.far_types.specs.FirstOf.{first_of}
use Rattle.far_types.specs.FormLengths.{texts_length}
use Rattle.far_codec.specs.TextForm.{texts_form, texts_meaning, IsTextsForm}
use Rattle.far_scopes.specs.Memory.{ChangesList}
use Rattle.far_scopes.specs.Movement.{Movement}
use Rattle.far_scopes.specs.Effects.{after_create, after_replace}
use Rattle.far_scopes.specs.Refusing.{absent, no_space, written_out}
use Rattle.far_texts.specs.Texts.{Texts, Lists, HasGroups, IsTextColumn, IsGroupForm, KeepsOthers, lists_of, texts_at, texts_in}
use Rattle.far_texts.specs.Effects.{begins_group, last_object, group_with_next, after_push, objects_after_push}
use Rattle.far_texts.specs.Refusing.{text_too_long, chunk_full, push_refusal}
use Rattle.far_texts.proofs.Joined.{joined-push}
use Rattle.far_texts.proofs.TextsGroups.{group-form, group-list, group-last}
use Rattle.far_texts.proofs.TextsSpace.{not-full, some-group}
use Rattle.far_texts.proofs.TextsChanges.{some-and, column-changed, group-texts, group-others, keeps-others, texts-in-unchanged}
use Rattle.far_texts.proofs.EffectsSet.{none-due}

-- a column has at most as many objects as there are objects
pub few-objects : (lists : Lists) (c : Texts) (count : ℕ) → IsTextColumn lists c → ((k : ℕ) → k < length c.objects → get_or c.objects k 0 < count) → length c.objects ≤ count
few-objects lists c count is used =
    length-le_from_distinct_below c.objects count (IsDistinct-from_AllPairs Decides-eqb c.objects is.once) (λ q here.
    let found = Any-from_list_any (eqb q) c.objects here in
    let at : q ≡ get_or c.objects found.0 0 = eqb-true q found.1 found.4 ∙ sym found.3 ∙ get_or_default c.objects found.0 found.1 0 found.2 in
    subst (λ o. o < count) (sym at) (used found.0 found.2))

-- a column with one more row group still has its sizes within the limits
pub has-more : (c : Texts) (o : ℕ) → HasGroups c → begins_group c ≡ true → length c.objects < 2 ^ 28 → HasGroups record { column = c.column; size = c.size; limit = c.limit; objects = c.objects ++ o ∷ []; len = c.len + 1 }
has-more c o has begins few =
    let count = length_push c.objects o in
    let full : c.len ≡ length c.objects * c.size = eqb-true c.len (length c.objects * c.size) begins in
    record {
      some = has.some;
      small = has.small;
      short = has.short;
      few = omega (arith, count, few);
      held = subst (λ n. c.len + 1 ≤ n * c.size) (sym count) (omega (arith, full, has.some));
      begun = subst (λ n. n * c.size < c.len + 1 + c.size) (sym count) (omega (arith, full, has.some));
    }

-- a form is the only form of its texts
pub form-is : (bytes : List ℕ) (texts : List (Option (List ℕ))) → IsTextsForm bytes → texts_meaning bytes ≡ texts → bytes ≡ texts_form texts
form-is bytes texts form means = form.is ∙ ap texts_form means

-- the column after a row group is begun
abbrev pub column-begun : Texts → ℕ → Texts
column-begun c o = record { column = c.column; size = c.size; limit = c.limit; objects = c.objects ++ o ∷ []; len = c.len + 1 }

-- the column after a row group has one more text
abbrev pub column-longer : Texts → Texts
column-longer c = record { column = c.column; size = c.size; limit = c.limit; objects = c.objects; len = c.len + 1 }

pub pushed-begun : (c : Texts) (o : ℕ) → begins_group c ≡ true → after_push c o ≡ column-begun c o
pushed-begun c o begins = ap (λ (b : Bool). record { column = c.column; size = c.size; limit = c.limit; objects = cond b (c.objects ++ o ∷ []) c.objects; len = c.len + 1 }) begins

pub pushed-longer : (c : Texts) (o : ℕ) → begins_group c ≡ false → after_push c o ≡ column-longer c
pushed-longer c o begins = ap (λ (b : Bool). record { column = c.column; size = c.size; limit = c.limit; objects = cond b (c.objects ++ o ∷ []) c.objects; len = c.len + 1 }) begins

pub next-alone : (lists : Lists) (c : Texts) (text : Option (List ℕ)) → begins_group c ≡ true → group_with_next lists c text ≡ text ∷ []
next-alone lists c text begins = ap (λ (b : Bool). cond b [] (texts_at lists (last_object c)) ++ text ∷ []) begins

pub next-behind : (lists : Lists) (c : Texts) (text : Option (List ℕ)) → begins_group c ≡ false → group_with_next lists c text ≡ texts_at lists (last_object c) ++ text ∷ []
next-behind lists c text begins = ap (λ (b : Bool). cond b [] (texts_at lists (last_object c)) ++ text ∷ []) begins

-- a row group is begun
module _ (old new : Lists) (c : Texts) (is : IsTextColumn old c) (has : HasGroups c) (o : ℕ) (fresh : old o ≡ None) (bytes : List ℕ) (changes : ChangesList old new o (Some bytes)) where
  not-fresh : (k : ℕ) → k < length c.objects → get_or c.objects k 0 ≢ o
  not-fresh k below same = absurd (none-some (unwrap_or (old (get_or c.objects k 0)) []) (sym fresh ∙ sym (ap old same) ∙ group-list old c is k below))

  groups-stay : (k : ℕ) → k < length c.objects → new (get_or c.objects k 0) ≡ old (get_or c.objects k 0)
  groups-stay k below = changes.others (get_or c.objects k 0) (not-fresh k below)

  module _ (begins : begins_group c ≡ true) (text : Option (List ℕ)) (means : texts_meaning bytes ≡ text ∷ []) where
    full-len : c.len ≡ length c.objects * c.size
    full-len = eqb-true c.len (length c.objects * c.size) begins

    begun-form : IsTextsForm bytes → length bytes ≤ c.limit → IsGroupForm (column-begun c o) (length c.objects) bytes
    begun-form form short =
        let one : length (texts_meaning bytes) ≡ 1 = ap (λ l. length l) means in
        record { form = form; count = omega (arith, one, full-len, has.some); short = short }

    stays-form : (k : ℕ) (form : List ℕ) → k < length c.objects → IsGroupForm c k form → IsGroupForm (column-begun c o) k form
    stays-form k form below was =
        let long = mul-le-mul_right {m = k + 1} {n = length c.objects} c.size (omega arith) in
        record { form = was.form; count = omega (arith, was.count, long, full-len); short = was.short }

    pub begun-is : IsTextsForm bytes → length bytes ≤ c.limit → IsTextColumn new (column-begun c o)
    begun-is form short = record {
      once = all_pairs_push (λ p q. p ≢ q) c.objects o is.once (λ k d below same. not-fresh k below (get_or_default c.objects k 0 d below ∙ same));
      each = λ group p here.
          let at : get_or (c.objects ++ o ∷ []) group 0 ≡ p = get_or_from_slice_get (c.objects ++ o ∷ []) group p 0 here in
          let within = slice_get_within (c.objects ++ o ∷ []) group p here in
          elim (cases_lt group (length c.objects)) [
            | inl below ↦
                let there : get_or c.objects group 0 ≡ p = sym (get_or_append_left c.objects (o ∷ []) 0 group below) ∙ at in
                let list : new p ≡ old p = sym (ap new there) ∙ groups-stay group below ∙ ap old there in
                subst (λ l. IsSomeAnd l (IsGroupForm (column-begun c o) group)) (sym list)
                (some-and (old p) (IsGroupForm c group) (IsGroupForm (column-begun c o) group) (λ b. stays-form group b below) (is.each group p (slice_get-get_or c.objects group 0 below ∙ ap Some there)))
            | inr past ↦
                let last : group ≡ length c.objects = omega (arith, within, length_push c.objects o) in
                let same : p ≡ o = sym at ∙ get_or_push c.objects o 0 group (sym last) in
                let list : new p ≡ Some bytes = ap new same ∙ changes.here in
                subst (λ l. IsSomeAnd l (IsGroupForm (column-begun c o) group)) (sym list) (subst (λ k. IsGroupForm (column-begun c o) k bytes) (sym last) (begun-form form short))
          ];
    }

    pub begun-texts : texts_in new (column-begun c o) ≡ texts_in old c ++ text ∷ []
    begun-texts =
        let last : texts_at new o ≡ text ∷ [] = ap (λ list. texts_meaning (unwrap_or list [])) changes.here ∙ means in
        flat_map-append (texts_at new) c.objects (o ∷ [])
        ∙ ap (λ l. l ++ (texts_at new o ++ [])) (texts-in-unchanged old new c groups-stay)
        ∙ ap (λ l. texts_in old c ++ (l ++ [])) last

-- the last row group has one more text
module _ (old new : Lists) (c : Texts) (is : IsTextColumn old c) (has : HasGroups c) (begins : begins_group c ≡ false) (bytes : List ℕ) (changes : ChangesList old new (last_object c) (Some bytes)) where
  abbrev last : ℕ
  last = length c.objects - 1

  is-last : suc last ≡ length c.objects
  is-last = omega (arith, some-group c has begins)

  pub longer-others : KeepsOthers old new c
  longer-others = keeps-others old new (last_object c) (Some bytes) changes c last (slice_get-get_or c.objects last 0 (omega (arith, some-group c has begins)))

  module _ (text : Option (List ℕ)) (means : texts_meaning bytes ≡ texts_at old (last_object c) ++ text ∷ []) where
    longer-form : IsTextsForm bytes → length bytes ≤ c.limit → IsGroupForm (column-longer c) last bytes
    longer-form form short =
        let one : length (texts_meaning bytes) ≡ length (texts_at old (last_object c)) + 1 = ap (λ l. length l) means ∙ length_push (texts_at old (last_object c)) text in
        let before = group-last old c is has last is-last in
        let count = (group-form old c is last (omega (arith, some-group c has begins))).count in
        let below : c.len ≤ suc last * c.size = subst (λ n. c.len ≤ n * c.size) (sym is-last) has.held in
        let unlike : c.len ≢ suc last * c.size = subst (λ n. c.len ≢ n * c.size) (sym is-last) (not-full c has begins) in
        record { form = form; count = omega (arith, one, before, count, below, unlike); short = short }

    stays-longer : (k : ℕ) (form : List ℕ) → k < length c.objects → k ≢ last → IsGroupForm c k form → IsGroupForm (column-longer c) k form
    stays-longer k form below disjoint was =
        let long = mul-le-mul_right {m = k + 2} {n = length c.objects} c.size (omega (arith, is-last)) in
        record { form = was.form; count = omega (arith, was.count, long, has.begun); short = was.short }

    pub longer-is : IsTextsForm bytes → length bytes ≤ c.limit → IsTextColumn new (column-longer c)
    longer-is form short = column-changed old new c is last (omega (arith, some-group c has begins)) bytes changes (column-longer c) refl stays-longer (longer-form form short)

    pub longer-texts : texts_in new (column-longer c) ≡ texts_in old c ++ text ∷ []
    longer-texts =
        let begun : last < length c.objects = omega (arith, some-group c has begins) in
        joined-push (texts_at old) (texts_at new) c.objects last text is-last (group-others old new c is last begun bytes changes) (group-texts old new c is last begun bytes changes ∙ means)

module _ {K : Type 0} (content : K → List ℕ) (m : Movement ℕ K) (c : Texts) (text : Option (List ℕ)) where
  abbrev next-texts : List (Option (List ℕ))
  next-texts = group_with_next (lists_of content m) c text

  -- if no refusal applies, the new form is short enough
  abbrev push-cases : Bool → List (Bool × Refusal)
  push-cases begins =
      let o : ℕ = last_object c in
      let full : Bool × Refusal = chunk_full c next-texts in
      let space : Bool × Refusal = no_space m o (texts_length next-texts)
      in cond begins (text_too_long text ∷ full ∷ space ∷ []) (text_too_long text ∷ absent m o ∷ full ∷ space ∷ written_out m o ∷ [])

  short-by : (begins : Bool) → None ≡ first_of (push-cases begins) → texts_length next-texts ≤ c.limit
  short-by true free = ltb-false c.limit (texts_length next-texts) (none-due (push-cases true) 1 (chunk_full c next-texts) free refl)
  short-by false free = ltb-false c.limit (texts_length next-texts) (none-due (push-cases false) 2 (chunk_full c next-texts) free refl)

  pub push-short : None ≡ push_refusal content m c text → texts_length next-texts ≤ c.limit
  push-short free = short-by (begins_group c) free

  abbrev moved-by : Bool → Movement ℕ K
  moved-by begins = cond begins (after_create m record { column = c.column; group = length c.objects } (texts_form next-texts)) (after_replace m (last_object c) (texts_form next-texts))

  pub moved-begun : (bytes : List ℕ) → begins_group c ≡ true → bytes ≡ texts_form next-texts → after_create m record { column = c.column; group = length c.objects } bytes ≡ objects_after_push content m c text
  moved-begun bytes begins is = ap (after_create m record { column = c.column; group = length c.objects }) is ∙ sym (ap moved-by begins)

  pub moved-longer : (bytes : List ℕ) → begins_group c ≡ false → bytes ≡ texts_form next-texts → after_replace m (last_object c) bytes ≡ objects_after_push content m c text
  moved-longer bytes begins is = ap (after_replace m (last_object c)) is ∙ sym (ap moved-by begins)
