-- Several columns, each of which gets a new object in turn.
use Rattle.std.proofs.Common.{◌≡◌, ◌≢◌, ℕ, suc, ◌+◌, ◌<◌, true, List, [], ◌∷◌, ◌++◌, length, map, Some, refl, sym, ap, subst, ◌∙◌, arith}
use Rattle.std.specs.Prelude.{All}
use Rattle.std.specs.List.{slice_index_or}
use Rattle.std.proofs.lemmas.List.{length_push}
use Rattle.std.proofs.lemmas.List.Elements.{All-cons, All-head, All-tail, All-map}
use Rattle.far_types.specs.declared.name.Name.{Name}
use Rattle.far_log.specs.RegionState.{spaces_of, fit_in_order}
use Rattle.far_scopes.specs.declared.replacement.Replacement.{Replacement}
use Rattle.far_scopes.specs.Memory.{ChangesList}
use Rattle.far_scopes.specs.Movement.{Movement}
use Rattle.far_scopes.specs.Effects.{after_create, new_record, after_write, after_write_all, with_lens, after_replace_all}
use Rattle.far_scopes.specs.Replacing.{replaced_all as replaced_all_in}
use Rattle.far_scopes.proofs.EnteringPins.{length-with}
use Rattle.far_scopes.proofs.ReplacingRecords.{length-lens}
use Rattle.far_texts.specs.Texts.{Texts, Lists}
use Rattle.far_texts.specs.Effects.{begins_group, after_push}
use Rattle.far_texts.specs.Together.{ChangesTo, forms_of, after_push_all, after_create_all}
use Rattle.far_texts.specs.Storing.{all_fit}
use Rattle.far_texts.proofs.EffectsAppend.{pushed-begun}

-- replacements whose objects are numbered from n on
abbrev pub AreNumbered : ℕ → List (Replacement ℕ) → Type 0
AreNumbered n lists = (k : ℕ) (d : Replacement ℕ) → k < length lists → (slice_index_or lists k d).object ≡ n + k

pub count-after_create : {K : Type 0} (m new : Movement ℕ K) (name : Name) (list : List ℕ) → new ≡ after_create m name list → length new.records ≡ length m.records + 1
count-after_create m new name list is = ap (λ w. length w.records) is ∙ length_push m.records (new_record name (length list))

-- replacing lists keeps the number of objects
length-after_write_all : {K : Type 0} (m : Movement ℕ K) (lists : List (Replacement ℕ)) → length (after_write_all m lists).records ≡ length m.records
length-after_write_all m [] = refl
length-after_write_all m (r ∷ lists) = length-after_write_all (after_write m r.object) lists ∙ length-with m.records r.object (λ object_record. record object_record { version = object_record.version + 1 })

pub count-after_replace : {K : Type 0} (m new : Movement ℕ K) (lists : List (Replacement ℕ)) → new ≡ after_replace_all m lists → length new.records ≡ length m.records
count-after_replace m new lists is =
    ap (λ w. length w.records) is
    ∙ length-after_write_all (record m { memory = replaced_all_in m.memory lists; records = with_lens m.records lists }) lists
    ∙ length-lens m.records lists

pub numbered-rest : (n : ℕ) (r : Replacement ℕ) (rest lists : List (Replacement ℕ)) → lists ≡ r ∷ rest → AreNumbered n lists → AreNumbered (n + 1) rest
numbered-rest n r rest lists is numbered k d below =
    let next : (slice_index_or rest k d).object ≡ n + suc k = subst (AreNumbered n) is numbered (suc k) d (omega arith) in
    omega arith

pub numbered-first : (n : ℕ) (r : Replacement ℕ) (rest lists : List (Replacement ℕ)) → lists ≡ r ∷ rest → AreNumbered n lists → r.object ≡ n
numbered-first n r rest lists is numbered =
    let first : r.object ≡ n + 0 = subst (AreNumbered n) is numbered 0 r (omega arith) in
    omega arith

-- the number n differs from all numbers after it
pub numbered-disjoint : (n : ℕ) (rest : List (Replacement ℕ)) → AreNumbered (n + 1) rest → All (λ form. n ≢ form.0) (forms_of rest)
numbered-disjoint n rest numbered = All-map (λ (form : ℕ × List ℕ). n ≢ form.0) (λ (r : Replacement ℕ). (r.object, r.list.items)) rest (λ k d below same. let at = numbered k d below in omega (arith, same, at))

-- one of several columns gets a new object
pub pushed-more : (n next : ℕ) (c : Texts) (objects : List ℕ) (rest new columns : List Texts) → columns ≡ c ∷ rest → begins_group c ≡ true → objects ≡ c.objects ++ n ∷ [] → next ≡ n + 1 → new ≡ after_push_all next rest
    → record { column = c.column; size = c.size; limit = c.limit; objects = objects; len = c.len + 1 } ∷ new ≡ after_push_all n columns
pushed-more n next c objects rest new columns is begins more step later =
    let longer : record { column = c.column; size = c.size; limit = c.limit; objects = objects; len = c.len + 1 } ≡ after_push c n = ap (λ os. record { column = c.column; size = c.size; limit = c.limit; objects = os; len = c.len + 1 }) more ∙ sym (pushed-begun c n begins) in
    ap (λ (d : Texts). d ∷ new) longer ∙ ap (λ l. after_push c n ∷ l) (later ∙ ap (λ k. after_push_all k rest) step) ∙ ap (after_push_all n) (sym is)

-- one list changes, and then others do
pub changes-more : (old mid new : Lists) (n : ℕ) (bytes : List ℕ) (o : ℕ) (list : List ℕ) (forms : List (ℕ × List ℕ)) → o ≡ n → bytes ≡ list → All (λ form. n ≢ form.0) forms → ChangesList old mid n (Some bytes) → ChangesTo mid new forms → ChangesTo old new ((o, list) ∷ forms)
changes-more old mid new n bytes o list forms same is disjoint first rest = record {
  here = All-cons (λ (form : ℕ × List ℕ). new form.0 ≡ Some form.1) (o, list) forms (ap new same ∙ rest.others n disjoint ∙ first.here ∙ ap Some is) rest.here;
  others = λ p un. rest.others p (All-tail (λ (form : ℕ × List ℕ). p ≢ form.0) (o, list) forms un) ∙ first.others p (λ e. All-head (λ (form : ℕ × List ℕ). p ≢ form.0) (o, list) forms un (e ∙ sym same));
}

-- one object is made, and then others are
pub created-more : {K : Type 0} (m mid now : Movement ℕ K) (c : Texts) (rest columns : List Texts) (bytes : List ℕ) (o : ℕ) (list : List ℕ) (forms : List (ℕ × List ℕ)) → columns ≡ c ∷ rest → bytes ≡ list → mid ≡ after_create m record { column = c.column; group = length c.objects } bytes
    → now ≡ after_create_all mid rest forms → now ≡ after_create_all m columns ((o, list) ∷ forms)
created-more m mid now c rest columns bytes o list forms is same first later =
    later
    ∙ ap (λ w. after_create_all w rest forms) (first ∙ ap (after_create m record { column = c.column; group = length c.objects }) same)
    ∙ ap (λ cs. after_create_all m cs ((o, list) ∷ forms)) (sym is)

-- one form is placed, and then others are
pub fit-more : {K : Type 0} (m mid : Movement ℕ K) (r : Replacement ℕ) (rest forms : List (Replacement ℕ)) (bytes : List ℕ) → forms ≡ r ∷ rest → bytes ≡ r.list.items
    → ((lens : List ℕ) → fit_in_order (spaces_of m.memory.state) (length bytes ∷ lens) ≡ fit_in_order (spaces_of mid.memory.state) lens) → all_fit mid rest ≡ true → all_fit m forms ≡ true
fit-more m mid r rest forms bytes is same next fits =
    let lens = map (λ (s : Replacement ℕ). length s.list.items) rest in
    ap (all_fit m) is
    ∙ ap (λ (b : List ℕ). fit_in_order (spaces_of m.memory.state) (length b ∷ lens)) (sym same)
    ∙ next lens
    ∙ fits
