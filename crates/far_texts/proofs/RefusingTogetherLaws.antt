-- Which refusal applies when texts are appended to several columns, after the forms are made.
use Rattle.std.proofs.Common.{◌≡◌, ℕ, Bool, true, false, cond, inl, inr, List, [], ◌∷◌, length, map, Option, None, Some, refl, sym, ap, ◌∙◌}
use Rattle.std.specs.Prelude.{All, not, ◌||◌, ◌⊎◌, Result, IfErr}
use Rattle.std.specs.declared.result.Result.TheVariants.{Ok, Err}
use Rattle.std.specs.List.{list_any}
use Rattle.std.specs.Option.{option_or}
use Rattle.std.proofs.lemmas.Simd.{map-map}
use Rattle.std.proofs.lemmas.List.Elements.{All-head, All-tail}
use Rattle.far_types.specs.declared.refusal.Refusal.{Refusal}
use Rattle.far_types.specs.declared.refusal.Refusal.TheVariants.{NoMemory, RegionFull, EditsUsedUp}
use Rattle.far_types.specs.FirstOf.{first_of}
use Rattle.far_log.specs.RegionState.{spaces_of, fit_in_order}
use Rattle.far_scopes.specs.declared.replacement.Replacement.{Replacement}
use Rattle.far_scopes.specs.Movement.{Movement, is_local}
use Rattle.far_scopes.specs.Refusing.{absent, lend_refusal, written_out, first_absent, any_written_out, replace_all_refusal}
use Rattle.far_scopes.specs.Replacing.{no_space_for_all}
use Rattle.far_texts.specs.Texts.{Texts, lists_of}
use Rattle.far_texts.specs.Together.{all_begin, next_forms, forms_of}
use Rattle.far_texts.specs.RefusingTogether.{no_space_for, some_written_out, first_tests, last_tests, push_texts_refusal}
use Rattle.far_scopes.proofs.FirstOfCases.{first-append}

any-mapped : {A B : Type 0} (p : B → Bool) (f : A → B) (xs : List A) → list_any p (map f xs) ≡ list_any (λ x. p (f x)) xs
any-mapped p f [] = refl
any-mapped p f (x ∷ xs) = ap (λ b. p (f x) || b) (any-mapped p f xs)

module _ {K : Type 0} (content : K → List ℕ) (m : Movement ℕ K) (columns : List Texts) (texts : List (Option (List ℕ))) where
  -- a refusal of the first tests is the refusal of all tests
  pub due-first : (e : Refusal) → Some e ≡ first_of (first_tests content m columns texts) → push_texts_refusal content m columns texts ≡ Some e
  due-first e due = first-append (first_tests content m columns texts) (last_tests content m columns texts) ∙ ap (λ r. option_or r (first_of (last_tests content m columns texts))) (sym due)

  module _ (free : None ≡ first_of (first_tests content m columns texts)) (forms : List (Replacement ℕ)) (is : forms_of forms ≡ next_forms (lists_of content m) (length m.records) columns texts) where
    due-last : push_texts_refusal content m columns texts ≡ first_of (last_tests content m columns texts)
    due-last = first-append (first_tests content m columns texts) (last_tests content m columns texts) ∙ ap (λ r. option_or r (first_of (last_tests content m columns texts))) (sym free)

    lengths : map (λ (form : ℕ × List ℕ). length form.1) (next_forms (lists_of content m) (length m.records) columns texts) ≡ map (λ (r : Replacement ℕ). length r.list.items) forms
    lengths = ap (map (λ (form : ℕ × List ℕ). length form.1)) (sym is) ∙ map-map (λ (form : ℕ × List ℕ). length form.1) (λ (r : Replacement ℕ). (r.object, r.list.items)) forms

    -- if row groups begin, the only remaining test is whether the forms fit
    module _ (begins : all_begin columns ≡ true) where
      due-begun : push_texts_refusal content m columns texts ≡ first_of ((not (fit_in_order (spaces_of m.memory.state) (map (λ (r : Replacement ℕ). length r.list.items) forms)), RegionFull) ∷ [])
      due-begun = due-last
          ∙ ap (λ (b : Bool). first_of (no_space_for m (next_forms (lists_of content m) (length m.records) columns texts) ∷ cond b [] (some_written_out m (next_forms (lists_of content m) (length m.records) columns texts) ∷ []))) begins
          ∙ ap (λ lens. first_of ((not (fit_in_order (spaces_of m.memory.state) lens), RegionFull) ∷ [])) lengths

      pub begun-free : fit_in_order (spaces_of m.memory.state) (map (λ (r : Replacement ℕ). length r.list.items) forms) ≡ true → push_texts_refusal content m columns texts ≡ None
      begun-free fits = due-begun ∙ ap (λ b. first_of ((not b, RegionFull) ∷ [])) fits

      pub begun-full : fit_in_order (spaces_of m.memory.state) (map (λ (r : Replacement ℕ). length r.list.items) forms) ≡ false → push_texts_refusal content m columns texts ≡ Some RegionFull
      begun-full full = due-begun ∙ ap (λ b. first_of ((not b, RegionFull) ∷ [])) full

    -- if the row groups have been begun, the refusal of `replace_all` is the one that applies
    module _ (begins : all_begin columns ≡ false) (here : first_absent m (map (λ (r : Replacement ℕ). r.object) forms) ≡ None) where
      pub due-replaced : replace_all_refusal m forms ≡ push_texts_refusal content m columns texts
      due-replaced =
          ap (λ r. option_or r (first_of (no_space_for_all m.memory.state forms ∷ any_written_out m forms ∷ []))) here
          ∙ ap (λ lens. first_of ((not (fit_in_order (spaces_of m.memory.state) lens), RegionFull) ∷ any_written_out m forms ∷ [])) (sym lengths)
          ∙ ap (λ b. first_of (no_space_for m (next_forms (lists_of content m) (length m.records) columns texts) ∷ (b, EditsUsedUp) ∷ [])) same_writes
          ∙ sym (due-last ∙ ap (λ (b : Bool). first_of (no_space_for m (next_forms (lists_of content m) (length m.records) columns texts) ∷ cond b [] (some_written_out m (next_forms (lists_of content m) (length m.records) columns texts) ∷ []))) begins)
        where
          same_writes : list_any (λ (r : Replacement ℕ). (written_out m r.object).0) forms ≡ list_any (λ (form : ℕ × List ℕ). (written_out m form.0).0) (next_forms (lists_of content m) (length m.records) columns texts)
          same_writes = sym (any-mapped (λ (form : ℕ × List ℕ). (written_out m form.0).0) (λ (r : Replacement ℕ). (r.object, r.list.items)) forms) ∙ ap (list_any (λ (form : ℕ × List ℕ). (written_out m form.0).0)) is

-- listed objects are local if each can be lent
pub all-local : {X K : Type 0} (m : Movement X K) (forms : List (Replacement X)) → All (λ (r : Replacement X). None ≡ lend_refusal m r.object) forms → first_absent m (map (λ (r : Replacement X). r.object) forms) ≡ None
all-local {X = X} m [] free = refl
all-local {X = X} m (r ∷ rs) free =
    local-first (is_local m r.object) (absent m r.object).1 (first_absent m (map (λ (s : Replacement X). s.object) rs)) (All-head (λ (s : Replacement X). None ≡ lend_refusal m s.object) r rs free)
    ∙ all-local m rs (All-tail (λ (s : Replacement X). None ≡ lend_refusal m s.object) r rs free)
  where
    local-first : (b : Bool) (e : Refusal) (rest : Option Refusal) → None ≡ cond (not b) (Some e) None → cond b rest (Some e) ≡ rest
    local-first true e rest free = refl
    local-first false e rest free = absurd cc

module _ {A : Type 0} (r : Result A Refusal) (due first : Option Refusal) (free : None ≡ first) where
  -- which refusal is returned if an object is made for each column
  pub refused-begun : (fits : Bool) → (fits ≡ false → due ≡ Some RegionFull) → IfErr r (λ e. ((e ≡ RegionFull) × (fits ≡ false)) ⊎ (e ≡ NoMemory)) → IfErr r (λ e. (due ≡ Some e) ⊎ ((first ≡ None) × (e ≡ NoMemory)))
  refused-begun fits full given = each r given
    where
      each : (r : Result A Refusal) → IfErr r (λ e. ((e ≡ RegionFull) × (fits ≡ false)) ⊎ (e ≡ NoMemory)) → IfErr r (λ e. (due ≡ Some e) ⊎ ((first ≡ None) × (e ≡ NoMemory)))
      each (Ok x) given = tt
      each (Err e) (inl due) = inl (full due.1 ∙ ap Some (sym due.0))
      each (Err e) (inr is) = inr (sym free, is)

  -- which refusal is returned if the last object of each column gets a new list
  pub refused-longer : (returned : Option Refusal) (here : Type 0) → returned ≡ due → IfErr r (λ e. (returned ≡ Some e) ⊎ (here × (e ≡ NoMemory))) → IfErr r (λ e. (due ≡ Some e) ⊎ ((first ≡ None) × (e ≡ NoMemory)))
  refused-longer returned here same given = each r given
    where
      each : (r : Result A Refusal) → IfErr r (λ e. (returned ≡ Some e) ⊎ (here × (e ≡ NoMemory))) → IfErr r (λ e. (due ≡ Some e) ⊎ ((first ≡ None) × (e ≡ NoMemory)))
      each (Ok x) given = tt
      each (Err e) (inl is) = inl (sym same ∙ is)
      each (Err e) (inr none) = inr (sym free, none.1)
