-- What follows if a text may be appended to each of several columns.
use Rattle.std.proofs.Common.{◌≡◌, inl, inr, Bool, true, false, cond, List, [], ◌∷◌, ◌++◌, ℕ, Option, None, Some, refl, sym, ap, ◌∙◌}
use Rattle.std.specs.Prelude.{All, ◌⊎◌, Result, IfErr, slice_index_or}
use Rattle.std.specs.declared.result.Result.TheVariants.{Ok, Err}
use Rattle.std.proofs.lemmas.Bool.{cases_Bool}
use Rattle.std.proofs.lemmas.List.Sums.{AllPass-from_list_all}
use Rattle.far_types.specs.declared.refusal.Refusal.{Refusal}
use Rattle.far_types.specs.declared.refusal.Refusal.TheVariants.{NoMemory}
use Rattle.far_types.specs.FirstOf.{first_of}
use Rattle.far_scopes.specs.Movement.{Movement}
use Rattle.far_scopes.specs.Refusing.{absent}
use Rattle.far_scopes.proofs.FirstOfCases.{two-free, none-due}
use Rattle.far_texts.specs.Texts.{Texts, HasGroups, lists_of}
use Rattle.far_texts.specs.Effects.{begins_group, last_object}
use Rattle.far_texts.specs.Refusing.{next_length_refusal}
use Rattle.far_texts.specs.Together.{AreColumns, all_begin}
use Rattle.far_texts.specs.RefusingTogether.{any_too_long, any_full, absents, first_tests, last_tests, push_texts_refusal}
use Rattle.far_texts.proofs.TogetherChecks.{none-begin, here-begun, here-longer}

-- if no case of two joined lists applies, none of either does
both-free : (cases more : List (Bool × Refusal)) → first_of (cases ++ more) ≡ None → (first_of cases ≡ None) × (first_of more ≡ None)
both-free [] more free = (refl, free)
both-free ((true, e) ∷ cases) more free = absurd cc
both-free ((false, e) ∷ cases) more free = both-free cases more free

module _ {K : Type 0} (content : K → List ℕ) (m : Movement ℕ K) (columns : List Texts) (texts : List (Option (List ℕ))) where
  -- no first test refuses a text
  pub first-free : push_texts_refusal content m columns texts ≡ None → first_of (first_tests content m columns texts) ≡ None
  first-free free = (both-free (first_tests content m columns texts) (last_tests content m columns texts) free).0

  module _ (first : first_of (first_tests content m columns texts) ≡ None) where
    abbrev away : List (Bool × Refusal)
    away = cond (all_begin columns) [] (absents m columns)

    abbrev full : Bool × Refusal
    full = any_full (lists_of content m) columns texts

    parts : (first_of away ≡ None) × (first_of (full ∷ []) ≡ None)
    parts = both-free away (full ∷ []) (sym (two-free (any_too_long texts) (away ++ full ∷ []) (sym first)).1)

    -- no new form is too long
    pub none-full : first_of (full ∷ []) ≡ None
    none-full = parts.1

    -- no new form has to be made from an object that is away
    pub all-here : AreColumns (lists_of content m) columns → All HasGroups columns → All (λ (c : Texts). next_length_refusal content m c ≡ None) columns
    all-here are groups = elim (cases_Bool (all_begin columns)) [
      | inl begin ↦ λ k d below. here-begun m content (slice_index_or columns k d) (AllPass-from_list_all begins_group columns begin k d below)
      | inr begun ↦
          let free : None ≡ first_of (absents m columns) = sym (sym (ap (λ (b : Bool). first_of (cond b [] (absents m columns))) begun) ∙ parts.0) in
          λ k d below. here-longer m content (slice_index_or columns k d) (none-begin (lists_of content m) columns are groups begun k d below) (none-due (λ (c : Texts). absent m (last_object c)) columns free k d below)
    ]

-- if no other refusal applies, the refusal is NoMemory
pub only-memory : {A : Type 0} (r : Result A Refusal) (due first : Option Refusal) → due ≡ None → IfErr r (λ e. (due ≡ Some e) ⊎ ((first ≡ None) × (e ≡ NoMemory))) → IfErr r (λ e. e ≡ NoMemory)
only-memory (Ok x) due first free given = tt
only-memory (Err e) due first free (inl is) = absurd (let never = sym free ∙ is in cc)
only-memory (Err e) due first free (inr none) = none.1
