-- When appending a text to each of several columns is refused.
use Rattle.std.specs.Prelude.{◌≡◌, ◌⊎◌, ℕ, not, if◌then◌else◌, Bool, List, [], ◌∷◌, ◌++◌, length, map, Option, Some, None}
use Rattle.std.specs.List.{list_any, zip}
use Rattle.far_types.specs.declared.refusal.Refusal.{Refusal}
use Rattle.far_types.specs.declared.refusal.Refusal.TheVariants as refusal
use Rattle.far_types.specs.FirstOf.{first_of}
use Rattle.far_log.specs.RegionState.{spaces_of, fit_in_order}
use Rattle.far_scopes.specs.Movement.{Movement}
use Rattle.far_scopes.specs.Refusing.{absent, written_out}
use Rattle.far_texts.specs.Texts.{Texts, Lists, lists_of}
use Rattle.far_texts.specs.Effects.{last_object, group_with_next}
use Rattle.far_texts.specs.Refusing.{text_too_long, chunk_full}
use Rattle.far_texts.specs.Together.{all_begin, next_forms}

-- some text is too long
abbrev pub any_too_long : List (Option (List ℕ)) → Bool × Refusal
any_too_long texts = (list_any (λ text. (text_too_long text).0) texts, refusal.TextTooLong)

-- some column's new form would be longer than its limit
abbrev pub any_full : Lists → List Texts → List (Option (List ℕ)) → Bool × Refusal
any_full lists columns texts = (
  list_any (λ p. (chunk_full p.0 (group_with_next lists p.0 p.1)).0) (zip columns texts),
  refusal.ChunkFull,
)

module _ {K : Type 0} where
  -- for each column in order: its last row group's object is away
  abbrev pub absents : Movement ℕ K → List Texts → List (Bool × Refusal)
  absents m columns = map (λ c. absent m (last_object c)) columns

  -- the new forms, placed in order, do not fit
  abbrev pub no_space_for : Movement ℕ K → List (ℕ × List ℕ) → Bool × Refusal
  no_space_for m forms = (
    not (fit_in_order (spaces_of m.memory.state) (map (λ form. length form.1) forms)),
    refusal.RegionFull,
  )

  -- some object was written as often as the limits allow
  abbrev pub some_written_out : Movement ℕ K → List (ℕ × List ℕ) → Bool × Refusal
  some_written_out m forms =
      (list_any (λ form. (written_out m form.0).0) forms, refusal.EditsUsedUp)

module _ {K : Type 0} (content : K → List ℕ) (m : Movement ℕ K)
    (columns : List Texts) (texts : List (Option (List ℕ))) where
  -- the tests before a form is made (the first tests), in order
  abbrev pub first_tests : List (Bool × Refusal)
  first_tests = any_too_long texts
      ∷ ((if all_begin columns then [] else absents m columns)
      ++ any_full (lists_of content m) columns texts ∷ [])

  -- the tests while the new forms are placed, in order
  abbrev pub last_tests : List (Bool × Refusal)
  last_tests =
      let forms : List (ℕ × List ℕ) =
      next_forms (lists_of content m) (length m.records) columns texts
      in no_space_for m forms
      ∷ (if all_begin columns then [] else some_written_out m forms ∷ [])

  -- why appending a text to each of the columns is refused (`push_texts`)
  abbrev pub push_texts_refusal : Option Refusal
  push_texts_refusal = first_of (first_tests ++ last_tests)

  -- whether e may be returned: it is the refusal that applies, or no first test refuses and e is `NoMemory`
  abbrev pub MayReturn : Refusal → Type 0
  MayReturn e = (push_texts_refusal ≡ Some e)
      ⊎ ((first_of first_tests ≡ None) × (e ≡ refusal.NoMemory))
