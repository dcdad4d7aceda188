-- A column of texts after the text at a place is set.
use Rattle.std.proofs.Common.{◌≡◌, ℕ, zero, suc, ◌/◌, ◌%◌, ◌<◌, ◌≤◌, Bool, true, false, not, ltb, List, [], ◌∷◌, length, Option, None, Some, refl, sym, ap, subst, ◌∙◌}
use Rattle.std.specs.Prelude.{slice_get, slice_set}
use Rattle.std.proofs.lemmas.List.{length-set}
use Rattle.std.proofs.lemmas.Bool.{ltb-true, ltb-false}
use Rattle.std.proofs.lemmas.Nat.{div-add-mod'}
use Rattle.std.proofs.lemmas.Option.{slice_get-get_or, same_Some}
use Rattle.far_types.specs.declared.refusal.Refusal.{Refusal}
use Rattle.far_types.specs.declared.refusal.Refusal.TheVariants.{OutOfRange}
use Rattle.far_types.specs.FirstOf.{first_of}
use Rattle.far_types.specs.FormLengths.{texts_length}
use Rattle.far_codec.specs.TextForm.{texts_form, texts_meaning, IsTextsForm}
use Rattle.far_scopes.specs.Memory.{ChangesList}
use Rattle.far_scopes.specs.Movement.{Movement}
use Rattle.far_scopes.specs.Effects.{after_replace}
use Rattle.far_texts.specs.Texts.{Texts, Lists, HasGroups, IsTextColumn, KeepsOthers, lists_of, texts_at, texts_in, object_at}
use Rattle.far_texts.specs.Columns.{ChangesColumn}
use Rattle.far_texts.specs.Effects.{group_with, TextSet}
use Rattle.far_scopes.specs.Refusing.{absent, no_space, written_out}
use Rattle.far_texts.specs.Refusing.{text_too_long, past_end, chunk_full, set_refusal}
use Rattle.far_texts.proofs.Joined.{joined-set}
use Rattle.far_texts.proofs.TextsGroups.{group-form, place-begun, place-inside, before-full}
use Rattle.far_texts.proofs.TextsChanges.{column-changed, group-texts, group-others, keeps-others, keeps-same}

-- if no refusal applies, each of the tests is false
pub none-due : (cases : List (Bool × Refusal)) (k : ℕ) (test : Bool × Refusal) → None ≡ first_of cases → slice_get cases k ≡ Some test → test.0 ≡ false
none-due [] k test none at = absurd cc
none-due ((true, e) ∷ cases) k test none at = absurd cc
none-due ((false, e) ∷ cases) zero test none at = ap (λ t. t.0) (sym (same_Some (false, e) test at))
none-due ((false, e) ∷ cases) (suc k) test none at = none-due cases k test none at

pub not-not : (b : Bool) → not b ≡ false → b ≡ true
not-not true e = refl
not-not false e = absurd cc

module _ (old new : Lists) (c : Texts) (is : IsTextColumn old c) (has : HasGroups c) (place : ℕ) (text : Option (List ℕ)) (below : place < c.len) (bytes : List ℕ) (changes : ChangesList old new (object_at c place) (Some bytes)) (means : texts_meaning bytes ≡ group_with old c place text) where
  abbrev group : ℕ
  group = place / c.size

  pub set-is : IsTextsForm bytes → length bytes ≤ c.limit → IsTextColumn new c
  set-is form short =
      let texts = texts_at old (object_at c place) in
      let count : length (texts_meaning bytes) ≡ length texts = ap (λ l. length l) means ∙ length-set texts (place % c.size) text in
      column-changed old new c is group (place-begun old c is has place below) bytes changes c refl (λ k b _ _ here. here)
      record { form = form; count = count ∙ (group-form old c is group (place-begun old c is has place below)).count; short = short }

  pub set-texts : texts_in new c ≡ slice_set (texts_in old c) place text
  set-texts =
      let begun = place-begun old c is has place below in
      joined-set (texts_at old) (texts_at new) c.objects c.size group (place % c.size) text begun (group-others old new c is group begun bytes changes) (before-full old c is has place below) (place-inside old c is has place below)
      (group-texts old new c is group begun bytes changes ∙ means)
      ∙ ap (λ n. slice_set (texts_in old c) n text) (div-add-mod' place c.size)

  pub set-others : KeepsOthers old new c
  set-others = keeps-others old new (object_at c place) (Some bytes) changes c group (slice_get-get_or c.objects group 0 (place-begun old c is has place below))

module _ {K : Type 0} (content : K → List ℕ) (m : Movement ℕ K) (c : Texts) (place : ℕ) (text : Option (List ℕ)) (free : None ≡ set_refusal content m c place text) where
  abbrev texts : List (Option (List ℕ))
  texts = group_with (lists_of content m) c place text

  abbrev cases : List (Bool × Refusal)
  cases =
      let o : ℕ = object_at c place
      in text_too_long text ∷ past_end c place OutOfRange ∷ absent m o ∷ chunk_full c texts ∷ no_space m o (texts_length texts) ∷ written_out m o ∷ []

  pub set-below : place < c.len
  set-below = ltb-true place c.len (not-not (ltb place c.len) (none-due cases 1 (past_end c place OutOfRange) free refl))

  pub set-short : texts_length texts ≤ c.limit
  set-short = ltb-false c.limit (texts_length texts) (none-due cases 3 (chunk_full c texts) free refl)

  -- the form was stored in the place's object
  module _ (is : IsTextColumn (lists_of content m) c) (has : HasGroups c) (bytes : List ℕ) (form : IsTextsForm bytes) (means : texts_meaning bytes ≡ texts) (short : length bytes ≤ c.limit) where
    pub set-done : (now : Movement ℕ K) → now ≡ after_replace m (object_at c place) bytes → ChangesList (lists_of content m) (lists_of content now) (object_at c place) (Some bytes) → TextSet content m c place text now
    set-done now moved list = record {
      moved = moved ∙ ap (after_replace m (object_at c place)) (form.is ∙ ap texts_form means);
      list = subst (λ b. ChangesList (lists_of content m) (lists_of content now) (object_at c place) (Some b)) (form.is ∙ ap texts_form means) list;
      texts = set-texts (lists_of content m) (lists_of content now) c is has place text set-below bytes list means;
    }

    pub set-changed : (now : Movement ℕ K) → ChangesList (lists_of content m) (lists_of content now) (object_at c place) (Some bytes) → ChangesColumn (lists_of content m) (lists_of content now) c c
    set-changed now list = record {
      is = set-is (lists_of content m) (lists_of content now) c is has place text set-below bytes list means form short;
      others = set-others (lists_of content m) (lists_of content now) c is has place text set-below bytes list means;
      disjoint = λ d _ disjoint. disjoint;
    }

    pub set-same : (now : Movement ℕ K) → now ≡ m → ChangesColumn (lists_of content m) (lists_of content now) c c
    set-same now err = subst (λ w. ChangesColumn (lists_of content m) (lists_of content w) c c) (sym err) record { is = is; others = keeps-same (lists_of content m) c; disjoint = λ d _ disjoint. disjoint }
