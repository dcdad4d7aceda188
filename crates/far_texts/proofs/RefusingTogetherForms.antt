-- The tests of the new forms of several columns before they are made.
use Rattle.std.proofs.Common.{◌≡◌, ℕ, ◌+◌, ◌<◌, Bool, true, false, cond, List, [], ◌∷◌, ◌++◌, length, map, get_or, take, drop, Option, None, Some, refl, sym, ap, ◌∙◌, arith, append_assoc}
use Rattle.std.specs.Prelude.{not, ◌||◌, slice_set, All, Result, OnOk}
use Rattle.std.specs.declared.result.Result.TheVariants.{Ok, Err}
use Rattle.std.specs.Option.{option_or}
use Rattle.std.specs.List.{list_any}
use Rattle.std.proofs.lemmas.List.{take_more_set, length-map}
use Rattle.std.proofs.lemmas.List.Elements.{All-nil, All-cons, All-head, All-tail}
use Rattle.far_types.specs.declared.refusal.Refusal.{Refusal}
use Rattle.far_types.specs.declared.refusal.Refusal.TheVariants.{RegionFull}
use Rattle.far_types.specs.FirstOf.{first_of}
use Rattle.far_types.specs.FormLengths.{texts_length}
use Rattle.far_codec.specs.TextForm.{texts_form}
use Rattle.far_codec.proofs.FarFormLaws.{texts_form_length}
use Rattle.far_scopes.specs.Movement.{Movement}
use Rattle.far_scopes.specs.Refusing.{refusal_in, absent, written_out}
use Rattle.far_scopes.proofs.FirstOfCases.{first-append, first-none}
use Rattle.far_scopes.proofs.RefusingWrites.{next-is}
use Rattle.far_texts.specs.Texts.{Texts, Lists, lists_of}
use Rattle.far_texts.specs.Effects.{begins_group, last_object, group_with_next}
use Rattle.far_texts.specs.Refusing.{next_length_refusal}
use Rattle.far_texts.specs.Together.{all_begin, next_forms}
use Rattle.far_texts.specs.RefusingTogether.{any_too_long, any_full, absents, some_written_out, first_tests, last_tests, push_texts_refusal}
use Rattle.far_texts.proofs.TogetherNextForms.{length-next}
use Rattle.far_texts.proofs.TogetherOneColumn.{object-longer}

module _ (lists : Lists) where
  -- the lengths of the new forms
  abbrev pub lens-from : ℕ → List Texts → List (Option (List ℕ)) → List ℕ
  lens-from n columns texts = map (λ (form : ℕ × List ℕ). length form.1) (next_forms lists n columns texts)

  -- there are as many lengths as columns
  pub length-lens : (n : ℕ) (columns : List Texts) (texts : List (Option (List ℕ))) → length texts ≡ length columns → length (lens-from n columns texts) ≡ length columns
  length-lens n columns texts same_length = length-map (next_forms lists n columns texts) (λ (form : ℕ × List ℕ). length form.1) ∙ length-next lists n columns texts same_length

  -- no form is empty
  pub lens-some : (n : ℕ) (columns : List Texts) (texts : List (Option (List ℕ))) → All (λ len. 0 < len) (lens-from n columns texts)
  lens-some n [] texts = All-nil (λ len. 0 < len)
  lens-some n (c ∷ columns) [] = All-nil (λ len. 0 < len)
  lens-some n (c ∷ columns) (text ∷ texts) =
      let group = group_with_next lists c text in
      let long = texts_form_length group in
      All-cons (λ len. 0 < len) (length (texts_form group)) (lens-from (n + 1) columns texts) (omega (arith, long)) (lens-some (n + 1) columns texts)

  module _ (columns : List Texts) (texts : List (Option (List ℕ))) (k : ℕ) (c : Texts) (text : Option (List ℕ)) (within : k < length columns) (within_too : k < length texts) (read : c ≡ get_or columns k c) (read_too : text ≡ get_or texts k text) where
    -- the length of column k's form, and the lengths after it
    lens-next : (n : ℕ) → lens-from (n + k) (drop k columns) (drop k texts) ≡ texts_length (group_with_next lists c text) ∷ lens-from (n + (k + 1)) (drop (k + 1) columns) (drop (k + 1) texts)
    lens-next n =
        let group = group_with_next lists c text in
        let place : n + k + 1 ≡ n + (k + 1) = omega arith in
        ap (λ cs. lens-from (n + k) cs (drop k texts)) (next-is columns k c within read)
        ∙ ap (λ ts. lens-from (n + k) (c ∷ drop (k + 1) columns) ts) (next-is texts k text within_too read_too)
        ∙ ap (λ i. length (texts_form group) ∷ lens-from i (drop (k + 1) columns) (drop (k + 1) texts)) place
        ∙ ap (λ len. len ∷ lens-from (n + (k + 1)) (drop (k + 1) columns) (drop (k + 1) texts)) (texts_form_length group)

    -- one more length is recorded
    pub lens-more : (n : ℕ) (lens all : List ℕ) (len : ℕ) → len ≡ texts_length (group_with_next lists c text) → k < length lens → take k lens ++ lens-from (n + k) (drop k columns) (drop k texts) ≡ all
        → take (k + 1) (slice_set lens k len) ++ lens-from (n + (k + 1)) (drop (k + 1) columns) (drop (k + 1) texts) ≡ all
    lens-more n lens all len is place was =
        let rest = lens-from (n + (k + 1)) (drop (k + 1) columns) (drop (k + 1) texts) in
        ap (λ l. l ++ rest) (take_more_set lens k len place)
        ∙ append_assoc (take k lens) (len ∷ []) rest
        ∙ ap (λ l. take k lens ++ l ∷ rest) is
        ∙ ap (λ l. take k lens ++ l) (sym (lens-next n))
        ∙ was

module _ {K : Type 0} (m : Movement ℕ K) where
  -- if the row groups have been begun, the objects that get new forms are the last objects of the columns
  pub any-out : (lists : Lists) (n : ℕ) (columns : List Texts) (texts : List (Option (List ℕ))) → length texts ≡ length columns → All (λ (c : Texts). begins_group c ≡ false) columns
      → list_any (λ (c : Texts). (written_out m (last_object c)).0) columns ≡ (some_written_out m (next_forms lists n columns texts)).0
  any-out lists n [] texts same_length begun = refl
  any-out lists n (c ∷ columns) [] same_length begun = absurd (omega arith)
  any-out lists n (c ∷ columns) (text ∷ texts) same_length begun =
      let first = object-longer c n (All-head (λ (d : Texts). begins_group d ≡ false) c columns begun) in
      let rest = any-out lists (n + 1) columns texts (omega arith) (All-tail (λ (d : Texts). begins_group d ≡ false) c columns begun) in
      ap (λ (b : Bool). (written_out m (last_object c)).0 || b) rest
      ∙ ap (λ o. (written_out m o).0 || (some_written_out m (next_forms lists (n + 1) columns texts)).0) (sym first)

  -- a column's last object is local if its next form can be made
  pub last-here : (content : K → List ℕ) (c : Texts) → begins_group c ≡ false → next_length_refusal content m c ≡ None → None ≡ first_of (absent m (last_object c) ∷ [])
  last-here content c begun free = sym (sym (ap (λ (b : Bool). first_of (cond b [] (absent m (last_object c) ∷ []))) begun) ∙ free)

-- if the forms fit and the row groups have been begun, only the test whether the objects may be written remains
pub space-longer : (used : Bool × Refusal) (fits begins : Bool) → fits ≡ true → begins ≡ false → first_of (used ∷ []) ≡ first_of ((not fits, RegionFull) ∷ cond begins [] (used ∷ []))
space-longer used false begins space begun = absurd cc
space-longer used true true space begun = absurd cc
space-longer used true false space begun = refl

module _ {K : Type 0} (content : K → List ℕ) (m : Movement ℕ K) (columns : List Texts) (texts : List (Option (List ℕ))) where
  abbrev away : List (Bool × Refusal)
  away = cond (all_begin columns) [] (absents m columns)

  abbrev full : Bool × Refusal
  full = any_full (lists_of content m) columns texts

  -- the tests before the lengths are known, and the tests of the lengths
  pub first-measured : first_of (first_tests content m columns texts) ≡ option_or (first_of (any_too_long texts ∷ away)) (first_of (full ∷ []))
  first-measured = first-append (any_too_long texts ∷ away) (full ∷ [])

  pub due-measured : push_texts_refusal content m columns texts ≡ option_or (first_of (any_too_long texts ∷ away)) (first_of (full ∷ last_tests content m columns texts))
  due-measured =
      ap (λ cases. first_of (any_too_long texts ∷ cases)) (append_assoc away (full ∷ []) (last_tests content m columns texts))
      ∙ first-append (any_too_long texts ∷ away) (full ∷ last_tests content m columns texts)

-- two tests: the second decides if the first refuses nothing, and else the first does
pub second-asked : (all first second : Option Refusal) → all ≡ option_or first second → None ≡ first → second ≡ all
second-asked all first second is free = sym (is ∙ ap (λ r. option_or r second) (sym free))

pub first-asked : (all first second : Option Refusal) (e : Refusal) → all ≡ option_or first second → Some e ≡ first → Some e ≡ all
first-asked all first second e is due = sym (is ∙ ap (λ r. option_or r second) (sym due))

-- if no text is too long, only the test whether an object is away remains
pub away-asked : (short : Bool × Refusal) (away : List (Bool × Refusal)) (begins : Bool) → None ≡ first_of (short ∷ []) → begins ≡ false → first_of away ≡ first_of (short ∷ cond begins [] away)
away-asked short away begins fits begun = sym (first-none short (cond begins [] away) fits ∙ ap (λ (b : Bool). first_of (cond b [] away)) begun)

pub begun-asked : (short : Bool × Refusal) (away : List (Bool × Refusal)) (begins : Bool) → None ≡ first_of (short ∷ []) → begins ≡ true → None ≡ first_of (short ∷ cond begins [] away)
begun-asked short away begins fits begin = sym (first-none short (cond begins [] away) fits ∙ ap (λ (b : Bool). first_of (cond b [] away)) begin)

-- after `Ok`, P is true if no refusal implies P
pub ok-follows : {A : Type 0} (r : Result A Refusal) (due : Option Refusal) (P : Type 0) → refusal_in r ≡ due → (None ≡ due → P) → OnOk r P
ok-follows (Ok x) due P is then = then is
ok-follows (Err e) due P is then = tt
