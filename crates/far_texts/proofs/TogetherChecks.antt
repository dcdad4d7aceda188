-- What follows from the tests before a text is appended to each of several columns.
use Rattle.std.proofs.Common.{◌≡◌, inl, inr, ℕ, ◌+◌, ◌*◌, ◌<◌, Bool, true, false, cond, List, [], ◌∷◌, ◌++◌, length, get_or, Option, None, Some, sym, ap, ◌∙◌, arith, mul-le-mul_right}
use Rattle.std.specs.Prelude.{All, Result, OnOk}
use Rattle.std.specs.declared.result.Result.TheVariants.{Ok, Err}
use Rattle.std.proofs.lemmas.Bool.{eqb-true, eq-eqb, cases_lt, cases_eq}
use Rattle.std.specs.Option.{option_or}
use Rattle.far_types.specs.declared.refusal.Refusal.{Refusal}
use Rattle.far_types.specs.FirstOf.{first_of}
use Rattle.far_scopes.specs.Movement.{Movement}
use Rattle.far_scopes.specs.Refusing.{refusal_in, absent, lend_refusal}
use Rattle.far_texts.specs.Texts.{Texts, Lists, HasGroups}
use Rattle.far_scopes.proofs.Alike.{all-with, none-pass}
use Rattle.far_scopes.proofs.FirstOfCases.{first-append, first-none}
use Rattle.far_texts.specs.Effects.{begins_group, last_object}
use Rattle.far_texts.specs.Refusing.{next_length_refusal}
use Rattle.far_texts.specs.Together.{AreColumns, all_begin}

-- two columns with the same length and the same size of row groups both begin a row group, or neither does
pub both-begin : (c d : Texts) → HasGroups c → HasGroups d → c.size ≡ d.size → c.len ≡ d.len → begins_group c ≡ true → begins_group d ≡ true
both-begin c d has other size len begins =
    let full : c.len ≡ length c.objects * c.size = eqb-true c.len (length c.objects * c.size) begins in
    let full_too : d.len ≡ length c.objects * d.size = sym len ∙ full ∙ ap (λ s. length c.objects * s) size in
    elim (cases_eq (length c.objects) (length d.objects)) [
      | inl same ↦ eq-eqb d.len (length d.objects * d.size) (full_too ∙ ap (λ n. n * d.size) same)
      | inr ne ↦ elim (cases_lt (length d.objects) (length c.objects)) [
        | inl fewer ↦
            let long = mul-le-mul_right {m = length d.objects + 1} {n = length c.objects} d.size (omega (arith, fewer)) in
            absurd (omega (arith, long, full_too, other.held, other.some))
        | inr more ↦
            let long = mul-le-mul_right {m = length c.objects + 1} {n = length d.objects} d.size (omega (arith, more, ne)) in
            absurd (omega (arith, long, full_too, other.begun))
      ]
    ]

module _ (lists : Lists) (columns : List Texts) (are : AreColumns lists columns) (groups : All HasGroups columns) where
  alike : (c d : Texts) → HasGroups c → HasGroups d → (c.size ≡ d.size) × (c.len ≡ d.len) → begins_group c ≡ true → begins_group d ≡ true
  alike c d has other same_length = both-begin c d has other same_length.0 same_length.1

  -- if one begins a row group, all do
  pub all-begin : (k : ℕ) (d : Texts) → k < length columns → begins_group (get_or columns k d) ≡ true → All (λ (c : Texts). begins_group c ≡ true) columns
  all-begin = all-with begins_group HasGroups (λ c d. (c.size ≡ d.size) × (c.len ≡ d.len)) (λ c d same_length. (sym same_length.0, sym same_length.1)) alike columns groups are.same_length

  pub none-begin : all_begin columns ≡ false → All (λ (c : Texts). begins_group c ≡ false) columns
  none-begin = none-pass begins_group HasGroups (λ c d. (c.size ≡ d.size) × (c.len ≡ d.len)) (λ c d same_length. (sym same_length.0, sym same_length.1)) alike columns groups are.same_length

-- the tests before a form is made: whether a text is too long, an object is away, or a form is too long
module _ (short full : Bool × Refusal) (away : List (Bool × Refusal)) (fits : None ≡ first_of (short ∷ [])) where
  pub tests-away : (begins : Bool) (e : Refusal) → begins ≡ false → Some e ≡ first_of away → Some e ≡ first_of (short ∷ (cond begins [] away ++ full ∷ []))
  tests-away begins e not due =
      sym (first-none short (cond begins [] away ++ full ∷ []) fits
      ∙ ap (λ (b : Bool). first_of (cond b [] away ++ full ∷ [])) not
      ∙ first-append away (full ∷ [])
      ∙ ap (λ r. option_or r (first_of (full ∷ []))) (sym due))

  pub tests-full : (begins : Bool) → None ≡ first_of (cond begins [] away) → first_of (full ∷ []) ≡ first_of (short ∷ (cond begins [] away ++ full ∷ []))
  tests-full begins free =
      sym (first-none short (cond begins [] away ++ full ∷ []) fits
      ∙ first-append (cond begins [] away) (full ∷ [])
      ∙ ap (λ r. option_or r (first_of (full ∷ []))) (sym free))

-- the objects of the last row groups are tested if they have been begun
pub away-begun : (begins : Bool) (away : List (Bool × Refusal)) → true ≡ begins → None ≡ first_of (cond begins [] away)
away-begun begins away is = ap (λ (b : Bool). first_of (cond b [] away)) is

pub away-longer : (begins : Bool) (away : List (Bool × Refusal)) → false ≡ begins → None ≡ first_of away → None ≡ first_of (cond begins [] away)
away-longer begins away is free = free ∙ ap (λ (b : Bool). first_of (cond b [] away)) is

-- what is true after `Ok`
pub where-ok : {A : Type 0} (r : Result A Refusal) (P : Type 0) → P → OnOk r P
where-ok (Ok x) P p = p
where-ok (Err e) P p = tt

pub ok-free : {A : Type 0} (r : Result A Refusal) (due : Option Refusal) → refusal_in r ≡ due → OnOk r (due ≡ None)
ok-free (Ok x) due is = sym is
ok-free (Err e) due is = tt

module _ {K : Type 0} (m : Movement ℕ K) where
  module _ (content : K → List ℕ) where
    pub here-begun : (c : Texts) → begins_group c ≡ true → next_length_refusal content m c ≡ None
    here-begun c begins = ap (λ (b : Bool). first_of (cond b [] (absent m (last_object c) ∷ []))) begins

    pub here-longer : (c : Texts) → begins_group c ≡ false → None ≡ lend_refusal m (last_object c) → next_length_refusal content m c ≡ None
    here-longer c begins free = ap (λ (b : Bool). first_of (cond b [] (absent m (last_object c) ∷ []))) begins ∙ sym free
