-- The first refusal that applies in a list of cases, which are tried one after another.
use Rattle.std.proofs.Common.{◌≡◌, ℕ, ◌+◌, ◌<◌, Bool, true, false, List, [], ◌∷◌, ◌++◌, length, get_or, map, drop, None, Some, refl, sym, ap, ◌∙◌}
use Rattle.std.specs.Prelude.{All}
use Rattle.std.specs.List.{list_any}
use Rattle.std.specs.Option.{option_or}
use Rattle.std.proofs.lemmas.List.Elements.{All-nil, All-cons}
use Rattle.far_types.specs.declared.refusal.Refusal.{Refusal}
use Rattle.far_types.specs.FirstOf.{first_of}
use Rattle.far_scopes.proofs.RefusingWrites.{next-is}

pub first-append : (cases more : List (Bool × Refusal)) → first_of (cases ++ more) ≡ option_or (first_of cases) (first_of more)
first-append [] more = refl
first-append ((true, e) ∷ cases) more = refl
first-append ((false, e) ∷ cases) more = first-append cases more

pub first-none : (case : Bool × Refusal) (cases : List (Bool × Refusal)) → None ≡ first_of (case ∷ []) → first_of (case ∷ cases) ≡ first_of cases
first-none (true, e) cases free = absurd cc
first-none (false, e) cases free = refl

-- neither of two cases applies
pub two-free : (case : Bool × Refusal) (cases : List (Bool × Refusal)) → None ≡ first_of (case ∷ cases) → (None ≡ first_of (case ∷ [])) × (None ≡ first_of cases)
two-free (true, e) cases free = absurd cc
two-free (false, e) cases free = (refl, free)

module _ {C : Type 0} (case : C → Bool × Refusal) where
  -- the next case does not apply
  pub next-free : (cs : List C) (k : ℕ) (c : C) → k < length cs → c ≡ get_or cs k c → None ≡ first_of (case c ∷ []) → first_of (map case (drop k cs)) ≡ first_of (map case (drop (k + 1) cs))
  next-free cs k c below read free = ap (λ l. first_of (map case l)) (next-is cs k c below read) ∙ first-none (case c) (map case (drop (k + 1) cs)) free

  -- the next case applies
  pub next-due : (cs : List C) (k : ℕ) (c : C) (e : Refusal) → k < length cs → c ≡ get_or cs k c → Some e ≡ first_of (case c ∷ []) → first_of (map case (drop k cs)) ≡ Some e
  next-due cs k c e below read due =
      ap (λ l. first_of (map case l)) (next-is cs k c below read)
      ∙ first-append (case c ∷ []) (map case (drop (k + 1) cs))
      ∙ ap (λ r. option_or r (first_of (map case (drop (k + 1) cs)))) (sym due)

  -- no case applies
  pub none-due : (cs : List C) → None ≡ first_of (map case cs) → All (λ c. None ≡ first_of (case c ∷ [])) cs
  none-due [] free = All-nil (λ c. None ≡ first_of (case c ∷ []))
  none-due (c ∷ cs) free =
      let first = two-free (case c) (map case cs) free in
      All-cons (λ d. None ≡ first_of (case d ∷ [])) c cs first.0 (none-due cs first.1)

  -- whether a case applies, if the next case does not
  pub any-later : (cs : List C) (k : ℕ) (c : C) → k < length cs → c ≡ get_or cs k c → (case c).0 ≡ false → list_any (λ d. (case d).0) (drop k cs) ≡ list_any (λ d. (case d).0) (drop (k + 1) cs)
  any-later cs k c below read free = rw (next-is cs k c below read, free) refl

  pub any-here : (cs : List C) (k : ℕ) (c : C) → k < length cs → c ≡ get_or cs k c → (case c).0 ≡ true → list_any (λ d. (case d).0) (drop k cs) ≡ true
  any-here cs k c below read due = rw (next-is cs k c below read, due) refl

-- the refusal of two cases tells whether the second case applies
pub written-free : (here spent : Bool × Refusal) → None ≡ first_of (here ∷ spent ∷ []) → spent.0 ≡ false
written-free (true, e) spent free = absurd cc
written-free (false, e) (true, f) free = absurd cc
written-free (false, e) (false, f) free = refl

pub written-due : (here spent : Bool × Refusal) (e : Refusal) → None ≡ first_of (here ∷ []) → Some e ≡ first_of (here ∷ spent ∷ []) → (spent.0 ≡ true) × (spent.1 ≡ e)
written-due (true, e) spent due free some = absurd cc
written-due (false, e) (true, f) due free some = (refl, cc)
written-due (false, e) (false, f) due free some = absurd cc
