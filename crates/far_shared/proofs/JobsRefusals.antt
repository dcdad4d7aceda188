-- Refusals whose code is one of several.
use Rattle.std.proofs.Common.{◌≡◌, ℕ, Bool, true, false, List, [], ◌∷◌, ap, sym, subst, Option, None, Some, Result, IfErr}
use Rattle.std.specs.declared.result.Result.TheVariants.{Ok, Err}
use Rattle.std.specs.List.{AllByRecursion}
use Rattle.far_types.specs.declared.refusal.Refusal.{Refusal}
use Rattle.far_types.specs.declared.refusal.Refusal.TheVariants as refusal
use Rattle.far_types.specs.FirstOf.{first_of}
use Rattle.far_types.specs.MayRefuse.{MayRefuse}
use Rattle.far_frame.specs.Jobs.{IsOneOf}

module _ (numbers : List ℕ) where
  pub given-one : (r e : Refusal) → IsOneOf numbers r → Some r ≡ Some e → IsOneOf numbers e
  given-one r e one is = let same : r ≡ e = cc in subst (IsOneOf numbers) same one

  pub of-one : (r e : Refusal) → IsOneOf numbers r → e ≡ r → IsOneOf numbers e
  of-one r e one is = subst (IsOneOf numbers) (sym is) one

  -- if each test's refusal has one of these codes, so has the first that applies
  pub first-among : (cases : List (Bool × Refusal)) (e : Refusal) → AllByRecursion (λ (c : Bool × Refusal). IsOneOf numbers c.1) cases → first_of cases ≡ Some e → IsOneOf numbers e
  first-among [] e all is = absurd (let none : None ≡ Some e = is in cc)
  first-among ((true, r) ∷ cases) e all is = given-one r e all.0 is
  first-among ((false, r) ∷ cases) e all is = first-among cases e all.1 is

  -- a refusal that may be returned has one of these codes, if the due one and `NoMemory` have
  pub may-among : (due : Option Refusal) (e : Refusal) → (due ≡ Some e → IsOneOf numbers e) → IsOneOf numbers refusal.NoMemory → MayRefuse due true e → IsOneOf numbers e
  may-among None e f one is = subst (IsOneOf numbers) (sym is.0) one
  may-among (Some r) e f one is = f (ap (λ x. Some x) (sym is))

pub if-err : {A E : Type 0} (r : Result A E) (P Q : E → Type 0) → ((e : E) → P e → Q e) → IfErr r P → IfErr r Q
if-err (Ok x) P Q f is = tt
if-err (Err e) P Q f is = f e is
