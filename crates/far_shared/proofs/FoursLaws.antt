-- The joint answer of four tables.
use Rattle.std.proofs.Common.{◌≡◌, ◌⊎◌, inl, inr, ℕ, ◌+◌, Option, Some, IfSome, IfErr, IsOk, OnOk, Result, sym, ap, subst, ◌∙◌, true≢false}
use Rattle.std.specs.Prelude.{IsErrOf}
use Rattle.std.specs.declared.result.Result.TheVariants.{Ok, Err}
use Rattle.far_types.specs.declared.refusal.Refusal.{Refusal}
use Rattle.far_types.specs.declared.refusal.Refusal.TheVariants as refusal
use Rattle.far_shared.specs.Fours.{AnyRefusal}

-- a property that an option's value must have is a property of its value
pub of-some : {T : Type 0} (P : T → Type 0) (found : Option T) (x : T) → found ≡ Some x → IfSome found P → P x
of-some {T} P found x is holds = subst (λ (o : Option T). IfSome o P) is holds

-- the sums of four equal numbers are equal
pub same-sum : (a b c d e f g h : ℕ) → a ≡ e → b ≡ f → c ≡ g → d ≡ h → a + b + c + d ≡ e + f + g + h
same-sum a b c d e f g h p q r s = ap (λ n. n + b + c + d) p ∙ ap (λ n. e + n + c + d) q ∙ ap (λ n. e + f + n + d) r ∙ ap (λ n. e + f + g + n) s

module _ (some all : ℕ) (same : some ≡ all) where
  -- if the check that all row groups are scanned passes, none is pending
  pub scanned-none : (scanned : Result (Unit {0}) Refusal) → OnOk scanned (some ≡ 0) → IsOk scanned → all ≡ 0
  scanned-none (Ok u) none is = sym same ∙ none
  scanned-none (Err e) none is = absurd (true≢false (sym is))

  -- why the four tables do not answer
  pub scanned-refused : (scanned : Result (Unit {0}) Refusal) (given : Refusal) → OnOk scanned (some ≡ 0) → IfErr scanned (AnyRefusal some) → IsErrOf scanned given ⊎ (IsOk scanned × (given ≡ refusal.NoMemory)) → AnyRefusal all given
  scanned-refused (Ok u) given none why (inl is) = absurd cc
  scanned-refused (Ok u) given none why (inr memory) = inl (inr (sym same ∙ none, memory.1))
  scanned-refused (Err e) given none why (inl is) = (let one : e ≡ given = cc in subst (λ n. AnyRefusal n given) same (subst (AnyRefusal some) one why))
  scanned-refused (Err e) given none why (inr memory) = absurd (true≢false (sym memory.0))

-- if no row group is pending, an answer is refused only for lack of memory
pub memory-refused : {T : Type 0} (all : ℕ) (r : Result T Refusal) → all ≡ 0 → IfErr r (λ e. e ≡ refusal.NoMemory) → IfErr r (AnyRefusal all)
memory-refused all (Ok x) none memory = tt
memory-refused all (Err e) none memory = inl (inr (none, memory))
