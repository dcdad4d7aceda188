-- A call that keeps the rows, whatever its outcome.
use Rattle.std.proofs.Common.{◌≡◌, ℕ, List, Result, IfOk, IfErr, sym, subst}
use Rattle.std.specs.declared.result.Result.TheVariants.{Ok, Err}
use Rattle.far_rows.specs.Rows.{Rows}
use Rattle.far_rows.specs.Jobs.{AreAt}

pub by-value : {A E R : Type 0} {P : A → Type 0} {Q : E → Type 0} (r : Result A E) → IfOk r P → IfErr r Q → ((x : A) → P x → R) → ((e : E) → Q e → R) → R
by-value (Ok x) p q ok err = ok x p
by-value (Err e) p q ok err = err e q

module _ {K : Type 0} (is_of : K → List ℕ → Type 0) where
  pub unchanged-at : (old new : Rows K) → new ≡ old → (id : List ℕ) → AreAt is_of id old → AreAt is_of id new
  unchanged-at old new same id at = subst (λ r. AreAt is_of id r) (sym same) at
