-- Works and evictions that were tried.
use Rattle.std.proofs.Common.{◌≡◌, ◌≢◌, ℕ, ◌+◌, ◌%◌, ◌<◌, List, Option, Result, Ok, Err, IfErr, IfOk, OnOk, inl, inr, sym, subst, add-one, arith}
use Rattle.far_types.specs.declared.name.Name.{Name}
use Rattle.far_types.specs.declared.refusal.Refusal.{Refusal}
use Rattle.far_types.specs.declared.refusal.Refusal.TheVariants as refusal
use Rattle.far_shared.specs.Stripes.{StripeState}
use Rattle.far_shared.specs.UnderLock.{Evacuates, EvacuationFails, FetchFails, Fetches}
use Rattle.far_shared.specs.declared.work.Work.TheVariants as work
use Rattle.far_shell.specs.Evicting.{AreTried, IsCounted}
use Rattle.far_shell.specs.Working.{IsTried}

module _ {K : Type 0} (number_of : K → ℕ) (content : K → List ℕ) (allows : ℕ → StripeState K → Type 0) (columns : ℕ) where
  -- an eviction that did not run out of memory was tried
  pub evac-tried : (stripe : ℕ) (r : Result (Option Name) Refusal) → IfOk r (Evacuates number_of content (allows stripe))
      → IfErr r (λ e. stripe < 4 → EvacuationFails number_of content (allows stripe) e) → IfErr r (λ e. e ≢ refusal.NoMemory)
      → IsTried number_of content allows columns (work.Evacuate stripe)
  evac-tried stripe (Ok gone) done why other = inl (gone, done)
  evac-tried stripe (Err e) done why other = inr (e, other, λ wide low. why low)

  -- so was such a fetch
  pub fetch-tried : {T : Type 0} (stripe : ℕ) (name : Name) (r : Result T Refusal) → OnOk r (Fetches number_of content (allows stripe) name)
      → IfErr r (λ e. name.column < columns → stripe < 4 → FetchFails number_of content (allows stripe) name e) → IfErr r (λ e. e ≢ refusal.NoMemory)
      → IsTried number_of content allows columns (work.Fetch stripe name)
  fetch-tried stripe name (Ok u) done why other = inl done
  fetch-tried stripe name (Err e) done why other = inr (e, other, λ wide low. why (omega (arith, wide)) low)

module _ {K : Type 0} (number_of : K → ℕ) (content : K → List ℕ) (allows : ℕ → StripeState K → Type 0) where
  -- one more eviction was tried, on the next stripe
  pub one-more : (tries before after : ℕ) → AreTried number_of content allows tries before → IsCounted number_of content allows (tries % 4) before after
      → AreTried number_of content allows (tries + 1) after
  one-more tries before after all one = subst (λ (n : ℕ). AreTried number_of content allows n after) (sym (add-one tries)) (before, all, one)
