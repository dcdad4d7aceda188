-- Why delivered bytes are not taken.
use Rattle.std.proofs.Common.{◌≡◌, ℕ, true, false, List, Option, None, Some, Result, inl, inr, refl, sym, ap}
use Rattle.std.specs.Prelude.{[], ◌∷◌, ◌↔◌, ◌⊎◌, IfErr, IsErrOf}
use Rattle.std.specs.declared.result.Result.TheVariants.{Ok, Err}
use Rattle.far_types.specs.declared.refusal.Refusal.{Refusal}
use Rattle.far_types.specs.declared.refusal.Refusal.TheVariants as why
use Rattle.far_host.specs.HostTickets.{TicketState}
use Rattle.far_frame.specs.Delivering.{DeliveryRefusal, IsOther}
use Rattle.far_frame.specs.Jobs.{IsOneOf}
use Rattle.far_c.specs.Contents.{matches}
use Rattle.far_c.specs.Delivering.{WhyNotTaken}

module _ (wanted : Option TicketState) (bytes : List ℕ) where
  pub why-not-taken : (r : Result Unit Refusal) → (IsErrOf r why.StaleJob ↔ (wanted ≡ None)) → (IsErrOf r why.FarFault ↔ IsOther matches wanted bytes) → IfErr r (IsOneOf (20 ∷ 21 ∷ 1 ∷ [])) → IfErr r (WhyNotTaken wanted bytes)
  why-not-taken (Ok done) stale other one = tt
  why-not-taken (Err why.NoMemory) stale other one = inr (inr (refl, (λ none. let e = stale.1 none in cc), (λ is. let e = other.1 is in cc)))
  why-not-taken (Err why.BadSchema) stale other one = absurd (let h : false ≡ true = one in cc)
  why-not-taken (Err why.BadSpec) stale other one = absurd (let h : false ≡ true = one in cc)
  why-not-taken (Err why.NoColumn) stale other one = absurd (let h : false ≡ true = one in cc)
  why-not-taken (Err why.WrongKind) stale other one = absurd (let h : false ≡ true = one in cc)
  why-not-taken (Err why.RowWidth) stale other one = absurd (let h : false ≡ true = one in cc)
  why-not-taken (Err why.TextTooLong) stale other one = absurd (let h : false ≡ true = one in cc)
  why-not-taken (Err why.NoRow) stale other one = absurd (let h : false ≡ true = one in cc)
  why-not-taken (Err why.RemovedRow) stale other one = absurd (let h : false ≡ true = one in cc)
  why-not-taken (Err why.TableFull) stale other one = absurd (let h : false ≡ true = one in cc)
  why-not-taken (Err why.ChunkFull) stale other one = absurd (let h : false ≡ true = one in cc)
  why-not-taken (Err why.NoAggregate) stale other one = absurd (let h : false ≡ true = one in cc)
  why-not-taken (Err why.TooManyAggregates) stale other one = absurd (let h : false ≡ true = one in cc)
  why-not-taken (Err why.OutOfRange) stale other one = absurd (let h : false ≡ true = one in cc)
  why-not-taken (Err (why.Building left)) stale other one = absurd (let h : false ≡ true = one in cc)
  why-not-taken (Err (why.Absent column group)) stale other one = absurd (let h : false ≡ true = one in cc)
  why-not-taken (Err why.RegionFull) stale other one = absurd (let h : false ≡ true = one in cc)
  why-not-taken (Err why.NotPinned) stale other one = absurd (let h : false ≡ true = one in cc)
  why-not-taken (Err why.Pinned) stale other one = absurd (let h : false ≡ true = one in cc)
  why-not-taken (Err why.StaleJob) stale other one = inl (refl, stale.0 refl)
  why-not-taken (Err why.FarFault) stale other one = inr (inl (refl, other.0 refl))
  why-not-taken (Err why.FarFull) stale other one = absurd (let h : false ≡ true = one in cc)
  why-not-taken (Err why.EditsUsedUp) stale other one = absurd (let h : false ≡ true = one in cc)

  abbrev Why : Option Refusal → Refusal → Type 0
  Why due given = (due ≡ Some given) ⊎ (((given ≡ why.FarFault) × IsOther matches wanted bytes) ⊎ ((given ≡ why.NoMemory) × (due ≡ None)))

  pub why-no-copy : (due : Option Refusal) (r : Result Unit Refusal) → (IsErrOf r why.FarFault ↔ ((due ≡ None) × IsOther matches wanted bytes)) → IfErr r (DeliveryRefusal due) → IfErr r (Why due)
  why-no-copy due (Ok done) other one = tt
  why-no-copy (Some d) (Err given) other one = inl (sym (ap Some one))
  why-no-copy None (Err why.NoMemory) other one = inr (inr (refl, refl))
  why-no-copy None (Err why.BadSchema) other one = absurd (let h : false ≡ true = one in cc)
  why-no-copy None (Err why.BadSpec) other one = absurd (let h : false ≡ true = one in cc)
  why-no-copy None (Err why.NoColumn) other one = absurd (let h : false ≡ true = one in cc)
  why-no-copy None (Err why.WrongKind) other one = absurd (let h : false ≡ true = one in cc)
  why-no-copy None (Err why.RowWidth) other one = absurd (let h : false ≡ true = one in cc)
  why-no-copy None (Err why.TextTooLong) other one = absurd (let h : false ≡ true = one in cc)
  why-no-copy None (Err why.NoRow) other one = absurd (let h : false ≡ true = one in cc)
  why-no-copy None (Err why.RemovedRow) other one = absurd (let h : false ≡ true = one in cc)
  why-no-copy None (Err why.TableFull) other one = absurd (let h : false ≡ true = one in cc)
  why-no-copy None (Err why.ChunkFull) other one = absurd (let h : false ≡ true = one in cc)
  why-no-copy None (Err why.NoAggregate) other one = absurd (let h : false ≡ true = one in cc)
  why-no-copy None (Err why.TooManyAggregates) other one = absurd (let h : false ≡ true = one in cc)
  why-no-copy None (Err why.OutOfRange) other one = absurd (let h : false ≡ true = one in cc)
  why-no-copy None (Err (why.Building left)) other one = absurd (let h : false ≡ true = one in cc)
  why-no-copy None (Err (why.Absent column group)) other one = absurd (let h : false ≡ true = one in cc)
  why-no-copy None (Err why.RegionFull) other one = absurd (let h : false ≡ true = one in cc)
  why-no-copy None (Err why.NotPinned) other one = absurd (let h : false ≡ true = one in cc)
  why-no-copy None (Err why.Pinned) other one = absurd (let h : false ≡ true = one in cc)
  why-no-copy None (Err why.StaleJob) other one = absurd (let h : false ≡ true = one in cc)
  why-no-copy None (Err why.FarFault) other one = inr (inl (refl, (other.0 refl).1))
  why-no-copy None (Err why.FarFull) other one = absurd (let h : false ≡ true = one in cc)
  why-no-copy None (Err why.EditsUsedUp) other one = absurd (let h : false ≡ true = one in cc)
