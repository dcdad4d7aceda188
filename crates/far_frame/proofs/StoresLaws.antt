-- A run keeps to the store of its world, and so do the tickets in it.
use Rattle.std.proofs.Common.{◌≡◌, ℕ, List, [], ◌∷◌, Option, sym, ap, subst, ◌∙◌}
use Rattle.far_types.specs.declared.refusal.Refusal.{Refusal}
use Rattle.far_rows.specs.Jobs.{evac_refusal, fetch_refusal}
use Rattle.far_table.specs.Offloading.{offload_refusal}
use Rattle.far_table.specs.Watching.{aggregate_at}
use Rattle.far_frame.specs.declared.step.Reply.{Reply}
use Rattle.far_frame.specs.declared.step.Step.{Step}
use Rattle.far_frame.specs.declared.step.Step.TheVariants as step
use Rattle.far_frame.specs.Effects.{Replies}
use Rattle.far_frame.specs.Jobs.{JobRecord, WorkOf, IsEvacJob, IsFetchJob, IsOffloadJob, Commits, CommitRefusal, Installs, InstallRefusal, Merges, MergeRefusal}
use Rattle.far_frame.specs.State.{State, live}
use Rattle.far_frame.specs.Steps.{IsStep, IsRun}
use Rattle.far_frame.specs.Worlds.{World, HasOwnTickets, IsWorld, IsBegun, IsNotBegun, IsCarry, IsNoCarry, IsEnded, IsNotEnded}
use Rattle.far_frame.proofs.StepsLaws.{replied}

module _ {K : Type 0} (old new : World K) (given : Reply) where
  table-store : new ≡ record old { state = new.state } → new.store ≡ old.store
  table-store is = ap (λ (w : World K). w.store) is

  begun-store : (begins : JobRecord K → Type 0) (due : Option Refusal) → Replies (λ served. IsBegun begins old served new) (λ why. IsNotBegun due old why new) given → new.store ≡ old.store
  begun-store begins due h = replied (λ served. IsBegun begins old served new) (λ why. IsNotBegun due old why new) given (λ served k. ap (λ (w : World K). w.store) k.world) (λ why k. ap (λ (w : World K). w.store) k.world) h

  carry-store : (content : K → List ℕ) (n : ℕ) → Replies (λ served. IsCarry content n old served new) (λ why. IsNoCarry n old why new) given → new.store ≡ old.store
  carry-store content n h = replied (λ served. IsCarry content n old served new) (λ why. IsNoCarry n old why new) given (λ served k. ap (λ (w : World K). w.store) k.world) (λ why k. ap (λ (w : World K). w.store) k.world) h

  ended-store : (n : ℕ) (ends : WorkOf K → State K → Type 0) (why : WorkOf K → Refusal → Type 0) → Replies (λ served. IsEnded ends n old served new) (λ e. IsNotEnded why n old e new) given → new.store ≡ old.store
  ended-store n ends why h = replied (λ served. IsEnded ends n old served new) (λ e. IsNotEnded why n old e new) given (λ served k. ap (λ (w : World K). w.store) k.world) (λ e k. ap (λ (w : World K). w.store) k.world) h

module _ {K : Type 0} (is_of : K → List ℕ → Type 0) (content : K → List ℕ) (number_of : K → ℕ) where
  -- no step changes the store
  step-store : (old : World K) (s : Step) (given : Reply) (new : World K) → IsStep content number_of old s given new → new.store ≡ old.store
  step-store old (step.Edit e) given new h = table-store old new given h.1
  step-store old (step.Watch spec) given new h = table-store old new given h.1
  step-store old (step.Unwatch a) given new h = table-store old new given h.1
  step-store old (step.ScanGroup a g) given new h = table-store old new given h.1
  step-store old (step.Ask a) given new h = table-store old new given h.1
  step-store old (step.Lend column from to) given new h = table-store old new given h.1
  step-store old (step.Pin column group) given new h = table-store old new given h.1
  step-store old (step.Unpin column group) given new h = table-store old new given h.1
  step-store old (step.Compact kind segment) given new h = table-store old new given h.1
  step-store old (step.Prefetch column) given new h = table-store old new given h.1
  step-store old (step.BeginEvac column group) given new h = begun-store old new given (IsEvacJob old.state.rows column group) (evac_refusal old.state.rows column group) h
  step-store old (step.BeginFetch column group) given new h = begun-store old new given (IsFetchJob old.state.rows column group) (fetch_refusal old.state.rows column group) h
  step-store old (step.BeginOffload a g) given new h = begun-store old new given (IsOffloadJob old.state a g) (offload_refusal (live old.state) (aggregate_at old.state.table a) g) h
  step-store old (step.Carry n) given new h = carry-store old new given content n h
  step-store old (step.Commit n) given new h = ended-store old new given n (Commits number_of old.state) (CommitRefusal number_of old.state) h
  step-store old (step.Install n) given new h = ended-store old new given n (Installs number_of old.state content) (InstallRefusal number_of old.state content) h
  step-store old (step.Merge n) given new h = ended-store old new given n (Merges number_of old.state) (MergeRefusal number_of old.state) h

  pub run-store : (old : World K) (steps : List Step) (replies : List Reply) (new : World K) → IsRun is_of content number_of old steps replies new → new.store ≡ old.store
  run-store old [] [] new h = ap (λ (w : World K). w.store) h
  run-store old [] (given ∷ replies) new h = absurd h
  run-store old (s ∷ steps) [] new h = absurd h
  run-store old (s ∷ steps) (given ∷ replies) new h = run-store h.0 steps replies new h.3 ∙ step-store old s given h.0 h.1

  -- all tickets are of the store after any list of steps
  own-tickets : (old : World K) (steps : List Step) (replies : List Reply) (new : World K) → HasOwnTickets is_of old → IsRun is_of content number_of old steps replies new → HasOwnTickets is_of new
  own-tickets old [] [] new own h = subst (HasOwnTickets is_of) (sym h) own
  own-tickets old [] (given ∷ replies) new own h = absurd h
  own-tickets old (s ∷ steps) [] new own h = absurd h
  own-tickets old (s ∷ steps) (given ∷ replies) new own h = own-tickets h.0 steps replies new h.2 h.3

  pub run-tickets : (old : World K) (steps : List Step) (replies : List Reply) (new : World K) → HasOwnTickets is_of old → IsRun is_of content number_of old steps replies new → IsWorld is_of old.store new.state new.jobs
  run-tickets old steps replies new own h = subst (λ (id : List ℕ). IsWorld is_of id new.state new.jobs) (run-store old steps replies new h) (own-tickets old steps replies new own h)
