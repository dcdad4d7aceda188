-- The effect of a step on a world, and its reply.
use Rattle.std.specs.Prelude.{◌≡◌, ℕ, List, [], ◌∷◌}
use Rattle.far_rows.specs.Jobs.{evac_refusal, fetch_refusal}
use Rattle.far_frame.specs.declared.step.Step.{Step}
use Rattle.far_frame.specs.declared.step.Step.TheVariants as step
use Rattle.far_frame.specs.declared.step.Reply.{Reply}
use Rattle.far_frame.specs.Effects.{Replies, Changes}
use Rattle.far_table.specs.Offloading.{offload_refusal}
use Rattle.far_table.specs.Watching.{aggregate_at}
use Rattle.far_frame.specs.State.{live}
use Rattle.far_frame.specs.Jobs.{IsEvacJob, IsFetchJob, IsOffloadJob, Commits, CommitRefusal, Installs, InstallRefusal, Merges, MergeRefusal}
use Rattle.far_frame.specs.Worlds.{World, HasOwnTickets, IsBegun, IsNotBegun, IsCarry, IsNoCarry, IsEnded, IsNotEnded}

module _ {K : Type 0} (content : K → List ℕ) (number_of : K → ℕ) (old : World K) where
  -- only the state changes: not the jobs, the store or the faults
  abbrev pub OnTable : Step → Reply → World K → Type 0
  OnTable s given new = Changes content old.state s given new.state
      × (new ≡ record old { state = new.state })

  -- the world `old` becomes `new` by a step with this reply
  abbrev pub IsStep : Step → Reply → World K → Type 0
  IsStep (step.Edit e) given new = OnTable (step.Edit e) given new
  IsStep (step.Watch spec) given new = OnTable (step.Watch spec) given new
  IsStep (step.Unwatch a) given new = OnTable (step.Unwatch a) given new
  IsStep (step.ScanGroup a g) given new = OnTable (step.ScanGroup a g) given new
  IsStep (step.Ask a) given new = OnTable (step.Ask a) given new
  IsStep (step.Lend column from to) given new = OnTable (step.Lend column from to) given new
  IsStep (step.Pin column group) given new = OnTable (step.Pin column group) given new
  IsStep (step.Unpin column group) given new = OnTable (step.Unpin column group) given new
  IsStep (step.Compact kind segment) given new = OnTable (step.Compact kind segment) given new
  IsStep (step.Prefetch column) given new = OnTable (step.Prefetch column) given new
  IsStep (step.BeginEvac column group) given new = Replies
      (λ served. IsBegun (IsEvacJob old.state.rows column group) old served new)
      (λ why. IsNotBegun (evac_refusal old.state.rows column group) old why new) given
  IsStep (step.BeginFetch column group) given new = Replies
      (λ served. IsBegun (IsFetchJob old.state.rows column group) old served new)
      (λ why. IsNotBegun (fetch_refusal old.state.rows column group) old why new) given
  IsStep (step.BeginOffload a g) given new = Replies
      (λ served. IsBegun (IsOffloadJob old.state a g) old served new)
      (λ why. IsNotBegun (offload_refusal (live old.state) (aggregate_at old.state.table a) g) old
      why new) given
  IsStep (step.Carry n) given new = Replies (λ served. IsCarry content n old served new)
      (λ why. IsNoCarry n old why new) given
  IsStep (step.Commit n) given new = Replies
      (λ served. IsEnded (Commits number_of old.state) n old served new)
      (λ why. IsNotEnded (CommitRefusal number_of old.state) n old why new) given
  IsStep (step.Install n) given new = Replies
      (λ served. IsEnded (Installs number_of old.state content) n old served new)
      (λ why. IsNotEnded (InstallRefusal number_of old.state content) n old why new) given
  IsStep (step.Merge n) given new = Replies
      (λ served. IsEnded (Merges number_of old.state) n old served new)
      (λ why. IsNotEnded (MergeRefusal number_of old.state) n old why new) given

module _ {K : Type 0} (is_of : K → List ℕ → Type 0) (content : K → List ℕ)
    (number_of : K → ℕ) where
  -- the world `old` becomes `new` by these steps with these replies, one for each. After each step every ticket is of the world's store, also
  -- one that a carry got
  abbrev pub IsRun : World K → List Step → List Reply → World K → Type 0
  IsRun old [] [] new = new ≡ old
  IsRun old [] (given ∷ replies) new = ⊥
  IsRun old (s ∷ steps) [] new = ⊥
  IsRun old (s ∷ steps) (given ∷ replies) new = (mid : World K)
      × IsStep content number_of old s given mid
      × HasOwnTickets is_of mid
      × IsRun mid steps replies new
