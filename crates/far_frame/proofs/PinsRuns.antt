-- No step evicts a pinned object.
use Rattle.std.proofs.Common.{◌≡◌, ◌≢◌, ℕ, true, false, List, [], ◌∷◌, Option, IfSome, refl, sym, ap, subst, ◌∙◌}
use Rattle.far_types.specs.declared.cell.Kind.{Kind}
use Rattle.far_types.specs.declared.limits.Limits.{Limits}
use Rattle.far_types.specs.declared.refusal.Refusal.{Refusal}
use Rattle.far_types.specs.declared.refusal.Refusal.TheVariants as refusal
use Rattle.far_columns.specs.Pieces.{overlapped_groups}
use Rattle.far_rows.specs.declared.object.Object.{Object}
use Rattle.far_rows.specs.declared.object.Object.TheVariants as object
use Rattle.far_rows.specs.Rows.{Rows}
use Rattle.far_rows.specs.Coldest.{pins_at}
use Rattle.far_rows.specs.Opening.{empty_rows}
use Rattle.far_rows.specs.Moving.{object_at}
use Rattle.far_rows.specs.Jobs.{evac_refusal, fetch_refusal}
use Rattle.far_table.specs.State.{LiveState}
use Rattle.far_table.specs.Offloading.{offload_refusal}
use Rattle.far_table.specs.Watching.{aggregate_at}
use Rattle.far_frame.specs.State.{State, live}
use Rattle.far_frame.specs.declared.step.Step.{Step}
use Rattle.far_frame.specs.declared.step.Step.TheVariants as step
use Rattle.far_frame.specs.declared.step.Reply.{Reply}
use Rattle.far_frame.specs.declared.step.Reply.TheVariants as reply
use Rattle.far_frame.specs.Effects.{Replies, Accepts, Refuses, Changes}
use Rattle.far_frame.specs.Lending.{lend_refusal}
use Rattle.far_frame.specs.Jobs.{JobRecord, IsEvacJob, IsFetchJob, IsOffloadJob, Commits, CommitRefusal, Installs, InstallRefusal, Merges, MergeRefusal}
use Rattle.far_frame.specs.Pins.{is_pinning, is_here, ArePinnedHere}
use Rattle.far_frame.specs.Steps.{IsStep, IsRun}
use Rattle.far_frame.specs.Worlds.{World, IsBegun, IsNotBegun, IsCarry, IsNoCarry}
use Rattle.far_frame.proofs.PinsRefusals.{absent-cause, due-absent, free-away, after_pin-holds, unpinned-holds}
use Rattle.far_frame.proofs.RowsAway.{rows-edited, rows-after_touch_all, rows-compacted}
use Rattle.far_frame.proofs.PinsRows.{KeepsRows, not-on, rows-here, rows-pins, rows-are, rows-still, commits-rows, installs-rows, merges-rows, moves-after_pin, moves-unpinned, stays}
use Rattle.far_frame.proofs.StepsLaws.{replied, ended-so}

module _ {K : Type 0} (content : K → List ℕ) (number_of : K → ℕ) where
  -- a step on the table keeps pins
  module _ (old new : State K) where
    unchanged : new ≡ old → KeepsRows old.rows new.rows
    unchanged same = stays old new (ap (λ (t : State K). t.rows) same)

    accepted-rows : (s : Step) (given : Reply) → is_pinning s ≡ false → Accepts content old s given new → KeepsRows old.rows new.rows
    accepted-rows (step.Edit e) given is h = rows-still old.rows new.rows (rows-edited content old.rows new.rows e h.1.changed.rows)
    accepted-rows (step.Watch spec) given is h = stays old new (ap (λ (t : LiveState K). t.rows) h.2.changed.state)
    accepted-rows (step.Unwatch a) given is h = stays old new (ap (λ (t : LiveState K). t.rows) h.1.changed.state)
    accepted-rows (step.ScanGroup a g) given is h = stays old new (ap (λ (t : LiveState K). t.rows) h.1.changed.state)
    accepted-rows (step.Ask a) given is h = unchanged h.3
    accepted-rows (step.Lend column from to) given is h = rows-are old.rows _ new.rows h.used.rows (rows-still old.rows _ (rows-after_touch_all column (overlapped_groups old.rows.size from to) old.rows))
    accepted-rows (step.Pin column group) given is h = not-on (sym is)
    accepted-rows (step.Unpin column group) given is h = not-on (sym is)
    accepted-rows (step.Compact k segment) given is h = rows-still old.rows new.rows (rows-compacted k segment old.rows new.rows h.1.changed.rows)
    accepted-rows (step.Prefetch column) given is h = unchanged h.2
    accepted-rows (step.BeginEvac column group) given is h = absurd h
    accepted-rows (step.BeginFetch column group) given is h = absurd h
    accepted-rows (step.BeginOffload a g) given is h = absurd h
    accepted-rows (step.Carry n) given is h = absurd h
    accepted-rows (step.Commit n) given is h = absurd h
    accepted-rows (step.Install n) given is h = absurd h
    accepted-rows (step.Merge n) given is h = absurd h

    changed-rows : (s : Step) (given : Reply) → is_pinning s ≡ false → Changes content old s given new → KeepsRows old.rows new.rows
    changed-rows s given is h = replied (λ served. Accepts content old s served new) (λ why. Refuses old s why new) given (λ served k. accepted-rows s served is k) (λ why k. unchanged k.0) h

  begun-rows : (old new : World K) (given : Reply) (begins : JobRecord K → Type 0) (due : Option Refusal) → Replies (λ served. IsBegun begins old served new) (λ why. IsNotBegun due old why new) given → KeepsRows old.state.rows new.state.rows
  begun-rows old new given begins due h = replied (λ served. IsBegun begins old served new) (λ why. IsNotBegun due old why new) given
      (λ served k. unchanged old.state new.state (ap (λ (w : World K). w.state) k.world))
      (λ why k. unchanged old.state new.state (ap (λ (w : World K). w.state) k.world)) h

  step-keeps : (old : World K) (s : Step) (given : Reply) (new : World K) → is_pinning s ≡ false → IsStep content number_of old s given new → KeepsRows old.state.rows new.state.rows
  step-keeps old (step.Edit e) given new is h = changed-rows old.state new.state (step.Edit e) given is h.0
  step-keeps old (step.Watch spec) given new is h = changed-rows old.state new.state (step.Watch spec) given is h.0
  step-keeps old (step.Unwatch a) given new is h = changed-rows old.state new.state (step.Unwatch a) given is h.0
  step-keeps old (step.ScanGroup a g) given new is h = changed-rows old.state new.state (step.ScanGroup a g) given is h.0
  step-keeps old (step.Ask a) given new is h = changed-rows old.state new.state (step.Ask a) given is h.0
  step-keeps old (step.Lend column from to) given new is h = changed-rows old.state new.state (step.Lend column from to) given is h.0
  step-keeps old (step.Pin column group) given new is h = not-on (sym is)
  step-keeps old (step.Unpin column group) given new is h = not-on (sym is)
  step-keeps old (step.Compact k segment) given new is h = changed-rows old.state new.state (step.Compact k segment) given is h.0
  step-keeps old (step.Prefetch column) given new is h = changed-rows old.state new.state (step.Prefetch column) given is h.0
  step-keeps old (step.BeginEvac column group) given new is h = begun-rows old new given (IsEvacJob old.state.rows column group) (evac_refusal old.state.rows column group) h
  step-keeps old (step.BeginFetch column group) given new is h = begun-rows old new given (IsFetchJob old.state.rows column group) (fetch_refusal old.state.rows column group) h
  step-keeps old (step.BeginOffload a g) given new is h = begun-rows old new given (IsOffloadJob old.state a g) (offload_refusal (live old.state) (aggregate_at old.state.table a) g) h
  step-keeps old (step.Carry n) given new is h = replied (λ served. IsCarry content n old served new) (λ why. IsNoCarry n old why new) given
      (λ served k. unchanged old.state new.state (ap (λ (w : World K). w.state) k.world))
      (λ why k. unchanged old.state new.state (ap (λ (w : World K). w.state) k.world)) h
  step-keeps old (step.Commit n) given new is h = ended-so content number_of old new given n (Commits number_of old.state) (CommitRefusal number_of old.state) (commits-rows number_of old.state new.state) (unchanged old.state new.state) h
  step-keeps old (step.Install n) given new is h = ended-so content number_of old new given n (Installs number_of old.state content) (InstallRefusal number_of old.state content) (installs-rows number_of old.state new.state content) (unchanged old.state new.state) h
  step-keeps old (step.Merge n) given new is h = ended-so content number_of old new given n (Merges number_of old.state) (MergeRefusal number_of old.state) (merges-rows number_of old.state new.state) (unchanged old.state new.state) h

  -- only `Pin` and `Unpin` change the number of an object's pins
  pub step-pins : (old : World K) (s : Step) (given : Reply) (new : World K) → is_pinning s ≡ false → IsStep content number_of old s given new → (o : Object) → pins_at new.state.rows o ≡ pins_at old.state.rows o
  step-pins old s given new is h o = rows-pins old.state.rows new.state.rows (step-keeps old s given new is h) o

  -- a pinned local object stays local in each step
  pub step-stays : (old : World K) (s : Step) (given : Reply) (new : World K) → IsStep content number_of old s given new → (o : Object) → pins_at old.state.rows o ≢ 0 → is_here old.state.rows o ≡ true → is_here new.state.rows o ≡ true
  step-stays old (step.Pin column group) given new h o some here = replied (λ served. Accepts content old.state (step.Pin column group) served new.state) (λ why. Refuses old.state (step.Pin column group) why new.state) given
      (λ served k. moves-after_pin old.state.rows new.state.rows (object_at old.state.rows column group) k.2.changed.rows o ∙ here)
      (λ why k. ap (λ (t : State K). is_here t.rows o) k.0 ∙ here) h.0
  step-stays old (step.Unpin column group) given new h o some here = replied (λ served. Accepts content old.state (step.Unpin column group) served new.state) (λ why. Refuses old.state (step.Unpin column group) why new.state) given
      (λ served k. moves-unpinned old.state.rows new.state.rows (object_at old.state.rows column group) k.2.changed.rows o ∙ here)
      (λ why k. ap (λ (t : State K). is_here t.rows o) k.0 ∙ here) h.0
  step-stays old s given new h o some here = rows-here old.state.rows new.state.rows (step-keeps old s given new refl h) o some here

  -- `Pin` pins only local objects
  pin-holds : (old new : World K) (column group : ℕ) (given : Reply) → IsStep content number_of old (step.Pin column group) given new → ArePinnedHere old.state.rows → ArePinnedHere new.state.rows
  pin-holds old new column group given h all = replied (λ served. Accepts content old.state (step.Pin column group) served new.state) (λ why. Refuses old.state (step.Pin column group) why new.state) given
      (λ served k. after_pin-holds old.state.rows column group new.state.rows k.1 k.2.changed.rows all)
      (λ why k. subst (λ (t : State K). ArePinnedHere t.rows) (sym k.0) all) h.0

  unpin-holds : (old new : World K) (column group : ℕ) (given : Reply) → IsStep content number_of old (step.Unpin column group) given new → ArePinnedHere old.state.rows → ArePinnedHere new.state.rows
  unpin-holds old new column group given h all = replied (λ served. Accepts content old.state (step.Unpin column group) served new.state) (λ why. Refuses old.state (step.Unpin column group) why new.state) given
      (λ served k. unpinned-holds old.state.rows new.state.rows (object_at old.state.rows column group) k.2.changed.rows all)
      (λ why k. subst (λ (t : State K). ArePinnedHere t.rows) (sym k.0) all) h.0

  keeps-holds : (old new : Rows K) → KeepsRows old new → ArePinnedHere old → ArePinnedHere new
  keeps-holds old new k all o some =
      let before : pins_at old o ≢ 0 = λ none. some (rows-pins old new k o ∙ none) in
      rows-here old new k o before (all o before)

  step-holds : (old : World K) (s : Step) (given : Reply) (new : World K) → IsStep content number_of old s given new → ArePinnedHere old.state.rows → ArePinnedHere new.state.rows
  step-holds old (step.Pin column group) given new h all = pin-holds old new column group given h all
  step-holds old (step.Unpin column group) given new h all = unpin-holds old new column group given h all
  step-holds old s given new h all = keeps-holds old.state.rows new.state.rows (step-keeps old s given new refl h) all

  -- so after any list of steps all pinned objects are local
  pub run-holds : (is_of : K → List ℕ → Type 0) (old : World K) (steps : List Step) (replies : List Reply) (new : World K) → ArePinnedHere old.state.rows → IsRun is_of content number_of old steps replies new → ArePinnedHere new.state.rows
  run-holds is_of old [] [] new all h = subst (λ (w : World K). ArePinnedHere w.state.rows) (sym h) all
  run-holds is_of old [] (given ∷ replies) new all h = absurd h
  run-holds is_of old (s ∷ steps) [] new all h = absurd h
  run-holds is_of old (s ∷ steps) (given ∷ replies) new all h = run-holds is_of h.0 steps replies new (step-holds old s given h.0 h.1 all) h.3

  -- a lend is not refused for the absence of a pinned object
  pub lent-free : (old : World K) → ArePinnedHere old.state.rows → (column from to c g : ℕ) (new : World K) → IsStep content number_of old (step.Lend column from to) (reply.Refused (refusal.Absent c g)) new → IfSome (object_at old.state.rows c g) (λ o. pins_at old.state.rows o ≡ 0)
  lent-free old all column from to c g new h =
      free-away old.state.rows c g all (absent-cause old.state.rows column from to c g (due-absent (lend_refusal old.state.rows column from to) c g h.0.1)) (object_at old.state.rows c g) refl

-- a new table has no pinned object
pub opened-holds : (K : Type 0) (schema : List Kind) (limits : Limits) (number : ℕ) → ArePinnedHere (empty_rows {K = K} schema limits number)
opened-holds K schema limits number (object.Number o) some = absurd (some refl)
opened-holds K schema limits number (object.Text o) some = absurd (some refl)
