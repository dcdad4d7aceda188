-- Each step of a world is a step of its table, in a user's words.
use Rattle.std.proofs.Common.{◌≡◌, ◌⊎◌, inl, inr, ℕ, ◌==◌, Bool, true, false, List, [], ◌∷◌, ◌++◌, Option, None, Some, IsSomeAnd, refl, sym, ap, subst, ◌∙◌, arith}
use Rattle.std.specs.List.{Contains}
use Rattle.std.specs.Prelude.{cond, not, nat_lt, slice_get, OnOk, OnErr, Result}
use Rattle.std.specs.declared.result.Result.TheVariants.{Ok, Err}
use Rattle.std.specs.Option.{option_or}
use Rattle.far_types.specs.declared.answer.Answer.{Answer}
use Rattle.far_types.specs.declared.cell.Kind.{Kind}
use Rattle.far_types.specs.declared.cell.Kind.TheVariants as kind
use Rattle.far_types.specs.declared.edit.Edit.{Edit}
use Rattle.far_types.specs.declared.refusal.Refusal.{Refusal}
use Rattle.far_types.specs.declared.refusal.Refusal.TheVariants as refusal
use Rattle.far_types.specs.declared.spec.Spec.{Spec}
use Rattle.far_types.specs.Edits.{after_edit}
use Rattle.far_types.specs.FirstOf.{first_of}
use Rattle.far_types.specs.MayRefuse.{MayRefuse}
use Rattle.far_types.specs.Table.{Registered, Table, answer_now}
use Rattle.far_aggregates.specs.Aggregates.{Answers, ask_refusal}
use Rattle.far_columns.specs.Pieces.{overlapped_groups}
use Rattle.far_rows.specs.Jobs.{evac_refusal, fetch_refusal}
use Rattle.far_rows.specs.Moving.{object_at, pin_refusal, unpin_refusal}
use Rattle.far_rows.specs.Rows.{Rows}
use Rattle.far_table.specs.Moving.{IsCompactedOf}
use Rattle.far_table.specs.Offloading.{offload_refusal}
use Rattle.far_table.specs.Watching.{aggregate_at, watch_refusal, unwatch_refusal, scan_refusal, after_register_at}
use Rattle.far_frame.specs.declared.job.JobPhase.TheVariants as work
use Rattle.far_frame.specs.declared.step.Step.{Step}
use Rattle.far_frame.specs.declared.step.Step.TheVariants as step
use Rattle.far_frame.specs.declared.step.Reply.{Reply}
use Rattle.far_frame.specs.declared.step.Reply.TheVariants as reply
use Rattle.far_frame.specs.Effects.{Replies, Accepts, CompactRefusal, WhyRefused}
use Rattle.far_frame.specs.Jobs.{IsOneOf, JobRecord, WorkOf, WorkRefusal, CarryRefusal, IsEvacJob, IsFetchJob, IsOffloadJob, Commits, CommitRefusal, Installs, InstallRefusal, Merges, MergeRefusal}
use Rattle.far_frame.specs.Lending.{AreObserved, Piece, IsLent, IsReplyOf, lend_refusal, prefetch_refusal, after_touch_all}
use Rattle.far_frame.specs.State.{State, live}
use Rattle.far_frame.specs.Steps.{IsStep}
use Rattle.far_frame.specs.Waiting.{job_at, RefusalAt}
use Rattle.far_frame.specs.Worlds.{World, IsBegun, IsNotBegun, IsCarry, IsNoCarry, IsEnded, IsNotEnded, used_up}
use Rattle.far_frame.specs.TableRefusals.{TableState, IsReason, due, others}
use Rattle.far_frame.specs.TableRuns.{IsTableStep, IsTableRun, IsTableServed}
use Rattle.far_frame.specs.TableViews.{table_of, IsKept}
use Rattle.far_frame.proofs.LendingLaws.{given-cells, given-flags, lends-low}
use Rattle.far_frame.proofs.PinsRows.{not-on}
use Rattle.far_frame.proofs.RowsAway.{rows-are, rows-after_touch_all, rows-compacted}
use Rattle.far_frame.proofs.StepsLaws.{commits-table, installs-table}
use Rattle.far_frame.proofs.TableChunks.{pin-view, unpin-view, leaves, arrives, scans}
use Rattle.far_frame.proofs.TableDue.{edit-free, edit-reason, lend-due, pin-due, unpin-due, evac-due, fetch-due, scan-same, offload-free, offload-tells}
use Rattle.far_frame.proofs.TableObjects.{all-touched, edited-view, live-view, moved-view, objects-same}

-- a reply serves or refuses in other words, if each case implies the other words
replies : (serves also : Reply → Type 0) (refuses too : Refusal → Type 0) (given : Reply) → ((served : Reply) → serves served → also served) → ((why : Refusal) → refuses why → too why) → Replies serves refuses given → Replies also too given
replies serves also refuses too (reply.Refused why) f g h = g why h
replies serves also refuses too (reply.Place place) f g h = f (reply.Place place) h
replies serves also refuses too reply.Done f g h = f reply.Done h
replies serves also refuses too (reply.Aggregate a) f g h = f (reply.Aggregate a) h
replies serves also refuses too (reply.Answer x) f g h = f (reply.Answer x) h
replies serves also refuses too (reply.Ints pieces) f g h = f (reply.Ints pieces) h
replies serves also refuses too (reply.Texts pieces) f g h = f (reply.Texts pieces) h
replies serves also refuses too (reply.Job n) f g h = f (reply.Job n) h
replies serves also refuses too (reply.Next found) f g h = f (reply.Next found) h

some-to : {A : Type 0} {B : Type 0} (P : A → Type 0) (o : Option A) → ((x : A) → P x → B) → IsSomeAnd o P → B
some-to P None f h = absurd h
some-to P (Some x) f h = f x h

-- the reply to `Ask` is the answer over the current rows
asked : (table : Table) (found : Option Registered) (x : Answer) (given : Reply) → given ≡ reply.Answer x → Answers table.places found x → (ask_refusal found ≡ None) × IsSomeAnd found (λ aggregate. given ≡ reply.Answer (answer_now aggregate.spec table))
asked table None x given is h = absurd h
asked table (Some aggregate) x given is h = (ap (λ n. cond (n == 0) None (Some (refusal.Building n))) h.0, is ∙ ap reply.Answer h.1)

-- the refusal is the due one, or none is due and it is one of these
abbrev IsDueOr : Option Refusal → List Refusal → Refusal → Type 0
IsDueOr owed besides why = (owed ≡ Some why) ⊎ ((owed ≡ None) × Contains besides why)

one-of : (besides : List Refusal) (e why : Refusal) → why ≡ e → Contains besides e → Contains besides why
one-of besides e why is one = subst (Contains besides) (sym is) one

told : (owed too : Option Refusal) (besides : List Refusal) (grows : Bool) (why : Refusal) → owed ≡ too → (grows ≡ true → Contains besides refusal.NoMemory) → MayRefuse owed grows why → IsDueOr too besides why
told None too besides grows why same memory may = inr (sym same, one-of besides refusal.NoMemory why may.0 (memory may.1))
told (Some d) too besides grows why same memory may = inl (sym same ∙ ap Some (sym may))

-- a job does not begin if the job numbers are used up or memory runs out
begins : (b : Bool) (besides : List Refusal) (why : Refusal) → Contains besides refusal.EditsUsedUp → Contains besides refusal.NoMemory → MayRefuse (first_of ((b, refusal.EditsUsedUp) ∷ [])) true why → Contains besides why
begins true besides why full memory may = one-of besides refusal.EditsUsedUp why may full
begins false besides why full memory may = one-of besides refusal.NoMemory why may.0 memory

told-job : (owed too : Option Refusal) (besides : List Refusal) (b : Bool) (why : Refusal) → owed ≡ too → Contains besides refusal.EditsUsedUp → Contains besides refusal.NoMemory → MayRefuse (option_or owed (first_of ((b, refusal.EditsUsedUp) ∷ []))) true why → IsDueOr too besides why
told-job None too besides b why same full memory may = inr (sym same, begins b besides why full memory may)
told-job (Some d) too besides b why same full memory may = inl (sym same ∙ ap Some (sym may))

-- a build may also be refused because the far store lacks a current copy of a chunk
told-build : (owed too : Option Refusal) (besides : List Refusal) (b : Bool) (why : Refusal) → (owed ≡ None → too ≡ None) → ((e : Refusal) → owed ≡ Some e → (too ≡ Some e) ⊎ ((too ≡ None) × (e ≡ refusal.StaleJob))) → Contains besides refusal.StaleJob → Contains besides refusal.EditsUsedUp → Contains besides refusal.NoMemory → MayRefuse (option_or owed (first_of ((b, refusal.EditsUsedUp) ∷ []))) true why → IsDueOr too besides why
told-build None too besides b why free tells stale full memory may = inr (free refl, begins b besides why full memory may)
told-build (Some d) too besides b why free tells stale full memory may = elim (tells d refl) [
  | inl is ↦ inl (is ∙ ap Some (sym may))
  | inr both ↦ inr (both.0, one-of besides refusal.StaleJob why (may ∙ both.1) stale)
]

memory-alone : Contains (refusal.NoMemory ∷ []) refusal.NoMemory
memory-alone = (0, omega arith, refl)

-- why a job is refused
far-tells : (given : Refusal) → IsOneOf (21 ∷ 22 ∷ 1 ∷ []) given → Contains (others (step.Carry 0)) given
far-tells refusal.FarFault is = (1, omega arith, refl)
far-tells refusal.FarFull is = (2, omega arith, refl)
far-tells refusal.NoMemory is = (3, omega arith, refl)
far-tells given is = not-on is

fault-tells : (given : Refusal) → IsOneOf (21 ∷ 1 ∷ []) given → Contains (others (step.Carry 0)) given
fault-tells refusal.FarFault is = (1, omega arith, refl)
fault-tells refusal.NoMemory is = (3, omega arith, refl)
fault-tells given is = not-on is

stale-carry : Contains (others (step.Carry 0)) refusal.StaleJob
stale-carry = (0, omega arith, refl)

stale-commit : Contains (others (step.Commit 0)) refusal.StaleJob
stale-commit = (0, omega arith, refl)

stale-install : Contains (others (step.Install 0)) refusal.StaleJob
stale-install = (0, omega arith, refl)

stale-merge : Contains (others (step.Merge 0)) refusal.StaleJob
stale-merge = (0, omega arith, refl)

module _ {K : Type 0} where
  carry-tells : (w : WorkOf K) (given : Refusal) → WorkRefusal w given → Contains (others (step.Carry 0)) given
  carry-tells (work.Evac evac) given is = far-tells given is.1
  carry-tells (work.Fetch fetch) given is = fault-tells given is
  carry-tells (work.Offload build) given is = fault-tells given is
  carry-tells (work.Carried carried) given is = one-of (others (step.Carry 0)) refusal.StaleJob given is stale-carry
  carry-tells (work.Fetched fetched) given is = one-of (others (step.Carry 0)) refusal.StaleJob given is stale-carry
  carry-tells (work.Offloaded build) given is = one-of (others (step.Carry 0)) refusal.StaleJob given is stale-carry

  at-tells : (besides : List Refusal) → Contains besides refusal.StaleJob → (why : JobRecord K → Refusal → Type 0) → ((job : JobRecord K) (given : Refusal) → why job given → Contains besides given) → (found : Option (JobRecord K)) (given : Refusal) → RefusalAt why found given → Contains besides given
  at-tells besides stale why tells None given is = one-of besides refusal.StaleJob given is stale
  at-tells besides stale why tells (Some job) given is = tells job given is

  module _ (number_of : K → ℕ) (old : State K) where
    commit-tells : (w : WorkOf K) (given : Refusal) → CommitRefusal number_of old w given → Contains (others (step.Commit 0)) given
    commit-tells (work.Carried carried) given (inl is) = one-of (others (step.Commit 0)) refusal.StaleJob given is.0 stale-commit
    commit-tells (work.Carried carried) given (inr is) = one-of (others (step.Commit 0)) refusal.Pinned given is.0 (1, omega arith, refl)
    commit-tells (work.Evac evac) given is = one-of (others (step.Commit 0)) refusal.StaleJob given is stale-commit
    commit-tells (work.Fetch fetch) given is = one-of (others (step.Commit 0)) refusal.StaleJob given is stale-commit
    commit-tells (work.Fetched fetched) given is = one-of (others (step.Commit 0)) refusal.StaleJob given is stale-commit
    commit-tells (work.Offload build) given is = one-of (others (step.Commit 0)) refusal.StaleJob given is stale-commit
    commit-tells (work.Offloaded build) given is = one-of (others (step.Commit 0)) refusal.StaleJob given is stale-commit

    install-tells : (content : K → List ℕ) (w : WorkOf K) (given : Refusal) → InstallRefusal number_of old content w given → Contains (others (step.Install 0)) given
    install-tells content (work.Fetched fetched) given (inl is) = one-of (others (step.Install 0)) refusal.StaleJob given is.0 stale-install
    install-tells content (work.Fetched fetched) given (inr (inl is)) = one-of (others (step.Install 0)) refusal.RegionFull given is.0 (1, omega arith, refl)
    install-tells content (work.Fetched fetched) given (inr (inr is)) = one-of (others (step.Install 0)) refusal.NoMemory given is.0 (2, omega arith, refl)
    install-tells content (work.Evac evac) given is = one-of (others (step.Install 0)) refusal.StaleJob given is stale-install
    install-tells content (work.Carried carried) given is = one-of (others (step.Install 0)) refusal.StaleJob given is stale-install
    install-tells content (work.Fetch fetch) given is = one-of (others (step.Install 0)) refusal.StaleJob given is stale-install
    install-tells content (work.Offload build) given is = one-of (others (step.Install 0)) refusal.StaleJob given is stale-install
    install-tells content (work.Offloaded build) given is = one-of (others (step.Install 0)) refusal.StaleJob given is stale-install

    merge-tells : (w : WorkOf K) (given : Refusal) → MergeRefusal number_of old w given → Contains (others (step.Merge 0)) given
    merge-tells (work.Offload build) given (inl is) = one-of (others (step.Merge 0)) refusal.NoAggregate given is.0 (1, omega arith, refl)
    merge-tells (work.Offload build) given (inr is) = one-of (others (step.Merge 0)) refusal.StaleJob given is.0 stale-merge
    merge-tells (work.Offloaded build) given (inl is) = one-of (others (step.Merge 0)) refusal.NoAggregate given is.0 (1, omega arith, refl)
    merge-tells (work.Offloaded build) given (inr (inl is)) = one-of (others (step.Merge 0)) refusal.StaleJob given is.0 stale-merge
    merge-tells (work.Offloaded build) given (inr (inr is)) = one-of (others (step.Merge 0)) refusal.NoMemory given is.0 (2, omega arith, refl)
    merge-tells (work.Evac evac) given is = one-of (others (step.Merge 0)) refusal.StaleJob given is stale-merge
    merge-tells (work.Carried carried) given is = one-of (others (step.Merge 0)) refusal.StaleJob given is stale-merge
    merge-tells (work.Fetch fetch) given is = one-of (others (step.Merge 0)) refusal.StaleJob given is stale-merge
    merge-tells (work.Fetched fetched) given is = one-of (others (step.Merge 0)) refusal.StaleJob given is stale-merge

  compact-tells : (k : Kind) (segment : ℕ) (r : Rows K) (given : Refusal) → CompactRefusal k segment r given → Contains (others (step.Compact k segment)) given
  compact-tells k segment r given (inl is) = one-of (others (step.Compact k segment)) refusal.OutOfRange given is.0 (0, omega arith, refl)
  compact-tells k segment r given (inr (inl is)) = one-of (others (step.Compact k segment)) refusal.RegionFull given is.0 (1, omega arith, refl)
  compact-tells k segment r given (inr (inr is)) = one-of (others (step.Compact k segment)) refusal.NoMemory given is.0 (2, omega arith, refl)

  compacted-objects : (k : Kind) (segment : ℕ) (old new : Rows K) → IsCompactedOf k segment old new → object_at new ≡ object_at old
  compacted-objects kind.Int segment old new h = objects-same old new (ap (λ (r : Rows K). r.column_indexes) h.1) (ap (λ (r : Rows K). r.numbers) h.1) (ap (λ (r : Rows K). r.texts) h.1)
  compacted-objects kind.Text segment old new h = objects-same old new (ap (λ (r : Rows K). r.column_indexes) h.1) (ap (λ (r : Rows K). r.numbers) h.1) (ap (λ (r : Rows K). r.texts) h.1)

-- an access does not change the table's state
module _ {K : Type 0} (old new : State K) (c : ℕ) where
  observed-view : (groups : List ℕ) → AreObserved c groups old new → table_of new ≡ table_of old
  observed-view groups h = moved-view old new old.table h.table ((λ i. object_at (h.rows i)) ∙ all-touched c groups old.rows) (rows-are old.rows (after_touch_all old.rows c groups) new.rows h.rows (rows-after_touch_all c groups old.rows))

  -- neither does a refused one
  pub saw-view : (groups : List ℕ) (result : Result Unit Refusal) → OnOk result (AreObserved c groups old new) → OnErr result (new ≡ old) → table_of new ≡ table_of old
  saw-view groups (Ok done) h same = observed-view groups h
  saw-view groups (Err why) h same = λ i. table_of (same i)

-- a lend does not change the table's state
module _ {K : Type 0} (content : K → List ℕ) (old new : State K) (c from to : ℕ) where
  pub lent-view : (given : Reply) → IsLent c from to old given new → table_of new ≡ table_of old
  lent-view given h = observed-view old new c (overlapped_groups old.rows.size from to) h.used

  -- neither does a refused lend
  pub lending-view : (pieces : List Piece) (result : Result Unit Refusal) → OnOk result ((given : Reply) × IsReplyOf (slice_get old.table.schema c) pieces given × Accepts content old (step.Lend c from to) given new) → OnErr result (new ≡ old) → table_of new ≡ table_of old
  lending-view pieces (Ok done) h same = lent-view h.0 h.2
  lending-view pieces (Err why) h same = λ i. table_of (same i)

module _ {K : Type 0} (content : K → List ℕ) (number_of : K → ℕ) (old new : World K) (kept : IsKept content old.state) where
  abbrev before : TableState
  before = table_of old.state

  abbrev after : TableState
  after = table_of new.state

  abbrev Serves : Step → Reply → Type 0
  Serves s served = (due before s ≡ None) × IsTableServed before s served after

  abbrev Goal : Step → Reply → Type 0
  Goal s given = IsTableStep before s given after

  -- an unchanged state shows an unchanged table
  same-after : new.state ≡ old.state → after ≡ before
  same-after same = λ i. table_of (same i)

  -- a step on the table
  on-table : (s : Step) (given : Reply) → ((served : Reply) → Accepts content old.state s served new.state → Serves s served) → ((why : Refusal) → WhyRefused old.state s why → IsReason before s why) → Replies (λ served. Accepts content old.state s served new.state) (λ why. (new.state ≡ old.state) × WhyRefused old.state s why) given → Goal s given
  on-table s given accepts reasons h = replies (λ served. Accepts content old.state s served new.state) (Serves s) (λ why. (new.state ≡ old.state) × WhyRefused old.state s why) (λ why. IsReason before s why × (after ≡ before)) given accepts (λ why k. (reasons why k.1, same-after k.0)) h

  edit-step : (e : Edit) (given : Reply) → IsStep content number_of old (step.Edit e) given new → Goal (step.Edit e) given
  edit-step e given h = on-table (step.Edit e) given
      (λ served k. (edit-free content old.state kept e k.1.changed.due, (k.0, edited-view content old.state new.state kept (after_edit e old.state.table) k.1.changed.table e k.1.changed.rows)))
      (edit-reason content old.state kept e) h.0

  watch-step : (spec : Spec) (given : Reply) → IsStep content number_of old (step.Watch spec) given new → Goal (step.Watch spec) given
  watch-step spec given h = on-table (step.Watch spec) given
      (λ served k. (k.2.changed.due, subst (λ (f : Option ℕ). IsSomeAnd f (λ a. (served ≡ reply.Aggregate a) × (after ≡ record before { table = after_register_at a spec old.state.table }))) (sym k.2.changed.number) (k.1, live-view new.state _ k.2.changed.state)))
      (λ why may. told (watch_refusal old.state.table spec) (due before (step.Watch spec)) (refusal.NoMemory ∷ []) true why refl (λ on. memory-alone) may) h.0

  unwatch-step : (a : ℕ) (given : Reply) → IsStep content number_of old (step.Unwatch a) given new → Goal (step.Unwatch a) given
  unwatch-step a given h = on-table (step.Unwatch a) given
      (λ served k. (k.1.changed.due, (k.0, live-view new.state _ k.1.changed.state)))
      (λ why may. told (unwatch_refusal (aggregate_at old.state.table a)) (due before (step.Unwatch a)) [] false why refl (λ on. not-on on) may) h.0

  scan-step : (a g : ℕ) (given : Reply) → IsStep content number_of old (step.ScanGroup a g) given new → Goal (step.ScanGroup a g) given
  scan-step a g given h = on-table (step.ScanGroup a g) given
      (λ served k. (sym (scan-same content old.state kept g (aggregate_at old.state.table a)) ∙ k.1.changed.due, (k.0, live-view new.state _ k.1.changed.state)))
      (λ why may. told (scan_refusal (live old.state) (aggregate_at old.state.table a) g) (due before (step.ScanGroup a g)) (refusal.NoMemory ∷ []) true why (scan-same content old.state kept g (aggregate_at old.state.table a)) (λ on. memory-alone) may) h.0

  ask-step : (a : ℕ) (given : Reply) → IsStep content number_of old (step.Ask a) given new → Goal (step.Ask a) given
  ask-step a given h = on-table (step.Ask a) given
      (λ served k. (let answers = asked old.state.table (aggregate_at old.state.table a) k.0 served k.1 k.2 in (answers.0, (answers.1, same-after k.3))))
      (λ why may. told (ask_refusal (aggregate_at old.state.table a)) (due before (step.Ask a)) (refusal.NoMemory ∷ []) true why refl (λ on. memory-alone) may) h.0

  lend-step : (c from to : ℕ) (given : Reply) → IsStep content number_of old (step.Lend c from to) given new → Goal (step.Lend c from to) given
  lend-step c from to given h = on-table (step.Lend c from to) given
      (λ served k. (let low = lends-low old.state.rows c from to k.due in (
        sym (lend-due content old.state kept c from to) ∙ k.due,
        (
          (given-cells old.state.table kept.limits c from to low served k.says, given-flags old.state.table kept.limits c from to low served k.says),
          lent-view content old.state new.state c from to served k,
        ),
      )))
      (λ why may. told (lend_refusal old.state.rows c from to) (due before (step.Lend c from to)) (refusal.NoMemory ∷ []) true why (lend-due content old.state kept c from to) (λ on. memory-alone) may) h.0

  pin-step : (c g : ℕ) (given : Reply) → IsStep content number_of old (step.Pin c g) given new → Goal (step.Pin c g) given
  pin-step c g given h = on-table (step.Pin c g) given
      (λ served k. (sym (pin-due content old.state kept c g) ∙ k.1, (k.0, pin-view content old.state new.state kept k.2.changed.table c g (object_at old.state.rows c g) refl k.2.changed.rows)))
      (λ why may. told (pin_refusal old.state.rows c g) (due before (step.Pin c g)) [] false why (pin-due content old.state kept c g) (λ on. not-on on) may) h.0

  unpin-step : (c g : ℕ) (given : Reply) → IsStep content number_of old (step.Unpin c g) given new → Goal (step.Unpin c g) given
  unpin-step c g given h = on-table (step.Unpin c g) given
      (λ served k. (sym (unpin-due content old.state kept c g) ∙ k.1, (k.0, unpin-view content old.state new.state kept k.2.changed.table c g (object_at old.state.rows c g) refl k.2.changed.rows)))
      (λ why may. told (unpin_refusal old.state.rows c g) (due before (step.Unpin c g)) [] false why (unpin-due content old.state kept c g) (λ on. not-on on) may) h.0

  compact-step : (k : Kind) (segment : ℕ) (given : Reply) → IsStep content number_of old (step.Compact k segment) given new → Goal (step.Compact k segment) given
  compact-step kd segment given h = on-table (step.Compact kd segment) given
      (λ served k. (refl, (k.0, moved-view old.state new.state old.state.table k.1.changed.table (compacted-objects kd segment old.state.rows new.state.rows k.1.changed.rows) (rows-compacted kd segment old.state.rows new.state.rows k.1.changed.rows))))
      (λ why may. inr (refl, compact-tells kd segment old.state.rows why may)) h.0

  prefetch-step : (c : ℕ) (given : Reply) → IsStep content number_of old (step.Prefetch c) given new → Goal (step.Prefetch c) given
  prefetch-step c given h = on-table (step.Prefetch c) given
      (λ served k. (k.0, same-after k.2))
      (λ why may. told (prefetch_refusal old.state.table c) (due before (step.Prefetch c)) (refusal.NoMemory ∷ []) true why refl (λ on. memory-alone) may) h.0

  -- a step that begins a job
  begun : (s : Step) (owed : Option Refusal) (job : JobRecord K → Type 0) (given : Reply) → ((served : Reply) → IsBegun job old served new → Serves s served) → ((why : Refusal) → MayRefuse (option_or owed (used_up old)) true why → IsReason before s why) → Replies (λ served. IsBegun job old served new) (λ why. IsNotBegun owed old why new) given → Goal s given
  begun s owed job given accepts reasons h = replies (λ served. IsBegun job old served new) (Serves s) (λ why. IsNotBegun owed old why new) (λ why. IsReason before s why × (after ≡ before)) given accepts (λ why k. (reasons why k.refused, same-after (λ i. (k.world i).state))) h

  evac-step : (c g : ℕ) (given : Reply) → IsStep content number_of old (step.BeginEvac c g) given new → Goal (step.BeginEvac c g) given
  evac-step c g given h = begun (step.BeginEvac c g) (evac_refusal old.state.rows c g) (IsEvacJob old.state.rows c g) given
      (λ served k. (sym (evac-due content old.state kept c g) ∙ k.begun.free, ((old.begun, k.says), same-after (λ i. (k.world i).state))))
      (λ why may. told-job (evac_refusal old.state.rows c g) (due before (step.BeginEvac c g)) (refusal.EditsUsedUp ∷ refusal.NoMemory ∷ []) (not (nat_lt old.begun old.state.table.limits.edits)) why (evac-due content old.state kept c g) (0, omega arith, refl) (1, omega arith, refl) may) h

  fetch-step : (c g : ℕ) (given : Reply) → IsStep content number_of old (step.BeginFetch c g) given new → Goal (step.BeginFetch c g) given
  fetch-step c g given h = begun (step.BeginFetch c g) (fetch_refusal old.state.rows c g) (IsFetchJob old.state.rows c g) given
      (λ served k. (sym (fetch-due content old.state kept c g) ∙ k.begun.free, ((old.begun, k.says), same-after (λ i. (k.world i).state))))
      (λ why may. told-job (fetch_refusal old.state.rows c g) (due before (step.BeginFetch c g)) (refusal.EditsUsedUp ∷ refusal.NoMemory ∷ []) (not (nat_lt old.begun old.state.table.limits.edits)) why (fetch-due content old.state kept c g) (0, omega arith, refl) (1, omega arith, refl) may) h

  offload-step : (a g : ℕ) (given : Reply) → IsStep content number_of old (step.BeginOffload a g) given new → Goal (step.BeginOffload a g) given
  offload-step a g given h = begun (step.BeginOffload a g) (offload_refusal (live old.state) (aggregate_at old.state.table a) g) (IsOffloadJob old.state a g) given
      (λ served k. (offload-free content old.state kept g (aggregate_at old.state.table a) k.begun.free, ((old.begun, k.says), same-after (λ i. (k.world i).state))))
      (λ why may. told-build (offload_refusal (live old.state) (aggregate_at old.state.table a) g) (due before (step.BeginOffload a g)) (refusal.StaleJob ∷ refusal.EditsUsedUp ∷ refusal.NoMemory ∷ []) (not (nat_lt old.begun old.state.table.limits.edits)) why
      (offload-free content old.state kept g (aggregate_at old.state.table a)) (offload-tells content old.state kept g (aggregate_at old.state.table a)) (0, omega arith, refl) (1, omega arith, refl) (2, omega arith, refl) may) h

  carry-step : (n : ℕ) (given : Reply) → IsStep content number_of old (step.Carry n) given new → Goal (step.Carry n) given
  carry-step n given h = replies (λ served. IsCarry content n old served new) (Serves (step.Carry n)) (λ why. IsNoCarry n old why new) (λ why. IsReason before (step.Carry n) why × (after ≡ before)) given
      (λ served k. (refl, (k.says, same-after (λ i. (k.world i).state))))
      (λ why k. (inr (refl, at-tells (others (step.Carry 0)) stale-carry CarryRefusal (λ job given is. carry-tells job.work given is) (job_at old.jobs n) why k.refused), same-after (λ i. (k.world i).state))) h

  -- a step that ends a job
  ended : (s : Step) (besides : List Refusal) (n : ℕ) (given : Reply) (ends : WorkOf K → State K → Type 0) (why : WorkOf K → Refusal → Type 0)
      → ((served : Reply) → served ≡ reply.Done → (w : WorkOf K) → ends w new.state → Serves s served)
      → ((e : Refusal) → Contains besides e → IsReason before s e) → Contains besides refusal.StaleJob → ((w : WorkOf K) (e : Refusal) → why w e → Contains besides e)
      → Replies (λ served. IsEnded ends n old served new) (λ e. IsNotEnded why n old e new) given → Goal s given
  ended s besides n given ends why accepts reasons stale tells h = replies (λ served. IsEnded ends n old served new) (Serves s) (λ e. IsNotEnded why n old e new) (λ e. IsReason before s e × (after ≡ before)) given
      (λ served k. some-to (λ (job : JobRecord K). ends job.work new.state) (job_at old.jobs n) (λ job is. accepts served k.says job.work is) k.ended)
      (λ e k. (reasons e (at-tells besides stale (λ (job : JobRecord K). why job.work) (λ job given is. tells job.work given is) (job_at old.jobs n) e k.refused), same-after (λ i. (k.world i).state))) h

  commit-step : (n : ℕ) (given : Reply) → IsStep content number_of old (step.Commit n) given new → Goal (step.Commit n) given
  commit-step n given h = ended (step.Commit n) (others (step.Commit 0)) n given (Commits number_of old.state) (CommitRefusal number_of old.state)
      (λ served done w is. (let gone = leaves content old.state new.state kept (commits-table content number_of old.state w new.state is) number_of w is in (refl, (done, gone.0, gone.1, gone.2, gone.3, gone.4)))) (λ e one. inr (refl, one)) stale-commit (commit-tells number_of old.state) h

  install-step : (n : ℕ) (given : Reply) → IsStep content number_of old (step.Install n) given new → Goal (step.Install n) given
  install-step n given h = ended (step.Install n) (others (step.Install 0)) n given (Installs number_of old.state content) (InstallRefusal number_of old.state content)
      (λ served done w is. (let back = arrives content old.state new.state kept (installs-table content number_of old.state w new.state is) number_of w is in (refl, (done, back.0, back.1, back.2, back.3)))) (λ e one. inr (refl, one)) stale-install (install-tells number_of old.state content) h

  merge-step : (n : ℕ) (given : Reply) → IsStep content number_of old (step.Merge n) given new → Goal (step.Merge n) given
  merge-step n given h = ended (step.Merge n) (others (step.Merge 0)) n given (Merges number_of old.state) (MergeRefusal number_of old.state)
      (λ served done w is. (let scanned = scans number_of old.state new.state w is in (refl, (done, scanned.0, scanned.1, scanned.2, scanned.3)))) (λ e one. inr (refl, one)) stale-merge (merge-tells number_of old.state) h

  pub step-table : (s : Step) (given : Reply) → IsStep content number_of old s given new → IsTableStep before s given after
  step-table (step.Edit e) given h = edit-step e given h
  step-table (step.Watch spec) given h = watch-step spec given h
  step-table (step.Unwatch a) given h = unwatch-step a given h
  step-table (step.ScanGroup a g) given h = scan-step a g given h
  step-table (step.Ask a) given h = ask-step a given h
  step-table (step.Lend c from to) given h = lend-step c from to given h
  step-table (step.Pin c g) given h = pin-step c g given h
  step-table (step.Unpin c g) given h = unpin-step c g given h
  step-table (step.Compact kd segment) given h = compact-step kd segment given h
  step-table (step.Prefetch c) given h = prefetch-step c given h
  step-table (step.BeginEvac c g) given h = evac-step c g given h
  step-table (step.BeginFetch c g) given h = fetch-step c g given h
  step-table (step.BeginOffload a g) given h = offload-step a g given h
  step-table (step.Carry n) given h = carry-step n given h
  step-table (step.Commit n) given h = commit-step n given h
  step-table (step.Install n) given h = install-step n given h
  step-table (step.Merge n) given h = merge-step n given h

-- appending one step to a run of the table
pub IsTableRun-push : (old mid new : TableState) (ss : List Step) (rs : List Reply) (s : Step) (r : Reply) → IsTableRun old ss rs mid → IsTableStep mid s r new → IsTableRun old (ss ++ s ∷ []) (rs ++ r ∷ []) new
IsTableRun-push old mid new [] [] s r h k = (new, subst (λ t. IsTableStep t s r new) h k, refl)
IsTableRun-push old mid new [] (q ∷ rs) s r h k = absurd h
IsTableRun-push old mid new (t ∷ ss) [] s r h k = absurd h
IsTableRun-push old mid new (t ∷ ss) (q ∷ rs) s r h k = (h.0, h.1, IsTableRun-push h.0 mid new ss rs s r h.2 k)
