-- One step of a run.
use Rattle.std.proofs.Common.{◌≡◌, ◌≢◌, ℕ, ◌+◌, ◌≤◌, ◌==◌, Bool, true, false, if◌then◌else◌, cond, arith, List, [], ◌∷◌, ◌++◌, IsSomeAnd, ap, sym, ◌∙◌, subst, refl, Option, None, Some}
use Rattle.std.specs.Prelude.{option_map, slice_range}
use Rattle.std.specs.List.{flat_map}
use Rattle.std.proofs.lemmas.Option.{same_Some}
use Rattle.far_types.specs.declared.answer.Answer.{Answer}
use Rattle.far_types.specs.declared.refusal.Refusal.{Refusal}
use Rattle.far_types.specs.Refusals.{number_of as refusal_number}
use Rattle.far_store.specs.Faults.{faults_of}
use Rattle.far_types.specs.Answers.{answer_over}
use Rattle.far_types.specs.Bounds.{AreLimits}
use Rattle.far_types.specs.Table.{Place, Registered, Table, left, answer_now, rows_of, part}
use Rattle.far_aggregates.specs.Aggregates.{Answers}
use Rattle.far_table.specs.Recounting.{IsAnswerNow}
use Rattle.far_table.specs.State.{LiveState}
use Rattle.far_frame.specs.State.{State, live}
use Rattle.far_table.specs.Watching.{aggregate_at}
use Rattle.far_frame.specs.declared.step.Step.{Step}
use Rattle.far_frame.specs.declared.step.Step.TheVariants as step
use Rattle.far_frame.specs.declared.step.Reply.{Reply}
use Rattle.far_frame.specs.declared.step.Reply.TheVariants as reply
use Rattle.far_frame.specs.Runs.{is_refused, is_movement, rows_after, plain_rows}
use Rattle.far_evacuator.specs.Jobs.{CarriedEvacuation}
use Rattle.far_rows.specs.Jobs.{evac_refusal, fetch_refusal, pins_by}
use Rattle.far_frame.specs.Effects.{Replies, Accepts, Refuses, Changes}
use Rattle.far_frame.specs.Lending.{IsLent, flags_of, pieces_in}
use Rattle.far_frame.proofs.LendingLaws.{given-cells, given-flags, lends-low}
use Rattle.far_table.specs.Offloading.{Build, offload_refusal}
use Rattle.far_table.specs.Watching.{after_scan_at}
use Rattle.far_frame.specs.Jobs.{JobRecord, WorkOf, IsEvacJob, IsFetchJob, IsOffloadJob, Commits, CommitRefusal, Installs, InstallRefusal, Merges, MergeRefusal}
use Rattle.far_frame.specs.declared.job.JobPhase.TheVariants as work
use Rattle.far_frame.specs.Steps.{IsStep, IsRun}
use Rattle.far_frame.specs.Waiting.{job_at}
use Rattle.far_frame.specs.Worlds.{World, HasOwnTickets, IsBegun, IsNotBegun, IsCarry, IsNoCarry, IsEnded, IsNotEnded}

-- an aggregate that answers has its answer over the current rows
answers-now : (places : List Place) (o : Option Registered) (x : Answer) → Answers places o x → IsSomeAnd o (λ r. x ≡ answer_over r.spec (rows_of places))
answers-now places None x h = absurd h
answers-now places (Some r) x h = h.1

answers-scanned : (places : List Place) (o : Option Registered) (x : Answer) → Answers places o x → IsSomeAnd o (λ r. left r.pending ≡ 0)
answers-scanned places None x h = absurd h
answers-scanned places (Some r) x h = h.0

one-answer : (o : Option Registered) (f : Registered → Answer) (x y : Answer) → IsSomeAnd o (λ r. x ≡ f r) → IsSomeAnd o (λ r. y ≡ f r) → x ≡ y
one-answer None f x y h k = absurd h
one-answer (Some r) f x y h k = h ∙ sym k

-- two aggregates with the same specification have the same answer over the same rows
alike : (o p : Option Registered) (these those : List Place) (x y : Answer) → these ≡ those → option_map (λ (r : Registered). r.spec) o ≡ option_map (λ (r : Registered). r.spec) p
    → IsSomeAnd o (λ r. x ≡ answer_over r.spec (rows_of these)) → IsSomeAnd p (λ r. y ≡ answer_over r.spec (rows_of those)) → x ≡ y
alike None p these those x y rows same h k = absurd h
alike (Some r) None these those x y rows same h k = absurd k
alike (Some r) (Some q) these those x y rows same h k = (let spec : r.spec ≡ q.spec = same_Some r.spec q.spec same in h ∙ (λ i. answer_over (spec i) (rows_of (rows i))) ∙ sym k)

the-answer : (o : Option Registered) (r : Registered) (f : Registered → Answer) (x : Answer) → o ≡ Some r → IsSomeAnd o (λ q. x ≡ f q) → x ≡ f r
the-answer None r f x is h = absurd h
the-answer (Some q) r f x is h = h ∙ ap f (same_Some q r is)

pub recounted-answer : (table : Table) (a : ℕ) (x : Answer) (r : Registered) → aggregate_at table a ≡ Some r → IsAnswerNow table a x → x ≡ answer_now r.spec table
recounted-answer table a x r is h = the-answer (aggregate_at table a) r (λ q. answer_now q.spec table) x is h

pub recounted-same : (table : Table) (a : ℕ) (one other : Answer) → IsAnswerNow table a one → IsAnswerNow table a other → one ≡ other
recounted-same table a one other h k = one-answer (aggregate_at table a) (λ r. answer_now r.spec table) one other h k

given-answer : (x y : Answer) → reply.Answer x ≡ reply.Answer y → y ≡ x
given-answer x y h = cc

-- a consequence for each reply, whether it serves or refuses
pub replied : {A : Type 0} (serves : Reply → Type 0) (refuses : Refusal → Type 0) (given : Reply) → ((served : Reply) → serves served → A) → ((why : Refusal) → refuses why → A) → Replies serves refuses given → A
replied serves refuses (reply.Refused why) f g h = g why h
replied serves refuses (reply.Place place) f g h = f (reply.Place place) h
replied serves refuses reply.Done f g h = f reply.Done h
replied serves refuses (reply.Aggregate a) f g h = f (reply.Aggregate a) h
replied serves refuses (reply.Answer x) f g h = f (reply.Answer x) h
replied serves refuses (reply.Ints pieces) f g h = f (reply.Ints pieces) h
replied serves refuses (reply.Texts pieces) f g h = f (reply.Texts pieces) h
replied serves refuses (reply.Job n) f g h = f (reply.Job n) h
replied serves refuses (reply.Next found) f g h = f (reply.Next found) h

-- a reply that is not a refusal serves
pub served : (serves : Reply → Type 0) (refuses : Refusal → Type 0) (given : Reply) → is_refused given ≡ false → Replies serves refuses given → serves given
served serves refuses (reply.Refused why) is h = absurd (let on : true ≡ false = is in cc)
served serves refuses (reply.Place place) is h = h
served serves refuses reply.Done is h = h
served serves refuses (reply.Aggregate a) is h = h
served serves refuses (reply.Answer x) is h = h
served serves refuses (reply.Ints pieces) is h = h
served serves refuses (reply.Texts pieces) is h = h
served serves refuses (reply.Job n) is h = h
served serves refuses (reply.Next found) is h = h

either : {A : Type 0} (b : Bool) (x y : A) → y ≡ x → y ≡ cond b x x
either true x y h = h
either false x y h = h

at-most-one : (b : Bool) → (if b then 1 else 0) ≤ 1
at-most-one true = omega arith
at-most-one false = omega arith

few-faults : (e : Refusal) → faults_of e ≤ 1
few-faults e = at-most-one (refusal_number e == 21)

not-moved : false ≡ true → ⊥
not-moved h = cc

module _ {K : Type 0} (content : K → List ℕ) (number_of : K → ℕ) where
  pub IsRun-push : (is_of : K → List ℕ → Type 0) (old mid new : World K) (ss : List Step) (rs : List Reply) (s : Step) (r : Reply) → IsRun is_of content number_of old ss rs mid → IsStep content number_of mid s r new → HasOwnTickets is_of new → IsRun is_of content number_of old (ss ++ s ∷ []) (rs ++ r ∷ []) new
  IsRun-push is_of old mid new [] [] s r h k own = (new, subst (λ t. IsStep content number_of t s r new) h k, own, refl)
  IsRun-push is_of old mid new [] (q ∷ rs) s r h k own = absurd h
  IsRun-push is_of old mid new (t ∷ ss) [] s r h k own = absurd h
  IsRun-push is_of old mid new (t ∷ ss) (q ∷ rs) s r h k own = (h.0, h.1, h.2, IsRun-push is_of h.0 mid new ss rs s r h.3 k own)

  pub runs-join : (is_of : K → List ℕ → Type 0) (old : World K) (steps : List Step) (replies : List Reply) (mid : World K) (more : List Step) (others : List Reply) (new : World K) → IsRun is_of content number_of old steps replies mid → IsRun is_of content number_of mid more others new → IsRun is_of content number_of old (steps ++ more) (replies ++ others) new
  runs-join is_of old [] [] mid more others new h k = subst (λ s. IsRun is_of content number_of s more others new) h k
  runs-join is_of old [] (given ∷ replies) mid more others new h k = absurd h
  runs-join is_of old (s ∷ steps) [] mid more others new h k = absurd h
  runs-join is_of old (s ∷ steps) (given ∷ replies) mid more others new h k = (h.0, h.1, h.2, runs-join is_of h.0 steps replies mid more others new h.3 k)

  -- the reply to `Ask` is the answer of the aggregate
  answered : (old : World K) (a : ℕ) (x : Answer) (new : World K) → IsStep content number_of old (step.Ask a) (reply.Answer x) new → Answers old.state.table.places (aggregate_at old.state.table a) x
  answered old a x new k = (let same : k.0.0 ≡ x = given-answer x k.0.0 k.0.1 in subst (Answers old.state.table.places (aggregate_at old.state.table a)) same k.0.2)

  pub answer-now : (old : World K) (a : ℕ) (x : Answer) (new : World K) → IsStep content number_of old (step.Ask a) (reply.Answer x) new → IsAnswerNow old.state.table a x
  answer-now old a x new k = answers-now old.state.table.places (aggregate_at old.state.table a) x (answered old a x new k)

  pub answer-scanned : (old : World K) (a : ℕ) (x : Answer) (new : World K) → IsStep content number_of old (step.Ask a) (reply.Answer x) new → IsSomeAnd (aggregate_at old.state.table a) (λ r. left r.pending ≡ 0)
  answer-scanned old a x new k = answers-scanned old.state.table.places (aggregate_at old.state.table a) x (answered old a x new k)

  pub answer-recounted : (table : Table) (a : ℕ) (counted : Answer) → IsAnswerNow table a counted → (old : World K) → old.state.table.places ≡ table.places → option_map (λ (r : Registered). r.spec) (aggregate_at old.state.table a) ≡ option_map (λ (r : Registered). r.spec) (aggregate_at table a)
      → (x : Answer) (new : World K) → IsStep content number_of old (step.Ask a) (reply.Answer x) new → x ≡ counted
  answer-recounted table a counted h old rows same x new k = alike (aggregate_at old.state.table a) (aggregate_at table a) old.state.table.places table.places x counted rows same (answer-now old a x new k) h

  -- the pieces in a reply to `Lend` are the part of the column
  module _ (old : World K) (limits : AreLimits old.state.table.limits) (column from to : ℕ) (given : Reply) (new : World K) (accepted : is_refused given ≡ false) (taken : IsStep content number_of old (step.Lend column from to) given new) where
    lent : IsLent column from to old.state given new.state
    lent = served (λ served. IsLent column from to old.state served new.state) (λ why. Refuses old.state (step.Lend column from to) why new.state) given accepted taken.0

    pub lent-cells : flat_map (λ piece. piece.cells) (pieces_in given) ≡ part column from to old.state.table.places
    lent-cells = given-cells old.state.table limits column from to (lends-low old.state.rows column from to lent.due) given lent.says

    pub lent-flags : flat_map (λ piece. piece.flags) (pieces_in given) ≡ slice_range (flags_of old.state.table.places) from to
    lent-flags = given-flags old.state.table limits column from to (lends-low old.state.rows column from to lent.due) given lent.says

  -- if a step on the table keeps the state, it keeps the world
  same-world : (old new : World K) → new.state ≡ old.state → new ≡ record old { state = new.state } → new ≡ old
  same-world old new h k = k ∙ ap (λ (s : State K). record old { state = s }) h

  pub asked-same : (old : World K) (a : ℕ) (x : Answer) (new : World K) → IsStep content number_of old (step.Ask a) (reply.Answer x) new → new ≡ old
  asked-same old a x new k = same-world old new k.0.3 k.1

  -- only edits change the rows
  accepted-rows : (old new : State K) (s : Step) (given : Reply) → Accepts content old s given new → new.table.places ≡ rows_after s old.table.places
  accepted-rows old new (step.Edit e) given h = ap (λ t. t.places) h.1.changed.table
  accepted-rows old new (step.Watch spec) given h = ap (λ (t : LiveState K). t.table.places) h.2.changed.state
  accepted-rows old new (step.Unwatch a) given h = ap (λ (t : LiveState K). t.table.places) h.1.changed.state
  accepted-rows old new (step.ScanGroup a g) given h = ap (λ (t : LiveState K). t.table.places) h.1.changed.state
  accepted-rows old new (step.Ask a) given h = ap (λ (t : State K). t.table.places) h.3
  accepted-rows old new (step.Lend column from to) given h = ap (λ t. t.places) h.used.table
  accepted-rows old new (step.Pin column group) given h = ap (λ t. t.places) h.2.changed.table
  accepted-rows old new (step.Unpin column group) given h = ap (λ t. t.places) h.2.changed.table
  accepted-rows old new (step.Compact kind segment) given h = ap (λ t. t.places) h.1.changed.table
  accepted-rows old new (step.Prefetch column) given h = ap (λ (t : State K). t.table.places) h.2
  accepted-rows old new (step.BeginEvac column group) given h = absurd h
  accepted-rows old new (step.BeginFetch column group) given h = absurd h
  accepted-rows old new (step.BeginOffload a g) given h = absurd h
  accepted-rows old new (step.Carry n) given h = absurd h
  accepted-rows old new (step.Commit n) given h = absurd h
  accepted-rows old new (step.Install n) given h = absurd h
  accepted-rows old new (step.Merge n) given h = absurd h

  changed-rows : (old new : State K) (s : Step) (given : Reply) → Changes content old s given new → new.table.places ≡ cond (is_refused given) old.table.places (rows_after s old.table.places)
  changed-rows old new s (reply.Refused given) h = ap (λ (t : State K). t.table.places) h.0
  changed-rows old new s (reply.Place place) h = accepted-rows old new s (reply.Place place) h
  changed-rows old new s reply.Done h = accepted-rows old new s reply.Done h
  changed-rows old new s (reply.Aggregate a) h = accepted-rows old new s (reply.Aggregate a) h
  changed-rows old new s (reply.Answer x) h = accepted-rows old new s (reply.Answer x) h
  changed-rows old new s (reply.Ints pieces) h = accepted-rows old new s (reply.Ints pieces) h
  changed-rows old new s (reply.Texts pieces) h = accepted-rows old new s (reply.Texts pieces) h
  changed-rows old new s (reply.Job n) h = accepted-rows old new s (reply.Job n) h
  changed-rows old new s (reply.Next found) h = accepted-rows old new s (reply.Next found) h

  pub commits-table : (old : State K) (w : WorkOf K) (new : State K) → Commits number_of old w new → new.table ≡ old.table
  commits-table old (work.Carried carried) new h = h.changed.table
  commits-table old (work.Evac evac) new h = absurd h
  commits-table old (work.Fetch fetch) new h = absurd h
  commits-table old (work.Fetched fetched) new h = absurd h
  commits-table old (work.Offload build) new h = absurd h
  commits-table old (work.Offloaded build) new h = absurd h

  pub pinned-stays : (old : World K) (n : ℕ) (job : JobRecord K) (carried : CarriedEvacuation K) → job_at old.jobs n ≡ Some job → job.work ≡ work.Carried carried → pins_by old.state.rows carried ≢ 0 → (new : World K) → ¬ (IsStep content number_of old (step.Commit n) reply.Done new)
  pinned-stays old n job carried is phase pins new k =
      let found : IsSomeAnd (Some job) (λ j. Commits number_of old.state j.work new.state) = subst (λ (o : Option (JobRecord K)). IsSomeAnd o (λ j. Commits number_of old.state j.work new.state)) is k.ended in
      pins (subst (λ (w : WorkOf K). Commits number_of old.state w new.state) phase found).changed.rows.free

  pub installs-table : (old : State K) (w : WorkOf K) (new : State K) → Installs number_of old content w new → new.table ≡ old.table
  installs-table old (work.Fetched fetched) new h = h.changed.table
  installs-table old (work.Evac evac) new h = absurd h
  installs-table old (work.Carried carried) new h = absurd h
  installs-table old (work.Fetch fetch) new h = absurd h
  installs-table old (work.Offload build) new h = absurd h
  installs-table old (work.Offloaded build) new h = absurd h

  merges-rows : (old : State K) (w : WorkOf K) (new : State K) → Merges number_of old w new → new.table.places ≡ old.table.places
  merges-rows old (work.Offloaded build) new h = ap (λ (t : LiveState K). t.table.places) h.changed.state
  merges-rows old (work.Evac evac) new h = absurd h
  merges-rows old (work.Carried carried) new h = absurd h
  merges-rows old (work.Fetch fetch) new h = absurd h
  merges-rows old (work.Fetched fetched) new h = absurd h
  merges-rows old (work.Offload build) new h = absurd h

  -- an accepted merge scans the row group of its build
  module _ (old : World K) (n : ℕ) (job : JobRecord K) (build : Build K) (is : job_at old.jobs n ≡ Some job) (phase : job.work ≡ work.Offloaded build) (new : World K) (taken : IsStep content number_of old (step.Merge n) reply.Done new) where
    merged : Merges number_of old.state (work.Offloaded build) new.state
    merged =
        let found : IsSomeAnd (Some job) (λ j. Merges number_of old.state j.work new.state) = subst (λ (o : Option (JobRecord K)). IsSomeAnd o (λ j. Merges number_of old.state j.work new.state)) is taken.ended in
        subst (λ (w : WorkOf K). Merges number_of old.state w new.state) phase found

    pub merged-state : new.state ≡ record old.state { table = after_scan_at build.aggregate build.group old.state.table }
    merged-state = λ i. record { table = (merged.changed.state i).table; rows = (merged.changed.state i).rows; accesses = merged.accesses i }

    pub merged-scan : (scanned : World K) → IsStep content number_of old (step.ScanGroup build.aggregate build.group) reply.Done scanned → new.state ≡ scanned.state
    merged-scan scanned h =
        let by_scan : scanned.state ≡ record old.state { table = after_scan_at build.aggregate build.group old.state.table } = λ i. record { table = (h.0.1.changed.state i).table; rows = (h.0.1.changed.state i).rows; accesses = h.0.1.accesses i } in
        merged-state ∙ sym by_scan

  same-faults : (old new : World K) (serves : Reply → World K → Type 0) (refuses : Refusal → World K → Type 0) (given : Reply) → ((served : Reply) → serves served new → new.faults ≡ old.faults) → ((why : Refusal) → refuses why new → new.faults ≡ old.faults) → Replies (λ served. serves served new) (λ why. refuses why new) given → new.faults ≤ old.faults + 1
  same-faults old new serves refuses given f g h = (let same = replied (λ served. serves served new) (λ why. refuses why new) given f g h in omega (arith, same))

  -- beginning and ending jobs keeps the table
  module _ (old new : World K) (given : Reply) where
    some-ended : {P : Type 0} (ends : WorkOf K → State K → Type 0) → ((w : WorkOf K) → ends w new.state → P) → (found : Option (JobRecord K)) → IsSomeAnd found (λ job. ends job.work new.state) → P
    some-ended ends each None h = absurd h
    some-ended ends each (Some job) h = each job.work h

    begun-table : (begins : JobRecord K → Type 0) (due : Option Refusal) → Replies (λ served. IsBegun begins old served new) (λ why. IsNotBegun due old why new) given → new.state.table ≡ old.state.table
    begun-table begins due h = replied (λ served. IsBegun begins old served new) (λ why. IsNotBegun due old why new) given (λ served k. ap (λ (w : World K). w.state.table) k.world) (λ why k. ap (λ (w : World K). w.state.table) k.world) h

    carry-table : (n : ℕ) → Replies (λ served. IsCarry content n old served new) (λ why. IsNoCarry n old why new) given → new.state.table ≡ old.state.table
    carry-table n h = replied (λ served. IsCarry content n old served new) (λ why. IsNoCarry n old why new) given (λ served k. ap (λ (w : World K). w.state.table) k.world) (λ why k. ap (λ (w : World K). w.state.table) k.world) h

    pub ended-so : {P : Type 0} (n : ℕ) (ends : WorkOf K → State K → Type 0) (why : WorkOf K → Refusal → Type 0) → ((w : WorkOf K) → ends w new.state → P) → (new.state ≡ old.state → P) → Replies (λ served. IsEnded ends n old served new) (λ e. IsNotEnded why n old e new) given → P
    ended-so n ends why each stays h = replied (λ served. IsEnded ends n old served new) (λ e. IsNotEnded why n old e new) given (λ served k. some-ended ends each (job_at old.jobs n) k.ended) (λ e k. stays (ap (λ (w : World K). w.state) k.world)) h

    ended-table : (n : ℕ) (ends : WorkOf K → State K → Type 0) (why : WorkOf K → Refusal → Type 0) → ((w : WorkOf K) → ends w new.state → new.state.table ≡ old.state.table) → Replies (λ served. IsEnded ends n old served new) (λ e. IsNotEnded why n old e new) given → new.state.table ≡ old.state.table
    ended-table n ends why each h = ended-so n ends why each (λ same. ap (λ (t : State K). t.table) same) h

  -- a step that moves objects or concerns a job keeps the table
  pub moved-table : (old : World K) (s : Step) (given : Reply) (new : World K) → is_movement s ≡ true → IsStep content number_of old s given new → new.state.table ≡ old.state.table
  moved-table old (step.Lend column from to) given new is k = replied (λ served. Accepts content old.state (step.Lend column from to) served new.state) (λ why. Refuses old.state (step.Lend column from to) why new.state) given (λ served h. h.used.table) (λ why h. ap (λ (t : State K). t.table) h.0) k.0
  moved-table old (step.Prefetch column) given new is k = replied (λ served. Accepts content old.state (step.Prefetch column) served new.state) (λ why. Refuses old.state (step.Prefetch column) why new.state) given (λ served h. ap (λ (t : State K). t.table) h.2) (λ why h. ap (λ (t : State K). t.table) h.0) k.0
  moved-table old (step.Pin column group) given new is k = replied (λ served. Accepts content old.state (step.Pin column group) served new.state) (λ why. Refuses old.state (step.Pin column group) why new.state) given (λ served h. h.2.changed.table) (λ why h. ap (λ (t : State K). t.table) h.0) k.0
  moved-table old (step.Unpin column group) given new is k = replied (λ served. Accepts content old.state (step.Unpin column group) served new.state) (λ why. Refuses old.state (step.Unpin column group) why new.state) given (λ served h. h.2.changed.table) (λ why h. ap (λ (t : State K). t.table) h.0) k.0
  moved-table old (step.Compact kind segment) given new is k = replied (λ served. Accepts content old.state (step.Compact kind segment) served new.state) (λ why. Refuses old.state (step.Compact kind segment) why new.state) given (λ served h. h.1.changed.table) (λ why h. ap (λ (t : State K). t.table) h.0) k.0
  moved-table old (step.BeginEvac column group) given new is k = begun-table old new given (IsEvacJob old.state.rows column group) (evac_refusal old.state.rows column group) k
  moved-table old (step.BeginFetch column group) given new is k = begun-table old new given (IsFetchJob old.state.rows column group) (fetch_refusal old.state.rows column group) k
  moved-table old (step.BeginOffload a g) given new is k = begun-table old new given (IsOffloadJob old.state a g) (offload_refusal (live old.state) (aggregate_at old.state.table a) g) k
  moved-table old (step.Carry n) given new is k = carry-table old new given n k
  moved-table old (step.Commit n) given new is k = ended-table old new given n (Commits number_of old.state) (CommitRefusal number_of old.state) (λ w h. commits-table old.state w new.state h) k
  moved-table old (step.Install n) given new is k = ended-table old new given n (Installs number_of old.state content) (InstallRefusal number_of old.state content) (λ w h. installs-table old.state w new.state h) k
  moved-table old (step.Merge n) given new is k = absurd (not-moved is)
  moved-table old (step.Edit e) given new is k = absurd (not-moved is)
  moved-table old (step.Watch spec) given new is k = absurd (not-moved is)
  moved-table old (step.Unwatch a) given new is k = absurd (not-moved is)
  moved-table old (step.ScanGroup a g) given new is k = absurd (not-moved is)
  moved-table old (step.Ask a) given new is k = absurd (not-moved is)

  moved-rows : (old : World K) (s : Step) (given : Reply) (new : World K) → is_movement s ≡ true → IsStep content number_of old s given new → new.state.table.places ≡ cond (is_refused given) old.state.table.places old.state.table.places
  moved-rows old s given new is k = either (is_refused given) old.state.table.places new.state.table.places (ap (λ t. t.places) (moved-table old s given new is k))

  step-rows : (old : World K) (s : Step) (given : Reply) (new : World K) → IsStep content number_of old s given new → new.state.table.places ≡ cond (is_refused given) old.state.table.places (rows_after s old.state.table.places)
  step-rows old (step.Edit e) given new h = changed-rows old.state new.state (step.Edit e) given h.0
  step-rows old (step.Watch spec) given new h = changed-rows old.state new.state (step.Watch spec) given h.0
  step-rows old (step.Unwatch a) given new h = changed-rows old.state new.state (step.Unwatch a) given h.0
  step-rows old (step.ScanGroup a g) given new h = changed-rows old.state new.state (step.ScanGroup a g) given h.0
  step-rows old (step.Ask a) given new h = changed-rows old.state new.state (step.Ask a) given h.0
  step-rows old (step.Lend column from to) given new h = moved-rows old (step.Lend column from to) given new refl h
  step-rows old (step.Prefetch column) given new h = moved-rows old (step.Prefetch column) given new refl h
  step-rows old (step.Pin column group) given new h = moved-rows old (step.Pin column group) given new refl h
  step-rows old (step.Unpin column group) given new h = moved-rows old (step.Unpin column group) given new refl h
  step-rows old (step.Compact kind segment) given new h = moved-rows old (step.Compact kind segment) given new refl h
  step-rows old (step.BeginEvac column group) given new h = moved-rows old (step.BeginEvac column group) given new refl h
  step-rows old (step.BeginFetch column group) given new h = moved-rows old (step.BeginFetch column group) given new refl h
  step-rows old (step.BeginOffload a g) given new h = moved-rows old (step.BeginOffload a g) given new refl h
  step-rows old (step.Carry n) given new h = moved-rows old (step.Carry n) given new refl h
  step-rows old (step.Commit n) given new h = moved-rows old (step.Commit n) given new refl h
  step-rows old (step.Install n) given new h = moved-rows old (step.Install n) given new refl h
  step-rows old (step.Merge n) given new h = either (is_refused given) old.state.table.places new.state.table.places (ended-so old new given n (Merges number_of old.state) (MergeRefusal number_of old.state) (λ w m. merges-rows old.state w new.state m) (λ same. ap (λ (t : State K). t.table.places) same) h)

  pub run-rows : (is_of : K → List ℕ → Type 0) (old : World K) (steps : List Step) (replies : List Reply) (new : World K) → IsRun is_of content number_of old steps replies new → new.state.table.places ≡ plain_rows steps replies old.state.table.places
  run-rows is_of old [] [] new h = ap (λ (t : World K). t.state.table.places) h
  run-rows is_of old [] (given ∷ replies) new h = absurd h
  run-rows is_of old (s ∷ steps) [] new h = absurd h
  run-rows is_of old (s ∷ steps) (given ∷ replies) new h = run-rows is_of h.0 steps replies new h.3 ∙ ap (plain_rows steps replies) (step-rows old s given h.0 h.1)

  -- a refused step keeps the table and its objects
  pub refused-state : (old : World K) (s : Step) (e : Refusal) (new : World K) → IsStep content number_of old s (reply.Refused e) new → new.state ≡ old.state
  refused-state old (step.Edit e) why new h = h.0.0
  refused-state old (step.Watch spec) why new h = h.0.0
  refused-state old (step.Unwatch a) why new h = h.0.0
  refused-state old (step.ScanGroup a g) why new h = h.0.0
  refused-state old (step.Ask a) why new h = h.0.0
  refused-state old (step.Lend column from to) why new h = h.0.0
  refused-state old (step.Prefetch column) why new h = h.0.0
  refused-state old (step.Pin column group) why new h = h.0.0
  refused-state old (step.Unpin column group) why new h = h.0.0
  refused-state old (step.Compact kind segment) why new h = h.0.0
  refused-state old (step.BeginEvac column group) why new h = ap (λ (w : World K). w.state) h.world
  refused-state old (step.BeginFetch column group) why new h = ap (λ (w : World K). w.state) h.world
  refused-state old (step.BeginOffload a g) why new h = ap (λ (w : World K). w.state) h.world
  refused-state old (step.Merge n) why new h = ap (λ (w : World K). w.state) h.world
  refused-state old (step.Carry n) why new h = ap (λ (w : World K). w.state) h.world
  refused-state old (step.Commit n) why new h = ap (λ (w : World K). w.state) h.world
  refused-state old (step.Install n) why new h = ap (λ (w : World K). w.state) h.world

  -- a step meets at most one fault
  table-faults : (old new : World K) → new ≡ record old { state = new.state } → new.faults ≤ old.faults + 1
  table-faults old new h = omega (arith, ap (λ (w : World K). w.faults) h)

  pub step-faults : (old : World K) (s : Step) (given : Reply) (new : World K) → IsStep content number_of old s given new → new.faults ≤ old.faults + 1
  step-faults old (step.Edit e) given new h = table-faults old new h.1
  step-faults old (step.Watch spec) given new h = table-faults old new h.1
  step-faults old (step.Unwatch a) given new h = table-faults old new h.1
  step-faults old (step.ScanGroup a g) given new h = table-faults old new h.1
  step-faults old (step.Ask a) given new h = table-faults old new h.1
  step-faults old (step.Lend column from to) given new h = table-faults old new h.1
  step-faults old (step.Prefetch column) given new h = table-faults old new h.1
  step-faults old (step.Pin column group) given new h = table-faults old new h.1
  step-faults old (step.Unpin column group) given new h = table-faults old new h.1
  step-faults old (step.Compact kind segment) given new h = table-faults old new h.1
  step-faults old (step.BeginEvac column group) given new h = same-faults old new (IsBegun (IsEvacJob old.state.rows column group) old) (IsNotBegun (evac_refusal old.state.rows column group) old) given (λ served k. ap (λ (w : World K). w.faults) k.world) (λ why k. ap (λ (w : World K). w.faults) k.world) h
  step-faults old (step.BeginFetch column group) given new h = same-faults old new (IsBegun (IsFetchJob old.state.rows column group) old) (IsNotBegun (fetch_refusal old.state.rows column group) old) given (λ served k. ap (λ (w : World K). w.faults) k.world) (λ why k. ap (λ (w : World K). w.faults) k.world) h
  step-faults old (step.Commit n) given new h = same-faults old new (IsEnded (Commits number_of old.state) n old) (IsNotEnded (CommitRefusal number_of old.state) n old) given (λ served k. ap (λ (w : World K). w.faults) k.world) (λ why k. ap (λ (w : World K). w.faults) k.world) h
  step-faults old (step.Install n) given new h = same-faults old new (IsEnded (Installs number_of old.state content) n old) (IsNotEnded (InstallRefusal number_of old.state content) n old) given (λ served k. ap (λ (w : World K). w.faults) k.world) (λ why k. ap (λ (w : World K). w.faults) k.world) h
  step-faults old (step.BeginOffload a g) given new h = same-faults old new (IsBegun (IsOffloadJob old.state a g) old) (IsNotBegun (offload_refusal (live old.state) (aggregate_at old.state.table a) g) old) given (λ served k. ap (λ (w : World K). w.faults) k.world) (λ why k. ap (λ (w : World K). w.faults) k.world) h
  step-faults old (step.Merge n) given new h = same-faults old new (IsEnded (Merges number_of old.state) n old) (IsNotEnded (MergeRefusal number_of old.state) n old) given (λ served k. ap (λ (w : World K). w.faults) k.world) (λ why k. ap (λ (w : World K). w.faults) k.world) h
  step-faults old (step.Carry n) given new h = replied (λ served. IsCarry content n old served new) (λ why. IsNoCarry n old why new) given
      (λ served k. omega (arith, ap (λ (w : World K). w.faults) k.world))
      (λ why k. omega (arith, ap (λ (w : World K). w.faults) k.world, few-faults why)) h
