-- Scanning row groups changes no row, and the codes with which it is refused.
use Rattle.std.proofs.Common.{◌≡◌, ◌≢◌, ℕ, zero, suc, ◌+◌, Bool, true, false, not, List, [], ◌∷◌, length, ap, sym, ◌∙◌, subst, refl, Option, None, Some, option_map, IsSomeAnd, Result, IfOk, IfErr, OnOk, arith}
use Rattle.std.specs.declared.result.Result.TheVariants.{Ok, Err}
use Rattle.std.specs.Prelude.{◌<◌, ◌≤◌, IsErrOf, is_none, slice_get, slice_set, nat_lt}
use Rattle.std.specs.Option.{option_or}
use Rattle.std.specs.List.{AllByRecursion}
use Rattle.std.proofs.lemmas.List.{length-set}
use Rattle.far_types.specs.declared.refusal.Refusal.{Refusal}
use Rattle.far_types.specs.declared.refusal.Refusal.TheVariants as refusal
use Rattle.far_types.specs.declared.spec.Spec.{Spec}
use Rattle.far_types.specs.FirstOf.{first_of}
use Rattle.far_scopes.specs.Refusing.{refusal_in}
use Rattle.far_types.specs.MayRefuse.{MayRefuse}
use Rattle.far_types.specs.Table.{Table, Registered, is_pending}
use Rattle.far_aggregates.specs.Aggregates.{is_pending_in, flattened, after_scan}
use Rattle.far_aggregates.proofs.AccumulatorsTotals.{none_left}
use Rattle.far_rows.specs.declared.column_index.ColumnIndex.{ColumnIndex}
use Rattle.far_rows.specs.Rows.{Rows}
use Rattle.far_rows.specs.Jobs.{fetch_refusal}
use Rattle.far_rows.specs.Moving.{object_at}
use Rattle.far_rows.specs.Refusing.{absent_in}
use Rattle.far_table.specs.State.{LiveState}
use Rattle.far_table.specs.Offloading.{offload_refusal, dirty_from}
use Rattle.far_table.specs.Watching.{aggregate_at, after_scan_at, scan_refusal, group_count, needed_from, IsScanned}
use Rattle.far_frame.specs.declared.job.JobPhase.TheVariants as work_of
use Rattle.far_frame.specs.Jobs.{WorkOf, IsOneOf, Commits, Installs, Merges}
use Rattle.far_frame.specs.State.{State}
use Rattle.far_shared.specs.Fours.{pending_in}
use Rattle.far_shared.specs.Works.{KeepsRows, begun_kind}
use Rattle.far_shared.proofs.FoursPending.{scanned-fewer, no-more, set-fewer}
use Rattle.far_shared.proofs.JobsRefusals.{given-one, of-one, first-among, may-among}

-- an unchanged table keeps its rows
pub same-keeps : (old new : Table) → new ≡ old → KeepsRows old new
same-keeps old new e = record {
  schema = ap (λ (t : Table). t.schema) e;
  limits = ap (λ (t : Table). t.limits) e;
  places = ap (λ (t : Table). t.places) e;
  edits = ap (λ (t : Table). t.edits) e;
  aggregates = ap (λ (t : Table). length t.aggregates) e;
  scanned = λ a none. ap (λ (t : Table). aggregate_at t a) e;
  fewer = λ a. no-more _ _ (ap (λ (t : Table). pending_in (aggregate_at t a)) e);
}

-- a consequence of a fact that holds if the call is accepted
pub either-carried : {A : Type 0} (r : Result A Refusal) (P Q : Type 0) → (P → Q) → OnOk r P → OnOk r Q
either-carried (Ok x) P Q f is = f is
either-carried (Err e) P Q f is = tt

get-set_other : {X : Type 0} (xs : List X) (i k : ℕ) (x : X) → k ≢ i → slice_get (slice_set xs i x) k ≡ slice_get xs k
get-set_other [] i k x h = refl
get-set_other (y ∷ xs) zero zero x h = absurd (h refl)
get-set_other (y ∷ xs) zero (suc k) x h = refl
get-set_other (y ∷ xs) (suc i) zero x h = refl
get-set_other (y ∷ xs) (suc i) (suc k) x h = get-set_other xs i k x (λ e. h (ap suc e))

-- an aggregate with a pending row group has a positive number of them
some-left : (aggregate : Option Registered) (g : ℕ) → is_pending_in aggregate g ≡ true → pending_in aggregate ≡ 0 → ⊥
some-left None g h none = (let off : false ≡ true = h in cc)
some-left (Some r) g h none = (let on : is_pending r.pending g ≡ true = h in let off = none_left r.pending g none in cc)

-- scanning a pending row group keeps the rows
pub scanned-keeps : (t : Table) (b g : ℕ) → is_pending_in (aggregate_at t b) g ≡ true → KeepsRows t (after_scan_at b g t)
scanned-keeps t b g h = record {
  schema = refl;
  limits = refl;
  places = refl;
  edits = refl;
  aggregates = length-set t.aggregates b _;
  scanned = λ a none. ap flattened (get-set_other t.aggregates b a _ (λ e. some-left (aggregate_at t b) g h (ap (λ n. pending_in (aggregate_at t n)) (sym e) ∙ none)));
  fewer = λ a. set-fewer t.aggregates b a (option_map (after_scan g) (aggregate_at t b)) (scanned-fewer (aggregate_at t b) g h);
}

-- the row group of an accepted build was pending
left-some : (o : Option Registered) (g : ℕ) (P : Registered → Type 0) → ((r : Registered) → P r → is_pending r.pending g ≡ true) → IsSomeAnd o P → is_pending_in o g ≡ true
left-some None g P f h = absurd h
left-some (Some r) g P f h = f r h

module _ {K : Type 0} where
  -- an accepted merge keeps the rows
  pub merges-keeps : (number_of : K → ℕ) (old : State K) (w : WorkOf K) (new : State K) → Merges number_of old w new → KeepsRows old.table new.table
  merges-keeps number_of old (work_of.Offloaded build) new h =
      subst (KeepsRows old.table) (sym (ap (λ (s : LiveState K). s.table) h.changed.state))
      (scanned-keeps old.table build.aggregate build.group (left-some (aggregate_at old.table build.aggregate) build.group _ (λ r holds. holds.pending) h.changed.accepted))
  merges-keeps number_of old (work_of.Evac evac) new h = absurd h
  merges-keeps number_of old (work_of.Carried carried) new h = absurd h
  merges-keeps number_of old (work_of.Fetch fetch) new h = absurd h
  merges-keeps number_of old (work_of.Fetched fetched) new h = absurd h
  merges-keeps number_of old (work_of.Offload build) new h = absurd h

  -- a job that moves an object keeps the table
  pub commits-keeps : (number_of : K → ℕ) (old : State K) (w : WorkOf K) (new : State K) → Commits number_of old w new → KeepsRows old.table new.table
  commits-keeps number_of old (work_of.Carried carried) new h = same-keeps old.table new.table h.changed.table
  commits-keeps number_of old (work_of.Evac evac) new h = absurd h
  commits-keeps number_of old (work_of.Fetch fetch) new h = absurd h
  commits-keeps number_of old (work_of.Fetched fetched) new h = absurd h
  commits-keeps number_of old (work_of.Offload build) new h = absurd h
  commits-keeps number_of old (work_of.Offloaded build) new h = absurd h

  pub installs-keeps : (number_of : K → ℕ) (content : K → List ℕ) (old : State K) (w : WorkOf K) (new : State K) → Installs number_of old content w new → KeepsRows old.table new.table
  installs-keeps number_of content old (work_of.Fetched fetched) new h = same-keeps old.table new.table h.changed.table
  installs-keeps number_of content old (work_of.Evac evac) new h = absurd h
  installs-keeps number_of content old (work_of.Carried carried) new h = absurd h
  installs-keeps number_of content old (work_of.Fetch fetch) new h = absurd h
  installs-keeps number_of content old (work_of.Offload build) new h = absurd h
  installs-keeps number_of content old (work_of.Offloaded build) new h = absurd h

  -- a call keeps the rows, if it does so when accepted and changes nothing when refused
  pub either-keeps : {A : Type 0} (r : Result A Refusal) (old new : State K) (P : A → Type 0) (Q : Refusal → Type 0) → ((x : A) → P x → KeepsRows old.table new.table) → ((e : Refusal) → Q e → new ≡ old) → IfOk r P → IfErr r Q → KeepsRows old.table new.table
  either-keeps (Ok x) old new P Q f g done refused = f x done
  either-keeps (Err e) old new P Q f g done refused = same-keeps old.table new.table (ap (λ (s : State K). s.table) (g e refused))

  -- an accepted job was carried
  pub commits-carried : (number_of : K → ℕ) (old new : State K) (w : WorkOf K) → Commits number_of old w new → begun_kind w ≡ None
  commits-carried number_of old new (work_of.Evac evac) h = absurd h
  commits-carried number_of old new (work_of.Carried carried) h = refl
  commits-carried number_of old new (work_of.Fetch fetch) h = absurd h
  commits-carried number_of old new (work_of.Fetched fetched) h = absurd h
  commits-carried number_of old new (work_of.Offload build) h = absurd h
  commits-carried number_of old new (work_of.Offloaded build) h = absurd h

  pub installs-carried : (number_of : K → ℕ) (content : K → List ℕ) (old new : State K) (w : WorkOf K) → Installs number_of old content w new → begun_kind w ≡ None
  installs-carried number_of content old new (work_of.Evac evac) h = absurd h
  installs-carried number_of content old new (work_of.Carried carried) h = absurd h
  installs-carried number_of content old new (work_of.Fetch fetch) h = absurd h
  installs-carried number_of content old new (work_of.Fetched fetched) h = refl
  installs-carried number_of content old new (work_of.Offload build) h = absurd h
  installs-carried number_of content old new (work_of.Offloaded build) h = absurd h

  pub merges-carried : (number_of : K → ℕ) (old new : State K) (w : WorkOf K) → Merges number_of old w new → begun_kind w ≡ None
  merges-carried number_of old new (work_of.Evac evac) h = absurd h
  merges-carried number_of old new (work_of.Carried carried) h = absurd h
  merges-carried number_of old new (work_of.Fetch fetch) h = absurd h
  merges-carried number_of old new (work_of.Fetched fetched) h = absurd h
  merges-carried number_of old new (work_of.Offload build) h = absurd h
  merges-carried number_of old new (work_of.Offloaded build) h = refl

  module _ (s : LiveState K) where
    second-free : (a b : Bool) (q r : Refusal) (cases : List (Bool × Refusal)) → first_of ((a, q) ∷ (not b, r) ∷ cases) ≡ None → b ≡ true
    second-free true b q r cases free = absurd (let some : Some q ≡ None = free in cc)
    second-free false true q r cases free = refl
    second-free false false q r cases free = absurd (let some : Some r ≡ None = free in cc)

    pub scan-left : (o : Option Registered) (g : ℕ) → scan_refusal s o g ≡ None → is_pending_in o g ≡ true
    scan-left None g free = absurd (let some : Some refusal.NoAggregate ≡ None = free in cc)
    scan-left (Some r) g free = second-free (not (nat_lt g (group_count s.table))) (is_pending r.pending g) refusal.OutOfRange refusal.StaleJob (needed_from s.rows r.spec g 0 s.rows.column_indexes) free

    -- an accepted scan keeps the rows
    pub scan-keeps : (new : LiveState K) (a g : ℕ) → IsScanned s new a g → KeepsRows s.table new.table
    scan-keeps new a g h = subst (KeepsRows s.table) (sym (ap (λ (t : LiveState K). t.table) h.state)) (scanned-keeps s.table a g (scan-left (aggregate_at s.table a) g h.due))

    module _ (numbers : List ℕ) where
      all-needed : IsOneOf numbers (refusal.Absent 0 0) → (spec : Spec) (g n : ℕ) (column_indexes : List ColumnIndex) → AllByRecursion (λ (c : Bool × Refusal). IsOneOf numbers c.1) (needed_from s.rows spec g n column_indexes)
      all-needed one spec g n [] = tt
      all-needed one spec g n (column_index ∷ column_indexes) = (one, all-needed one spec g (n + 1) column_indexes)

      all-dirty : IsOneOf numbers refusal.StaleJob → (spec : Spec) (g n : ℕ) (column_indexes : List ColumnIndex) → AllByRecursion (λ (c : Bool × Refusal). IsOneOf numbers c.1) (dirty_from s.rows spec g n column_indexes)
      all-dirty one spec g n [] = tt
      all-dirty one spec g n (column_index ∷ column_indexes) = (one, all-dirty one spec g (n + 1) column_indexes)

    -- the codes with which a scan or an offload may be refused
    pub scan-numbers : (o : Option Registered) (g : ℕ) (e : Refusal) → MayRefuse (scan_refusal s o g) true e → IsOneOf (12 ∷ 14 ∷ 20 ∷ 16 ∷ 1 ∷ []) e
    scan-numbers None g e h = of-one (12 ∷ 14 ∷ 20 ∷ 16 ∷ 1 ∷ []) refusal.NoAggregate e refl h
    scan-numbers (Some r) g e h =
        may-among (12 ∷ 14 ∷ 20 ∷ 16 ∷ 1 ∷ []) (scan_refusal s (Some r) g) e
        (λ due. first-among (12 ∷ 14 ∷ 20 ∷ 16 ∷ 1 ∷ []) ((not (nat_lt g (group_count s.table)), refusal.OutOfRange) ∷ (not (is_pending r.pending g), refusal.StaleJob) ∷ needed_from s.rows r.spec g 0 s.rows.column_indexes) e (refl, (refl, all-needed (12 ∷ 14 ∷ 20 ∷ 16 ∷ 1 ∷ []) refl r.spec g 0 s.rows.column_indexes)) due)
        refl h

    pub offload-numbers : (o : Option Registered) (g : ℕ) (e : Refusal) → is_pending_in o g ≡ true → MayRefuse (offload_refusal s o g) true e → IsOneOf (14 ∷ 20 ∷ 1 ∷ []) e
    offload-numbers None g e on h = absurd (let off : false ≡ true = on in cc)
    offload-numbers (Some r) g e on h =
        may-among (14 ∷ 20 ∷ 1 ∷ []) (offload_refusal s (Some r) g) e
        (λ due. first-among (14 ∷ 20 ∷ 1 ∷ []) ((not (nat_lt g (group_count s.table)), refusal.OutOfRange) ∷ (not (is_pending r.pending g), refusal.StaleJob) ∷ dirty_from s.rows r.spec g 0 s.rows.column_indexes) e (refl, (refl, all-dirty (14 ∷ 20 ∷ 1 ∷ []) refl r.spec g 0 s.rows.column_indexes)) due)
        refl h

past-none : {X : Type 0} (xs : List X) (n : ℕ) → length xs ≤ n → is_none (slice_get xs n) ≡ true
past-none [] n h = refl
past-none (x ∷ xs) zero h = absurd (omega (arith, h))
past-none (x ∷ xs) (suc n) h = past-none xs n (omega (arith, h))

within-some : {X : Type 0} (xs : List X) (n : ℕ) → n < length xs → is_none (slice_get xs n) ≡ false
within-some [] n h = absurd (omega (arith, h))
within-some (x ∷ xs) zero h = refl
within-some (x ∷ xs) (suc n) h = within-some xs n (omega (arith, h))

module _ {K A : Type 0} (r : Rows K) (column group : ℕ) (result : Result A Refusal) (is : refusal_in result ≡ fetch_refusal r column group) where
  -- a fetch of a column that does not exist is refused with `NoColumn`
  pub fetch-column : length r.column_indexes ≤ column → IsErrOf result refusal.NoColumn
  fetch-column past = by result (is_none (slice_get r.column_indexes column)) (is_none (object_at r column group)) (not (absent_in r column group).0) is (past-none r.column_indexes column past)
    where
      by : (result : Result A Refusal) (a b d : Bool) → refusal_in result ≡ option_or (first_of ((a, refusal.NoColumn) ∷ (b, refusal.OutOfRange) ∷ [])) (first_of ((d, refusal.StaleJob) ∷ [])) → a ≡ true → IsErrOf result refusal.NoColumn
      by (Ok x) true b d due on = absurd (let some : None ≡ Some refusal.NoColumn = due in cc)
      by (Err e) true b d due on = let same : e ≡ refusal.NoColumn = cc in ap (λ (x : Refusal). Err x) same
      by result false b d due on = absurd cc

  -- a fetch of a column that exists is refused only with these codes
  pub fetch-numbers : column < length r.column_indexes → IfErr result (IsOneOf (14 ∷ 20 ∷ []))
  fetch-numbers within = by result (is_none (slice_get r.column_indexes column)) (is_none (object_at r column group)) (not (absent_in r column group).0) is (within-some r.column_indexes column within)
    where
      by : (result : Result A Refusal) (a b d : Bool) → refusal_in result ≡ option_or (first_of ((a, refusal.NoColumn) ∷ (b, refusal.OutOfRange) ∷ [])) (first_of ((d, refusal.StaleJob) ∷ [])) → a ≡ false → IfErr result (IsOneOf (14 ∷ 20 ∷ []))
      by (Ok x) a b d due off = tt
      by (Err e) true b d due off = absurd cc
      by (Err e) false true d due off = given-one (14 ∷ 20 ∷ []) refusal.OutOfRange e refl (sym due)
      by (Err e) false false true due off = given-one (14 ∷ 20 ∷ []) refusal.StaleJob e refl (sym due)
      by (Err e) false false false due off = absurd (let none : Some e ≡ None = due in cc)
