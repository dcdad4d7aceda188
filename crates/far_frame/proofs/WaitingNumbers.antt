-- Job numbers: no two jobs have the same one, and a spent number stays spent.
use Rattle.std.proofs.Common.{◌≡◌, ◌⊎◌, inl, inr, ℕ, ◌+◌, ◌<◌, Bool, true, false, cond, List, [], ◌∷◌, Option, None, Some, IsSome, IsSomeAnd, All, Ordering, Less, Equal, Greater, refl, sym, ap, subst, ◌∙◌, arith}
use Rattle.std.specs.BTreeMap.{insert_entry}
use Rattle.std.specs.Cmp.{nat_cmp_is, IsEquivalence}
use Rattle.std.specs.List.{IsDistinct}
use Rattle.std.specs.Map.{keys_of, lookup, remove_entry, set_value}
use Rattle.std.specs.Ordering.{is_eq, match_ordering, nat_cmp}
use Rattle.std.specs.declared.result.Result.TheVariants.{Err}
use Rattle.std.proofs.lemmas.Cmp.{eq_by_cmp_equiv, nat_cmp_total}
use Rattle.std.proofs.lemmas.List.Elements.{All-nil, All-head, All-tail, All-weaker, All-contains, All-from_recursion, recursion_from_All}
use Rattle.std.proofs.lemmas.Map.{NonePasses, keys-set_value, lookup-none, lookup-remove_entry, none_passes_from_lookup}
use Rattle.std.proofs.lemmas.Map.Keys.{IsDistinct-head, IsDistinct-tail, IsDistinct-cons}
use Rattle.std.proofs.lemmas.Map.Lookups.{exact_unsigned}
use Rattle.std.proofs.lemmas.Map.Views.{All-keys-insert_entry, All-map-remove_entry, Contains-keys_from_lookup, tells_apart}
use Rattle.far_types.specs.declared.refusal.Refusal.{Refusal}
use Rattle.far_types.specs.declared.refusal.Refusal.TheVariants as refusal
use Rattle.far_aggregates.specs.Aggregates.{flattened}
use Rattle.far_rows.specs.Jobs.{evac_refusal, fetch_refusal}
use Rattle.far_table.specs.Offloading.{offload_refusal}
use Rattle.far_table.specs.Watching.{aggregate_at}
use Rattle.far_frame.specs.declared.step.Reply.{Reply}
use Rattle.far_frame.specs.declared.step.Reply.TheVariants as reply
use Rattle.far_frame.specs.declared.step.Step.{Step}
use Rattle.far_frame.specs.declared.step.Step.TheVariants as step
use Rattle.far_frame.specs.Effects.{Replies}
use Rattle.far_frame.specs.Jobs.{JobRecord, WorkOf, IsEvacJob, IsFetchJob, IsOffloadJob, Commits, CommitRefusal, Installs, InstallRefusal, Merges, MergeRefusal}
use Rattle.far_frame.specs.Renewing.{IsMigratedTo}
use Rattle.far_frame.specs.Runs.{end_of, job_of}
use Rattle.far_frame.specs.State.{State, live}
use Rattle.far_frame.specs.Steps.{IsStep, IsRun}
use Rattle.far_frame.specs.Waiting.{Waiting, is_number, job_at, one_more, spends, with_job, without_job}
use Rattle.far_frame.specs.Worlds.{World, AreNumbered, IsSpent, IsBegun, IsNotBegun, IsCarry, IsNoCarry, IsEnded, IsNotEnded}
use Rattle.far_frame.proofs.StepsLaws.{replied}
use Rattle.far_frame.proofs.WaitingSpentNumbers.{spent}

laws : IsEquivalence is_number
laws = eq_by_cmp_equiv nat_cmp_total

other-number : (n m : ℕ) → n < m → is_number n m ≡ false
other-number n m lt = ap is_eq (sym (nat_cmp_is n m Less lt))

none-distinct : IsDistinct is_number []
unfolding IsDistinct
none-distinct = tt

no-number : {A : Type 0} (n : ℕ) → None ≡ Some n → A
no-number n is = absurd (let no : ⊥ = cc in no)

one-number : (n m : ℕ) → Some n ≡ Some m → n ≡ m
one-number n m is = cc

-- entries whose numbers all fail a test
module _ {X : Type 0} (p : ℕ → Bool) where
  none-more : (n : ℕ) (x : X) → p n ≡ false → (es : List (ℕ × X)) → NonePasses p es → NonePasses p (insert_entry nat_cmp es n x)
  none-more n x other [] h = (other, tt)
  none-more n x other (e ∷ es) h = by (nat_cmp n e.0) (none-more n x other es h.1) where
    by : (r : Ordering) → NonePasses p (insert_entry nat_cmp es n x) → NonePasses p (match_ordering r ((n, x) ∷ e ∷ es) ((e.0, x) ∷ es) (e ∷ insert_entry nat_cmp es n x))
    by Less rest = (other, h)
    by Equal rest = (h.0, h.1)
    by Greater rest = (h.0, rest)

  none-set : (t : ℕ → Bool) (x : X) (es : List (ℕ × X)) → NonePasses p es → NonePasses p (set_value t es x)
  none-set t x [] h = h
  none-set t x (e ∷ es) h = by (t e.0) (none-set t x es h.1) where
    by : (b : Bool) → NonePasses p (set_value t es x) → NonePasses p (cond b ((e.0, x) ∷ es) (e ∷ set_value t es x))
    by true rest = (h.0, h.1)
    by false rest = (h.0, rest)

  none-less : (t : ℕ → Bool) (es : List (ℕ × X)) → NonePasses p es → NonePasses p (remove_entry t es)
  none-less t [] h = h
  none-less t (e ∷ es) h = by (t e.0) (none-less t es h.1) where
    by : (b : Bool) → NonePasses p (remove_entry t es) → NonePasses p (cond b es (e ∷ remove_entry t es))
    by true rest = h.1
    by false rest = (h.0, rest)

module _ {X : Type 0} where
  -- numbers stay distinct when one above all others is added, or one is removed
  distinct-more : (n : ℕ) (x : X) (es : List (ℕ × X)) → All (λ m. m < n) (keys_of es) → IsDistinct is_number (keys_of es) → IsDistinct is_number (keys_of (insert_entry nat_cmp es n x))
  distinct-more n x [] below d = IsDistinct-cons is_number n [] tt d
  distinct-more n x (e ∷ es) below d =
      let lt : e.0 < n = All-head (λ m. m < n) e.0 (keys_of es) below in
      let after : Greater ≡ nat_cmp n e.0 = nat_cmp_is n e.0 Greater lt in
      let Other : ℕ → Type 0 = λ m. is_number e.0 m ≡ false in
      let others = All-from_recursion Other (keys_of es) (IsDistinct-head is_number e.0 (keys_of es) d) in
      let more = insert_entry nat_cmp es n x in
      subst (λ (r : Ordering). IsDistinct is_number (keys_of (match_ordering r ((n, x) ∷ e ∷ es) ((e.0, x) ∷ es) (e ∷ insert_entry nat_cmp es n x)))) after
      (IsDistinct-cons is_number e.0 (keys_of more) (recursion_from_All Other (keys_of more) (All-keys-insert_entry nat_cmp n x Other es others (other-number e.0 n lt)))
      (distinct-more n x es (All-tail (λ m. m < n) e.0 (keys_of es) below) (IsDistinct-tail is_number e.0 (keys_of es) d)))

  distinct-less : (t : ℕ → Bool) (es : List (ℕ × X)) → IsDistinct is_number (keys_of es) → IsDistinct is_number (keys_of (remove_entry t es))
  distinct-less t [] d = d
  distinct-less t (e ∷ es) d = by (t e.0) (distinct-less t es (IsDistinct-tail is_number e.0 (keys_of es) d)) where
    by : (b : Bool) → IsDistinct is_number (keys_of (remove_entry t es)) → IsDistinct is_number (keys_of (cond b es (e ∷ remove_entry t es)))
    by true rest = IsDistinct-tail is_number e.0 (keys_of es) d
    by false rest =
        let Other : ℕ → Type 0 = λ m. is_number e.0 m ≡ false in
        let others = All-from_recursion Other (keys_of es) (IsDistinct-head is_number e.0 (keys_of es) d) in
        let less = remove_entry t es in
        IsDistinct-cons is_number e.0 (keys_of less) (recursion_from_All Other (keys_of less) (All-map-remove_entry t (λ x. x.0) Other es others)) rest

  -- a number that is removed is not found any more
  removed-gone : (n : ℕ) (es : List (ℕ × X)) → IsDistinct is_number (keys_of es) → lookup (is_number n) (remove_entry (is_number n) es) ≡ None
  removed-gone n es d = lookup-remove_entry laws (is_number n) (λ x y is. laws.congr n x y is) n es d ∙ ap (λ b. cond b None (lookup (is_number n) es)) (laws.refl n)

  -- a property of all numbers is a property of one that is found
  found-holds : (P : ℕ → Type 0) (n : ℕ) (es : List (ℕ × X)) → All P (keys_of es) → IsSome (lookup (is_number n) es) → P n
  found-holds P n es all some = All-contains P (keys_of es) n all (Contains-keys_from_lookup (tells_apart exact_unsigned) n es some)

some-joined : {A : Type 0} (found : Option (Option A)) → IsSome (flattened found) → IsSome found
some-joined None h = h
some-joined (Some inner) h = refl

some-and : {A : Type 0} (P : A → Type 0) (found : Option A) → IsSomeAnd found P → IsSome found
some-and P None h = absurd h
some-and P (Some x) h = refl

module _ {K : Type 0} where
  -- what a step does to the jobs: nothing, or it begins one, replaces the job of a number, or spends a number
  abbrev Turns : World K → World K → Type 0
  Turns old new = ((new.begun ≡ old.begun) × (new.jobs ≡ old.jobs))
      ⊎ (((job : JobRecord K) × (new.begun ≡ old.begun + 1) × (new.jobs ≡ one_more old.jobs old.begun job))
      ⊎ (((m : ℕ) × (job : JobRecord K) × (new.begun ≡ old.begun) × (new.jobs ≡ with_job old.jobs m (Some job)))
      ⊎ ((m : ℕ) × (new.begun ≡ old.begun) × (new.jobs ≡ without_job old.jobs m))))

  numbered-of : (world : World K) (begun : ℕ) (jobs : Waiting K) → world.begun ≡ begun → world.jobs ≡ jobs → All (λ n. n < begun) (keys_of jobs) → IsDistinct is_number (keys_of jobs) → AreNumbered world
  numbered-of world begun jobs counted are given distinct = record {
    given = subst (λ (b : ℕ). All (λ n. n < b) (keys_of world.jobs)) (sym counted) (subst (λ (w : Waiting K). All (λ n. n < begun) (keys_of w)) (sym are) given);
    distinct = subst (λ (w : Waiting K). IsDistinct is_number (keys_of w)) (sym are) distinct;
  }

  spent-of : (n : ℕ) (world : World K) (begun : ℕ) (jobs : Waiting K) → world.begun ≡ begun → world.jobs ≡ jobs → n < begun → lookup (is_number n) jobs ≡ None → IsSpent n world
  spent-of n world begun jobs counted are given gone = record { given = subst (λ (b : ℕ). n < b) (sym counted) given; gone = ap (lookup (is_number n)) are ∙ gone }

  one-above : (jobs : Waiting K) (begun : ℕ) → All (λ n. n < begun) (keys_of jobs) → All (λ n. n < begun + 1) (keys_of jobs)
  one-above jobs begun given = All-weaker (λ n. n < begun) (λ n. n < begun + 1) (λ n lt. omega (arith, lt)) (keys_of jobs) given

  -- a step keeps the numbers distinct
  turned-numbered : (old new : World K) → Turns old new → AreNumbered old → AreNumbered new
  turned-numbered old new (inl h) a = numbered-of new old.begun old.jobs h.0 h.1 a.given a.distinct
  turned-numbered old new (inr (inl h)) a =
      numbered-of new (old.begun + 1) (one_more old.jobs old.begun h.0) h.1 h.2
      (All-keys-insert_entry nat_cmp old.begun (Some h.0) (λ n. n < old.begun + 1) old.jobs (one-above old.jobs old.begun a.given) (omega arith))
      (distinct-more old.begun (Some h.0) old.jobs a.given a.distinct)
  turned-numbered old new (inr (inr (inl h))) a =
      let same = keys-set_value (is_number h.0) old.jobs (Some h.1) in
      numbered-of new old.begun (with_job old.jobs h.0 (Some h.1)) h.2 h.3
      (subst (All (λ n. n < old.begun)) (sym same) a.given)
      (subst (IsDistinct is_number) (sym same) a.distinct)
  turned-numbered old new (inr (inr (inr h))) a =
      numbered-of new old.begun (without_job old.jobs h.0) h.1 h.2
      (All-map-remove_entry (is_number h.0) (λ x. x.0) (λ n. n < old.begun) old.jobs a.given)
      (distinct-less (is_number h.0) old.jobs a.distinct)

  -- a spent number stays spent
  turned-spent : (n : ℕ) (old new : World K) → Turns old new → IsSpent n old → IsSpent n new
  turned-spent n old new (inl h) s = spent-of n new old.begun old.jobs h.0 h.1 s.given s.gone
  turned-spent n old new (inr (inl h)) s =
      let none = none_passes_from_lookup (is_number n) old.jobs s.gone in
      spent-of n new (old.begun + 1) (one_more old.jobs old.begun h.0) h.1 h.2 (omega (arith, s.given))
      (lookup-none (is_number n) (one_more old.jobs old.begun h.0) (none-more (is_number n) old.begun (Some h.0) (other-number n old.begun s.given) old.jobs none))
  turned-spent n old new (inr (inr (inl h))) s =
      let none = none_passes_from_lookup (is_number n) old.jobs s.gone in
      spent-of n new old.begun (with_job old.jobs h.0 (Some h.1)) h.2 h.3 s.given
      (lookup-none (is_number n) (with_job old.jobs h.0 (Some h.1)) (none-set (is_number n) (is_number h.0) (Some h.1) old.jobs none))
  turned-spent n old new (inr (inr (inr h))) s =
      let none = none_passes_from_lookup (is_number n) old.jobs s.gone in
      spent-of n new old.begun (without_job old.jobs h.0) h.1 h.2 s.given
      (lookup-none (is_number n) (without_job old.jobs h.0) (none-less (is_number n) (is_number h.0) old.jobs none))

  -- ending a job spends its number
  end-spent : (n : ℕ) (old new : World K) → AreNumbered old → IsSome (job_at old.jobs n) → new.begun ≡ old.begun → new.jobs ≡ without_job old.jobs n → IsSpent n new
  end-spent n old new a some counted are =
      spent-of n new old.begun (without_job old.jobs n) counted are
      (found-holds (λ m. m < old.begun) n old.jobs a.given (some-joined (lookup (is_number n) old.jobs) some))
      (removed-gone n old.jobs a.distinct)

  pub opened-numbered : (old : World K) → old.jobs ≡ [] → AreNumbered old
  opened-numbered old none = numbered-of old old.begun [] refl none (All-nil (λ n. n < old.begun)) none-distinct

  -- a migration spends all numbers
  pub migrated-spent : {L : Type 0} (content : K → List ℕ) (new_content : L → List ℕ) (id : List ℕ) (old : World K) (new : World L) → IsMigratedTo content new_content id old new → (n : ℕ) → n < old.begun → IsSpent n new
  migrated-spent {L} content new_content id old new h n given = record {
    given = subst (λ (b : ℕ). n < b) (sym (ap (λ (w : World L). w.begun) h.world)) given;
    gone = ap (λ (w : World L). lookup (is_number n) w.jobs) h.world;
  }

  -- each step changes the jobs in one of these ways
  module _ (old new : World K) where
    table-turns : new ≡ record old { state = new.state } → Turns old new
    table-turns is = inl (ap (λ (w : World K). w.begun) is, ap (λ (w : World K). w.jobs) is)

    begun-turns : (begins : JobRecord K → Type 0) (due : Option Refusal) (given : Reply) → Replies (λ served. IsBegun begins old served new) (λ why. IsNotBegun due old why new) given → Turns old new
    begun-turns begins due given h = replied (λ served. IsBegun begins old served new) (λ why. IsNotBegun due old why new) given
        (λ served k. inr (inl (k.job, ap (λ (w : World K). w.begun) k.world, ap (λ (w : World K). w.jobs) k.world)))
        (λ why k. inl (ap (λ (w : World K). w.begun) k.world, ap (λ (w : World K). w.jobs) k.world)) h

    carry-turns : (content : K → List ℕ) (n : ℕ) (given : Reply) → Replies (λ served. IsCarry content n old served new) (λ why. IsNoCarry n old why new) given → Turns old new
    carry-turns content n given h = replied (λ served. IsCarry content n old served new) (λ why. IsNoCarry n old why new) given
        (λ served k. inr (inr (inl (n, k.carried.done, ap (λ (w : World K). w.begun) k.world, k.carried.jobs))))
        (λ why k. inl (ap (λ (w : World K). w.begun) k.world, ap (λ (w : World K). w.jobs) k.world)) h

    maybe-turns : (n : ℕ) (spent : Bool) → new.begun ≡ old.begun → new.jobs ≡ cond spent (without_job old.jobs n) old.jobs → Turns old new
    maybe-turns n true counted are = inr (inr (inr (n, counted, are)))
    maybe-turns n false counted are = inl (counted, are)

    ended-turns : (ends : WorkOf K → State K → Type 0) (why : WorkOf K → Refusal → Type 0) (n : ℕ) (given : Reply) → Replies (λ served. IsEnded ends n old served new) (λ e. IsNotEnded why n old e new) given → Turns old new
    ended-turns ends why n given h = replied (λ served. IsEnded ends n old served new) (λ e. IsNotEnded why n old e new) given
        (λ served k. inr (inr (inr (n, ap (λ (w : World K). w.begun) k.world, ap (λ (w : World K). w.jobs) k.world))))
        (λ e k. maybe-turns n (spends (Err e)) (ap (λ (w : World K). w.begun) k.world) (ap (λ (w : World K). w.jobs) k.world)) h

    -- what the end of a job does to it: an accepted end spends its number, and a refused one may spend it
    abbrev Ends : ℕ → Reply → Type 0
    Ends n given = Replies (λ served. IsSome (job_at old.jobs n) × (new.begun ≡ old.begun) × (new.jobs ≡ without_job old.jobs n))
        (λ e. (new.begun ≡ old.begun) × (new.jobs ≡ cond (spends (Err e)) (without_job old.jobs n) old.jobs)) given

    served-ends : (ends : WorkOf K → State K → Type 0) (n : ℕ) (served : Reply) → IsEnded ends n old served new → IsSome (job_at old.jobs n) × (new.begun ≡ old.begun) × (new.jobs ≡ without_job old.jobs n)
    served-ends ends n served k = (some-and (λ (job : JobRecord K). ends job.work new.state) (job_at old.jobs n) k.ended, ap (λ (w : World K). w.begun) k.world, ap (λ (w : World K). w.jobs) k.world)

    ended-ends : (ends : WorkOf K → State K → Type 0) (why : WorkOf K → Refusal → Type 0) (n : ℕ) (given : Reply) → Replies (λ served. IsEnded ends n old served new) (λ e. IsNotEnded why n old e new) given → Ends n given
    ended-ends ends why n (reply.Refused e) k = (ap (λ (w : World K). w.begun) k.world, ap (λ (w : World K). w.jobs) k.world)
    ended-ends ends why n (reply.Place place) k = served-ends ends n (reply.Place place) k
    ended-ends ends why n reply.Done k = served-ends ends n reply.Done k
    ended-ends ends why n (reply.Aggregate a) k = served-ends ends n (reply.Aggregate a) k
    ended-ends ends why n (reply.Answer x) k = served-ends ends n (reply.Answer x) k
    ended-ends ends why n (reply.Ints pieces) k = served-ends ends n (reply.Ints pieces) k
    ended-ends ends why n (reply.Texts pieces) k = served-ends ends n (reply.Texts pieces) k
    ended-ends ends why n (reply.Job m) k = served-ends ends n (reply.Job m) k
    ended-ends ends why n (reply.Next found) k = served-ends ends n (reply.Next found) k

module _ {K : Type 0} (content : K → List ℕ) (number_of : K → ℕ) where
  step-turns : (old : World K) (s : Step) (given : Reply) (new : World K) → IsStep content number_of old s given new → Turns old new
  step-turns old (step.Edit e) given new h = table-turns old new h.1
  step-turns old (step.Watch spec) given new h = table-turns old new h.1
  step-turns old (step.Unwatch a) given new h = table-turns old new h.1
  step-turns old (step.ScanGroup a g) given new h = table-turns old new h.1
  step-turns old (step.Ask a) given new h = table-turns old new h.1
  step-turns old (step.Lend column from to) given new h = table-turns old new h.1
  step-turns old (step.Pin column group) given new h = table-turns old new h.1
  step-turns old (step.Unpin column group) given new h = table-turns old new h.1
  step-turns old (step.Compact kind segment) given new h = table-turns old new h.1
  step-turns old (step.Prefetch column) given new h = table-turns old new h.1
  step-turns old (step.BeginEvac column group) given new h = begun-turns old new (IsEvacJob old.state.rows column group) (evac_refusal old.state.rows column group) given h
  step-turns old (step.BeginFetch column group) given new h = begun-turns old new (IsFetchJob old.state.rows column group) (fetch_refusal old.state.rows column group) given h
  step-turns old (step.BeginOffload a g) given new h = begun-turns old new (IsOffloadJob old.state a g) (offload_refusal (live old.state) (aggregate_at old.state.table a) g) given h
  step-turns old (step.Carry n) given new h = carry-turns old new content n given h
  step-turns old (step.Commit n) given new h = ended-turns old new (Commits number_of old.state) (CommitRefusal number_of old.state) n given h
  step-turns old (step.Install n) given new h = ended-turns old new (Installs number_of old.state content) (InstallRefusal number_of old.state content) n given h
  step-turns old (step.Merge n) given new h = ended-turns old new (Merges number_of old.state) (MergeRefusal number_of old.state) n given h

  pub step-spent : (n : ℕ) (old : World K) (s : Step) (given : Reply) (new : World K) → IsSpent n old → IsStep content number_of old s given new → IsSpent n new
  step-spent n old s given new is h = turned-spent n old new (step-turns old s given new h) is

  pub run-spent : (is_of : K → List ℕ → Type 0) (n : ℕ) (old : World K) (steps : List Step) (replies : List Reply) (new : World K) → IsSpent n old → IsRun is_of content number_of old steps replies new → IsSpent n new
  run-spent is_of n old [] [] new is h = subst (IsSpent n) (sym h) is
  run-spent is_of n old [] (given ∷ replies) new is h = absurd h
  run-spent is_of n old (s ∷ steps) [] new is h = absurd h
  run-spent is_of n old (s ∷ steps) (given ∷ replies) new is h = run-spent is_of n h.0 steps replies new (step-spent n old s given h.0 is h.1) h.3

  pub run-numbered : (is_of : K → List ℕ → Type 0) (old : World K) (steps : List Step) (replies : List Reply) (new : World K) → AreNumbered old → IsRun is_of content number_of old steps replies new → AreNumbered new
  run-numbered is_of old [] [] new a h = subst AreNumbered (sym h) a
  run-numbered is_of old [] (given ∷ replies) new a h = absurd h
  run-numbered is_of old (s ∷ steps) [] new a h = absurd h
  run-numbered is_of old (s ∷ steps) (given ∷ replies) new a h = run-numbered is_of h.0 steps replies new (turned-numbered old h.0 (step-turns old s given h.0 h.1) a) h.3

  step-ends : (old : World K) (s : Step) (n : ℕ) → end_of s ≡ Some n → (given : Reply) (new : World K) → IsStep content number_of old s given new → Ends old new n given
  step-ends old (step.Commit m) n is given new h = subst (λ (k : ℕ). Ends old new k given) (one-number m n is) (ended-ends old new (Commits number_of old.state) (CommitRefusal number_of old.state) m given h)
  step-ends old (step.Install m) n is given new h = subst (λ (k : ℕ). Ends old new k given) (one-number m n is) (ended-ends old new (Installs number_of old.state content) (InstallRefusal number_of old.state content) m given h)
  step-ends old (step.Merge m) n is given new h = subst (λ (k : ℕ). Ends old new k given) (one-number m n is) (ended-ends old new (Merges number_of old.state) (MergeRefusal number_of old.state) m given h)
  step-ends old (step.Edit e) n is given new h = no-number n is
  step-ends old (step.Watch spec) n is given new h = no-number n is
  step-ends old (step.Unwatch a) n is given new h = no-number n is
  step-ends old (step.ScanGroup a g) n is given new h = no-number n is
  step-ends old (step.Ask a) n is given new h = no-number n is
  step-ends old (step.Lend column from to) n is given new h = no-number n is
  step-ends old (step.Pin column group) n is given new h = no-number n is
  step-ends old (step.Unpin column group) n is given new h = no-number n is
  step-ends old (step.Compact kind segment) n is given new h = no-number n is
  step-ends old (step.Prefetch column) n is given new h = no-number n is
  step-ends old (step.BeginEvac column group) n is given new h = no-number n is
  step-ends old (step.BeginFetch column group) n is given new h = no-number n is
  step-ends old (step.BeginOffload a g) n is given new h = no-number n is
  step-ends old (step.Carry m) n is given new h = no-number n is

  pub accepted-spent : (old : World K) → AreNumbered old → (s : Step) (n : ℕ) → end_of s ≡ Some n → (new : World K) → IsStep content number_of old s reply.Done new → IsSpent n new
  accepted-spent old a s n is new h = (let k = step-ends old s n is reply.Done new h in end-spent n old new a k.0 k.1 k.2)

  pub stale-spent : (old : World K) → AreNumbered old → (s : Step) (n : ℕ) → end_of s ≡ Some n → IsSome (job_at old.jobs n) → (new : World K) → IsStep content number_of old s (reply.Refused refusal.StaleJob) new → IsSpent n new
  stale-spent old a s n is some new h = (let k = step-ends old s n is (reply.Refused refusal.StaleJob) new h in end-spent n old new a some k.0 k.1)

  -- a step that names a spent number is refused as stale
  named-none : (old : World K) (found : Option ℕ) → IsSomeAnd found (λ n. IsSpent n old) → IsSomeAnd found (λ n. job_at old.jobs n ≡ None)
  named-none old None h = absurd h
  named-none old (Some n) h = ap flattened h.gone

  pub named-stale : (old : World K) (s : Step) → IsSomeAnd (job_of s) (λ n. IsSpent n old) → (given : Reply) (new : World K) → IsStep content number_of old s given new → given ≡ reply.Refused refusal.StaleJob
  named-stale old s is given new h = spent content number_of old s (named-none old (job_of s) is) given new h
