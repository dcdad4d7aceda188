-- The jobs of a world, by number.
use Rattle.std.specs.Prelude.{◌≡◌, ℕ, ◌==◌, Bool, true, List, [], ◌∷◌, Option, None, Some, Result, IfSome}
use Rattle.std.specs.declared.result.Result.TheVariants.{Ok, Err}
use Rattle.std.specs.List.{All}
use Rattle.std.specs.Ordering.{nat_cmp}
use Rattle.std.specs.BTreeMap.{is_at, insert_entry}
use Rattle.std.specs.Map.{lookup, set_value, remove_entry, values_of}
use Rattle.far_types.specs.declared.refusal.Refusal.{Refusal}
use Rattle.far_types.specs.declared.refusal.Refusal.TheVariants as refusal
use Rattle.far_types.specs.Refusals.{number_of as refusal_number}
use Rattle.far_aggregates.specs.Aggregates.{flattened}
use Rattle.far_frame.specs.Jobs.{JobRecord, IsJobAt, IsCarried}

-- the jobs whose numbers are not spent, by number; a number has no job only while its job is being
-- carried
abbrev pub Waiting : Type 0 → Type 0
Waiting K = List (ℕ × Option (JobRecord K))

-- whether two job numbers are the same
abbrev pub is_number : ℕ → ℕ → Bool
is_number n = is_at (nat_cmp n)

-- whether the end of a job spends its number: yes if the job was accepted or is stale, no for every
-- other refusal
abbrev pub spends : Result Unit Refusal → Bool
spends (Ok done) = true
spends (Err given) = refusal_number given == 20

-- what a map lists, or the one entry that is kept beside it
abbrev pub listed : {A : Type 0} → Option (ℕ × A) → List (ℕ × A) → List (ℕ × A)
listed None entries = entries
listed (Some lone) entries = lone ∷ []

-- an entry is kept beside a map only while the map is empty
abbrev pub IsAlone : {A : Type 0} → Option (ℕ × A) → List (ℕ × A) → Type 0
IsAlone None entries = Unit {0}
IsAlone (Some lone) entries = entries ≡ []

module _ {K : Type 0} where
  -- the job with this number
  abbrev pub job_at : Waiting K → ℕ → Option (JobRecord K)
  job_at waiting n = flattened (lookup (is_number n) waiting)

  -- the jobs, with one more
  abbrev pub one_more : Waiting K → ℕ → JobRecord K → Waiting K
  one_more waiting n job = insert_entry nat_cmp waiting n (Some job)

  -- the jobs, with another job at a number, or none while it is being carried
  abbrev pub with_job : Waiting K → ℕ → Option (JobRecord K) → Waiting K
  with_job waiting n job = set_value (is_number n) waiting job

  -- the jobs after a number was spent
  abbrev pub without_job : Waiting K → ℕ → Waiting K
  without_job waiting n = remove_entry (is_number n) waiting

  -- the tickets in the jobs are of the store with this id
  abbrev pub AreJobsAt : (K → List ℕ → Type 0) → List ℕ → Waiting K → Type 0
  AreJobsAt is_of id waiting = All (λ job. IfSome job (IsJobAt is_of id)) (values_of waiting)

  -- the job with this number was carried, and nothing else changed
  pub record IsCarriedAt (content : K → List ℕ) (n : ℕ) (old new : Waiting K) : Type 0 where
    pub job : JobRecord K
    pub waits : job_at old n ≡ Some job
    pub done : JobRecord K
    pub carried : IsCarried content job done
    pub jobs : new ≡ with_job old n (Some done)

  -- why a step on the job with a number is refused: there is none, or the job refuses
  abbrev pub RefusalAt : (JobRecord K → Refusal → Type 0) → Option (JobRecord K) → Refusal → Type 0
  RefusalAt why None given = given ≡ refusal.StaleJob
  RefusalAt why (Some job) given = why job given
