-- An aggregate is up to date for the row groups whose partial aggregates are merged into it.
use Rattle.std.proofs.Common.{◌≡◌, ℕ, zero, suc, ◌+◌, ◌<◌, ◌≤◌, Bool, true, false, cond, List, ◌∷◌, length, replicate, Some, refl, sym, ap, subst, ◌∙◌, arith, slice_set}
use Rattle.std.specs.Prelude.{◌==◌, None}
use Rattle.std.proofs.lemmas.Bool.Decides.{nat_tests}
use Rattle.std.proofs.lemmas.List.Sums.{sum_by-cons}
use Rattle.std.proofs.lemmas.Option.{same_Some}
use Rattle.far_types.specs.declared.refusal.Refusal.{Refusal}
use Rattle.far_types.specs.declared.refusal.Refusal.TheVariants as refusal
use Rattle.far_types.specs.declared.spec.Spec.{Spec}
use Rattle.far_types.specs.MayRefuse.{MayRefuse}
use Rattle.far_types.specs.Table.{Place, Registered, groups, is_pending, left}
use Rattle.far_offload.specs.declared.partial.PartialDone.{PartialDone}
use Rattle.far_offload.specs.Partials.{partial_of}
use Rattle.far_aggregates.specs.declared.aggregate.Aggregate.{Aggregate}
use Rattle.far_aggregates.specs.declared.aggregate.Accumulator.{Accumulator}
use Rattle.far_aggregates.specs.declared.aggregate.Accumulator.TheVariants as accumulator
use Rattle.far_aggregates.specs.Aggregates.{ask_refusal}
use Rattle.far_aggregates.specs.Accumulators.{KeepsEntry, fold_of, pairs_here, registered_in}
use Rattle.far_aggregates.specs.Recounting.{partial_at, partials_from, AccumulatorMayMerge, IsMerged}
use Rattle.far_aggregates.specs.Scans.{IsScanned, AccumulatorMayScan}
use Rattle.far_aggregates.proofs.ScansLaws.{cleared-other, left-cleared}

-- all row groups are pending
all-left : (n : ℕ) → left (replicate n true) ≡ n
all-left zero = refl
all-left (suc n) = let e = sum_by-cons (λ (b : Bool). cond b 1 0) true (replicate n true) in let rest = all-left n in omega arith

left-at : (n k : ℕ) → k < n → is_pending (replicate n true) k ≡ true
left-at zero k within = absurd (omega arith)
left-at (suc n) zero within = refl
left-at (suc n) (suc k) within = left-at n k (omega arith)

module _ (spec : Spec) (g : ℕ) (here : List Place) where
  abbrev done_for : Accumulator → PartialDone
  done_for k = partial_of (fold_of k) (pairs_here spec here)

  may : (k : Accumulator) → AccumulatorMayScan spec g here k → AccumulatorMayMerge g (done_for k) k
  may (accumulator.Totals live) m = m
  may (accumulator.Extrema live) m = m

  merged : (k k' : Accumulator) → IsMerged g (done_for k) k k' → IsScanned spec g here k k'
  merged (accumulator.Totals live) k' m = m
  merged (accumulator.Extrema live) (accumulator.Totals new) m = absurd m
  merged (accumulator.Extrema live) (accumulator.Extrema new) m = m

  module _ (k : Accumulator) (same : fold_of k ≡ spec.fold) (done : PartialDone) (folded : done ≡ partial_of spec.fold (pairs_here spec here)) where
    is : done ≡ done_for k
    is = folded ∙ ap (λ f. partial_of f (pairs_here spec here)) (sym same)

    pub may-merge : AccumulatorMayScan spec g here k → AccumulatorMayMerge g done k
    may-merge m = subst (λ d. AccumulatorMayMerge g d k) (sym is) (may k m)

    pub merged-scanned : (k' : Accumulator) → IsMerged g done k k' → IsScanned spec g here k k'
    merged-scanned k' m = merged k k' (subst (λ d. IsMerged g d k k') is m)

-- n row groups have n partial aggregates
pub length-partials : (spec : Spec) (size : ℕ) (places : List Place) (g n : ℕ) → length (partials_from spec size places g n) ≡ n
length-partials spec size places g zero = refl
length-partials spec size places g (suc n) = ap suc (length-partials spec size places (g + 1) n)

module _ (spec : Spec) (size count : ℕ) (partials : List PartialDone) where
  -- these partial aggregates are the ones of these places
  abbrev AreThose : List Place → Type 0
  AreThose all = partials ≡ partials_from spec size all 0 (groups size count)

  -- the row groups below a number are merged, and these are the partial aggregates of the other row groups
  pub record AreMerged (aggregate : Aggregate) (number : ℕ) (rest : List PartialDone) : Type 0 where
    pub same_spec : aggregate.spec ≡ spec
    pub all : number + length rest ≡ groups size count
    pub some : left aggregate.pending + number ≡ groups size count
    pub flags : (k : ℕ) → number ≤ k → k < groups size count → is_pending aggregate.pending k ≡ true
    pub others : (all : List Place) → AreThose all → rest ≡ partials_from spec size all number (length rest)
    pub kept : (all : List Place) → length all ≡ count → AreThose all → KeepsEntry size all (Some aggregate)

  -- nothing is merged yet
  pub none-merged : (cloned : Spec) → cloned ≡ spec → (a : Aggregate) → registered_in (Some a) ≡ Some (record { spec = cloned; registration = 0; pending = replicate (groups size count) true })
      → ((all : List Place) → length all ≡ count → KeepsEntry size all (Some a)) → length partials ≡ groups size count → AreMerged a 0 partials
  none-merged cloned equal a registered kept long =
      let given = same_Some (record { spec = a.spec; registration = a.registration; pending = a.pending }) (record { spec = cloned; registration = 0; pending = replicate (groups size count) true }) registered in
      let flags : a.pending ≡ replicate (groups size count) true = ap (λ (r : Registered). r.pending) given in
      record {
        same_spec = ap (λ (r : Registered). r.spec) given ∙ equal;
        all = omega (arith, long);
        some = (let none = ap left flags in let every = all-left (groups size count) in omega arith);
        flags = λ k low within. ap (λ u. is_pending u k) flags ∙ left-at (groups size count) k within;
        others = λ all those. those ∙ ap (partials_from spec size all 0) (sym long);
        kept = λ all few those. kept all few;
      }

  module _ (a b : Aggregate) (number : ℕ) (partial : PartialDone) (rest : List PartialDone) (are : AreMerged a number (partial ∷ rest)) where
    -- the next partial aggregate is the one of its row group
    pub next-is : (all : List Place) → AreThose all → partial ≡ partial_at spec size all number
    next-is all those = let e = are.others all those in cc

    next-left : is_pending a.pending number ≡ true
    next-left = are.flags number (omega arith) (let e = are.all in omega arith)

    -- one more row group is merged
    pub one-merged : b.spec ≡ a.spec → b.pending ≡ slice_set a.pending number false
        → ((all : List Place) → partial ≡ partial_at a.spec size all number → KeepsEntry size all (Some a) → KeepsEntry size all (Some b)) → AreMerged b (number + 1) rest
    one-merged same cleared kept = record {
      same_spec = same ∙ are.same_spec;
      all = (let e = are.all in omega arith);
      some = (let e = are.some in let l = left-cleared a.pending number next-left in let is : left b.pending ≡ left (slice_set a.pending number false) = ap left cleared in omega arith);
      flags = λ k low within. ap (λ u. is_pending u k) cleared ∙ cleared-other a.pending number k (λ e. omega arith) ∙ are.flags k (omega arith) within;
      others = λ all those. (let e = are.others all those in cc);
      kept = λ all few those. kept all (next-is all those ∙ ap (λ s. partial_at s size all number) (sym are.same_spec)) (are.kept all few those);
    }

  -- no row group is pending once there are no more partial aggregates
  pub none-left : (a : Aggregate) (number : ℕ) (rest : List PartialDone) → AreMerged a number rest → length rest ≡ 0 → left a.pending ≡ 0
  none-left a number rest are none = let all = are.all in let some = are.some in omega arith

-- an aggregate in which no row group is pending is refused only with `NoMemory`
pub memory-alone : (a : Aggregate) (e : Refusal) → left a.pending ≡ 0 → MayRefuse (ask_refusal (registered_in (Some a))) true e → e ≡ refusal.NoMemory
memory-alone a e none may =
    let test : (left a.pending == 0) ≡ true = grind (arith, nat_tests) in
    (subst (λ b. MayRefuse (cond b None (Some (refusal.Building (left a.pending)))) true e) test may).0
