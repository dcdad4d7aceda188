-- A pair that need not be retracted may be left out: the aggregates end up the same.
use Rattle.std.proofs.Common.{inl, inr, ◌≡◌, ◌≢◌, ℕ, zero, suc, ◌<◌, ◌≤◌, ◌/◌, List, [], ◌∷◌, length, map, refl, sym, ap, ◌∙◌, subst, arith, ◌+◌, Option, None, Some, slice_get, slice_set}
use Rattle.std.specs.Prelude.{ℤ, option_map}
use Rattle.std.specs.FinMap as fin
use Rattle.std.proofs.lemmas.List.{get_or-set_same, length-map}
use Rattle.far_types.specs.declared.key.Key.{Key}
use Rattle.far_types.specs.declared.spec.Spec.{Spec}
use Rattle.far_types.specs.Answers.{Extrema, extrema}
use Rattle.far_types.specs.Effects.{with_observed, min_max_with}
use Rattle.far_types.specs.Pairs.{Pair}
use Rattle.far_types.specs.Table.{Place, in_group}
use Rattle.far_types.proofs.AnswersByKeyMaps.{get_inserted}
use Rattle.far_extrema.specs.Live.{group_at}
use Rattle.far_aggregates.specs.declared.aggregate.Aggregate.{Aggregate}
use Rattle.far_aggregates.specs.declared.aggregate.Accumulator.{Accumulator}
use Rattle.far_aggregates.specs.declared.aggregate.Accumulator.TheVariants as accumulator
use Rattle.far_aggregates.specs.declared.deltas.Delta.{Delta}
use Rattle.far_aggregates.specs.declared.pending.Pending.{Pending}
use Rattle.far_aggregates.specs.Accumulators.{RegistryEntry, Change, pairs_here, Keeps}
use Rattle.far_aggregates.specs.Pairs.{ChangeBySpec, change_of}
use Rattle.far_aggregates.specs.Deltas.{delta_of, row_delta, accumulator_more, with_delta}
use Rattle.far_aggregates.specs.Retract.{accumulator_less, after_retract, AccumulatorMayRetract, MayRetract, EachMayRetract}
use Rattle.far_aggregates.specs.Pending.{after_retract_all, RetractsAll}
use Rattle.far_aggregates.specs.Reserve.{AccumulatorIsReserved, IsReserved, AreReserved}
use Rattle.far_aggregates.specs.LeavingOut.{NeedNotRetract, IsLeftOut, EachLeftOut}
use Rattle.far_aggregates.specs.Until.{zip_all}
use Rattle.far_aggregates.proofs.AccumulatorsExtrema.{left-within, same_or_not}
use Rattle.far_aggregates.proofs.PendingLaws.{get-set_other}

-- the min-max under the key of a delta
observed-under_key : (m : Extrema) (p : Pair) (k : Option Key) (min_max : ℤ × ℤ) → fin.get m p.0 ≡ Some min_max → p.0 ≡ k → fin.get (with_observed m p) k ≡ Some (min_max_with p.1 (Some min_max))
observed-under_key m p k min_max is same =
    ap (fin.get (with_observed m p)) (sym same)
    ∙ get_inserted m p.0 (min_max_with p.1 (fin.get m p.0))
    ∙ ap (λ (o : Option (ℤ × ℤ)). Some (min_max_with p.1 o)) is

same-some : {X : Type 0} (x y : X) → Some x ≡ Some y → x ≡ y
same-some x y e = cc

none-min_max : (min_max : ℤ × ℤ) → None ≡ Some min_max → ⊥
none-min_max min_max h = cc

module _ (g : ℕ) (here : List Place) where
  accumulator-needless : (spec : Spec) (k : Accumulator) (p pair : Pair) → AccumulatorIsReserved g k → NeedNotRetract (Some (delta_of g k p)) (Some pair) → AccumulatorMayRetract spec g here (accumulator_more g k p) pair
      → accumulator_less spec g here (accumulator_more g k p) pair ≡ accumulator_more g k p
  accumulator-needless spec (accumulator.Totals live) p pair reserved s may = absurd (none-min_max s.0 s.1)
  accumulator-needless spec (accumulator.Extrema live) p pair reserved s may =
      let m = group_at live.groups g in
      let gs = slice_set live.groups g (with_observed m p) in
      let wide = min_max_with p.1 (Some s.0) in
      let found : fin.get (group_at gs g) pair.0 ≡ Some wide =
      ap (λ (n : Extrema). fin.get n pair.0) (get_or-set_same live.groups g (with_observed m p) fin.empty reserved) ∙ observed-under_key m p pair.0 s.0 s.1 s.2 in
      ap (λ (hs : List Extrema). accumulator.Extrema (record live { groups = hs })) (sym (left-within g gs pair.0 pair.1 (fin.get (extrema (pairs_here spec here)) pair.0) wide may found s.3 s.4))

  -- the pair of one registry entry, which has a delta or none, may be retracted
  needless-entry : (a : Aggregate) (o c : Change) → AccumulatorIsReserved g a.accumulator → NeedNotRetract (option_map (delta_of g a.accumulator) o) c → MayRetract g here (with_delta g (Some a) (option_map (delta_of g a.accumulator) o)) c
      → after_retract g here (with_delta g (Some a) (option_map (delta_of g a.accumulator) o)) c ≡ with_delta g (Some a) (option_map (delta_of g a.accumulator) o)
  needless-entry a None c reserved s may = absurd s
  needless-entry a (Some p) None reserved s may = absurd s
  needless-entry a (Some p) (Some pair) reserved s may = ap (λ (k : Accumulator). Some (record a { accumulator = k })) (accumulator-needless a.spec a.accumulator p pair reserved s may)

  nothing-retracted : (s : RegistryEntry) → after_retract g here s None ≡ s
  nothing-retracted None = refl
  nothing-retracted (Some a) = refl

  nothing-may : (s : RegistryEntry) → MayRetract g here s None
  nothing-may None = tt
  nothing-may (Some a) = tt

  left-may : (s : RegistryEntry) (delta : Option Delta) (c d : Change) → IsLeftOut delta c d → MayRetract g here s c → MayRetract g here s d
  left-may s delta c d (inl same) may = subst (MayRetract g here s) (sym same) may
  left-may s delta c d (inr out) may = subst (MayRetract g here s) (sym out.0) (nothing-may s)

module _ (size i : ℕ) (gives : ChangeBySpec) (here : List Place) where
  needless : (t : RegistryEntry) (c : Change) → IsReserved (i / size) t → NeedNotRetract (row_delta size i gives t) c → MayRetract (i / size) here (with_delta (i / size) t (row_delta size i gives t)) c
      → after_retract (i / size) here (with_delta (i / size) t (row_delta size i gives t)) c ≡ with_delta (i / size) t (row_delta size i gives t)
  needless None c reserved s may = refl
  needless (Some a) c reserved s may = needless-entry (i / size) here a (change_of size i gives (Some a)) c reserved s may

  left-retracted : (t : RegistryEntry) (c d : Change) → IsReserved (i / size) t → IsLeftOut (row_delta size i gives t) c d → MayRetract (i / size) here (with_delta (i / size) t (row_delta size i gives t)) c
      → after_retract (i / size) here (with_delta (i / size) t (row_delta size i gives t)) d ≡ after_retract (i / size) here (with_delta (i / size) t (row_delta size i gives t)) c
  left-retracted t c d reserved (inl same) may = ap (after_retract (i / size) here (with_delta (i / size) t (row_delta size i gives t))) same
  left-retracted t c d reserved (inr out) may =
      ap (after_retract (i / size) here (with_delta (i / size) t (row_delta size i gives t))) out.0
      ∙ nothing-retracted (i / size) here (with_delta (i / size) t (row_delta size i gives t))
      ∙ sym (needless t c reserved out.1 may)

  all-left_retracted : (registry : List RegistryEntry) (cs ds : List Change) → length ds ≡ length cs → AreReserved (i / size) registry → EachLeftOut (map (row_delta size i gives) registry) cs ds
      → EachMayRetract (i / size) here (zip_all (with_delta (i / size)) registry (map (row_delta size i gives) registry)) cs
      → zip_all (after_retract (i / size) here) (zip_all (with_delta (i / size)) registry (map (row_delta size i gives) registry)) ds ≡ zip_all (after_retract (i / size) here) (zip_all (with_delta (i / size)) registry (map (row_delta size i gives) registry)) cs
  all-left_retracted [] cs ds many reserved out may = refl
  all-left_retracted (t ∷ registry) [] [] many reserved out may = refl
  all-left_retracted (t ∷ registry) [] (d ∷ ds) many reserved out may = absurd (omega arith)
  all-left_retracted (t ∷ registry) (c ∷ cs) [] many reserved out may = absurd (omega arith)
  all-left_retracted (t ∷ registry) (c ∷ cs) (d ∷ ds) many reserved out may = λ j.
      left-retracted t c d reserved.0 (out 0 _ c d refl refl refl) (may 0 _ c refl refl) j
      ∷ all-left_retracted registry cs ds (omega arith) reserved.1 (λ k. out (suc k)) (λ k. may (suc k)) j

get-there : {X : Type 0} (xs : List X) (k : ℕ) → k < length xs → (x : X) × (slice_get xs k ≡ Some x)
get-there [] k h = absurd (omega arith)
get-there (x ∷ xs) zero h = (x, refl)
get-there (x ∷ xs) (suc k) h = get-there xs k (omega arith)

get-below : {X : Type 0} (xs : List X) (k : ℕ) (x : X) → slice_get xs k ≡ Some x → k < length xs
get-below [] k x h = cc
get-below (y ∷ xs) zero x h = omega arith
get-below (y ∷ xs) (suc k) x h = let rest = get-below xs k x h in omega arith

each-left_may : (g : ℕ) (here : List Place) (deltas : List (Option Delta)) (registry : List RegistryEntry) (cs ds : List Change) → length ds ≡ length cs → length cs ≡ length deltas → EachLeftOut deltas cs ds → EachMayRetract g here registry cs → EachMayRetract g here registry ds
each-left_may g here deltas registry cs ds many as_many out may k s d at is =
    let below = get-below ds k d is in
    let c = get-there cs k (omega arith) in
    let delta = get-there deltas k (omega arith) in
    left-may g here s delta.0 c.0 d (out k delta.0 c.0 d delta.1 c.1 is) (may k s c.0 at c.1)

-- the remaining pairs may be retracted, and then the aggregates are the same
pub left_out-retracts : (size place : ℕ) (gives : ChangeBySpec) (places : List Place) (mid new : List RegistryEntry) (deltas : List (Option Delta)) (old left : Pending) → AreReserved (place / size) mid
    → old.group ≡ place / size → left.group ≡ place / size → deltas ≡ map (row_delta size place gives) mid → new ≡ zip_all (with_delta (place / size)) mid (map (row_delta size place gives) mid)
    → length left.to_retract.items ≡ length old.to_retract.items → length old.to_retract.items ≡ length mid → length left.to_retract.items ≤ length new → EachLeftOut deltas old.to_retract.items left.to_retract.items
    → RetractsAll size (place / size) places new old → RetractsAll size (place / size) places new left
left_out-retracts size place gives places mid new deltas old left reserved at there delta applied many as_many within out retracts =
    let g = place / size in
    let here = in_group size g places in
    let may : EachMayRetract g here new old.to_retract.items = subst (λ n. EachMayRetract n here new old.to_retract.items) at retracts.may.may in
    let few : length deltas ≡ length mid = ap length delta ∙ length-map mid (row_delta size place gives) in
    let outs : EachLeftOut (map (row_delta size place gives) mid) old.to_retract.items left.to_retract.items = subst (λ l. EachLeftOut l old.to_retract.items left.to_retract.items) delta out in
    let mays : EachMayRetract g here (zip_all (with_delta g) mid (map (row_delta size place gives) mid)) old.to_retract.items = subst (λ l. EachMayRetract g here l old.to_retract.items) applied may in
    let same : zip_all (after_retract g here) new left.to_retract.items ≡ zip_all (after_retract g here) new old.to_retract.items =
    ap (λ l. zip_all (after_retract g here) l left.to_retract.items) applied ∙ all-left_retracted size place gives here mid old.to_retract.items left.to_retract.items many reserved outs mays ∙ ap (λ l. zip_all (after_retract g here) l old.to_retract.items) (sym applied) in
    let to_retract : after_retract_all here new left ≡ after_retract_all here new old = ap (λ n. zip_all (after_retract n here) new left.to_retract.items) there ∙ same ∙ ap (λ n. zip_all (after_retract n here) new old.to_retract.items) (sym at) in
    record {
      at = there;
      may = record {
        len = within;
        may = subst (λ n. EachMayRetract n here new left.to_retract.items) (sym there) (each-left_may g here deltas new old.to_retract.items left.to_retract.items many (as_many ∙ sym few) out may);
      };
      kept = subst (Keeps size places) (sym to_retract) retracts.kept;
    }

get-written : {X : Type 0} (xs : List X) (i : ℕ) (c d : X) → slice_get xs i ≡ Some c → slice_get (slice_set xs i d) i ≡ Some d
get-written [] i c d h = cc
get-written (x ∷ xs) zero c d h = refl
get-written (x ∷ xs) (suc i) c d h = get-written xs i c d h

-- one more pair may be left out
module _ (i : ℕ) (deltas : List (Option Delta)) (old now : List Change) (delta : Option Delta) (c d : Change) (applied : slice_get deltas i ≡ Some delta) (retracts : slice_get now i ≡ Some c)
    (rest : (k : ℕ) → i ≤ k → slice_get now k ≡ slice_get old k) (s : IsLeftOut delta c d) (out : EachLeftOut deltas old now) where
  own-left_out : (m : Option Delta) (a b : Change) → slice_get deltas i ≡ Some m → slice_get old i ≡ Some a → slice_get (slice_set now i d) i ≡ Some b → IsLeftOut m a b
  own-left_out m a b p q r =
      let one : delta ≡ m = same-some delta m (sym applied ∙ p) in
      let two : c ≡ a = same-some c a (sym retracts ∙ rest i (omega arith) ∙ q) in
      let three : d ≡ b = same-some d b (sym (get-written now i c d retracts) ∙ r) in
      subst (λ e. IsLeftOut e a b) one (subst (λ e. IsLeftOut delta e b) two (subst (IsLeftOut delta c) three s))

  other-left_out : (k : ℕ) → k ≢ i → (m : Option Delta) (a b : Change) → slice_get deltas k ≡ Some m → slice_get old k ≡ Some a → slice_get (slice_set now i d) k ≡ Some b → IsLeftOut m a b
  other-left_out k n m a b p q r = out k m a b p q (sym (get-set_other now i k d n) ∙ r)

  pub left_out-more : EachLeftOut deltas old (slice_set now i d)
  left_out-more k m a b p q r = elim (same_or_not k i) [
    | inl e ↦ own-left_out m a b (ap (slice_get deltas) (sym e) ∙ p) (ap (slice_get old) (sym e) ∙ q) (ap (slice_get (slice_set now i d)) (sym e) ∙ r)
    | inr n ↦ other-left_out k n m a b p q r
  ]

  pub rest-more : (k : ℕ) → i + 1 ≤ k → slice_get (slice_set now i d) k ≡ slice_get old k
  rest-more k h = get-set_other now i k d (λ e. absurd (omega arith)) ∙ rest k (omega arith)

-- in an unchanged list no pair is left out
pub nothing-left_out : (deltas : List (Option Delta)) (old : List Change) → EachLeftOut deltas old old
nothing-left_out deltas old k m a b p q r = inl (same-some b a (sym r ∙ q))
