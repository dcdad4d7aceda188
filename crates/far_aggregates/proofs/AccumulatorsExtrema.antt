-- The extrema of the row group of an edit: with the added pair, and without the retracted pair.
use Rattle.std.proofs.Common.{inl, inr, ◌≡◌, ◌≢◌, ℕ, zero, suc, ◌<◌, Bool, true, false, cond, List, [], ◌∷◌, length, refl, sym, ap, ◌∙◌, arith, Option, None, Some, slice_get, slice_set}
use Rattle.std.specs.Prelude.{◌⊎◌, ℤ, ◌<ℤ◌, ◌≤ℤ◌}
use Rattle.std.specs.List.{filter_map, cons_option}
use Rattle.std.specs.FinMap as fin
use Rattle.std.proofs.lemmas.List.{get_or-set_same, get_or-set_other}
use Rattle.far_types.specs.declared.key.Key.{Key}
use Rattle.far_types.specs.declared.spec.Spec.{Spec}
use Rattle.far_types.specs.Keys.{line_cmp}
use Rattle.far_types.specs.Answers.{Extrema, extrema}
use Rattle.far_types.specs.Effects.{with_observed, min_max_with}
use Rattle.far_types.specs.Edits.{change_at}
use Rattle.far_types.specs.Pairs.{Pair}
use Rattle.far_types.specs.Table.{Place, place_pair, in_group, is_pending}
use Rattle.far_types.proofs.AnswersByKeyMaps.{get_inserted}
use Rattle.far_types.proofs.EffectsLaws.{extrema-cons, extrema-among}
use Rattle.far_extrema.specs.Live.{group_at}
use Rattle.far_extrema.specs.MinMaxes.{put_min_max}
use Rattle.far_extrema.proofs.MinMaxesRemoval.{gone, within, put-same}
use Rattle.far_extrema.proofs.HoldersLaws.{widened_within}
use Rattle.far_aggregates.specs.Accumulators.{Change, group_pairs, scanned_group}
use Rattle.far_aggregates.specs.Pairs.{with_observed_change}
use Rattle.far_aggregates.proofs.ListLaws.{length-written, set-own}

pub same_or_not : (a b : ℕ) → (a ≡ b) ⊎ (a ≢ b)
same_or_not zero zero = inl refl
same_or_not zero (suc b) = inr (λ e. absurd (omega arith))
same_or_not (suc a) zero = inr (λ e. absurd (omega arith))
same_or_not (suc a) (suc b) = elim (same_or_not a b) as (λ o. (suc a ≡ suc b) ⊎ (suc a ≢ suc b)) [ inl e ↦ inl (ap suc e) | inr n ↦ inr (λ e. n (omega arith)) ]

pub observed-more : (o : Change) (ps : List Pair) → extrema (cons_option o ps) ≡ with_observed_change (extrema ps) o
observed-more None ps = refl
observed-more (Some pair) ps = extrema-cons pair ps

pub observed-swap : (a b : Change) (ps : List Pair) → extrema (cons_option a (cons_option b ps)) ≡ extrema (cons_option b (cons_option a ps))
observed-swap None b ps = refl
observed-swap (Some x) None ps = refl
observed-swap (Some x) (Some y) ps = sym (extrema-among (y ∷ []) x ps)

observed-under : (o : Change) (ps qs : List Pair) → extrema ps ≡ extrema qs → extrema (cons_option o ps) ≡ extrema (cons_option o qs)
observed-under o ps qs h = observed-more o ps ∙ ap (λ m. with_observed_change m o) h ∙ sym (observed-more o qs)

-- the pairs of all places but one
module _ (spec : Spec) where
  abbrev pub rest : List Place → ℕ → List Pair
  rest [] j = []
  rest (p ∷ ps) zero = filter_map (place_pair spec) ps
  rest (p ∷ ps) (suc j) = cons_option (place_pair spec p) (rest ps j)

  pub rest-separate : (ps : List Place) (j : ℕ) (x : Place) → slice_get ps j ≡ Some x → extrema (filter_map (place_pair spec) ps) ≡ extrema (cons_option (place_pair spec x) (rest ps j))
  rest-separate [] j x h = cc
  rest-separate (p ∷ ps) zero x h = let e : p ≡ x = cc in rw e refl
  rest-separate (p ∷ ps) (suc j) x h =
      observed-under (place_pair spec p) _ _ (rest-separate ps j x h) ∙ observed-swap (place_pair spec p) (place_pair spec x) (rest ps j)

  pub rest-changed : (f : Place → Place) (ps : List Place) (j : ℕ) → rest (change_at f j ps) j ≡ rest ps j
  rest-changed f [] j = refl
  rest-changed f (p ∷ ps) zero = refl
  rest-changed f (p ∷ ps) (suc j) = ap (cons_option (place_pair spec p)) (rest-changed f ps j)

-- extrema without a retracted pair, which are the extrema of the other pairs
abbrev pub without_retracted : Change → Extrema → Extrema → Extrema
without_retracted None m new = m
without_retracted (Some pair) m new = put_min_max m pair.0 (fin.get new pair.0)

pub gone-leaves : (a : Change) (qs : List Pair) (m new : Extrema) → m ≡ extrema (cons_option a qs) → new ≡ extrema qs → without_retracted a m new ≡ new
gone-leaves None qs m new h k = h ∙ sym k
gone-leaves (Some p) qs m new h k = (λ i. put_min_max (h i) p.0 (fin.get (k i) p.0)) ∙ gone qs p ∙ sym k

-- the min-max under its key is the min-max of the other pairs, widened by its value
pub gone-observed : (p : Pair) (qs : List Pair) (m new : Extrema) → m ≡ extrema (p ∷ qs) → new ≡ extrema qs → fin.get m p.0 ≡ Some (min_max_with p.1 (fin.get new p.0))
gone-observed p qs m new h k =
    ap (λ n. fin.get n p.0) (h ∙ extrema-cons p qs)
    ∙ get_inserted (extrema qs) p.0 (min_max_with p.1 (fin.get (extrema qs) p.0))
    ∙ ap (λ n. Some (min_max_with p.1 (fin.get n p.0))) (sym k)

-- row groups of which only one may differ from before
abbrev pub IsWith : ℕ → List Extrema → List Extrema → Extrema → Type 0
IsWith g gs hs m = (group_at hs g ≡ m) × ((h : ℕ) → h ≢ g → group_at hs h ≡ group_at gs h)

abbrev pub groups_observed : ℕ → List Extrema → Change → List Extrema
groups_observed g gs None = gs
groups_observed g gs (Some pair) = slice_set gs g (with_observed (group_at gs g) pair)

abbrev pub groups_left : ℕ → List Extrema → Change → Extrema → List Extrema
groups_left g gs None new = gs
groups_left g gs (Some pair) new = slice_set gs g (put_min_max (group_at gs g) pair.0 (fin.get new pair.0))

pub observed-is : (g : ℕ) (gs : List Extrema) (o : Change) → g < length gs → IsWith g gs (groups_observed g gs o) (with_observed_change (group_at gs g) o)
observed-is g gs None l = (refl, λ h n. refl)
observed-is g gs (Some p) l = (get_or-set_same gs g _ fin.empty l, λ h n. get_or-set_other gs g h _ fin.empty n)

pub left-is : (g : ℕ) (gs : List Extrema) (o : Change) (new : Extrema) → g < length gs → IsWith g gs (groups_left g gs o new) (without_retracted o (group_at gs g) new)
left-is g gs None new l = (refl, λ h n. refl)
left-is g gs (Some p) new l = (get_or-set_same gs g _ fin.empty l, λ h n. get_or-set_other gs g h _ fin.empty n)

pub observed-length : (g : ℕ) (gs : List Extrema) (o : Change) → length (groups_observed g gs o) ≡ length gs
observed-length g gs None = refl
observed-length g gs (Some p) = length-written gs g _

-- all other row groups have the same places as before
module _ (spec : Spec) (size : ℕ) (pending : List Bool) (g : ℕ) (ps qs : List Place) (others : (h : ℕ) → h ≢ g → in_group size h qs ≡ in_group size h ps) where
  other-group : (h : ℕ) → h ≢ g → scanned_group spec size pending ps h ≡ scanned_group spec size pending qs h
  other-group h n = ap (λ l. cond (is_pending pending h) fin.empty (extrema (filter_map (place_pair spec) l))) (sym (others h n))

  -- the row group is scanned, and has the extrema of its places
  pub extrema-if-scanned : (gs hs : List Extrema) → is_pending pending g ≡ false → ((h : ℕ) → group_at gs h ≡ scanned_group spec size pending ps h) → IsWith g gs hs (extrema (group_pairs spec size g qs))
      → (h : ℕ) → group_at hs h ≡ scanned_group spec size pending qs h
  extrema-if-scanned gs hs is kept w h = elim (same_or_not h g) as (λ o. group_at hs h ≡ scanned_group spec size pending qs h) [
    | inl e ↦
        ap (group_at hs) e ∙ w.0
        ∙ sym (ap (λ b. cond b fin.empty (extrema (group_pairs spec size g qs))) is)
        ∙ ap (scanned_group spec size pending qs) (sym e)
    | inr n ↦ w.1 h n ∙ kept h ∙ other-group h n
  ]

  -- the row group is pending, and has no extrema
  pub extrema-if-pending : (gs : List Extrema) → is_pending pending g ≡ true → ((h : ℕ) → group_at gs h ≡ scanned_group spec size pending ps h) → (h : ℕ) → group_at gs h ≡ scanned_group spec size pending qs h
  extrema-if-pending gs is kept h =
      kept h ∙ elim (same_or_not h g) as (λ o. scanned_group spec size pending ps h ≡ scanned_group spec size pending qs h) [
        | inl e ↦
            let shut : is_pending pending h ≡ true = ap (is_pending pending) e ∙ is in
            ap (λ b. cond b fin.empty (extrema (group_pairs spec size h ps))) shut ∙ sym (ap (λ b. cond b fin.empty (extrema (group_pairs spec size h qs))) shut)
        | inr n ↦ other-group h n
      ]

nothing : (x : ℤ × ℤ) → None ≡ Some x → ⊥
nothing x e = cc

-- a row group in which a key occurs is reserved
pub is-reserved : (g : ℕ) (gs : List Extrema) (k : Option Key) (x : ℤ × ℤ) → fin.get (group_at gs g) k ≡ Some x → g < length gs
is-reserved g [] k x h = absurd (nothing x (sym (fin.get-empty line_cmp k) ∙ h))
is-reserved zero (m ∷ gs) k x h = omega arith
is-reserved (suc g) (m ∷ gs) k x h = let rest = is-reserved g gs k x h in omega arith

some_min_max : (s t : ℤ × ℤ) → Some s ≡ Some t → t ≡ s
some_min_max s t e = cc

-- if the value to retract is strictly within, the row group stays as it is
pub left-within : (g : ℕ) (gs : List Extrema) (k : Option Key) (v : ℤ) (o : Option (ℤ × ℤ)) (s : ℤ × ℤ) → fin.get (group_at gs g) k ≡ Some (min_max_with v o) → fin.get (group_at gs g) k ≡ Some s → s.0 <ℤ v → v <ℤ s.1
    → gs ≡ slice_set gs g (put_min_max (group_at gs g) k o)
left-within g gs k v o s observed found low high =
    let rest = within v o s (some_min_max _ _ (sym found ∙ observed)) low high in
    sym (ap (λ p. slice_set gs g (put_min_max (group_at gs g) k p)) rest ∙ ap (slice_set gs g) (put-same (group_at gs g) k s found) ∙ set-own gs g fin.empty)

-- if an added value is within, the row group stays as it is
pub observed-within : (g : ℕ) (gs : List Extrema) (k : Option Key) (v : ℤ) (s : ℤ × ℤ) → fin.get (group_at gs g) k ≡ Some s → s.0 ≤ℤ v → v ≤ℤ s.1 → gs ≡ slice_set gs g (with_observed (group_at gs g) (k, v))
observed-within g gs k v s found low high =
    let m = group_at gs g in
    let same : with_observed m (k, v) ≡ m = ap (λ o. fin.insert m k (min_max_with v o)) found ∙ ap (fin.insert m k) (widened_within v s low high) ∙ put-same m k s found in
    sym (ap (slice_set gs g) same ∙ set-own gs g fin.empty)
