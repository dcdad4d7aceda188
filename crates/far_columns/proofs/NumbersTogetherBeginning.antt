-- Columns of numbers whose next places begin row groups: one gets an object, then the others do.
use Rattle.std.proofs.Common.{◌≡◌, ℕ, ℤ, ◌+◌, ◌-◌, ◌*◌, ◌<◌, ◌≤◌, Bool, true, false, cond, inl, inr, List, [], ◌∷◌, ◌++◌, length, get_or, set, map, take, Option, None, Some, refl, sym, ap, subst, ◌∙◌, arith}
use Rattle.std.specs.Prelude.{All, slice_get, slice_set, slice_index, ◌⊎◌, not, is_some}
use Rattle.std.specs.Option.{option_map_or}
use Rattle.std.proofs.lemmas.Bool.{eqb-true}
use Rattle.std.proofs.lemmas.List.{length_push, length-map, get_or-map, take_all, take_more, take_more_set}
use Rattle.std.proofs.lemmas.List.Elements.{All-map}
use Rattle.far_scopes.proofs.MemoryWordPlaces.{slice_get-push_last}
use Rattle.far_types.specs.declared.refusal.Refusal.{Refusal}
use Rattle.far_types.specs.declared.refusal.Refusal.TheVariants as refusal
use Rattle.far_types.specs.FirstOf.{first_of}
use Rattle.far_log.specs.RegionState.{spaces_of, lowest_for, fits_in, fit_in_order}
use Rattle.far_scopes.specs.Movement.{Movement}
use Rattle.far_scopes.specs.Effects.{after_create, new_record}
use Rattle.far_scopes.specs.Refusing.{no_space, write_refusal}
use Rattle.far_columns.specs.Vector.{Vector, IsShaped, object_at}
use Rattle.far_columns.specs.Effects.{is_full, after_push, objects_after_push, next_name, next_group, after_write_range}
use Rattle.far_columns.specs.Refusing.{push_refusal}
use Rattle.far_columns.specs.NumbersTogether.{NumberColumns}

module _ {K : Type 0} (m mid : Movement (Option ℤ) K) (c c' : Vector (Option ℤ)) (x : Option ℤ) (full : is_full c ≡ true) (is : c' ≡ after_push c (length m.records)) (written : mid ≡ objects_after_push m c x) where
  -- there is one more object
  pub one-more : length mid.records ≡ length m.records + 1
  one-more =
      ap (λ w. length w.records) (written ∙ ap (λ (b : Bool). cond b (after_create m (next_name c) (next_group c x)) (after_write_range m c c.len (x ∷ []))) full)
      ∙ length_push m.records (new_record (next_name c) (length (next_group c x)))

  longer : c' ≡ record c { objects = c.objects ++ length m.records ∷ []; len = c.len + 1 }
  longer = is ∙ ap (λ (b : Bool). cond b (record c { objects = c.objects ++ length m.records ∷ []; len = c.len + 1 }) (record c { len = c.len + 1 })) full

  -- the number is the only one of its row group
  pub alone : c'.len ≡ (length c'.objects - 1) * c'.size + 1
  alone =
      let places : c.len ≡ length c.objects * c.size = eqb-true c.len (length c.objects * c.size) full in
      let groups : length c'.objects - 1 ≡ length c.objects = let more = ap (λ (v : Vector (Option ℤ)). length v.objects) longer ∙ length_push c.objects (length m.records) in omega (arith, more) in
      ap (λ (v : Vector (Option ℤ)). v.len) longer ∙ ap (λ n. n + 1) places ∙ ap (λ n. n * c.size + 1) (sym groups) ∙ ap (λ s. (length c'.objects - 1) * s + 1) (sym (ap (λ (v : Vector (Option ℤ)). v.size) longer))

  -- the row group's object is the last one
  pub last : slice_get c'.objects (length c'.objects - 1) ≡ Some (length mid.records - 1)
  last =
      let groups : length c'.objects - 1 ≡ length c.objects = let more = ap (λ (v : Vector (Option ℤ)). length v.objects) longer ∙ length_push c.objects (length m.records) in omega (arith, more) in
      let number : length m.records ≡ length mid.records - 1 = omega (arith, one-more) in
      ap (λ (v : Vector (Option ℤ)). slice_get v.objects (length c'.objects - 1)) longer
      ∙ ap (slice_get (c.objects ++ length m.records ∷ [])) groups
      ∙ slice_get-push_last c.objects (length m.records)
      ∙ ap Some number

-- the sizes of row groups, recorded one after another
module _ (columns : NumberColumns) (sizes : List ℕ) where
  pub sizes-more : (k : ℕ) (c : Vector (Option ℤ)) → k < length columns → k < length sizes → c ≡ get_or columns k c → take k sizes ≡ take k (map (λ c. c.size) columns) → take (k + 1) (set sizes k c.size) ≡ take (k + 1) (map (λ c. c.size) columns)
  sizes-more k c within inside is so =
      let size : c.size ≡ get_or (map (λ c. c.size) columns) k c.size = ap (λ c. c.size) is ∙ sym (get_or-map (λ c. c.size) columns k c c.size within) in
      take_more_set sizes k c.size inside ∙ ap (λ l. l ++ c.size ∷ []) so ∙ ap (λ s. take k (map (λ c. c.size) columns) ++ s ∷ []) size
      ∙ sym (take_more (map (λ c. c.size) columns) k c.size (omega (arith, within, length-map columns (λ c. c.size))))

  pub sizes-some : (k : ℕ) → length columns ≤ k → k ≤ length columns → All IsShaped columns → take k sizes ≡ take k (map (λ c. c.size) columns) → All (λ size. 0 < size) (take (length columns) sizes)
  sizes-some k past within shaped so =
      let all : k ≡ length columns = omega (arith, past, within) in
      subst (λ n. All (λ size. 0 < size) (take n sizes)) all (subst (All (λ size. 0 < size)) (sym (so ∙ take_all k (map (λ c. c.size) columns) (omega (arith, past, length-map columns (λ c. c.size))))) (All-map (λ size. 0 < size) (λ c. c.size) columns (λ k d below. (shaped k d below).some)))

-- if the first list does not fit, not all lists fit
pub none-fits : (spaces : List ℕ) (n : ℕ) (ns : List ℕ) → is_some (lowest_for spaces n) ≡ false → fit_in_order spaces (n ∷ ns) ≡ false
none-fits spaces n ns full = on-none (λ i. fit_in_order (slice_set spaces i (slice_index spaces i - n)) ns) (lowest_for spaces n) full
  where
    on-none : (f : ℕ → Bool) (o : Option ℕ) → is_some o ≡ false → option_map_or f o false ≡ false
    on-none f None full = refl
    on-none f (Some i) full = absurd cc

-- why the first of several is refused
module _ {K : Type 0} (m : Movement (Option ℤ) K) (c : Vector (Option ℤ)) (lens : List ℕ) (full : is_full c ≡ true) where
  due : push_refusal m c ≡ first_of (no_space m (length m.records) c.size ∷ [])
  due = ap (λ (b : Bool). cond b (first_of (no_space m (length m.records) c.size ∷ [])) (write_refusal m (object_at c c.len))) full

  space-due : (e : Refusal) (fits : Bool) → first_of ((not fits, refusal.RegionFull) ∷ []) ≡ Some e → (e ≡ refusal.RegionFull) × (fits ≡ false)
  space-due e true is = absurd cc
  space-due e false is = (cc, refl)

  pub first-refused : (e : Refusal) → (push_refusal m c ≡ Some e) ⊎ ((push_refusal m c ≡ None) × (is_full c ≡ true) × (e ≡ refusal.NoMemory))
      → ((e ≡ refusal.RegionFull) × (fit_in_order (spaces_of m.memory.state) (c.size ∷ lens) ≡ false)) ⊎ (e ≡ refusal.NoMemory)
  first-refused e (inl some) =
      let why = space-due e (fits_in m.memory.state c.size) (sym due ∙ some) in
      inl (why.0, none-fits (spaces_of m.memory.state) c.size lens why.1)
  first-refused e (inr rest) = inr rest.2

-- why the others are refused
pub others-refused : (one all : Bool) (e : Refusal) → all ≡ one → ((e ≡ refusal.RegionFull) × (one ≡ false)) ⊎ (e ≡ refusal.NoMemory) → ((e ≡ refusal.RegionFull) × (all ≡ false)) ⊎ (e ≡ refusal.NoMemory)
others-refused one all e same (inl full) = inl (full.0, same ∙ full.1)
others-refused one all e same (inr memory) = inr memory
