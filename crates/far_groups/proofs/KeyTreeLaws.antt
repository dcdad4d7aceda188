-- Entries by values of one kind, as entries by key.
use Rattle.std.proofs.Common.{◌≡◌, Bool, true, false, cond, List, [], ◌∷◌, map, refl, sym, ap, ◌∙◌, subst, Option, None, Some, ◌⊎◌, inl, inr}
use Rattle.std.specs.Prelude.{ℕ, ℤ, is_some}
use Rattle.std.specs.List.{AllByRecursion}
use Rattle.std.specs.List.Sorted.{IsStrictlySortedBy}
use Rattle.std.specs.Map.{lookup, keys_of}
use Rattle.std.specs.Ordering.{is_eq, nat_cmp, int_cmp}
use Rattle.std.specs.Cmp.Lexicographic.{slice_cmp}
use Rattle.std.specs.declared.cmp.Ordering.{Ordering}
use Rattle.std.specs.declared.cmp.Ordering.TheVariants.{Less}
use Rattle.std.specs.BTreeMap.{is_at}
use Rattle.std.specs.FinMap as fin
use Rattle.far_types.specs.declared.key.Key.{Key}
use Rattle.far_types.specs.declared.key.Key.TheVariants.{Int, Text}
use Rattle.far_types.specs.Keys.{line_cmp}
use Rattle.far_types.specs.Effects.{add_count_sums}
use Rattle.far_types.proofs.AnswersGrouping.{same_key}
use Rattle.far_types.proofs.AnswersByKeyMaps.{at, IsSet, get_at, set_inserts, inserted_new}
use Rattle.far_groups.specs.CountSums.{with_count_sum}
use Rattle.far_groups.specs.KeyTree.{KeepsOrder, keyed_by, by_kind, line_of, lines_of, numbered, by_number, number_key, by_text}

abbrev pub Tree : Type 0 → Type 0
Tree K = List (K × (ℕ × ℤ))

-- the count and the sum that a tree map finds
abbrev pub found_at : {K : Type 0} → (K → K → Ordering) → Tree K → K → Option (ℕ × ℤ)
found_at cmp es k = lookup (is_at (cmp k)) es

-- whether the new entries have o at the value k, and are unchanged at each other value
abbrev pub IsPut : {K : Type 0} → (K → K → Ordering) → Tree K → Tree K → K → Option (ℕ × ℤ) → Type 0
IsPut {K} cmp old new k o = (m : K) → found_at cmp new m ≡ cond (is_at (cmp k) m) o (found_at cmp old m)

module _ {K : Type 0} (key : K → Key) where
  -- a key that is found is the key of a value
  sought : (es : Tree K) (q : Option Key) → (at (keyed_by key es) q ≡ None) ⊎ ((m : K) × (q ≡ Some (key m)))
  sought [] q = inl refl
  sought (e ∷ es) q = at_test (is_at (line_cmp q) (Some (key e.0))) refl (sought es q) where
    at_test : (b : Bool) → is_at (line_cmp q) (Some (key e.0)) ≡ b → (at (keyed_by key es) q ≡ None) ⊎ ((m : K) × (q ≡ Some (key m))) → (at (keyed_by key (e ∷ es)) q ≡ None) ⊎ ((m : K) × (q ≡ Some (key m)))
    at_test true is rest = inr (e.0, same_key q (Some (key e.0)) is)
    at_test false is rest = elim rest [
      | inl none ↦ inl (ap (λ b. cond b (Some e.1) (at (keyed_by key es) q)) is ∙ none)
      | inr own ↦ inr own
    ]

  -- a key of another kind finds nothing
  pub get_other : (es : Tree K) (q : Option Key) → ((m : K) → q ≡ Some (key m) → ⊥) → fin.get (by_kind key es) q ≡ None
  get_other es q other = get_at (keyed_by key es) q ∙ elim (sought es q) [ inl none ↦ none | inr own ↦ absurd (other own.0 own.1) ]

  -- the lines of an answer
  pub shown : (es : Tree K) → map (λ (entry : Option Key × (ℕ × ℤ)). (entry.0, entry.1.0, entry.1.1)) (keyed_by key es) ≡ lines_of key es
  shown [] = refl
  shown (e ∷ es) = ap (λ (ls : List (Option Key × ℕ × ℤ)). line_of key e ∷ ls) (shown es)

module _ {K : Type 0} {key : K → Key} {cmp : K → K → Ordering} (ordered : KeepsOrder key cmp) where
  pub at_key : (es : Tree K) (n : K) → at (keyed_by key es) (Some (key n)) ≡ found_at cmp es n
  at_key [] n = refl
  at_key (e ∷ es) n =
      ap (λ r. cond (is_eq r) (Some e.1) (at (keyed_by key es) (Some (key n)))) (ordered.compares n e.0)
      ∙ ap (cond (is_at (cmp n) e.0) (Some e.1)) (at_key es n)

  pub get_key : (es : Tree K) (n : K) → fin.get (by_kind key es) (Some (key n)) ≡ found_at cmp es n
  get_key es n = get_at (keyed_by key es) (Some (key n)) ∙ at_key es n

  at_own : (old new : Tree K) (n : K) (o : Option (ℕ × ℤ)) → IsPut cmp old new n o → (m : K) → at (keyed_by key new) (Some (key m)) ≡ cond (is_at (line_cmp (Some (key n))) (Some (key m))) o (at (keyed_by key old) (Some (key m)))
  at_own old new n o h m =
      at_key new m
      ∙ h m
      ∙ ap (λ r. cond (is_eq r) o (found_at cmp old m)) (sym (ordered.compares n m))
      ∙ ap (cond (is_at (line_cmp (Some (key n))) (Some (key m))) o) (sym (at_key old m))

  pub as_set : (old new : Tree K) (n : K) (o : Option (ℕ × ℤ)) → IsPut cmp old new n o → IsSet (keyed_by key old) (keyed_by key new) (Some (key n)) o
  as_set old new n o h q = elim (sought key new q) [
    | inr own ↦ at_known own.0 own.1
    | inl none ↦ elim (sought key old q) [
      | inr own ↦ at_known own.0 own.1
      | inl none_before ↦ at_test (is_at (line_cmp (Some (key n))) q) refl none none_before
    ]
  ] where
    at_known : (m : K) → q ≡ Some (key m) → at (keyed_by key new) q ≡ cond (is_at (line_cmp (Some (key n))) q) o (at (keyed_by key old) q)
    at_known m is = subst (λ (k : Option Key). at (keyed_by key new) k ≡ cond (is_at (line_cmp (Some (key n))) k) o (at (keyed_by key old) k)) (sym is) (at_own old new n o h m)

    at_test : (b : Bool) → is_at (line_cmp (Some (key n))) q ≡ b → at (keyed_by key new) q ≡ None → at (keyed_by key old) q ≡ None → at (keyed_by key new) q ≡ cond (is_at (line_cmp (Some (key n))) q) o (at (keyed_by key old) q)
    at_test true is none none_before = at_known n (sym (same_key (Some (key n)) q is))
    at_test false is none none_before = none ∙ sym (ap (λ b. cond b o (at (keyed_by key old) q)) is ∙ none_before)

  pub put_inserts : (old new : Tree K) (n : K) (t : ℕ × ℤ) → IsPut cmp old new n (Some t) → by_kind key new ≡ fin.insert (by_kind key old) (Some (key n)) t
  put_inserts old new n t h = set_inserts (keyed_by key old) (keyed_by key new) (Some (key n)) t (as_set old new n (Some t) h)

  pub put_new : (old mid new : Tree K) (k n : K) (more : ℕ × ℤ) → mid ≡ old → k ≡ n → is_some (fin.get (by_kind key old) (Some (key n))) ≡ false → IsPut cmp mid new k (Some more) → by_kind key new ≡ with_count_sum (by_kind key old) (Some (key n)) more
  put_new old mid new k n more same equal absent put =
      inserted_new add_count_sums (keyed_by key old) (keyed_by key mid) (keyed_by key new) (Some (key k)) (Some (key n)) more (ap (keyed_by key) same) (ap (λ m. Some (key m)) equal) absent (as_set mid new k (Some more) put)

  below : (n : K) (es : Tree K) → AllByRecursion (λ m. cmp n m ≡ Less) (keys_of es) → AllByRecursion (λ k. line_cmp (Some (key n)) k ≡ Less) (keys_of (keyed_by key es))
  below n [] h = tt
  below n (e ∷ es) h = (ordered.compares n e.0 ∙ h.0, below n es h.1)

  -- ascending values are ascending keys
  pub ascend : (es : Tree K) → IsStrictlySortedBy cmp (keys_of es) → IsStrictlySortedBy line_cmp (keys_of (keyed_by key es))
  unfolding IsStrictlySortedBy
  ascend [] h = tt
  ascend (e ∷ es) h = (below e.0 es h.0, ascend es h.1)

-- a tree of numbers
numbers_keep : KeepsOrder Int int_cmp
numbers_keep = record { compares = λ m n. refl }

pub get_number : (es : Tree ℤ) (n : ℤ) → fin.get (by_number es) (number_key n) ≡ found_at int_cmp es n
get_number = get_key numbers_keep

pub ascend_numbers : (es : Tree ℤ) → IsStrictlySortedBy int_cmp (keys_of es) → IsStrictlySortedBy line_cmp (keys_of (numbered es))
ascend_numbers = ascend numbers_keep

-- a tree of texts
texts_keep : KeepsOrder Text (slice_cmp nat_cmp)
texts_keep = record { compares = λ s t. refl }

pub get_text : (es : Tree (List ℕ)) (t : List ℕ) → fin.get (by_text es) (Some (Text t)) ≡ found_at (slice_cmp nat_cmp) es t
get_text = get_key texts_keep

pub ascend_texts : (es : Tree (List ℕ)) → IsStrictlySortedBy (slice_cmp nat_cmp) (keys_of es) → IsStrictlySortedBy line_cmp (keys_of (keyed_by Text es))
ascend_texts = ascend texts_keep
