-- Lookups by a walk, and the lines that it has not passed then.
use Rattle.std.proofs.Common.{◌≡◌, ap, ◌∙◌, sym, refl, subst, Option, None, Some, [], ◌∷◌, ◌++◌}
use Rattle.std.proofs.lemmas.List.{append_assoc}
use Rattle.std.specs.Prelude.{ℕ, ℤ, pos}
use Rattle.std.specs.List.{AllByRecursion}
use Rattle.std.specs.List.Sorted.{IsStrictlySortedBy}
use Rattle.std.specs.Map.{keys_of}
use Rattle.std.specs.Map.Iter.{TakesFirst, deref_pair}
use Rattle.std.specs.Ordering.{ordering_reverse}
use Rattle.std.specs.declared.cmp.Ordering.{Ordering}
use Rattle.std.specs.declared.cmp.Ordering.TheVariants.{Less, Equal, Greater}
use Rattle.std.proofs.lemmas.Map.{lookup-none}
use Rattle.std.proofs.lemmas.Map.Entries.{none_below_head}
use denote.Ref.{Bor}
use Rattle.far_types.specs.declared.key.Key.{Key}
use Rattle.far_types.specs.Keys.{line_cmp}
use Rattle.far_types.specs.KeyOrder.{line_total}
use Rattle.far_groups.specs.Walks.{Lines, ahead, count_sum_at, new_lines}

-- whether keys ascend
abbrev pub Ascend : Lines → Type 0
Ascend es = IsStrictlySortedBy line_cmp (keys_of es)

-- the lines ahead after one step are the lines after the first one
pub stepped : (s t : Lines) (r : Option (Bor (Option Key) × Bor (ℕ × ℤ))) → TakesFirst deref_pair s r t → ahead r t ≡ s
stepped s t None h = sym h.0
stepped s t (Some e) h = sym h

pub rest_ascend : (e : Option Key × (ℕ × ℤ)) (es : Lines) → Ascend (e ∷ es) → Ascend es
unfolding IsStrictlySortedBy
rest_ascend e es h = h.1

-- a comparison with swapped sides
turned : (x y : Option Key) (o p : Ordering) → line_cmp x y ≡ o → ordering_reverse o ≡ p → line_cmp y x ≡ p
turned x y o p h k = line_total.antisymm y x ∙ ap ordering_reverse h ∙ k

-- a key above the first line is searched for in the rest
pub passed : (e : Option Key × (ℕ × ℤ)) (es : Lines) (q : Option Key) → line_cmp e.0 q ≡ Less → count_sum_at (e ∷ es) q ≡ count_sum_at es q
passed e es q h = rw (turned e.0 q Less Greater h refl) refl

-- the key of the first line is found
pub met : (e : Option Key × (ℕ × ℤ)) (es : Lines) (q : Option Key) → line_cmp e.0 q ≡ Equal → count_sum_at (e ∷ es) q ≡ Some e.1
met e es q h = rw (turned e.0 q Equal Equal h refl) refl

-- a key below the first line is not found
pub missed : (e : Option Key × (ℕ × ℤ)) (es : Lines) (q : Option Key) → Ascend (e ∷ es) → line_cmp e.0 q ≡ Greater → count_sum_at (e ∷ es) q ≡ None
missed e es q up h = lookup-none _ (e ∷ es) (none_below_head line_total q e es up (turned e.0 q Greater Less h refl))

-- a key above another one is above each key that is lower than that one
pub above_both : (x k q : Option Key) → line_cmp x k ≡ Less → line_cmp k q ≡ Less → line_cmp x q ≡ Less
above_both x k q h g = line_total.trans x k q h g

pub above_equal : (x k q : Option Key) → line_cmp x k ≡ Equal → line_cmp k q ≡ Less → line_cmp x q ≡ Less
above_equal x k q h g = line_total.congr x k q h ∙ g

-- a walk whose current line is n
module _ {o : Option (Bor (Option Key) × Bor (ℕ × ℤ))} {n : Bor (Option Key) × Bor (ℕ × ℤ)} (is : o ≡ Some n) (s : Lines) (q : Option Key) where
  -- it finds that line
  pub found_here : line_cmp n.0.now q ≡ Equal → count_sum_at (ahead o s) q ≡ Some n.1.now
  found_here h = ap (λ x. count_sum_at (ahead x s) q) is ∙ met (deref_pair n) s q h

  -- it finds nothing below that line
  pub not_ahead : Ascend (ahead o s) → line_cmp n.0.now q ≡ Greater → count_sum_at (ahead o s) q ≡ None
  not_ahead up h = ap (λ x. count_sum_at (ahead x s) q) is ∙ missed (deref_pair n) s q (subst (λ x. Ascend (ahead x s)) is up) h

-- the same walk after one step
module _ {o : Option (Bor (Option Key) × Bor (ℕ × ℤ))} {n : Bor (Option Key) × Bor (ℕ × ℤ)} (is : o ≡ Some n) (s t : Lines) (r : Option (Bor (Option Key) × Bor (ℕ × ℤ))) (step : TakesFirst deref_pair s r t) where
  pub still_ascend : Ascend (ahead o s) → Ascend (ahead r t)
  still_ascend up = subst Ascend (sym (stepped s t r step)) (rest_ascend (deref_pair n) s (subst (λ x. Ascend (ahead x s)) is up))

  -- it finds each key above that line as before
  pub moved_past : (q : Option Key) → line_cmp n.0.now q ≡ Less → count_sum_at (ahead r t) q ≡ count_sum_at (ahead o s) q
  moved_past q h = ap (λ es. count_sum_at es q) (stepped s t r step) ∙ sym (ap (λ x. count_sum_at (ahead x s) q) is ∙ passed (deref_pair n) s q h)

-- whether a walk finds under each of some keys what the map has there
abbrev pub Finds : Lines → Lines → Lines → Type 0
Finds walk es for = AllByRecursion (λ (e : Option Key × (ℕ × ℤ)). count_sum_at walk e.0 ≡ count_sum_at es e.0) for

-- a walk at its beginning does
pub finds_all : (es for : Lines) → Finds es es for
finds_all es [] = tt
finds_all es (e ∷ for) = (refl, finds_all es for)

-- a walk that has passed a key still does for greater keys
still_finds : (walk after es for : Lines) (k : Option Key) → AllByRecursion (λ y. line_cmp k y ≡ Less) (keys_of for) → ((q : Option Key) → line_cmp k q ≡ Less → count_sum_at after q ≡ count_sum_at walk q) → Finds walk es for → Finds after es for
still_finds walk after es [] k less same h = tt
still_finds walk after es (e ∷ for) k less same h = (same e.0 less.0 ∙ h.0, still_finds walk after es for k less.1 same h.1)

pub finds_rest : (walk after es : Lines) (e : Option Key × (ℕ × ℤ)) (for : Lines) → Ascend (e ∷ for) → ((q : Option Key) → line_cmp e.0 q ≡ Less → count_sum_at after q ≡ count_sum_at walk q) → Finds walk es (e ∷ for) → Finds after es for
unfolding IsStrictlySortedBy
finds_rest walk after es e for up same h = still_finds walk after es for e.0 up.0 same h.1

-- a key that the map does not have makes a new line
pub new_here : (es for : Lines) (e : Option Key × (ℕ × ℤ)) → count_sum_at es e.0 ≡ None → new_lines es (e ∷ for) ≡ (e.0, (0, pos 0)) ∷ new_lines es for
new_here es for e none = rw none refl

-- a key that the map has makes no new line
pub known_here : (es for : Lines) (e : Option Key × (ℕ × ℤ)) → (count_sum_at es e.0 ≡ None → ⊥) → new_lines es (e ∷ for) ≡ new_lines es for
known_here es for e some = at_key (count_sum_at es e.0) refl where
  at_key : (o : Option (ℕ × ℤ)) → count_sum_at es e.0 ≡ o → new_lines es (e ∷ for) ≡ new_lines es for
  at_key None is = absurd (some is)
  at_key (Some t) is = rw is refl

-- the lines so far, with one more
pub one_more : (xs ys zs all : Lines) (x : Option Key × (ℕ × ℤ)) → ys ≡ x ∷ zs → xs ++ ys ≡ all → (xs ++ x ∷ []) ++ zs ≡ all
one_more xs ys zs all x is whole = append_assoc xs (x ∷ []) zs ∙ ap (λ rest. xs ++ rest) (sym is) ∙ whole
