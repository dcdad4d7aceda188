-- Lookups in a list that has a place for each small number, and how the list changes at one place.
use Rattle.std.proofs.Common.{◌≡◌, ℕ, zero, suc, ◌+◌, ◌≤◌, ◌<◌, ◌==◌, Bool, true, false, cond, List, [], ◌∷◌, ◌++◌, length, get_or, refl, sym, ap, ◌∙◌, subst, Option, None, Some, arith, slice_set}
use Rattle.std.specs.Prelude.{ℤ}
use Rattle.std.specs.BTreeMap.{is_at}
use Rattle.std.specs.Cmp.{eq_by_cmp_equiv}
use Rattle.std.proofs.lemmas.Bool.Decides.{nat_tests}
use Rattle.far_types.specs.declared.key.Key.{Key}
use Rattle.far_types.specs.Keys.{line_cmp}
use Rattle.far_types.specs.KeyOrder.{line_total}
use Rattle.far_types.proofs.AnswersGrouping.{same_key, own_key}
use Rattle.far_types.proofs.AnswersByKeyMaps.{Entries, at, IsSet}
use Rattle.far_groups.specs.KeyTree.{numbered}
use Rattle.far_groups.specs.Dense.{place_number, place_key, standing, entries_from}
use Rattle.far_groups.proofs.PlaceNumbers.{key_of_place}

abbrev pub Places : Type 0
Places = List (ℕ × ℤ)

-- the lines of a list that begins with place n
abbrev pub lines_from : ℕ → Places → Entries (ℕ × ℤ)
lines_from n ts = numbered (entries_from n ts)

-- a condition with two equal cases
either : (b : Bool) (o : Option (ℕ × ℤ)) → cond b o o ≡ o
either true o = refl
either false o = refl

at_cons : (n : ℕ) (t : ℕ × ℤ) (ts : Places) (q : Option Key) → at (lines_from n (t ∷ ts)) q ≡ cond (t.0 == 0) (at (lines_from (n + 1) ts) q) (cond (is_at (line_cmp q) (place_key n)) (Some t) (at (lines_from (n + 1) ts) q))
at_cons n t ts q = elim (t.0 == 0) as (λ b. at (numbered (cond b (entries_from (n + 1) ts) ((place_number n, t) ∷ entries_from (n + 1) ts))) q ≡ cond b (at (lines_from (n + 1) ts) q) (cond (is_at (line_cmp q) (place_key n)) (Some t) (at (lines_from (n + 1) ts) q))) [ true ↦ refl | false ↦ refl ]

-- any key but the first place's key is searched for in the rest
at_rest : (n : ℕ) (t : ℕ × ℤ) (ts : Places) (q : Option Key) → is_at (line_cmp q) (place_key n) ≡ false → at (lines_from n (t ∷ ts)) q ≡ at (lines_from (n + 1) ts) q
at_rest n t ts q other =
    at_cons n t ts q
    ∙ ap (λ b. cond (t.0 == 0) (at (lines_from (n + 1) ts) q) (cond b (Some t) (at (lines_from (n + 1) ts) q))) other
    ∙ either (t.0 == 0) (at (lines_from (n + 1) ts) q)

pub other_place : (i n : ℕ) → (i ≡ n → ⊥) → is_at (line_cmp (place_key i)) (place_key n) ≡ false
other_place i n other = at_test (is_at (line_cmp (place_key i)) (place_key n)) refl where
  at_test : (b : Bool) → is_at (line_cmp (place_key i)) (place_key n) ≡ b → is_at (line_cmp (place_key i)) (place_key n) ≡ false
  at_test true is = absurd (other (key_of_place i n (same_key (place_key i) (place_key n) is)))
  at_test false is = is

-- no place before the first one is found
none_below : (n i : ℕ) (ts : Places) → i < n → at (lines_from n ts) (place_key i) ≡ None
none_below n i [] low = refl
none_below n i (t ∷ ts) low = at_rest n t ts (place_key i) (other_place i n (λ h. omega arith)) ∙ none_below (n + 1) i ts (omega arith)

-- no place after the last one is found
pub none_behind : (n k : ℕ) (ts : Places) → n + length ts ≤ k → at (lines_from n ts) (place_key k) ≡ None
none_behind n k [] high = refl
none_behind n k (t ∷ ts) high = at_rest n t ts (place_key k) (other_place k n (λ h. omega arith)) ∙ none_behind (n + 1) k ts (omega arith)

-- no key without a place is found
pub none_elsewhere : (n : ℕ) (ts : Places) (q : Option Key) → ((place : ℕ) → q ≡ place_key place → ⊥) → at (lines_from n ts) q ≡ None
none_elsewhere n [] q other = refl
none_elsewhere n (t ∷ ts) q other = at_rest n t ts q (at_test (is_at (line_cmp q) (place_key n)) refl) ∙ none_elsewhere (n + 1) ts q other where
  at_test : (b : Bool) → is_at (line_cmp q) (place_key n) ≡ b → is_at (line_cmp q) (place_key n) ≡ false
  at_test true is = absurd (other n (same_key q (place_key n) is))
  at_test false is = is

at_first : (n : ℕ) (t : ℕ × ℤ) (ts : Places) → at (lines_from n (t ∷ ts)) (place_key n) ≡ standing t
at_first n t ts =
    at_cons n t ts (place_key n)
    ∙ ap (λ o. cond (t.0 == 0) o (cond (is_at (line_cmp (place_key n)) (place_key n)) (Some t) o)) (none_below (n + 1) n ts (omega arith))
    ∙ ap (λ b. cond (t.0 == 0) None (cond b (Some t) None)) (own_key (place_key n))

-- the key of a place finds the count and the sum there, unless the count is 0
pub at_place : (n i k : ℕ) (ts : Places) (d : ℕ × ℤ) → k ≡ n + i → i < length ts → at (lines_from n ts) (place_key k) ≡ standing (get_or ts i d)
at_place n i k [] d is within = absurd (omega arith)
at_place n zero k (t ∷ ts) d is within = let first : k ≡ n = omega arith in ap (λ (m : ℕ). at (lines_from n (t ∷ ts)) (place_key m)) first ∙ at_first n t ts
at_place n (suc i) k (t ∷ ts) d is within =
    at_rest n t ts (place_key k) (other_place k n (λ h. omega arith)) ∙ at_place (n + 1) i k ts d (omega arith) (omega arith)

turned : (q k : Option Key) → is_at (line_cmp q) k ≡ is_at (line_cmp k) q
turned q k = (eq_by_cmp_equiv line_total).symm q k

-- setting a place after the first one
set_behind : (n k : ℕ) (x : ℕ × ℤ) (ts us : Places) (o : Option (ℕ × ℤ)) → (k ≡ n → ⊥) → IsSet (lines_from (n + 1) ts) (lines_from (n + 1) us) (place_key k) o → IsSet (lines_from n (x ∷ ts)) (lines_from n (x ∷ us)) (place_key k) o
set_behind n k x ts us o other set q = at_test (is_at (line_cmp (place_key k)) q) refl where
  at_test : (b : Bool) → is_at (line_cmp (place_key k)) q ≡ b → at (lines_from n (x ∷ us)) q ≡ cond (is_at (line_cmp (place_key k)) q) o (at (lines_from n (x ∷ ts)) q)
  at_test true is =
      let same = same_key (place_key k) q is in
      at_rest n x us q (ap (λ (key : Option Key). is_at (line_cmp key) (place_key n)) (sym same) ∙ other_place k n other)
      ∙ set q ∙ ap (λ b. cond b o (at (lines_from (n + 1) ts) q)) is
      ∙ sym (ap (λ b. cond b o (at (lines_from n (x ∷ ts)) q)) is)
  at_test false is =
      at_cons n x us q
      ∙ ap (λ rest. cond (x.0 == 0) rest (cond (is_at (line_cmp q) (place_key n)) (Some x) rest)) (set q ∙ ap (λ b. cond b o (at (lines_from (n + 1) ts) q)) is)
      ∙ sym (at_cons n x ts q)
      ∙ sym (ap (λ b. cond b o (at (lines_from n (x ∷ ts)) q)) is)

-- setting the first place
set_first : (n : ℕ) (x t : ℕ × ℤ) (ts : Places) → IsSet (lines_from n (x ∷ ts)) (lines_from n (t ∷ ts)) (place_key n) (standing t)
set_first n x t ts q = at_test (is_at (line_cmp (place_key n)) q) refl where
  at_test : (b : Bool) → is_at (line_cmp (place_key n)) q ≡ b → at (lines_from n (t ∷ ts)) q ≡ cond (is_at (line_cmp (place_key n)) q) (standing t) (at (lines_from n (x ∷ ts)) q)
  at_test true is =
      ap (at (lines_from n (t ∷ ts))) (sym (same_key (place_key n) q is)) ∙ at_first n t ts ∙ sym (ap (λ b. cond b (standing t) (at (lines_from n (x ∷ ts)) q)) is)
  at_test false is =
      let other = turned q (place_key n) ∙ is in
      at_rest n t ts q other ∙ sym (at_rest n x ts q other) ∙ sym (ap (λ b. cond b (standing t) (at (lines_from n (x ∷ ts)) q)) is)

-- setting any place
pub set_place : (n i k : ℕ) (ts : Places) (t : ℕ × ℤ) → k ≡ n + i → i < length ts → IsSet (lines_from n ts) (lines_from n (slice_set ts i t)) (place_key k) (standing t)
set_place n i k [] t is within = absurd (omega arith)
set_place n zero k (x ∷ ts) t is within =
    let first : n ≡ k = omega arith in
    subst (λ (m : ℕ). IsSet (lines_from n (x ∷ ts)) (lines_from n (t ∷ ts)) (place_key m) (standing t)) first (set_first n x t ts)
set_place n (suc i) k (x ∷ ts) t is within =
    set_behind n k x ts (slice_set ts i t) (standing t) (λ h. omega arith) (set_place (n + 1) i k ts t (omega arith) (omega arith))

alone : (n : ℕ) (t : ℕ × ℤ) → IsSet [] (lines_from n (t ∷ [])) (place_key n) (standing t)
alone n t q = at_test (is_at (line_cmp (place_key n)) q) refl where
  at_test : (b : Bool) → is_at (line_cmp (place_key n)) q ≡ b → at (lines_from n (t ∷ [])) q ≡ cond (is_at (line_cmp (place_key n)) q) (standing t) None
  at_test true is = ap (at (lines_from n (t ∷ []))) (sym (same_key (place_key n) q is)) ∙ at_first n t [] ∙ sym (ap (λ b. cond b (standing t) None) is)
  at_test false is = at_rest n t [] q (turned q (place_key n) ∙ is) ∙ sym (ap (λ b. cond b (standing t) None) is)

-- appending a place
pub push_place : (n k : ℕ) (ts : Places) (t : ℕ × ℤ) → k ≡ n + length ts → IsSet (lines_from n ts) (lines_from n (ts ++ t ∷ [])) (place_key k) (standing t)
push_place n k [] t is =
    let first : n ≡ k = omega arith in
    subst (λ (m : ℕ). IsSet [] (lines_from n (t ∷ [])) (place_key m) (standing t)) first (alone n t)
push_place n k (x ∷ ts) t is = set_behind n k x ts (ts ++ t ∷ []) (standing t) (λ h. omega arith) (push_place (n + 1) k ts t (omega arith))

-- appending a place whose count is 0
pub push_none : (n : ℕ) (ts : Places) (t : ℕ × ℤ) → t.0 ≡ 0 → entries_from n (ts ++ t ∷ []) ≡ entries_from n ts
push_none n [] t none = let test : (t.0 == 0) ≡ true = grind (arith, nat_tests) in ap (λ b. cond b [] ((place_number n, t) ∷ [])) test
push_none n (x ∷ ts) t none = ap (λ (es : List (ℤ × (ℕ × ℤ))). cond (x.0 == 0) es ((place_number n, x) ∷ es)) (push_none (n + 1) ts t none)
