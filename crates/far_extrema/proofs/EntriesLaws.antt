-- The holdings by kind of key are the holdings by key: lookups, changes, and the order of keys.
use Rattle.std.proofs.Common.{◌≡◌, ℕ, cond, List, [], ◌∷◌, ◌++◌, refl, sym, ap, ◌∙◌, subst, Option, None, Some}
use Rattle.std.specs.Prelude.{ℤ}
use Rattle.std.specs.List.{AllByRecursion}
use Rattle.std.specs.List.Sorted.{IsStrictlySortedBy}
use Rattle.std.specs.Map.{keys_of}
use Rattle.std.specs.Ordering.{nat_cmp, int_cmp}
use Rattle.std.specs.Cmp.Lexicographic.{slice_cmp}
use Rattle.std.specs.declared.cmp.Ordering.TheVariants.{Less}
use Rattle.std.specs.BTreeMap.{is_at}
use Rattle.std.specs.FinMap as fin
use Rattle.std.proofs.lemmas.List.{append_assoc}
use Rattle.std.proofs.lemmas.List.Elements.{filter_map-append}
use Rattle.far_types.specs.declared.key.Key.{Key}
use Rattle.far_types.specs.declared.key.Key.TheVariants.{Int, Text}
use Rattle.std.specs.Cmp.{eq_by_cmp_equiv}
use Rattle.far_types.specs.Keys.{line_cmp}
use Rattle.far_types.specs.KeyOrder.{line_total}
use Rattle.far_types.proofs.AnswersByKeyMaps.{at, IsSet, get_at, set_inserts, set_removes, entries-by_key}
use Rattle.far_extrema.specs.Holders.{Holding, Holders, holders_of, IsTopped, AreCleared, AreAllCleared, AreLike, AreAlike}
use Rattle.far_extrema.specs.Entries.{plain_entries, numbered, texted, entries_in, lines_of, text_at, IsTextAt}
use Rattle.far_extrema.specs.Numbers.{Numbers, number_at, IsSetAt, IsNumberPut, AreNumbersLike, AreNumbersCleared}
use Rattle.far_extrema.proofs.NumbersLaws.{like_same}

abbrev pub Texts : Type 0
Texts = List (List ℕ × Holding)

-- the holding that is found under a key of each kind
abbrev pub found : Option Holding → Numbers → Texts → Option Key → Option Holding
found p ns ts None = p
found p ns ts (Some (Int n)) = number_at ns n
found p ns ts (Some (Text t)) = text_at ts t

texted_none : (ts : Texts) → at (texted ts) None ≡ None
texted_none [] = refl
texted_none (e ∷ ts) = texted_none ts

texted_number : (ts : Texts) (n : ℤ) → at (texted ts) (Some (Int n)) ≡ None
texted_number [] n = refl
texted_number (e ∷ ts) n = texted_number ts n

texted_text : (ts : Texts) (t : List ℕ) → at (texted ts) (Some (Text t)) ≡ text_at ts t
texted_text [] t = refl
texted_text (e ∷ ts) t = ap (cond (is_at (slice_cmp nat_cmp t) e.0) (Some e.1)) (texted_text ts t)

numbered_number : (ns : Numbers) (n : ℤ) → at (numbered ns) (Some (Int n)) ≡ number_at ns n
numbered_number [] n = refl
numbered_number (e ∷ ns) n = ap (cond (is_at (int_cmp n) e.0) (Some e.1)) (numbered_number ns n)

rest_none : (ns : Numbers) (ts : Texts) → at (numbered ns ++ texted ts) None ≡ None
rest_none [] ts = texted_none ts
rest_none (e ∷ ns) ts = rest_none ns ts

rest_number : (ns : Numbers) (ts : Texts) (n : ℤ) → at (numbered ns ++ texted ts) (Some (Int n)) ≡ number_at ns n
rest_number [] ts n = texted_number ts n
rest_number (e ∷ ns) ts n = ap (cond (is_at (int_cmp n) e.0) (Some e.1)) (rest_number ns ts n)

rest_text : (ns : Numbers) (ts : Texts) (t : List ℕ) → at (numbered ns ++ texted ts) (Some (Text t)) ≡ text_at ts t
rest_text [] ts t = texted_text ts t
rest_text (e ∷ ns) ts t = rest_text ns ts t

pub at_in : (p : Option Holding) (ns : Numbers) (ts : Texts) (q : Option Key) → at (entries_in p ns ts) q ≡ found p ns ts q
at_in None ns ts None = rest_none ns ts
at_in (Some h) ns ts None = refl
at_in None ns ts (Some (Int n)) = rest_number ns ts n
at_in (Some h) ns ts (Some (Int n)) = rest_number ns ts n
at_in None ns ts (Some (Text t)) = rest_text ns ts t
at_in (Some h) ns ts (Some (Text t)) = rest_text ns ts t

-- a lookup by key finds the holding of its kind
pub get_in : (p : Option Holding) (ns : Numbers) (ts : Texts) (q : Option Key) → fin.get (holders_of (entries_in p ns ts)) q ≡ found p ns ts q
get_in p ns ts q = get_at (entries_in p ns ts) q ∙ at_in p ns ts q

pub get_number : (ns : Numbers) (n : ℤ) → fin.get (holders_of (numbered ns)) (Some (Int n)) ≡ number_at ns n
get_number ns n = get_at (numbered ns) (Some (Int n)) ∙ numbered_number ns n

pub get_text : (ts : Texts) (t : List ℕ) → fin.get (holders_of (texted ts)) (Some (Text t)) ≡ text_at ts t
get_text ts t = get_at (texted ts) (Some (Text t)) ∙ texted_text ts t

-- setting or removing the holding of no key
plain_set : (p o : Option Holding) (ns : Numbers) (ts : Texts) → IsSet (entries_in p ns ts) (entries_in o ns ts) None o
plain_set p o ns ts None = at_in o ns ts None
plain_set p o ns ts (Some (Int m)) = at_in o ns ts (Some (Int m)) ∙ sym (at_in p ns ts (Some (Int m)))
plain_set p o ns ts (Some (Text t)) = at_in o ns ts (Some (Text t)) ∙ sym (at_in p ns ts (Some (Text t)))

pub plain_inserts : (p : Option Holding) (ns : Numbers) (ts : Texts) (x : Holding) → holders_of (entries_in (Some x) ns ts) ≡ fin.insert (holders_of (entries_in p ns ts)) None x
plain_inserts p ns ts x = set_inserts (entries_in p ns ts) (entries_in (Some x) ns ts) None x (plain_set p (Some x) ns ts)

pub plain_removes : (p : Option Holding) (ns : Numbers) (ts : Texts) → holders_of (entries_in None ns ts) ≡ fin.remove (holders_of (entries_in p ns ts)) None
plain_removes p ns ts = set_removes (entries_in p ns ts) (entries_in None ns ts) None (plain_set p None ns ts)

number_set : (p : Option Holding) (ns new : Numbers) (ts : Texts) (n : ℤ) (o : Option Holding) → IsSetAt ns n o new → IsSet (entries_in p ns ts) (entries_in p new ts) (Some (Int n)) o
number_set p ns new ts n o h None = at_in p new ts None ∙ sym (at_in p ns ts None)
number_set p ns new ts n o h (Some (Int m)) = at_in p new ts (Some (Int m)) ∙ h m ∙ ap (cond (is_at (int_cmp n) m) o) (sym (at_in p ns ts (Some (Int m))))
number_set p ns new ts n o h (Some (Text t)) = at_in p new ts (Some (Text t)) ∙ sym (at_in p ns ts (Some (Text t)))

pub number_inserts : (p : Option Holding) (ns new : Numbers) (ts : Texts) (n : ℤ) (x : Holding) → IsSetAt ns n (Some x) new → holders_of (entries_in p new ts) ≡ fin.insert (holders_of (entries_in p ns ts)) (Some (Int n)) x
number_inserts p ns new ts n x h = set_inserts (entries_in p ns ts) (entries_in p new ts) (Some (Int n)) x (number_set p ns new ts n (Some x) h)

text_set : (p : Option Holding) (ns : Numbers) (ts new : Texts) (t : List ℕ) (o : Option Holding) → IsTextAt ts t o new → IsSet (entries_in p ns ts) (entries_in p ns new) (Some (Text t)) o
text_set p ns ts new t o h None = at_in p ns new None ∙ sym (at_in p ns ts None)
text_set p ns ts new t o h (Some (Int m)) = at_in p ns new (Some (Int m)) ∙ sym (at_in p ns ts (Some (Int m)))
text_set p ns ts new t o h (Some (Text u)) = at_in p ns new (Some (Text u)) ∙ h u ∙ ap (cond (is_at (slice_cmp nat_cmp t) u) o) (sym (at_in p ns ts (Some (Text u))))

pub text_inserts : (p : Option Holding) (ns : Numbers) (ts new : Texts) (t : List ℕ) (x : Holding) → IsTextAt ts t (Some x) new → holders_of (entries_in p ns new) ≡ fin.insert (holders_of (entries_in p ns ts)) (Some (Text t)) x
text_inserts p ns ts new t x h = set_inserts (entries_in p ns ts) (entries_in p ns new) (Some (Text t)) x (text_set p ns ts new t (Some x) h)

pub text_removes : (p : Option Holding) (ns : Numbers) (ts new : Texts) (t : List ℕ) → IsTextAt ts t None new → holders_of (entries_in p ns new) ≡ fin.remove (holders_of (entries_in p ns ts)) (Some (Text t))
text_removes p ns ts new t h = set_removes (entries_in p ns ts) (entries_in p ns new) (Some (Text t)) (text_set p ns ts new t None h)

below_number : (n : ℤ) (ns : Numbers) → AllByRecursion (λ m. int_cmp n m ≡ Less) (keys_of ns) → AllByRecursion (λ k. line_cmp (Some (Int n)) k ≡ Less) (keys_of (numbered ns))
below_number n [] h = tt
below_number n (e ∷ ns) h = (h.0, below_number n ns h.1)

-- ascending numbers are ascending keys
pub ascending_numbers : (ns : Numbers) → IsStrictlySortedBy int_cmp (keys_of ns) → IsStrictlySortedBy line_cmp (keys_of (numbered ns))
unfolding IsStrictlySortedBy
ascending_numbers [] h = tt
ascending_numbers (e ∷ ns) h = (below_number e.0 ns h.0, ascending_numbers ns h.1)

below_text : (t : List ℕ) (ts : Texts) → AllByRecursion (λ u. slice_cmp nat_cmp t u ≡ Less) (keys_of ts) → AllByRecursion (λ k. line_cmp (Some (Text t)) k ≡ Less) (keys_of (texted ts))
below_text t [] h = tt
below_text t (e ∷ ts) h = (h.0, below_text t ts h.1)

-- ascending texts are ascending keys
pub ascending_texts : (ts : Texts) → IsStrictlySortedBy (slice_cmp nat_cmp) (keys_of ts) → IsStrictlySortedBy line_cmp (keys_of (texted ts))
unfolding IsStrictlySortedBy
ascending_texts [] h = tt
ascending_texts (e ∷ ts) h = (below_text e.0 ts h.0, ascending_texts ts h.1)

number_below_texts : (n : ℤ) (ts : Texts) → AllByRecursion (λ k. line_cmp (Some (Int n)) k ≡ Less) (keys_of (texted ts))
number_below_texts n [] = tt
number_below_texts n (e ∷ ts) = (refl, number_below_texts n ts)

number_below_rest : (n : ℤ) (ns : Numbers) (ts : Texts) → AllByRecursion (λ m. int_cmp n m ≡ Less) (keys_of ns) → AllByRecursion (λ k. line_cmp (Some (Int n)) k ≡ Less) (keys_of (numbered ns ++ texted ts))
number_below_rest n [] ts h = number_below_texts n ts
number_below_rest n (e ∷ ns) ts h = (h.0, number_below_rest n ns ts h.1)

ascending_rest : (ns : Numbers) (ts : Texts) → IsStrictlySortedBy int_cmp (keys_of ns) → IsStrictlySortedBy (slice_cmp nat_cmp) (keys_of ts) → IsStrictlySortedBy line_cmp (keys_of (numbered ns ++ texted ts))
unfolding IsStrictlySortedBy
ascending_rest [] ts h k = ascending_texts ts k
ascending_rest (e ∷ ns) ts h k = (number_below_rest e.0 ns ts h.0, ascending_rest ns ts h.1 k)

none_below_texts : (ts : Texts) → AllByRecursion (λ k. line_cmp None k ≡ Less) (keys_of (texted ts))
none_below_texts [] = tt
none_below_texts (e ∷ ts) = (refl, none_below_texts ts)

none_below_rest : (ns : Numbers) (ts : Texts) → AllByRecursion (λ k. line_cmp None k ≡ Less) (keys_of (numbered ns ++ texted ts))
none_below_rest [] ts = none_below_texts ts
none_below_rest (e ∷ ns) ts = (refl, none_below_rest ns ts)

-- no key is before all numbers, and all numbers are before all texts
pub ascending : (p : Option Holding) (ns : Numbers) (ts : Texts) → IsStrictlySortedBy int_cmp (keys_of ns) → IsStrictlySortedBy (slice_cmp nat_cmp) (keys_of ts) → IsStrictlySortedBy line_cmp (keys_of (entries_in p ns ts))
unfolding IsStrictlySortedBy
ascending None ns ts h k = ascending_rest ns ts h k
ascending (Some x) ns ts h k = (none_below_rest ns ts, ascending_rest ns ts h k)

all_append : {X : Type 0} (P : X → Type 0) (xs ys : List X) → AllByRecursion P xs → AllByRecursion P ys → AllByRecursion P (xs ++ ys)
all_append P [] ys h k = k
all_append P (x ∷ xs) ys h k = (h.0, all_append P xs ys h.1 k)

-- all entries are topped if the entries of each kind are
pub topped_in : (p : Option Holding) (ns : Numbers) (ts : Texts) → AllByRecursion IsTopped (plain_entries p) → AllByRecursion IsTopped (numbered ns) → AllByRecursion IsTopped (texted ts) → AllByRecursion IsTopped (entries_in p ns ts)
topped_in p ns ts h k l = all_append IsTopped (plain_entries p) (numbered ns ++ texted ts) h (all_append IsTopped (numbered ns) (texted ts) k l)

-- the lines of all entries are the lines of each kind
pub lines_in : (p : Option Holding) (ns : Numbers) (ts : Texts) → lines_of (entries_in p ns ts) ≡ lines_of (plain_entries p) ++ (lines_of (numbered ns) ++ lines_of (texted ts))
lines_in p ns ts = filter_map-append _ (plain_entries p) (numbered ns ++ texted ts) ∙ ap (λ (ls : List (Option Key × ℤ × ℤ)). lines_of (plain_entries p) ++ ls) (filter_map-append _ (numbered ns) (texted ts))

-- a row group is removed from all keys if it is removed from the keys of each kind
pub cleared_in : (g : ℕ) (p o : Option Holding) (ns ms : Numbers) (ts us : Texts) → AreCleared g p o → AreNumbersCleared g ns ms → AreAllCleared g (holders_of (texted ts)) (holders_of (texted us)) → AreAllCleared g (holders_of (entries_in p ns ts)) (holders_of (entries_in o ms us))
cleared_in g p o ns ms ts us plain numbers texts q = subst (λ (both : Option Holding × Option Holding). AreCleared g both.0 both.1) (λ i. (sym (get_in p ns ts q) i, sym (get_in o ms us q) i)) (each q) where
  each : (q : Option Key) → AreCleared g (found p ns ts q) (found o ms us q)
  each None = plain
  each (Some (Int n)) = numbers n
  each (Some (Text t)) = subst (λ (both : Option Holding × Option Holding). AreCleared g both.0 both.1) (λ i. (get_text ts t i, get_text us t i)) (texts (Some (Text t)))

-- the entries of the map are the entries from which it is made
pub entries_are : (p : Option Holding) (ns : Numbers) (ts : Texts) → IsStrictlySortedBy int_cmp (keys_of ns) → IsStrictlySortedBy (slice_cmp nat_cmp) (keys_of ts) → fin.entries (holders_of (entries_in p ns ts)) ≡ entries_in p ns ts
entries_are p ns ts h k = entries-by_key (entries_in p ns ts) (ascending p ns ts h k)

-- the lines that are made for each kind in turn
pub joined_lines : (zero one two three : List (Option Key × ℤ × ℤ)) (p : Option Holding) (ns : Numbers) (ts : Texts) → zero ≡ [] → one ≡ zero ++ lines_of (plain_entries p) → two ≡ one ++ lines_of (numbered ns) → three ≡ two ++ lines_of (texted ts) → three ≡ lines_of (entries_in p ns ts)
joined_lines zero one two three p ns ts none first second third =
    third
    ∙ ap (λ (ls : List (Option Key × ℤ × ℤ)). ls ++ lines_of (texted ts)) (second ∙ ap (λ (ls : List (Option Key × ℤ × ℤ)). ls ++ lines_of (numbered ns)) (first ∙ ap (λ (ls : List (Option Key × ℤ × ℤ)). ls ++ lines_of (plain_entries p)) none))
    ∙ append_assoc (lines_of (plain_entries p)) (lines_of (numbered ns)) (lines_of (texted ts))
    ∙ sym (lines_in p ns ts)

alike_all : (m n : Holders) → ((q : Option Key) → AreLike (fin.get m q) (fin.get n q)) → AreAlike m n
alike_all m n h = (λ g q. (h q).0 g, λ q. (h q).1)

-- equal maps are alike
pub alike_same : (m n : Holders) → m ≡ n → AreAlike m n
alike_same m n h = alike_all m n (λ q. like_same (fin.get m q) (fin.get n q) (ap (λ (o : Holders). fin.get o q) h))

number_like : (p : Option Holding) (ns new : Numbers) (ts : Texts) (n : ℤ) (o : Option Holding) → IsNumberPut ns n o new → (q : Option Key) → AreLike (cond (is_at (line_cmp (Some (Int n))) q) o (found p ns ts q)) (found p new ts q)
number_like p ns new ts n o put None = like_same p p refl
number_like p ns new ts n o put (Some (Int m)) = put m
number_like p ns new ts n o put (Some (Text t)) = like_same (text_at ts t) (text_at ts t) refl

-- putting the holding of a number
pub number_puts : (p : Option Holding) (ns new : Numbers) (ts : Texts) (n : ℤ) (x : Holding) → IsNumberPut ns n (Some x) new → AreAlike (fin.insert (holders_of (entries_in p ns ts)) (Some (Int n)) x) (holders_of (entries_in p new ts))
number_puts p ns new ts n x put = alike_all _ _ (λ q. subst (λ (both : Option Holding × Option Holding). AreLike both.0 both.1) (λ i. (left q i, sym (get_in p new ts q) i)) (number_like p ns new ts n (Some x) put q)) where
  left : (q : Option Key) → cond (is_at (line_cmp (Some (Int n))) q) (Some x) (found p ns ts q) ≡ fin.get (fin.insert (holders_of (entries_in p ns ts)) (Some (Int n)) x) q
  left q =
      ap (cond (is_at (line_cmp (Some (Int n))) q) (Some x)) (sym (get_in p ns ts q))
      ∙ ap (λ b. cond b (Some x) (fin.get (holders_of (entries_in p ns ts)) q)) ((eq_by_cmp_equiv line_total).symm (Some (Int n)) q)
      ∙ sym (fin.get-insert line_total (holders_of (entries_in p ns ts)) (Some (Int n)) x q)

-- removing the holding of a number
pub number_goes : (p : Option Holding) (ns new : Numbers) (ts : Texts) (n : ℤ) → IsNumberPut ns n None new → AreAlike (fin.remove (holders_of (entries_in p ns ts)) (Some (Int n))) (holders_of (entries_in p new ts))
number_goes p ns new ts n put = alike_all _ _ (λ q. subst (λ (both : Option Holding × Option Holding). AreLike both.0 both.1) (λ i. (left q i, sym (get_in p new ts q) i)) (number_like p ns new ts n None put q)) where
  left : (q : Option Key) → cond (is_at (line_cmp (Some (Int n))) q) None (found p ns ts q) ≡ fin.get (fin.remove (holders_of (entries_in p ns ts)) (Some (Int n))) q
  left q =
      ap (cond (is_at (line_cmp (Some (Int n))) q) None) (sym (get_in p ns ts q))
      ∙ ap (λ b. cond b None (fin.get (holders_of (entries_in p ns ts)) q)) ((eq_by_cmp_equiv line_total).symm (Some (Int n)) q)
      ∙ sym (fin.get-remove line_total (holders_of (entries_in p ns ts)) (Some (Int n)) q)

-- maps whose numbers are alike
pub numbers_alike : (p : Option Holding) (ns new : Numbers) (ts : Texts) → AreNumbersLike ns new → AreAlike (holders_of (entries_in p ns ts)) (holders_of (entries_in p new ts))
numbers_alike p ns new ts like = alike_all _ _ (λ q. subst (λ (both : Option Holding × Option Holding). AreLike both.0 both.1) (λ i. (sym (get_in p ns ts q) i, sym (get_in p new ts q) i)) (each q)) where
  each : (q : Option Key) → AreLike (found p ns ts q) (found p new ts q)
  each None = like_same p p refl
  each (Some (Int m)) = like m
  each (Some (Text t)) = like_same (text_at ts t) (text_at ts t) refl
