-- How the totals of the places whose row groups are scanned change with the places, and with the row groups.
use Rattle.std.proofs.Common.{◌≡◌, ℕ, zero, suc, ◌+◌, ◌/◌, ◌<◌, ◌≤◌, Bool, true, false, cond, List, [], ◌∷◌, ◌++◌, length, refl, sym, ap, ◌∙◌, subst, arith, add-zero, zero-add, Option, None, Some, slice_get}
use Rattle.std.specs.Prelude.{ℤ, FitsSigned}
use Rattle.std.specs.Int.{w64}
use Rattle.std.specs.List.{filter_map, cons_option}
use Rattle.std.proofs.lemmas.List.Sums.{sum_by-cons}
use Rattle.far_types.specs.declared.cell.Cell.{Cell}
use Rattle.far_types.specs.declared.cell.Cell.TheVariants as cell
use Rattle.far_types.specs.declared.key.Key.{Key}
use Rattle.far_types.specs.declared.spec.Spec.{Spec}
use Rattle.far_types.specs.Answers.{totals}
use Rattle.far_types.specs.Cells.{RowFits, CellFits, cells_of, number_in}
use Rattle.far_types.specs.Edits.{change_at}
use Rattle.far_types.specs.Filters.{keeps}
use Rattle.far_types.specs.Pairs.{Pair, PairsFit, paired, pair_in, pair_of, key_under}
use Rattle.far_types.specs.Table.{Place, place_pair, is_pending, left}
use Rattle.far_types.proofs.EffectsLaws.{totals-cons, totals-among, without_pair-totals}
use Rattle.far_aggregates.specs.Accumulators.{Change, PlacesFit, scanned_pair, scanned_pairs}
use Rattle.far_aggregates.specs.Pairs.{with_change, without_change}

pub totals-more : (o : Change) (ps : List Pair) → totals (cons_option o ps) ≡ with_change (totals ps) o
totals-more None ps = refl
totals-more (Some pair) ps = totals-cons pair ps

pub totals-less : (o : Change) (ps : List Pair) → without_change (totals (cons_option o ps)) o ≡ totals ps
totals-less None ps = refl
totals-less (Some pair) ps = without_pair-totals pair ps

pub totals-swap : (a b : Change) (ps : List Pair) → totals (cons_option a (cons_option b ps)) ≡ totals (cons_option b (cons_option a ps))
totals-swap None b ps = refl
totals-swap (Some x) None ps = refl
totals-swap (Some x) (Some y) ps = sym (totals-among (y ∷ []) x ps)

totals-under : (o : Change) (ps qs : List Pair) → totals ps ≡ totals qs → totals (cons_option o ps) ≡ totals (cons_option o qs)
totals-under o ps qs h = totals-more o ps ∙ ap (λ m. with_change m o) h ∙ sym (totals-more o qs)

-- a change of one place, with the pairs of the other places
module _ (spec : Spec) (size : ℕ) (pending : List Bool) where
  abbrev pub others : ℕ → List Place → ℕ → List Pair
  others i [] p = []
  others i (x ∷ ps) zero = scanned_pairs spec size pending (i + 1) ps
  others i (x ∷ ps) (suc p) = cons_option (scanned_pair spec size pending i x) (others (i + 1) ps p)

  pub scanned-separate : (i : ℕ) (ps : List Place) (p : ℕ) (x : Place) → slice_get ps p ≡ Some x → totals (scanned_pairs spec size pending i ps) ≡ totals (cons_option (scanned_pair spec size pending (i + p) x) (others i ps p))
  scanned-separate i [] p x h = cc
  scanned-separate i (y ∷ ps) zero x h =
      let e : y ≡ x = cc in
      rw (add-zero, e) refl
  scanned-separate i (y ∷ ps) (suc p) x h =
      let e : i + suc p ≡ i + 1 + p = omega arith in
      totals-under (scanned_pair spec size pending i y) _ _ (scanned-separate (i + 1) ps p x h)
      ∙ totals-swap (scanned_pair spec size pending i y) (scanned_pair spec size pending (i + 1 + p) x) (others (i + 1) ps p)
      ∙ rw e refl

  others-changed : (f : Place → Place) (i : ℕ) (ps : List Place) (p : ℕ) → others i (change_at f p ps) p ≡ others i ps p
  others-changed f i [] p = refl
  others-changed f i (x ∷ ps) zero = refl
  others-changed f i (x ∷ ps) (suc p) = ap (cons_option (scanned_pair spec size pending i x)) (others-changed f (i + 1) ps p)

  -- the new pair is added, and then the old one is retracted
  pub scanned-changed : (f : Place → Place) (ps : List Place) (p : ℕ) (x y : Place) → slice_get ps p ≡ Some x → slice_get (change_at f p ps) p ≡ Some y
      → without_change (with_change (totals (scanned_pairs spec size pending 0 ps)) (scanned_pair spec size pending p y)) (scanned_pair spec size pending p x) ≡ totals (scanned_pairs spec size pending 0 (change_at f p ps))
  scanned-changed f ps p x y here there =
      let a = scanned_pair spec size pending p x in
      let b = scanned_pair spec size pending p y in
      let r = others 0 ps p in
      let was : totals (scanned_pairs spec size pending 0 ps) ≡ totals (cons_option a r) = scanned-separate 0 ps p x here ∙ rw zero-add refl in
      let is : totals (scanned_pairs spec size pending 0 (change_at f p ps)) ≡ totals (cons_option b r) =
      scanned-separate 0 (change_at f p ps) p y there ∙ rw (zero-add, others-changed f 0 ps p) refl in
      ap (λ m. without_change (with_change m b) a) was
      ∙ ap (λ m. without_change m a) (sym (totals-more b (cons_option a r)) ∙ totals-swap b a r)
      ∙ totals-less a (cons_option b r) ∙ sym is

  appended : (i : ℕ) (ps : List Place) (y : Place) → totals (scanned_pairs spec size pending i (ps ++ y ∷ [])) ≡ totals (cons_option (scanned_pair spec size pending (i + length ps) y) (scanned_pairs spec size pending i ps))
  appended i [] y = rw add-zero refl
  appended i (x ∷ ps) y =
      let e : i + suc (length ps) ≡ i + 1 + length ps = omega arith in
      totals-under (scanned_pair spec size pending i x) _ _ (appended (i + 1) ps y)
      ∙ totals-swap (scanned_pair spec size pending i x) (scanned_pair spec size pending (i + 1 + length ps) y) (scanned_pairs spec size pending (i + 1) ps)
      ∙ rw e refl

  pub scanned-appended : (ps : List Place) (y : Place) → with_change (totals (scanned_pairs spec size pending 0 ps)) (scanned_pair spec size pending (length ps) y) ≡ totals (scanned_pairs spec size pending 0 (ps ++ y ∷ []))
  scanned-appended ps y = sym (totals-more (scanned_pair spec size pending (length ps) y) (scanned_pairs spec size pending 0 ps)) ∙ sym (appended 0 ps y ∙ rw zero-add refl)

-- values fit 64 bits, and there are no more pairs than places

abbrev pub ChangeFits : Change → Type 0
ChangeFits None = Unit {0}
ChangeFits (Some pair) = FitsSigned w64 pair.1

abbrev NumberFits : Option ℤ → Type 0
NumberFits None = Unit {0}
NumberFits (Some number) = FitsSigned w64 number

number_in-fits : (o : Option Cell) → ((c : Cell) → o ≡ Some c → CellFits c) → NumberFits (number_in o)
number_in-fits None h = tt
number_in-fits (Some (cell.Int number)) h = h (cell.Int number) refl
number_in-fits (Some (cell.Text text)) h = tt
number_in-fits (Some cell.Missing) h = tt

row-get : (row : List Cell) (column : ℕ) (c : Cell) → RowFits row → slice_get row column ≡ Some c → CellFits c
row-get [] column c h e = cc
row-get (x ∷ row) zero c h e = let is : x ≡ c = cc in subst CellFits is h.0
row-get (x ∷ row) (suc column) c h e = row-get row column c h.1 e

paired-fits : (k : Option (Option Key)) (v : Option ℤ) → NumberFits v → ChangeFits (paired k v)
paired-fits (Some k) (Some v) h = h
paired-fits (Some k) None h = tt
paired-fits None v h = tt

pair_in-fits : (spec : Spec) (row : List Cell) → RowFits row → ChangeFits (pair_in spec (cells_of row))
pair_in-fits spec row h = paired-fits (key_under spec.key (cells_of row)) (number_in (slice_get row spec.value)) (number_in-fits (slice_get row spec.value) (λ c e. row-get row spec.value c h e))

unless-fits : (b : Bool) (o : Change) → ChangeFits o → ChangeFits (cond b None o)
unless-fits true o h = tt
unless-fits false o h = h

when-fits : (b : Bool) (o : Change) → ChangeFits o → ChangeFits (cond b o None)
when-fits true o h = h
when-fits false o h = tt

pub place_pair-fits : (spec : Spec) (p : Place) → RowFits p.cells → ChangeFits (place_pair spec p)
place_pair-fits spec p h = when-fits p.alive (pair_of spec (cells_of p.cells)) (when-fits (keeps spec.filter (cells_of p.cells)) (pair_in spec (cells_of p.cells)) (pair_in-fits spec p.cells h))

pub scanned_pair-fits : (spec : Spec) (size : ℕ) (pending : List Bool) (i : ℕ) (p : Place) → RowFits p.cells → ChangeFits (scanned_pair spec size pending i p)
scanned_pair-fits spec size pending i p h = unless-fits (is_pending pending (i / size)) (place_pair spec p) (place_pair-fits spec p h)

pub cons-fits : (o : Change) (ps : List Pair) → ChangeFits o → PairsFit ps → PairsFit (cons_option o ps)
cons-fits None ps h k = k
cons-fits (Some pair) ps h k = (h, k)

cons-length : (o : Change) (ps : List Pair) (n : ℕ) → length ps ≤ n → length (cons_option o ps) ≤ n + 1
cons-length None ps n h = omega arith
cons-length (Some pair) ps n h = omega arith

module _ (spec : Spec) (size : ℕ) (pending : List Bool) where
  pub scanned-fits : (i : ℕ) (ps : List Place) → PlacesFit ps → PairsFit (scanned_pairs spec size pending i ps)
  scanned-fits i [] h = tt
  scanned-fits i (p ∷ ps) h = cons-fits (scanned_pair spec size pending i p) _ (scanned_pair-fits spec size pending i p h.0) (scanned-fits (i + 1) ps h.1)

  pub others-fits : (i : ℕ) (ps : List Place) (p : ℕ) → PlacesFit ps → PairsFit (others spec size pending i ps p)
  others-fits i [] p h = tt
  others-fits i (x ∷ ps) zero h = scanned-fits (i + 1) ps h.1
  others-fits i (x ∷ ps) (suc p) h = cons-fits (scanned_pair spec size pending i x) _ (scanned_pair-fits spec size pending i x h.0) (others-fits (i + 1) ps p h.1)

  pub length-scanned : (i : ℕ) (ps : List Place) → length (scanned_pairs spec size pending i ps) ≤ length ps
  length-scanned i [] = omega arith
  length-scanned i (p ∷ ps) = let h = cons-length (scanned_pair spec size pending i p) (scanned_pairs spec size pending (i + 1) ps) (length ps) (length-scanned (i + 1) ps) in omega arith

-- if the count of pending row groups is 0, none is pending
pub none_left : (pending : List Bool) (g : ℕ) → left pending ≡ 0 → is_pending pending g ≡ false
none_left [] g h = refl
none_left (true ∷ flags) g h = absurd (let e = sum_by-cons (λ (b : Bool). cond b 1 0) true flags in omega arith)
none_left (false ∷ flags) zero h = refl
none_left (false ∷ flags) (suc g) h = none_left flags g (let e = sum_by-cons (λ (b : Bool). cond b 1 0) false flags in omega arith)

-- then the pairs of all places are counted
pub scanned-all : (spec : Spec) (size : ℕ) (pending : List Bool) (i : ℕ) (ps : List Place) → left pending ≡ 0 → scanned_pairs spec size pending i ps ≡ filter_map (place_pair spec) ps
scanned-all spec size pending i [] h = refl
scanned-all spec size pending i (p ∷ ps) h =
    ap (λ b. cons_option (cond b None (place_pair spec p)) (scanned_pairs spec size pending (i + 1) ps)) (none_left pending (i / size) h)
    ∙ ap (cons_option (place_pair spec p)) (scanned-all spec size pending (i + 1) ps h)

-- if each place's row group is pending, no pair is counted
pub scanned-none : (spec : Spec) (size : ℕ) (pending : List Bool) (i : ℕ) (ps : List Place) → ((k : ℕ) → k < i + length ps → is_pending pending (k / size) ≡ true) → scanned_pairs spec size pending i ps ≡ []
scanned-none spec size pending i [] h = refl
scanned-none spec size pending i (p ∷ ps) h =
    ap (λ b. cons_option (cond b None (place_pair spec p)) (scanned_pairs spec size pending (i + 1) ps)) (h i (omega arith))
    ∙ scanned-none spec size pending (i + 1) ps (λ k l. h k (omega arith))
