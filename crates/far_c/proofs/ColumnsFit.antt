-- Columns that fit a table have each row that they should.
use Rattle.std.proofs.Common.{◌≡◌, ◌∙◌, ◌≤◌, ◌<◌, ℕ, zero, suc, ◌+◌, ◌-◌, Bool, true, false, List, [], ◌∷◌, length, Option, Some, None, inl, inr, refl, sym, ap, subst, arith}
use Rattle.std.specs.Prelude.{◌↔◌, slice_get, slice_index_or, unwrap_or, option_map, IsSomeAnd, IsTrue}
use Rattle.std.specs.Option.{MatchOption}
use Rattle.std.specs.Bool.{MatchBool}
use Rattle.std.specs.List.{IsAllAdjacentAnswer}
use Rattle.std.specs.List.Sorted.{IsNonDecreasing}
use Rattle.std.specs.Ordering.{is_le, is_some_and, nat_cmp}
use Rattle.std.proofs.lemmas.Bool.{cases_lt}
use Rattle.std.proofs.lemmas.List.Sorted.{non_decreasing_from_is_sorted}
use Rattle.std.proofs.lemmas.Option.{slice_get-get_or}
use Rattle.far_types.specs.declared.cell.Kind.{Kind}
use Rattle.far_types.specs.declared.cell.Kind.TheVariants.{Int, Text}
use Rattle.far_c.specs.declared.columns.FcColumn.{FcColumn}
use Rattle.far_c.specs.declared.unread.Unread.TheVariants as unread
use Rattle.far_c.specs.ColumnFaults.{AreColumnsOf, AreFirstRead, AreNumbers, AreOffsets, AreTexts, CellFaultIn, HasRow, HasText, IsColumn, IsColumnOf, IsNotAppended, IsNotSet, RowFaultIn}
use Rattle.far_c.specs.Columns.{offset_at}
use Rattle.far_c.specs.Outcomes.{IsStoppedFor}
use Rattle.far_c.specs.TableState.{TableState}
use Rattle.far_c.specs.Unreadable.{IsUnreadable}

pub below-length : {A : Type 0} (xs : List A) (k : ℕ) (x : A) → slice_get xs k ≡ Some x → k < length xs
below-length [] k x at = absurd cc
below-length (y ∷ ys) zero x at = omega arith
below-length (y ∷ ys) (suc k) x at = (let rest = below-length ys k x at in omega (arith, rest))

-- a consequence of a property that an option's value has
at-some : {A : Type 0} (o : Option A) (P : A → Type 0) (Q : Type 0) → IsSomeAnd o P → ((x : A) → o ≡ Some x → P x → Q) → Q
at-some (Some x) P Q h f = f x refl h
at-some None P Q h f = absurd h

offset-read : (offsets : List ℕ) (i : ℕ) → i < length offsets → offset_at offsets i ≡ slice_index_or offsets i 0
offset-read offsets i below = ap (λ (o : Option ℕ). unwrap_or o 0) (slice_get-get_or offsets i 0 below)

module _ (row rows : ℕ) (c : FcColumn) (below : row < rows) where
  abbrev offsets : List ℕ
  offsets = c.offsets.now

  ascends : AreTexts rows c → (i j : ℕ) → i ≤ j → j ≤ rows → offset_at offsets i ≤ offset_at offsets j
  ascends texts i j up last =
      let long = texts.offsets.count in
      let here = offset-read offsets i (omega (arith, long, up, last)) in
      let there = offset-read offsets j (omega (arith, long, last)) in
      let order = texts.offsets.order i j 0 up (omega (arith, long, last)) in
      omega (arith, here, there, order)

  has-text : AreTexts rows c → HasText row c
  has-text texts = record {
    there = let long = texts.offsets.count in omega (arith, long, below);
    order = ascends texts row (row + 1) (omega arith) (omega (arith, below));
    within = let last = ascends texts (row + 1) rows (omega (arith, below)) (omega arith) in let within = texts.offsets.within in omega (arith, last, within);
  }

  numbers-have : AreNumbers rows c → HasRow row c
  numbers-have numbers = inl (numbers.kind, let long = numbers.numbers in omega (arith, long, below))

  texts-have : AreTexts rows c → HasRow row c
  texts-have texts = inr ((λ one. absurd (let two : 2 ≡ 1 = sym texts.kind ∙ one in cc)), has-text texts)

  has-row-of : (one : Kind) → IsColumnOf one rows c → HasRow row c
  has-row-of Int numbers = numbers-have numbers
  has-row-of Text texts = texts-have texts

  -- each cell of a column with this many rows exists
  pub is-there : IsColumn rows c → ¬ (CellFaultIn row c unread.BadArgument)
  is-there (inl numbers) not = not (numbers-have numbers)
  is-there (inr texts) not = not (texts-have texts)

-- each row of columns that fit exists
pub row-is-there : (kinds : List Kind) (rows : ℕ) (columns : List FcColumn) (row : ℕ) → AreColumnsOf kinds rows columns → row < rows → ¬ (RowFaultIn columns row unread.BadArgument)
row-is-there kinds rows columns row fit below fault = at-some (slice_get columns fault.0) (λ c. CellFaultIn row c unread.BadArgument) ⊥ fault.1 (λ c at not.
    at-some (slice_get kinds fault.0) (λ one. IsColumnOf one rows c) ⊥ (fit.each fault.0 c at) (λ one is column. not (has-row-of row rows c below one column)))

-- offsets of the right length are valid exactly if they ascend
pub are-offsets : (rows len : ℕ) (offsets : List ℕ) (sorted : Bool) (last : ℕ) → IsAllAdjacentAnswer (λ x y b. is_some_and is_le (Some (nat_cmp x y)) ≡ b) offsets sorted → slice_get offsets (length offsets - 1) ≡ Some last → length offsets - 1 ≡ rows → last ≤ len
    → IsTrue sorted ↔ AreOffsets rows len offsets
are-offsets rows len offsets sorted last cases at long within = by sorted (non_decreasing_from_is_sorted offsets sorted cases)
  where
    here : slice_get offsets rows ≡ Some last
    here = subst (λ (i : ℕ). slice_get offsets i ≡ Some last) long at

    end : offset_at offsets rows ≤ len
    end = (let is = ap (λ (o : Option ℕ). unwrap_or o 0) here in omega (arith, is, within))

    by : (b : Bool) → MatchBool b (IsNonDecreasing offsets) ((k : ℕ) × (k + 1 < length offsets) × ((d : ℕ) → slice_index_or offsets (k + 1) d < slice_index_or offsets k d)) → IsTrue b ↔ AreOffsets rows len offsets
    by true order = (λ _. record { count = let below = below-length offsets rows last here in omega (arith, below, long); order = order; within = end }, λ _. refl)
    by false other = (λ on. absurd cc, λ are. absurd (let falls = other.2 0 in let rises = are.order other.0 (other.0 + 1) 0 (omega arith) other.1 in omega (arith, falls, rises)))

-- offsets of another length, or with an end past the bytes, are not valid
pub no-offsets : (rows len : ℕ) (offsets : List ℕ) (last : ℕ) → slice_get offsets (length offsets - 1) ≡ Some last → AreOffsets rows len offsets → (length offsets - 1 ≡ rows) × (last ≤ len)
no-offsets rows len offsets last at are =
    let count = are.count in
    let long : length offsets - 1 ≡ rows = omega (arith, count) in
    let is = ap (λ (o : Option ℕ). unwrap_or o 0) (subst (λ (i : ℕ). slice_get offsets i ≡ Some last) long at) in
    let within = are.within in
    (long, omega (arith, is, within))

-- one more item is read
pub first-more : (read : ℕ → Type 0) (n : ℕ) → AreFirstRead read n → read n → AreFirstRead read (n + 1)
first-more read n before now k below = elim (cases_lt k n) [ inl less ↦ before k less | inr past ↦ subst read (let same : n ≡ k = omega (arith, past, below) in same) now ]

-- the first n columns fit
module _ (kinds : List Kind) (rows : ℕ) (columns : List FcColumn) where
  abbrev pub FitUpTo : ℕ → Type 0
  FitUpTo n = (k : ℕ) (c : FcColumn) → k < n → slice_get columns k ≡ Some c → IsSomeAnd (slice_get kinds k) (λ one. IsColumnOf one rows c)

  -- one more column fits
  pub fits-more : (n : ℕ) (one : Kind) (c : FcColumn) → slice_get kinds n ≡ Some one → slice_get columns n ≡ Some c → IsColumnOf one rows c → FitUpTo n → FitUpTo (n + 1)
  fits-more n one c kind column is before k d below at = elim (cases_lt k n) [ inl less ↦ before k d less at | inr past ↦ here (let same : k ≡ n = omega (arith, past, below) in same) ]
    where
      here : k ≡ n → IsSomeAnd (slice_get kinds k) (λ one'. IsColumnOf one' rows d)
      here same = subst (λ (i : ℕ). IsSomeAnd (slice_get kinds i) (λ one'. IsColumnOf one' rows d)) (sym same) (subst (λ (o : Option Kind). IsSomeAnd o (λ one'. IsColumnOf one' rows d)) (sym kind) (let e : Some c ≡ Some d = sym column ∙ ap (slice_get columns) (sym same) ∙ at in let f : c ≡ d = cc in subst (IsColumnOf one rows) f is))

  -- all columns fit
  pub all-fit : (n : ℕ) → length columns ≡ length kinds → length columns ≤ n → FitUpTo n → AreColumnsOf kinds rows columns
  all-fit n count all fit = record {
    count = count;
    each = λ k c at. fit k c (let below = below-length columns k c at in omega (arith, below, all)) at;
  }

  -- one column does not fit, so they do not all fit
  pub one-does-not : (n : ℕ) (one : Kind) (c : FcColumn) → slice_get kinds n ≡ Some one → slice_get columns n ≡ Some c → ¬ (IsColumnOf one rows c) → ¬ (AreColumnsOf kinds rows columns)
  one-does-not n one c kind column not fit = not (subst (λ (o : Option Kind). IsSomeAnd o (λ one'. IsColumnOf one' rows c)) kind (fit.each n c column))

-- a test that returns false shows that the property does not hold
pub not-so : (b : Bool) (P : Type 0) → (IsTrue b ↔ P) → b ≡ false → ¬ P
not-so b P exact off p = let on : b ≡ true = exact.1 p in absurd cc

-- a row can only be unreadable because of a text, since all rows exist
pub row-stopped : (columns : List FcColumn) (rows appended code : ℕ) (t : TableState) → AreColumnsOf t.world.state.table.schema rows columns → appended < rows → IsUnreadable (RowFaultIn columns appended) code → IsNotAppended columns rows appended t code
row-stopped columns rows appended code t fit below (inl text) = inr (text.0, fit, below, text.1)
row-stopped columns rows appended code t fit below (inr bad) = absurd (row-is-there t.world.state.table.schema rows columns appended fit below bad.1)

-- a cell can only be unreadable because of a text, since all cells exist
pub cell-stopped : (values : FcColumn) (rows set code : ℕ) (t : TableState) → IsColumn rows values → set < rows → IsUnreadable (CellFaultIn set values) code → IsNotSet values rows set t code
cell-stopped values rows set code t fit below (inl text) = inr (text.0, fit, below, text.1)
cell-stopped values rows set code t fit below (inr bad) = absurd (is-there set rows values below fit bad.1)

-- a call that stops keeps the last refusal of the handle's table
pub stopped : (why : TableState → ℕ → Type 0) (code : ℕ) (old new : Option TableState) (t u : TableState) → old ≡ Some t → new ≡ Some u → u.refusal ≡ t.refusal → why t code → IsStoppedFor why code old new
stopped why code old new t u before after same w = (
  ap (option_map (λ (table : TableState). table.refusal)) after ∙ ap Some same ∙ sym (ap (option_map (λ (table : TableState). table.refusal)) before),
  subst (λ (o : Option TableState). MatchOption o (code ≡ 100) (λ table. why table code)) (sym before) w,
)
