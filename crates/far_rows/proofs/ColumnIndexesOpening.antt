-- The indexes of a schema are the indexes of its columns, each once.
use Rattle.std.proofs.Common.{◌≡◌, ◌≢◌, ℕ, zero, suc, ◌+◌, ◌≤◌, List, [], ◌∷◌, ◌++◌, length, map, Some, refl, sym, ap, ◌∙◌, arith}
use Rattle.std.specs.Prelude.{All, AllPairs, slice_get}
use Rattle.std.proofs.lemmas.Option.{none-some, same_Some}
use Rattle.std.proofs.lemmas.List.{append_assoc, length_push}
use Rattle.std.proofs.lemmas.List.Elements.{All-nil, All-cons, All-weaker}
use Rattle.std.proofs.lemmas.List.Kept.{AllPairs-cons}
use Rattle.far_types.specs.declared.cell.Kind.{Kind}
use Rattle.far_types.specs.declared.cell.Kind.TheVariants as kind
use Rattle.far_rows.specs.declared.column_index.ColumnIndex.{ColumnIndex}
use Rattle.far_rows.specs.declared.column_index.ColumnIndex.TheVariants as column_index
use Rattle.far_rows.specs.ColumnIndexes.{AreColumnIndexes, IsColumnIn, column_indexes_from}
use Rattle.far_rows.specs.Naming.{number_by, AreNumbered, ArePlaced}
use Rattle.far_rows.specs.Opening.{numbers_from, texts_from}

-- the index follows a number columns, or b text columns
abbrev IsBehind : ℕ → ℕ → ColumnIndex → Type 0
IsBehind a b (column_index.Number i) = a ≤ i
IsBehind a b (column_index.Text i) = b ≤ i

behind-less : (a b c d : ℕ) (s : ColumnIndex) → a ≤ c → b ≤ d → IsBehind c d s → IsBehind a b s
behind-less a b c d (column_index.Number i) more also behind = omega arith
behind-less a b c d (column_index.Text i) more also behind = omega arith

all-behind : (a b : ℕ) (kinds : List Kind) → All (IsBehind a b) (column_indexes_from a b kinds)
all-behind a b [] = All-nil (IsBehind a b)
all-behind a b (kind.Int ∷ kinds) =
    All-cons (IsBehind a b) (column_index.Number a) (column_indexes_from (a + 1) b kinds) (omega arith)
    (All-weaker (IsBehind (a + 1) b) (IsBehind a b) (λ s behind. behind-less a b (a + 1) b s (omega arith) (omega arith) behind) (column_indexes_from (a + 1) b kinds) (all-behind (a + 1) b kinds))
all-behind a b (kind.Text ∷ kinds) =
    All-cons (IsBehind a b) (column_index.Text b) (column_indexes_from a (b + 1) kinds) (omega arith)
    (All-weaker (IsBehind a (b + 1)) (IsBehind a b) (λ s behind. behind-less a b a (b + 1) s (omega arith) (omega arith) behind) (column_indexes_from a (b + 1) kinds) (all-behind a (b + 1) kinds))

number-other : (a b : ℕ) (s : ColumnIndex) → IsBehind (a + 1) b s → column_index.Number a ≢ s
number-other a b (column_index.Number i) behind same = let e : a ≡ i = (cc) in omega arith
number-other a b (column_index.Text i) behind same = (cc)

text-other : (a b : ℕ) (s : ColumnIndex) → IsBehind a (b + 1) s → column_index.Text b ≢ s
text-other a b (column_index.Number i) behind same = (cc)
text-other a b (column_index.Text i) behind same = let e : b ≡ i = (cc) in omega arith

once-from : (a b : ℕ) (kinds : List Kind) → AllPairs (λ s t. s ≢ t) (column_indexes_from a b kinds)
once-from a b [] = λ i j d early within. absurd (omega arith)
once-from a b (kind.Int ∷ kinds) =
    AllPairs-cons (λ s t. s ≢ t) (column_index.Number a) (column_indexes_from (a + 1) b kinds)
    (All-weaker (IsBehind (a + 1) b) (λ t. column_index.Number a ≢ t) (number-other a b) (column_indexes_from (a + 1) b kinds) (all-behind (a + 1) b kinds))
    (once-from (a + 1) b kinds)
once-from a b (kind.Text ∷ kinds) =
    AllPairs-cons (λ s t. s ≢ t) (column_index.Text b) (column_indexes_from a (b + 1) kinds)
    (All-weaker (IsBehind a (b + 1)) (λ t. column_index.Text b ≢ t) (text-other a b) (column_indexes_from a (b + 1) kinds) (all-behind a (b + 1) kinds))
    (once-from a (b + 1) kinds)

length-from : (a b : ℕ) (kinds : List Kind) → length (column_indexes_from a b kinds) ≡ length kinds
length-from a b [] = refl
length-from a b (kind.Int ∷ kinds) = let rest = length-from (a + 1) b kinds in omega arith
length-from a b (kind.Text ∷ kinds) = let rest = length-from a (b + 1) kinds in omega arith

module _ (size limit : ℕ) where
  within-from : (a b n p q : ℕ) (kinds : List Kind) → p ≡ a + length (numbers_from size n kinds) → q ≡ b + length (texts_from size limit n kinds) → All (IsColumnIn p q) (column_indexes_from a b kinds)
  within-from a b n p q [] numbers texts = All-nil (IsColumnIn p q)
  within-from a b n p q (kind.Int ∷ kinds) numbers texts =
      All-cons (IsColumnIn p q) (column_index.Number a) (column_indexes_from (a + 1) b kinds) (omega arith) (within-from (a + 1) b (n + 1) p q kinds (omega arith) texts)
  within-from a b n p q (kind.Text ∷ kinds) numbers texts =
      All-cons (IsColumnIn p q) (column_index.Text b) (column_indexes_from a (b + 1) kinds) (omega arith) (within-from a (b + 1) (n + 1) p q kinds numbers (omega arith))

  -- there are as many number columns and text columns together as kinds
  pub columns-count : (n : ℕ) (kinds : List Kind) → length (numbers_from size n kinds) + length (texts_from size limit n kinds) ≡ length kinds
  columns-count n [] = refl
  columns-count n (kind.Int ∷ kinds) = let rest = columns-count (n + 1) kinds in omega arith
  columns-count n (kind.Text ∷ kinds) = let rest = columns-count (n + 1) kinds in omega arith

  pub column_indexes-are : (kinds : List Kind) → AreColumnIndexes (column_indexes_from 0 0 kinds) (length (numbers_from size 0 kinds)) (length (texts_from size limit 0 kinds))
  column_indexes-are kinds = record { within = within-from 0 0 0 _ _ kinds (omega arith) (omega arith); once = once-from 0 0 kinds; count = length-from 0 0 kinds ∙ sym (columns-count 0 kinds) }

-- the first element after a prefix
get-behind : {A : Type 0} (ns : List A) (n : A) (more : List A) → slice_get (ns ++ n ∷ more) (length ns) ≡ Some n
get-behind [] n more = refl
get-behind (m ∷ ns) n more = get-behind ns n more

module _ (size limit : ℕ) where
  -- the column numbers of the number columns of these kinds; the first kind belongs to column n
  abbrev number_columns : ℕ → List Kind → List ℕ
  number_columns n kinds = map (λ c. c.column) (numbers_from size n kinds)

  abbrev text_columns : ℕ → List Kind → List ℕ
  text_columns n kinds = map (λ c. c.column) (texts_from size limit n kinds)

  -- the column with the k-th index has number n + k, if columns with the numbers ns and ts come first
  numbered-from : (ns ts : List ℕ) (n : ℕ) (kinds : List Kind) (a b : ℕ) → a ≡ length ns → b ≡ length ts → (k : ℕ) (s : ColumnIndex) → slice_get (column_indexes_from a b kinds) k ≡ Some s → number_by (ns ++ number_columns n kinds) (ts ++ text_columns n kinds) s ≡ Some (n + k)
  numbered-from ns ts n [] a b of_a of_b k s at = absurd (none-some s at)
  numbered-from ns ts n (kind.Int ∷ kinds) a b of_a of_b zero s at =
      let numbers = ns ++ number_columns n (kind.Int ∷ kinds) in
      let texts = ts ++ text_columns n (kind.Int ∷ kinds) in
      ap (number_by numbers texts) (sym (same_Some (column_index.Number a) s at))
      ∙ ap (slice_get numbers) of_a
      ∙ get-behind ns n (number_columns (n + 1) kinds)
      ∙ ap Some (omega arith)
  numbered-from ns ts n (kind.Int ∷ kinds) a b of_a of_b (suc k) s at =
      ap (λ numbers. number_by numbers (ts ++ text_columns (n + 1) kinds) s) (sym (append_assoc ns (n ∷ []) (number_columns (n + 1) kinds)))
      ∙ numbered-from (ns ++ n ∷ []) ts (n + 1) kinds (a + 1) b (omega (arith, of_a, length_push ns n)) of_b k s at
      ∙ ap Some (omega arith)
  numbered-from ns ts n (kind.Text ∷ kinds) a b of_a of_b zero s at =
      let numbers = ns ++ number_columns n (kind.Text ∷ kinds) in
      let texts = ts ++ text_columns n (kind.Text ∷ kinds) in
      ap (number_by numbers texts) (sym (same_Some (column_index.Text b) s at))
      ∙ ap (slice_get texts) of_b
      ∙ get-behind ts n (text_columns (n + 1) kinds)
      ∙ ap Some (omega arith)
  numbered-from ns ts n (kind.Text ∷ kinds) a b of_a of_b (suc k) s at =
      ap (λ texts. number_by (ns ++ number_columns (n + 1) kinds) texts s) (sym (append_assoc ts (n ∷ []) (text_columns (n + 1) kinds)))
      ∙ numbered-from ns (ts ++ n ∷ []) (n + 1) kinds a (b + 1) of_a (omega (arith, of_b, length_push ts n)) k s at
      ∙ ap Some (omega arith)

  pub are-numbered : (kinds : List Kind) → AreNumbered (column_indexes_from 0 0 kinds) (number_columns 0 kinds) (text_columns 0 kinds)
  are-numbered kinds k s at = numbered-from [] [] 0 kinds 0 0 refl refl k s at ∙ ap Some (omega arith)

  -- each number column has its index at its number, after the indexes of the columns before
  numbers-placed-from : (n a b : ℕ) (kinds : List Kind) (before : List ColumnIndex) → n ≡ length before → (i k : ℕ) → slice_get (number_columns n kinds) i ≡ Some k → slice_get (before ++ column_indexes_from a b kinds) k ≡ Some (column_index.Number (a + i))
  numbers-placed-from n a b [] before of_n i k at = absurd (none-some k at)
  numbers-placed-from n a b (kind.Int ∷ kinds) before of_n zero k at =
      let e : a ≡ a + 0 = omega arith in
      ap (slice_get (before ++ column_indexes_from a b (kind.Int ∷ kinds))) (sym (same_Some n k at) ∙ of_n)
      ∙ get-behind before (column_index.Number a) (column_indexes_from (a + 1) b kinds)
      ∙ (λ j. Some (column_index.Number (e j)))
  numbers-placed-from n a b (kind.Int ∷ kinds) before of_n (suc i) k at =
      let e : a + 1 + i ≡ a + suc i = omega arith in
      ap (λ (ss : List ColumnIndex). slice_get ss k) (sym (append_assoc before (column_index.Number a ∷ []) (column_indexes_from (a + 1) b kinds)))
      ∙ numbers-placed-from (n + 1) (a + 1) b kinds (before ++ column_index.Number a ∷ []) (omega (arith, of_n, length_push before (column_index.Number a))) i k at
      ∙ (λ j. Some (column_index.Number (e j)))
  numbers-placed-from n a b (kind.Text ∷ kinds) before of_n i k at =
      ap (λ (ss : List ColumnIndex). slice_get ss k) (sym (append_assoc before (column_index.Text b ∷ []) (column_indexes_from a (b + 1) kinds)))
      ∙ numbers-placed-from (n + 1) a (b + 1) kinds (before ++ column_index.Text b ∷ []) (omega (arith, of_n, length_push before (column_index.Text b))) i k at

  -- each text column has its index at its number, after the indexes of the columns before
  texts-placed-from : (n a b : ℕ) (kinds : List Kind) (before : List ColumnIndex) → n ≡ length before → (i k : ℕ) → slice_get (text_columns n kinds) i ≡ Some k → slice_get (before ++ column_indexes_from a b kinds) k ≡ Some (column_index.Text (b + i))
  texts-placed-from n a b [] before of_n i k at = absurd (none-some k at)
  texts-placed-from n a b (kind.Text ∷ kinds) before of_n zero k at =
      let e : b ≡ b + 0 = omega arith in
      ap (slice_get (before ++ column_indexes_from a b (kind.Text ∷ kinds))) (sym (same_Some n k at) ∙ of_n)
      ∙ get-behind before (column_index.Text b) (column_indexes_from a (b + 1) kinds)
      ∙ (λ j. Some (column_index.Text (e j)))
  texts-placed-from n a b (kind.Text ∷ kinds) before of_n (suc i) k at =
      let e : b + 1 + i ≡ b + suc i = omega arith in
      ap (λ (ss : List ColumnIndex). slice_get ss k) (sym (append_assoc before (column_index.Text b ∷ []) (column_indexes_from a (b + 1) kinds)))
      ∙ texts-placed-from (n + 1) a (b + 1) kinds (before ++ column_index.Text b ∷ []) (omega (arith, of_n, length_push before (column_index.Text b))) i k at
      ∙ (λ j. Some (column_index.Text (e j)))
  texts-placed-from n a b (kind.Int ∷ kinds) before of_n i k at =
      ap (λ (ss : List ColumnIndex). slice_get ss k) (sym (append_assoc before (column_index.Number a ∷ []) (column_indexes_from (a + 1) b kinds)))
      ∙ texts-placed-from (n + 1) (a + 1) b kinds (before ++ column_index.Number a ∷ []) (omega (arith, of_n, length_push before (column_index.Number a))) i k at

  pub numbers-placed : (kinds : List Kind) → ArePlaced (column_indexes_from 0 0 kinds) (λ i. column_index.Number i) (number_columns 0 kinds)
  numbers-placed kinds i k at = let e : 0 + i ≡ i = omega arith in numbers-placed-from 0 0 0 kinds [] refl i k at ∙ (λ j. Some (column_index.Number (e j)))

  pub texts-placed : (kinds : List Kind) → ArePlaced (column_indexes_from 0 0 kinds) (λ i. column_index.Text i) (text_columns 0 kinds)
  texts-placed kinds i k at = let e : 0 + i ≡ i = omega arith in texts-placed-from 0 0 0 kinds [] refl i k at ∙ (λ j. Some (column_index.Text (e j)))
