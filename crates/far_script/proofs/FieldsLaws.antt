-- The fields of a text, read one by one.
use Rattle.std.proofs.Common.{◌≡◌, ◌==◌, ℕ, suc, ◌+◌, ◌≤◌, ◌<◌, ◌∙◌, Bool, true, false, ◌&&◌, zero, List, [], ◌∷◌, ◌++◌, Option, None, Some, not, nat_lt, if◌then◌else◌, drop, take, set, length, slice_get, append_assoc, append-nil, refl, sym, ap, arith}
use Rattle.std.specs.List.{list_any, slice_split, position_or_len, before_first, after_first}
use Rattle.std.proofs.lemmas.Bool.{eqb-true}
use Rattle.std.proofs.lemmas.List.{length-drop, take_all, take_more_set}
use Rattle.std.proofs.lemmas.List.Sums.{prefix_len-le-length}
use Rattle.std.proofs.lemmas.List.Splits.{slice_split_first}
use Rattle.csv.specs.Records.{field_at}
use Rattle.far_types.specs.declared.cell.Cell.{Cell}
use Rattle.far_types.specs.declared.cell.Kind.{Kind}
use Rattle.far_script.specs.OneRecord.{one_record, is_comma, is_mark, is_plain}
use Rattle.far_script.specs.Fields.{cell_of, cells_from, only_field}
use Rattle.far_script.proofs.PartLaws.{last-part}
use Rattle.far_script.proofs.OneRecordPlainTexts.{one_record-plain, one_record-empty}

-- one cell more: the cells so far and those of the rest are still all cells
one-cell-more : (kinds : List Kind) (cells : List Cell) (n : ℕ) (rest : List ℕ) (whole : List Cell) → position_or_len is_comma rest < length rest
    → cells ++ cells_from kinds n (slice_split is_comma rest) ≡ whole
    → (cells ++ cell_of (slice_get kinds n) (before_first is_comma rest) ∷ []) ++ cells_from kinds (n + 1) (slice_split is_comma (after_first is_comma rest)) ≡ whole
one-cell-more kinds cells n rest whole h e =
    append_assoc cells (cell_of (slice_get kinds n) (before_first is_comma rest) ∷ []) (cells_from kinds (n + 1) (slice_split is_comma (after_first is_comma rest)))
    ∙ sym (ap (λ (parts : List (List ℕ)). cells ++ cells_from kinds n parts) (slice_split_first is_comma rest 0 h))
    ∙ e

last-cell : (kinds : List Kind) (cells : List Cell) (n : ℕ) (rest : List ℕ) (whole : List Cell) → position_or_len is_comma rest ≡ length rest
    → cells ++ cells_from kinds n (slice_split is_comma rest) ≡ whole
    → cells ++ cell_of (slice_get kinds n) rest ∷ [] ≡ whole
last-cell kinds cells n rest whole h e = sym (ap (λ (parts : List (List ℕ)). cells ++ cells_from kinds n parts) (last-part is_comma rest h)) ∙ e

some-same : (f g : List ℕ) → Some f ≡ Some g → f ≡ g
some-same f g h = cc h

two-more : (i : ℕ) → suc (i + 1) ≡ suc i + 1
two-more i = omega arith

-- the cells of the rest, if `more` says that there is one
abbrev pub cells-left : List Kind → ℕ → Bool → List ℕ → List Cell
cells-left kinds n more rest = if more then cells_from kinds n (slice_split is_comma rest) else []

is-below : (n m : ℕ) → nat_lt n m ≡ true → n < m
is-below n m h = grind (arith, h)

is-end : (n m : ℕ) → n ≤ m → nat_lt n m ≡ false → n ≡ m
is-end n m low h = grind (arith, h, low)

ends-within : (rest : List ℕ) → position_or_len is_comma rest ≤ length rest
ends-within rest = prefix_len-le-length (λ c. not (is_comma c)) rest

next-cell : (more : Bool) (kinds : List Kind) (cells : List Cell) (n : ℕ) (rest : List ℕ) (whole : List Cell) → nat_lt (position_or_len is_comma rest) (length rest) ≡ more
    → cells ++ cells_from kinds n (slice_split is_comma rest) ≡ whole
    → (cells ++ cell_of (slice_get kinds n) (before_first is_comma rest) ∷ []) ++ cells-left kinds (n + 1) more (after_first is_comma rest) ≡ whole
next-cell true kinds cells n rest whole h e = one-cell-more kinds cells n rest whole (is-below (position_or_len is_comma rest) (length rest) h) e
next-cell false kinds cells n rest whole h e =
    let all = is-end (position_or_len is_comma rest) (length rest) (ends-within rest) h in
    append-nil (cells ++ cell_of (slice_get kinds n) (before_first is_comma rest) ∷ [])
    ∙ ap (λ (field : List ℕ). cells ++ cell_of (slice_get kinds n) field ∷ []) (take_all (position_or_len is_comma rest) rest (omega (arith, all)))
    ∙ last-cell kinds cells n rest whole all e

-- the same, in the values of a turn of the loop
pub cells-go-on : (kinds : List Kind) (cells : List Cell) (n : ℕ) (rest behind : List ℕ) (whole : List Cell) (column : Option Kind) (after : List Cell) (m : ℕ) (more : Bool)
    → after ≡ cells ++ cell_of column (before_first is_comma rest) ∷ [] → column ≡ slice_get kinds n → m ≡ n + 1 → behind ≡ after_first is_comma rest → more ≡ nat_lt (position_or_len is_comma rest) (length rest)
    → cells ++ cells_from kinds n (slice_split is_comma rest) ≡ whole
    → after ++ cells-left kinds m more behind ≡ whole
cells-go-on kinds cells n rest behind whole column after m more grown of next left goes e =
    rw (grown, of, next, left, goes) (next-cell (nat_lt (position_or_len is_comma rest) (length rest)) kinds cells n rest whole refl e)

-- a cell is written after those so far
pub cell-written : (old mid : List Cell) (n : ℕ) (cell : Cell) → n < length mid → take n mid ≡ take n old → take (n + 1) (set mid n cell) ≡ take n old ++ cell ∷ []
cell-written old mid n cell within same = take_more_set mid n cell within ∙ ap (λ (cells : List Cell). cells ++ cell ∷ []) same

-- how much there is to read
abbrev pub length-left : Bool → List ℕ → ℕ
length-left more rest = if more then length rest + 1 else 0

less-at : (more : Bool) (rest : List ℕ) → nat_lt (position_or_len is_comma rest) (length rest) ≡ more → length-left more (after_first is_comma rest) < length rest + 1
less-at true rest h =
    let low = is-below (position_or_len is_comma rest) (length rest) h in
    omega (arith, low, length-drop (position_or_len is_comma rest + 1) rest)
less-at false rest h = omega arith

pub less-left : (rest behind : List ℕ) (more : Bool) → behind ≡ after_first is_comma rest → more ≡ nat_lt (position_or_len is_comma rest) (length rest) → length-left more behind < length rest + 1
less-left rest behind more left goes = rw (left, goes) (less-at (nat_lt (position_or_len is_comma rest) (length rest)) rest refl)

-- the field of a record at a place
pub drop-field_at : (fields : List (List ℕ)) (i : ℕ) (field : List ℕ) → field_at fields i ≡ Some field → drop i fields ≡ field ∷ drop (i + 1) fields
unfolding field_at
drop-field_at [] i field h = cc h
drop-field_at (f ∷ fs) zero field h = ap (λ (first : List ℕ). first ∷ fs) (some-same f field h)
drop-field_at (f ∷ fs) (suc i) field h = drop-field_at fs i field h ∙ ap (λ (n : ℕ). field ∷ drop n (f ∷ fs)) (two-more i)

pub has-field_at : (fields : List (List ℕ)) (i : ℕ) → i < length fields → field_at fields i ≡ None → ⊥
unfolding field_at
has-field_at [] i h e = omega (arith, h)
has-field_at (f ∷ fs) zero h e = cc e
has-field_at (f ∷ fs) (suc i) h e = has-field_at fs i (omega (arith, h)) e

pub one-field-more : (kinds : List Kind) (cells : List Cell) (i : ℕ) (fields : List (List ℕ)) (field : List ℕ) (whole : List Cell)
    → field_at fields i ≡ Some field
    → cells ++ cells_from kinds i (drop i fields) ≡ whole
    → (cells ++ cell_of (slice_get kinds i) field ∷ []) ++ cells_from kinds (i + 1) (drop (i + 1) fields) ≡ whole
one-field-more kinds cells i fields field whole h e =
    append_assoc cells (cell_of (slice_get kinds i) field ∷ []) (cells_from kinds (i + 1) (drop (i + 1) fields))
    ∙ sym (ap (λ (rest : List (List ℕ)). cells ++ cells_from kinds i rest) (drop-field_at fields i field h))
    ∙ e

not-one : (n : ℕ) → suc (suc n) ≡ 1 → ⊥
not-one n h = omega (arith, h)

not-zero : (n : ℕ) → suc n ≡ 0 → ⊥
not-zero n h = omega (arith, h)

pub fields-go-on : (kinds : List Kind) (cells : List Cell) (i : ℕ) (fields : List (List ℕ)) (whole : List Cell) (field : List ℕ) (column : Option Kind) (cell : Cell) (after : List Cell)
    → field_at fields i ≡ Some field → cell ≡ cell_of column field → column ≡ slice_get kinds i → after ≡ cells ++ cell ∷ []
    → cells ++ cells_from kinds i (drop i fields) ≡ whole
    → after ++ cells_from kinds (i + 1) (drop (i + 1) fields) ≡ whole
fields-go-on kinds cells i fields whole field column cell after found made of grown e = rw (grown, made, of) (one-field-more kinds cells i fields field whole found e)

-- the only field
pub only-field : (fields : List (List ℕ)) (field : List ℕ) → length fields ≡ 1 → field_at fields 0 ≡ Some field → only_field (Some fields) ≡ Some field
unfolding field_at
only-field [] field h e = cc e
only-field (f ∷ []) field h e = e
only-field (f ∷ g ∷ gs) field h e = absurd (not-one (length gs) h)

pub not-one-field : (fields : List (List ℕ)) → (length fields == 1) ≡ false → only_field (Some fields) ≡ None
not-one-field [] h = refl
not-one-field (f ∷ []) h = cc h
not-one-field (f ∷ g ∷ gs) h = refl

-- texts that need no machine
pub unplain : (a b : Bool) → (not a && not b) ≡ true → (a ≡ false) × (b ≡ false)
unplain true true h = cc h
unplain true false h = cc h
unplain false true h = cc h
unplain false false h = (refl, refl)

pub plain-record : (text : List ℕ) → (length text == 0) ≡ false → is_plain text ≡ true → one_record text ≡ Some (slice_split is_comma text)
plain-record [] h plain = cc h
plain-record (c ∷ cs) h plain = let p = unplain (c == 239) (list_any is_mark (c ∷ cs)) plain in one_record-plain c cs p.0 p.1

pub empty-record : (text : List ℕ) → (length text == 0) ≡ true → one_record text ≡ None
empty-record [] h = one_record-empty
empty-record (c ∷ cs) h = absurd (not-zero (length cs) (eqb-true (suc (length cs)) 0 h))
