-- Where the parts of a valid far form of numbers are, and which kind a far form has.
use Rattle.std.proofs.Common.{◌≡◌, ℕ, ◌+◌, ◌/◌, ◌<◌, ◌≤◌, Bool, true, false, cond, eqb, ℤ, List, [], ◌∷◌, length, get_or, map, take, drop, Option, None, refl, sym, ap, ◌∙◌, arith, inl, inr}
use Rattle.std.specs.Prelude.{is_none, slice_get}
use Rattle.std.specs.Option.{option_and_then}
use Rattle.std.specs.Int.{w32, from_le_bytes}
use Rattle.std.specs.List.{flat_map}
use Rattle.std.specs.Simd.{first_chunks}
use Rattle.std.proofs.lemmas.List.{length-map, take_at, drop_at}
use Rattle.std.proofs.lemmas.Option.{slice_get-get_or, slice_get_past}
use Rattle.far_codec.specs.FarForm.{mask_of, some_missing, number_bytes}
use Rattle.far_codec.specs.Reading.{ints_meaning, numbers_of, IsIntsForm}
use Rattle.far_codec.specs.ReadingLaws.{length-mask_of, numbers_again}
use Rattle.far_codec.specs.TextForm.{texts_meaning, IsTextsForm}
use Rattle.far_codec.specs.Lent.{IsForm}
use Rattle.far_codec.proofs.FarFormHeads.{HeadCells, head_cells}
use Rattle.far_codec.proofs.FarFormNumbers.{ints_form_is, words_from_fields, numbers_of_at, number_at, length-numbers_of}
use Rattle.far_codec.proofs.FormsMeaning.{lies_so}

pub record IntsLieSo (form : List ℕ) (numbers : List (Option ℤ)) : Type 0 where
  pub cells : HeadCells form 0 (map is_none numbers) (flat_map number_bytes numbers)
  pub count : from_le_bytes w32 (get_or form 2 0 ∷ get_or form 3 0 ∷ get_or form 4 0 ∷ get_or form 5 0 ∷ []) ≡ length numbers
  pub mask_len : cond (eqb (get_or form 0 0) 2) ((length numbers + 7) / 8) 0 ≡ length (mask_of (map is_none numbers))

mask_size : (b : Bool) (n : ℕ) → cond (eqb (cond b 2 1) 2) n 0 ≡ cond b n 0
mask_size true n = refl
mask_size false n = refl

pub ints_lie_so : (form : List ℕ) → IsIntsForm form → IntsLieSo form (ints_meaning form)
ints_lie_so form is =
    let numbers = ints_meaning form in
    let flags = map is_none numbers in
    let same = length-map numbers is_none in
    let cells = head_cells form 0 flags (flat_map number_bytes numbers) (omega (arith, same, is.ints.count)) (is.is ∙ ints_form_is numbers) in
    record {
      cells = cells;
      count = cells.count ∙ same;
      mask_len = ap (λ b. cond (eqb b 2) ((length numbers + 7) / 8) 0) cells.first ∙ mask_size (some_missing flags) ((length numbers + 7) / 8) ∙ ap (λ n. cond (some_missing flags) ((n + 7) / 8) 0) (sym same) ∙ sym (length-mask_of flags);
    }

pub size_is : (form : List ℕ) (count size : ℕ) → IsIntsForm form → count ≡ from_le_bytes w32 (get_or form 2 0 ∷ get_or form 3 0 ∷ get_or form 4 0 ∷ get_or form 5 0 ∷ []) → size ≡ cond (eqb (get_or form 0 0) 2) ((count + 7) / 8) 0 → size ≡ length (mask_of (map is_none (ints_meaning form)))
size_is form count size is many e =
    let lies = ints_lie_so form is in
    e ∙ ap (λ n. cond (eqb (get_or form 0 0) 2) ((n + 7) / 8) 0) (many ∙ lies.count) ∙ lies.mask_len

-- the parts that splitting returns encode the numbers of the form
pub lent_numbers : (form rest mask fields : List ℕ) (words : List (List ℕ)) (size : ℕ) → IsIntsForm form → rest ≡ drop 6 form → mask ≡ take size rest → fields ≡ drop size rest → words ≡ first_chunks 8 (length fields / 8) fields → size ≡ length (mask_of (map is_none (ints_meaning form))) → numbers_of mask words ≡ ints_meaning form
lent_numbers form rest mask fields words size is rest_is mask_is fields_are words_are len =
    let numbers = ints_meaning form in
    let m = mask_of (map is_none numbers) in
    let whole = rest_is ∙ (ints_lie_so form is).cells.back in
    let masks : mask ≡ m = mask_is ∙ ap (take size) whole ∙ take_at m (flat_map number_bytes numbers) size (sym len) in
    let all : fields ≡ flat_map number_bytes numbers = fields_are ∙ ap (drop size) whole ∙ drop_at m (flat_map number_bytes numbers) size (sym len) in
    ap (λ (l : List ℕ). numbers_of l words) masks
    ∙ ap (numbers_of m) (words_from_fields fields words numbers words_are all)
    ∙ numbers_again numbers is.ints.range

-- number i of these parts
pub number_there : (mask : List ℕ) (words : List (List ℕ)) (i : ℕ) → i < length words → option_and_then (λ number. number) (slice_get (numbers_of mask words) i) ≡ number_at mask words i
number_there mask words i h =
    ap (option_and_then (λ number. number)) (slice_get-get_or (numbers_of mask words) i None (omega (arith, length-numbers_of mask words)))
    ∙ numbers_of_at mask words i None h

pub number_past : (mask : List ℕ) (words : List (List ℕ)) (i : ℕ) → length words ≤ i → option_and_then (λ number. number) (slice_get (numbers_of mask words) i) ≡ None
number_past mask words i h = ap (option_and_then (λ number. number)) (slice_get_past (numbers_of mask words) i (omega (arith, length-numbers_of mask words)))

-- the second byte of a far form is its kind
pub ints_second : (form : List ℕ) → IsIntsForm form → get_or form 1 0 ≡ 0
ints_second form is = (ints_lie_so form is).cells.second

pub texts_second : (form : List ℕ) → IsTextsForm form → get_or form 1 0 ≡ 1
texts_second form is = (lies_so form (texts_meaning form) is.texts is.is).cells.second

pub form_is_long : (form : List ℕ) → IsForm form → 6 ≤ length form
form_is_long form (inl ints) = (ints_lie_so form ints).cells.long
form_is_long form (inr texts) = (lies_so form (texts_meaning form) texts.texts texts.is).cells.long

pub is_of_ints : (form : List ℕ) → IsForm form → (get_or form 1 0 ≡ 1 → ⊥) → IsIntsForm form
is_of_ints form (inl ints) other = ints
is_of_ints form (inr texts) other = absurd (other (texts_second form texts))

pub is_of_texts : (form : List ℕ) → IsForm form → get_or form 1 0 ≡ 1 → IsTextsForm form
is_of_texts form (inr texts) e = texts
is_of_texts form (inl ints) e = absurd (omega (arith, e, ints_second form ints))
