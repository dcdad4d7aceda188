-- What bytes that begin with a head encode.
use Rattle.std.proofs.Common.{◌≡◌, ℕ, zero, suc, ◌⊎◌, inl, inr, Option, None, Some, ◌<◌, ◌≤◌, ◌^◌, Bool, true, false, cond, List, [], ◌∷◌, ◌++◌, length, get_or, take, drop, refl, sym, ap, ◌∙◌, arith}
use Rattle.std.specs.Prelude.{All, IfSome, IsSome, IsSomeAnd, is_some}
use Rattle.std.proofs.lemmas.List.Folds.{list_any_none}
use Rattle.std.proofs.lemmas.List.FromFn.{get_or-map-range_with_len}
use Rattle.std.proofs.lemmas.List.{take-append-drop}
use Rattle.std.specs.Int.{w32, w64, to_le_bytes, from_le_bytes}
use Rattle.std.proofs.lemmas.Bool.{false≢true}
use Rattle.std.proofs.lemmas.Nat.{le_bytes_4, from_le_bytes-to_le_bytes_4}
use Rattle.far_codec.specs.FarForm.{version, mask_of, head, some_missing, FitsCount}
use Rattle.far_codec.specs.Reading.{flags_of, is_missing}
use Rattle.far_codec.specs.MaskLaws.{missing_in_none}
use Rattle.far_codec.proofs.PlainNumbersWords.{IsBytes}
use Rattle.far_codec.proofs.ReadingMasks.{length-flags_of}

-- the first six bytes, one by one
cells_6 : (bytes : List ℕ) → 6 ≤ length bytes → bytes ≡ get_or bytes 0 0 ∷ get_or bytes 1 0 ∷ get_or bytes 2 0 ∷ get_or bytes 3 0 ∷ get_or bytes 4 0 ∷ get_or bytes 5 0 ∷ drop 6 bytes
cells_6 (a ∷ b ∷ c ∷ d ∷ e ∷ f ∷ rest) h = refl
cells_6 _ h = absurd (omega arith)

-- encoding the count that four bytes encode returns the bytes
count_again : (bytes : List ℕ) (count : ℕ) → IsBytes bytes → count ≡ from_le_bytes w32 (get_or bytes 2 0 ∷ get_or bytes 3 0 ∷ get_or bytes 4 0 ∷ get_or bytes 5 0 ∷ []) → to_le_bytes w32 count ≡ get_or bytes 2 0 ∷ get_or bytes 3 0 ∷ get_or bytes 4 0 ∷ get_or bytes 5 0 ∷ []
count_again bytes count fits is = le_bytes_4 (get_or bytes 2 0 ∷ get_or bytes 3 0 ∷ get_or bytes 4 0 ∷ get_or bytes 5 0 ∷ []) count refl four is
  where
    four : (i : ℕ) → get_or (get_or bytes 2 0 ∷ get_or bytes 3 0 ∷ get_or bytes 4 0 ∷ get_or bytes 5 0 ∷ []) i 0 < 256
    four zero = fits 2
    four (suc zero) = fits 3
    four (suc (suc zero)) = fits 4
    four (suc (suc (suc zero))) = fits 5
    four (suc (suc (suc (suc i)))) = omega arith

-- bytes with these first six begin with the head
pub head_found : (bytes : List ℕ) (kind count : ℕ) (flags : List Bool) (fields : List ℕ) → IsBytes bytes → 6 ≤ length bytes → get_or bytes 0 0 ≡ version flags → get_or bytes 1 0 ≡ kind → count ≡ from_le_bytes w32 (get_or bytes 2 0 ∷ get_or bytes 3 0 ∷ get_or bytes 4 0 ∷ get_or bytes 5 0 ∷ []) → length flags ≡ count → drop 6 bytes ≡ mask_of flags ++ fields → bytes ≡ head kind flags ++ fields
unfolding head
head_found bytes kind count flags fields fits long first second is len back =
    let cells = get_or bytes 2 0 ∷ get_or bytes 3 0 ∷ get_or bytes 4 0 ∷ get_or bytes 5 0 ∷ [] in
    cells_6 bytes long
    ∙ ap (λ b. b ∷ get_or bytes 1 0 ∷ cells ++ drop 6 bytes) first
    ∙ ap (λ b. version flags ∷ b ∷ cells ++ drop 6 bytes) second
    ∙ ap (λ l. version flags ∷ kind ∷ l ++ drop 6 bytes) (sym (ap (to_le_bytes w32) len ∙ count_again bytes count fits is))
    ∙ ap (λ l. version flags ∷ kind ∷ to_le_bytes w32 (length flags) ++ l) back

-- bytes that begin with a head have these first six
pub record HeadCells (bytes : List ℕ) (kind : ℕ) (flags : List Bool) (fields : List ℕ) : Type 0 where
  pub long : 6 ≤ length bytes
  pub first : get_or bytes 0 0 ≡ version flags
  pub second : get_or bytes 1 0 ≡ kind
  pub count : from_le_bytes w32 (get_or bytes 2 0 ∷ get_or bytes 3 0 ∷ get_or bytes 4 0 ∷ get_or bytes 5 0 ∷ []) ≡ length flags
  pub back : drop 6 bytes ≡ mask_of flags ++ fields

pub head_cells : (bytes : List ℕ) (kind : ℕ) (flags : List Bool) (fields : List ℕ) → FitsCount flags → bytes ≡ head kind flags ++ fields → HeadCells bytes kind flags fields
unfolding head
head_cells bytes kind flags fields few e = record {
  long = omega (arith, ap length e);
  first = ap (λ l. get_or l 0 0) e;
  second = ap (λ l. get_or l 1 0) e;
  count = ap (λ l. from_le_bytes w32 (get_or l 2 0 ∷ get_or l 3 0 ∷ get_or l 4 0 ∷ get_or l 5 0 ∷ [])) e ∙ from_le_bytes-to_le_bytes_4 (length flags) few;
  back = ap (drop 6) e;
}

pub count_below : (bytes : List ℕ) → IsBytes bytes → from_le_bytes w32 (get_or bytes 2 0 ∷ get_or bytes 3 0 ∷ get_or bytes 4 0 ∷ get_or bytes 5 0 ∷ []) < 2 ^ 32
count_below bytes fits = omega (arith, fits 2, fits 3, fits 4, fits 5)

abbrev twice : Bool → ℕ
twice b = cond b 2 1

-- the version says whether a value is missing
pub version_1 : (flags : List Bool) → version flags ≡ 1 → some_missing flags ≡ false
version_1 flags e = tells_1 (some_missing flags) e
  where
    tells_1 : (b : Bool) → twice b ≡ 1 → b ≡ false
    tells_1 true e = absurd (omega arith)
    tells_1 false e = refl

pub version_2 : (flags : List Bool) → version flags ≡ 2 → some_missing flags ≡ true
version_2 flags e = tells_2 (some_missing flags) e
  where
    tells_2 : (b : Bool) → twice b ≡ 2 → b ≡ true
    tells_2 true e = refl
    tells_2 false e = absurd (omega arith)

-- without a mask no flag is set
pub unset_without_mask : (count : ℕ) → All (λ missing. missing ≡ false) (flags_of [] count)
unset_without_mask count = λ k d h.
    get_or-map-range_with_len (is_missing []) 0 count k k d (omega (arith, length-flags_of [] count)) (omega arith) ∙ missing_in_none k

-- without a mask no value is missing
pub none_missing : (count : ℕ) → some_missing (flags_of [] count) ≡ false
none_missing count = list_any_none (λ missing. missing) (flags_of [] count) (unset_without_mask count)

pub version_either : (flags : List Bool) → (version flags ≡ 1) ⊎ (version flags ≡ 2)
version_either flags = either (some_missing flags)
  where
    either : (b : Bool) → (twice b ≡ 1) ⊎ (twice b ≡ 2)
    either true = inr refl
    either false = inl refl

pub version_of_none : (flags : List Bool) → some_missing flags ≡ false → 1 ≡ version flags
version_of_none flags none = sym (ap (λ b. cond b 2 1) none)

pub version_of_some : (flags : List Bool) → some_missing flags ≡ true → 2 ≡ version flags
version_of_some flags any = sym (ap (λ b. cond b 2 1) any)

-- a property of an option's value implies another
pub some_with : {T : Type 0} (o : Option T) (P Q : T → Type 0) → ((x : T) → P x → Q x) → IfSome o P → IfSome o Q
some_with None P Q f h = tt
some_with (Some x) P Q f h = f x h

pub some_and_with : {T : Type 0} (o : Option T) (P Q : T → Type 0) → ((x : T) → P x → Q x) → IsSomeAnd o P → IsSomeAnd o Q
some_and_with None P Q f h = h
some_and_with (Some x) P Q f h = f x h

-- the first six bytes of a head, made from the count in eight bytes
pub front_made : (kind version_byte n : ℕ) (flags : List Bool) (count : List ℕ) (missing : Bool) → version_byte ≡ cond missing 2 1 → missing ≡ some_missing flags → count ≡ to_le_bytes w64 n → n ≡ length flags → version_byte ∷ kind ∷ get_or count 0 0 ∷ get_or count 1 0 ∷ get_or count 2 0 ∷ get_or count 3 0 ∷ [] ≡ version flags ∷ kind ∷ to_le_bytes w32 (length flags)
front_made kind version_byte n flags count missing v m e len =
    ap (λ b. b ∷ kind ∷ get_or count 0 0 ∷ get_or count 1 0 ∷ get_or count 2 0 ∷ get_or count 3 0 ∷ []) (v ∙ ap (λ b. cond b 2 1) m)
    ∙ ap (λ l. version flags ∷ kind ∷ get_or l 0 0 ∷ get_or l 1 0 ∷ get_or l 2 0 ∷ get_or l 3 0 ∷ []) e
    ∙ ap (λ k. version flags ∷ kind ∷ to_le_bytes w32 k) len

-- the first six bytes of a head if a value is missing
pub masked_front : (kind n : ℕ) (flags : List Bool) (count : List ℕ) → some_missing flags ≡ true → count ≡ to_le_bytes w64 n → n ≡ length flags → 2 ∷ kind ∷ get_or count 0 0 ∷ get_or count 1 0 ∷ get_or count 2 0 ∷ get_or count 3 0 ∷ [] ≡ version flags ∷ kind ∷ to_le_bytes w32 (length flags)
masked_front kind n flags count any e len = front_made kind 2 n flags count true refl (sym any) e len

-- the parts of bytes that begin with a head
pub record HeadParts (bytes : List ℕ) (kind : ℕ) (flags : List Bool) (rest : List ℕ) : Type 0 where
  pub long : 6 ≤ length bytes
  pub front : take 6 bytes ≡ version flags ∷ kind ∷ to_le_bytes w32 (length flags)
  pub back : drop 6 bytes ≡ mask_of flags ++ rest

pub head_split : (bytes : List ℕ) (kind : ℕ) (flags : List Bool) (rest : List ℕ) → bytes ≡ head kind flags ++ rest → HeadParts bytes kind flags rest
unfolding head
head_split bytes kind flags rest e = record { long = omega (arith, ap length e); front = ap (take 6) e; back = ap (drop 6) e }

pub head_join : (bytes : List ℕ) (kind : ℕ) (flags : List Bool) (rest : List ℕ) → take 6 bytes ≡ version flags ∷ kind ∷ to_le_bytes w32 (length flags) → drop 6 bytes ≡ mask_of flags ++ rest → bytes ≡ head kind flags ++ rest
unfolding head
head_join bytes kind flags rest front back =
    sym (take-append-drop 6 bytes) ∙ ap (λ l. l ++ drop 6 bytes) front ∙ ap (λ l. version flags ∷ kind ∷ to_le_bytes w32 (length flags) ++ l) back

pub head_is : (kind : ℕ) (flags : List Bool) → head kind flags ≡ (version flags ∷ kind ∷ to_le_bytes w32 (length flags)) ++ mask_of flags
unfolding head
head_is kind flags = refl

-- a property of the value that is present
pub some_value : {T : Type 0} (o : Option T) (P : T → Type 0) → IfSome o P → is_some o ≡ true → (x : T) × P x
some_value None P h e = absurd (false≢true e)
some_value (Some x) P h e = (x, h)

pub some_is : {T : Type 0} (o : Option T) → IsSome o → is_some o ≡ true
some_is None h = h
some_is (Some x) h = refl
