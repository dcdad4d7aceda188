-- Texts that are copied one after another, with the offset of each and whether it has a value.
use Rattle.std.proofs.Common.{◌≡◌, ◌∙◌, ℕ, ◌+◌, ◌-◌, ◌<◌, ◌≤◌, Bool, List, [], ◌∷◌, ◌++◌, append_assoc, append-nil, drop, length, map, take, Option, sym, ap, add-one, arith}
use Rattle.std.specs.Prelude.{set}
use Rattle.std.proofs.lemmas.List.{length-append, length-map, length-take-le, take_all}
use Rattle.std.proofs.Math.ListN.{length-set}
use Rattle.std.proofs.Math.Seq.{take-suc-set}
use Rattle.far_types.specs.declared.cell.Cell.{Cell}
use Rattle.far_types.specs.Lent.{text_cell}
use Rattle.far_types.specs.Table.{Place, part}
use Rattle.far_c.specs.Parts.{AreTextsOf, bytes_of, cells_in, has_value, offsets_of, texts_of}
use Rattle.far_c.proofs.Buffers.{put-as-it-is}
use Rattle.far_c.proofs.Lending.{part-few, part-long}

abbrev Lent : Type 0
Lent = List (Option (List ℕ) × Bool)

-- writing element k appends it to the first k
pub put-one : {A : Type 0} (k : ℕ) (xs : List A) (v : A) (tail whole : List A) → k < length xs → take k xs ++ (v ∷ tail) ≡ whole → take (k + 1) (set xs k v) ++ tail ≡ whole
put-one k xs v tail whole inside is = ap (λ n. take n (set xs k v) ++ tail) (add-one k) ∙ ap (λ l. l ++ tail) (take-suc-set xs k v inside) ∙ append_assoc (take k xs) (v ∷ []) tail ∙ is

-- after the last element the list is complete
pub all-put : {A : Type 0} (k : ℕ) (xs whole : List A) → length xs ≤ k → take k xs ++ [] ≡ whole → xs ≡ whole
all-put k xs whole long is = sym (take_all k xs long) ∙ sym (append-nil (take k xs)) ∙ is

-- copying one more text into the buffer
module _ (text : Option (List ℕ)) (alive : Bool) (rest lent : Lent) (is : lent ≡ (text, alive) ∷ rest) where
  pub offsets-more : (k at end : ℕ) (offsets whole : List ℕ) → k < length offsets → end ≡ at + length (bytes_of (text_cell text)) → take k offsets ++ offsets_of at (cells_in lent) ≡ whole
      → take (k + 1) (set offsets k at) ++ offsets_of end (cells_in rest) ≡ whole
  offsets-more k at end offsets whole inside ends before =
      ap (λ n. take (k + 1) (set offsets k at) ++ offsets_of n (cells_in rest)) ends
      ∙ put-one k offsets at (offsets_of (at + length (bytes_of (text_cell text))) (cells_in rest)) whole inside (sym (ap (λ l. take k offsets ++ offsets_of at (cells_in l)) is) ∙ before)

  pub valid-more : (k : ℕ) (valid whole : List Bool) (is_there : Bool) → k < length valid → is_there ≡ has_value (text_cell text) → take k valid ++ map has_value (cells_in lent) ≡ whole
      → take (k + 1) (set valid k is_there) ++ map has_value (cells_in rest) ≡ whole
  valid-more k valid whole is_there inside there before =
      ap (λ b. take (k + 1) (set valid k b) ++ map has_value (cells_in rest)) there
      ∙ put-one k valid (has_value (text_cell text)) (map has_value (cells_in rest)) whole inside (sym (ap (λ l. take k valid ++ map has_value (cells_in l)) is) ∙ before)

  pub alive-more : (k : ℕ) (flags whole : List Bool) → k < length flags → take k flags ++ map (λ t. t.1) lent ≡ whole → take (k + 1) (set flags k alive) ++ map (λ t. t.1) rest ≡ whole
  alive-more k flags whole inside before = put-one k flags alive (map (λ t. t.1) rest) whole inside (sym (ap (λ (l : Lent). take k flags ++ map (λ t. t.1) l) is) ∙ before)

  module _ (at : ℕ) (had shown whole : List ℕ) (same : shown ≡ bytes_of (text_cell text)) (before : take at had ++ texts_of (cells_in lent) ≡ whole) where
    behind : take at had ++ (shown ++ texts_of (cells_in rest)) ≡ whole
    behind = ap (λ l. take at had ++ (l ++ texts_of (cells_in rest))) same ∙ sym (ap (λ l. take at had ++ texts_of (cells_in l)) is) ∙ before

    pub bytes-more : (end : ℕ) (new : List ℕ) → end ≡ at + length shown → at + length shown ≤ length had → new ≡ take at had ++ shown ++ drop (at + length shown) had → take end new ++ texts_of (cells_in rest) ≡ whole
    bytes-more end new ends fits made =
        ap (λ n. take n new ++ texts_of (cells_in rest)) ends ∙ ap (λ l. take (at + length shown) l ++ texts_of (cells_in rest)) made
        ∙ put-as-it-is at had shown (texts_of (cells_in rest)) whole fits behind

    -- if a text does not fit, the texts do not all fit
    pub too-long : at ≤ length had → length had < at + length shown → length had < length whole
    too-long low short =
        let all = sym (ap length behind) ∙ length-append (take at had) (shown ++ texts_of (cells_in rest)) in
        let first = length-take-le at had low in
        let second = length-append shown (texts_of (cells_in rest)) in
        omega (arith, all, first, second, short)

-- after the last text the buffers are complete
pub texts-there : (cells : List Cell) (k at : ℕ) (offsets bytes : List ℕ) (valid : List Bool) → k < length offsets → length offsets ≤ k + 1 → at ≤ length bytes → length valid ≤ k
    → take k offsets ++ offsets_of at [] ≡ offsets_of 0 cells → take at bytes ++ [] ≡ texts_of cells → take k valid ++ [] ≡ map has_value cells → AreTextsOf cells (set offsets k at) bytes valid
texts-there cells k at offsets bytes valid inside last low long starts texts flags = record {
  offsets = sym (take_all (k + 1) (set offsets k at) (rw length-set last)) ∙ sym (append-nil (take (k + 1) (set offsets k at))) ∙ put-one k offsets at [] (offsets_of 0 cells) inside starts;
  bytes =
      let all = sym (append-nil (take at bytes)) ∙ texts in
      let n = sym (ap length all) ∙ length-take-le at bytes low in
      ap (λ m. take m bytes) n ∙ all;
  valid = all-put k valid (map has_value cells) long flags;
}

-- the number of texts in a part
module _ (places : List Place) (c from to : ℕ) (lent : Lent) (cells : cells_in lent ≡ part c from to places) where
  pub few-texts : length lent ≤ to - from
  few-texts = (let long = sym (length-map lent (λ (t : Option (List ℕ) × Bool). text_cell t.0)) in let few = part-few places c from to (cells_in lent) cells in omega (arith, long, few))

  pub all-texts : to ≤ length places → length lent ≡ to - from
  all-texts within = sym (length-map lent (λ (t : Option (List ℕ) × Bool). text_cell t.0)) ∙ part-long places c from to (cells_in lent) cells within
