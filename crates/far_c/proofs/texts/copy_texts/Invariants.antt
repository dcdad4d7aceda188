use Rattle.std.proofs.Common.{◌≡◌, ◌+◌, ◌≤◌, ◌++◌, map, take, length}
use Rattle.far_c.specs.Parts.{cells_in, has_value, offsets_of, texts_of}
use Rattle.far_c.proofs.texts.copy_texts.Given as goal

abbrev pub invariant-loop-cell : goal.invariant-loop-cell
invariant-loop-cell l = record {
  left : l.index + length l.texts ≡ length l.initial.texts;
  few : length l.initial.texts ≤ length l.valid;
  alike : length l.alive ≡ length l.valid;
  more : length l.offsets ≡ length l.valid + 1;
  inside : l.at ≤ length l.bytes;
  offsets : take l.index l.offsets ++ offsets_of l.at (cells_in l.texts) ≡ offsets_of 0 (cells_in l.initial.texts);
  valid : take l.index l.valid ++ map has_value (cells_in l.texts) ≡ map has_value (cells_in l.initial.texts);
  alive : take l.index l.alive ++ map (λ text. text.1) l.texts ≡ map (λ text. text.1) l.initial.texts;
  bytes : take l.at l.bytes ++ texts_of (cells_in l.texts) ≡ texts_of (cells_in l.initial.texts);
}

abbrev pub decreases-loop-cell : goal.decreases-loop-cell
decreases-loop-cell l = length l.texts
