-- The first bytes of a text as a number, which distinguishes most texts.
-- Internal: no public contract cites it.
use Rattle.std.specs.Prelude.{ℕ, zero, suc, ◌+◌, ◌*◌, ◌^◌, ◌<◌, List, [], ◌∷◌, slice_index}

-- the first so many bytes as a big-endian number; a missing byte is 0
abbrev pub first_bytes : ℕ → List ℕ → ℕ
first_bytes zero bytes = 0
first_bytes (suc more) [] = 0
first_bytes (suc more) (byte ∷ bytes) = byte * 256 ^ more + first_bytes more bytes

-- the first eight bytes as a big-endian number
abbrev pub prefix_of : List ℕ → ℕ
prefix_of bytes = first_bytes 8 bytes

-- each number of the list is a byte
abbrev pub AreBytes : List ℕ → Type 0
AreBytes bytes = (i : ℕ) → slice_index bytes i < 256
