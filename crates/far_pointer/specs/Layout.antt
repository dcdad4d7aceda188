-- The layout of a pointer word: the number that encodes each pointer.
use Rattle.std.specs.Prelude.{ℕ, ◌+◌, ◌*◌, ◌^◌, ◌<◌, Bool, false, true, if◌then◌else◌, ◌||◌, IsTrue}
use Rattle.far_pointer.specs.declared.pointer.At.{At}
use Rattle.far_pointer.specs.declared.pointer.Pointer.{Pointer}
use Rattle.far_pointer.specs.declared.pointer.Pointer.TheVariants.{Local, Remote}

-- the value of bit k if the fact is true, else 0
abbrev pub bit_if : Bool → ℕ → ℕ
bit_if fact k = if fact then 2 ^ k else 0

-- the number of the word: bits 63 to 60 are present, dirty, hot and far. The segment begins at bit 32, and the offset at bit 0
abbrev pub bits_of : Pointer → ℕ
bits_of (Local at dirty hot far) =
    2 ^ 63 + bit_if dirty 62 + bit_if hot 61 + bit_if far 60 + at.segment * 2 ^ 32 + at.offset
bits_of Remote = 2 ^ 60

-- a word can encode this pointer: the parts fit their bits, and an object that is not dirty has a far copy
abbrev pub HasWord : Pointer → Type 0
HasWord (Local at dirty hot far) = (at.segment < 2 ^ 16)
    × (at.offset < 2 ^ 32)
    × IsTrue (dirty || far)
HasWord Remote = Unit {0}

-- whether the object is local and dirty
abbrev pub is_dirty : Pointer → Bool
is_dirty (Local at dirty hot far) = dirty
is_dirty Remote = false

-- whether the object is local and hot
abbrev pub is_hot : Pointer → Bool
is_hot (Local at dirty hot far) = hot
is_hot Remote = false

-- the same pointer, but dirty if it is local
abbrev pub with_dirty : Pointer → Pointer
with_dirty (Local at dirty hot far) = Local at true hot far
with_dirty Remote = Remote

-- the same pointer, but with this hot bit if it is local
abbrev pub with_hot : Pointer → Bool → Pointer
with_hot (Local at dirty hot far) is_now = Local at dirty is_now far
with_hot Remote is_now = Remote

-- the same pointer, but with this location if it is local
abbrev pub with_at : Pointer → At → Pointer
with_at (Local at dirty hot far) to = Local to dirty hot far
with_at Remote to = Remote
