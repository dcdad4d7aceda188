-- The meaning of a number as a pointer word.
use Rattle.std.specs.Prelude.{◌≡◌, ℕ, ◌/◌, ◌%◌, ◌^◌, Bool, if◌then◌else◌, ◌==◌}
use Rattle.std.specs.Int.{bit_at}
use Rattle.std.proofs.Common.{ap}
use Rattle.far_pointer.specs.declared.pointer.At.{At}
use Rattle.far_pointer.specs.declared.pointer.Pointer.{Pointer}
use Rattle.far_pointer.specs.declared.pointer.Pointer.TheVariants.{Local, Remote}
use Rattle.far_pointer.specs.declared.word.Word.TheInside.{Inside}
use Rattle.far_pointer.specs.Layout.{bits_of, HasWord}

-- whether bit k is set
abbrev pub has_bit : ℕ → ℕ → Bool
has_bit n k = bit_at n k == 1

-- the local pointer that the bits of a word encode
abbrev pub local_of : ℕ → Pointer
local_of n =
    let at : At = record { segment = n / 2 ^ 32 % 2 ^ 16; offset = n % 2 ^ 32 }
    in Local at (has_bit n 62) (has_bit n 61) (has_bit n 60)

-- the pointer that the word with these bits encodes
abbrev pub pointer_of : ℕ → Pointer
pointer_of n = if has_bit n 63 then local_of n else Remote

-- the number is a valid word: the pointer that it encodes has a word, which is this number
pub record IsWord (n : ℕ) : Type 0 where
  pub spelled : bits_of (pointer_of n) ≡ n
  pub says : HasWord (pointer_of n)

-- encoding the pointer that a valid word encodes returns that word
pub inside-spelled : (a : Inside) → IsWord a.bits
    → record { bits = bits_of (pointer_of a.bits) } ≡ a
inside-spelled a h = ap (λ (n : ℕ). let i : Inside = record { bits = n } in i) h.spelled
