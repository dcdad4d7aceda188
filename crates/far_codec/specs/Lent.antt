-- The values of a valid far form, of either kind.
use Rattle.std.specs.Prelude.{ℕ, ◌==◌, cond, ◌⊎◌, List, slice_index}
use Rattle.far_codec.specs.Reading.{ints_meaning, IsIntsForm}
use Rattle.far_codec.specs.TextForm.{texts_meaning, IsTextsForm}
use Rattle.far_codec.specs.declared.lent.LentValues.{LentValues}
use Rattle.far_codec.specs.declared.lent.LentValues.TheVariants.{Ints, Texts}

-- the bytes are a far form, of either kind
abbrev pub IsForm : List ℕ → Type 0
IsForm bytes = IsIntsForm bytes ⊎ IsTextsForm bytes

-- the values that a far form encodes: its second byte is their kind
abbrev pub lent_in : List ℕ → LentValues
lent_in bytes = cond (slice_index bytes 1 == 1) (Texts (texts_meaning bytes))
    (Ints (ints_meaning bytes))
