-- The cells of the four stripes.
use Rattle.std.specs.Prelude.{ℕ, zero, suc, []}
use Rattle.atomic_table.specs.Seated.{TableId}

-- the one of four things with this number
abbrev pub four : {A : Type 0} → A → A → A → A → ℕ → A
four a b c d zero = a
four a b c d (suc zero) = b
four a b c d (suc (suc zero)) = c
four a b c d (suc (suc (suc k))) = d

-- an arbitrary cell, where none is named
abbrev pub no_cell : TableId
no_cell = record
    { words = 0; slots = 0; views_name = 0; atom = 0; block = 0; offset = 0; slot_names = [] }
