-- The order of keys.
use Rattle.std.specs.Prelude.{Option}
use Rattle.std.specs.Ordering.{nat_cmp, int_cmp}
use Rattle.std.specs.Option.{option_cmp}
use Rattle.std.specs.Cmp.Lexicographic.{slice_cmp}
use Rattle.std.specs.declared.cmp.Ordering.{Ordering}
use Rattle.std.specs.declared.cmp.Ordering.TheVariants.{Less, Greater}
use Rattle.far_types.specs.declared.key.Key.{Key}
use Rattle.far_types.specs.declared.key.Key.TheVariants.{Int, Text}

-- the order of keys: numbers by value, then texts by bytes
abbrev pub key_cmp : Key → Key → Ordering
key_cmp (Int a) (Int b) = int_cmp a b
key_cmp (Int a) (Text t) = Less
key_cmp (Text s) (Int b) = Greater
key_cmp (Text s) (Text t) = slice_cmp nat_cmp s t

-- the order of lines: the only key of an aggregate without a key column is "none", which sorts first
abbrev pub line_cmp : Option Key → Option Key → Ordering
line_cmp = option_cmp key_cmp
