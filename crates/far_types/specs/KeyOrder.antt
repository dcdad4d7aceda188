-- The order of keys is total, and keys that compare as equal are the same key.
use Rattle.std.proofs.Common.{◌≡◌, refl, ap, None, Some}
use Rattle.std.specs.Ordering.{ordering_reverse}
use Rattle.std.specs.declared.cmp.Ordering.TheVariants.{Less, Equal}
use Rattle.std.specs.Cmp.{IsTotalOrder, int_cmp_total}
use Rattle.std.specs.Cmp.Lexicographic.{nat_list_cmp_total, options_total}
use Rattle.std.proofs.lemmas.Map.Lookups.{CmpEqualImpliesEq, exact_bytes, exact_signed}
use Rattle.far_types.specs.declared.key.Key.{Key}
use Rattle.far_types.specs.declared.key.Key.TheVariants.{Int, Text}
use Rattle.far_types.specs.Keys.{key_cmp, line_cmp}

key_antisymm : (x y : Key) → key_cmp x y ≡ ordering_reverse (key_cmp y x)
key_antisymm (Int a) (Int b) = int_cmp_total.antisymm a b
key_antisymm (Int a) (Text t) = refl
key_antisymm (Text s) (Int b) = refl
key_antisymm (Text s) (Text t) = nat_list_cmp_total.antisymm s t

key_trans : (x y z : Key) → key_cmp x y ≡ Less → key_cmp y z ≡ Less → key_cmp x z ≡ Less
key_trans (Int a) (Int b) (Int c) h k = int_cmp_total.trans a b c h k
key_trans (Int a) (Int b) (Text u) h k = refl
key_trans (Int a) (Text t) (Int c) h k = cc
key_trans (Int a) (Text t) (Text u) h k = refl
key_trans (Text s) (Int b) z h k = cc
key_trans (Text s) (Text t) (Int c) h k = cc
key_trans (Text s) (Text t) (Text u) h k = nat_list_cmp_total.trans s t u h k

key_congr : (x y z : Key) → key_cmp x y ≡ Equal → key_cmp x z ≡ key_cmp y z
key_congr (Int a) (Int b) (Int c) h = int_cmp_total.congr a b c h
key_congr (Int a) (Int b) (Text u) h = refl
key_congr (Int a) (Text t) z h = cc
key_congr (Text s) (Int b) z h = cc
key_congr (Text s) (Text t) (Int c) h = refl
key_congr (Text s) (Text t) (Text u) h = nat_list_cmp_total.congr s t u h

-- the order of keys is total
pub key_total : IsTotalOrder key_cmp
key_total = record { antisymm = key_antisymm; trans = key_trans; congr = key_congr }

-- keys that compare as equal are the same key
pub exact_key : CmpEqualImpliesEq key_cmp
exact_key (Int a) (Int b) h = ap Int (exact_signed a b h)
exact_key (Int a) (Text t) h = cc
exact_key (Text s) (Int b) h = cc
exact_key (Text s) (Text t) h = ap Text (exact_bytes s t h)

-- the order of lines is total
pub line_total : IsTotalOrder line_cmp
line_total = options_total key_total

-- keys of lines that compare as equal are the same key
pub exact_line : CmpEqualImpliesEq line_cmp
exact_line None None h = refl
exact_line None (Some y) h = cc
exact_line (Some x) None h = cc
exact_line (Some x) (Some y) h = ap Some (exact_key x y h)
