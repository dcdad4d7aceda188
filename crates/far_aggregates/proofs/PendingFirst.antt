-- The first flag that is set.
use Rattle.std.proofs.Common.{◌≡◌, ℕ, ◌<◌, Bool, true, false, List, length, get_or, None, Some, arith}
use Rattle.std.specs.List.{position, position_or_len}
use Rattle.std.proofs.lemmas.List.Sums.{position_or_len_is}

-- a flag that is set, after flags that are not set
pub first-set : (flags : List Bool) (i : ℕ) → i < length flags → ((k : ℕ) → k < i → get_or flags k false ≡ false) → get_or flags i false ≡ true → position (λ flag. flag) flags ≡ Some i
first-set flags i short before here =
    let at : position_or_len (λ (flag : Bool). flag) flags ≡ i = position_or_len_is (λ flag. flag) flags i false (omega (arith, short)) before (λ within. here) in
    grind (arith, at, short)

-- no flag is set
pub none-set : (flags : List Bool) → ((k : ℕ) → k < length flags → get_or flags k false ≡ false) → position (λ flag. flag) flags ≡ None
none-set flags before =
    let at : position_or_len (λ (flag : Bool). flag) flags ≡ length flags = position_or_len_is (λ flag. flag) flags (length flags) false (omega arith) before (λ within. absurd (omega (arith, within))) in
    grind (arith, at)
