-- The holdings of numbers once a mutable borrow of one holding ends.
-- Internal: no public contract cites it.
use Rattle.std.specs.Prelude.{◌≡◌, ℤ, Option, Some, IsSome}
use Rattle.std.specs.Borrow.{LendsSo, MutBor, Fml}
use Rattle.far_extrema.specs.Holders.{Holding}
use Rattle.far_extrema.specs.Numbers.{Numbers, number_at, IsSetAt}
use Rattle.far_extrema.specs.contracts.holder.Holder as holder
use Rattle.far_extrema.specs.contracts.numbers.Numbers as numbers

-- the holding of a number ends as the last value that was written through the borrow; without a holding, nothing changes
abbrev pub lends_number : MutBor Numbers → ℤ → Option (MutBor Holding) → Fml
lends_number s number r =
    LendsSo numbers.the_row holder.the_row s r
    (λ n w. IsSome (number_at s.now number) → IsSetAt s.now number (Some w) n)
    (λ n. n ≡ s.now)
