-- The holdings of keys once a mutable borrow of one holding ends.
-- Internal: no public contract cites it.
use Rattle.std.specs.Prelude.{◌≡◌, Option, IsSome}
use Rattle.std.specs.Borrow.{LendsSo, MutBor, Fml}
use Rattle.std.specs.FinMap as fin
use Rattle.far_types.specs.declared.key.Key.{Key}
use Rattle.far_extrema.specs.Holders.{Holding, Holders}
use Rattle.far_extrema.specs.contracts.holder.Holder as holder
use Rattle.far_extrema.specs.contracts.holders.Holders as holders

-- the holding of a key ends as the last value that was written through the borrow; without a holding, nothing changes
abbrev pub lends_holder : MutBor Holders → Option Key → Option (MutBor Holding) → Fml
lends_holder s key r =
    LendsSo holders.the_row holder.the_row s r
    (λ n w. IsSome (fin.get s.now key) → n ≡ fin.insert s.now key w) (λ n. n ≡ s.now)
