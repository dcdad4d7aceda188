-- A stripe under its read lock.
use Rattle.std.specs.Prelude.{ℕ}
use Rattle.std.specs.Sync.RwLock.{read_guard_value}
use Rattle.far_shared.specs.declared.asking.StripeGuard.{StripeGuard}
use Rattle.far_shared.specs.declared.asking.StripeGuard.TheVariants as guard
use Rattle.far_shared.specs.Stripes.{StripeState}

module _ {N B S K : Type 0} where
  -- the number of the guard's stripe
  abbrev pub number_of : StripeGuard N B S K → ℕ
  number_of (guard.Zero stripe) = 0
  number_of (guard.One stripe) = 1
  number_of (guard.Two stripe) = 2
  number_of (guard.Three stripe) = 3

  -- the state of the guard's stripe, as long as the guard is held
  abbrev pub stripe_under : StripeGuard N B S K → StripeState K
  stripe_under (guard.Zero stripe) = read_guard_value stripe
  stripe_under (guard.One stripe) = read_guard_value stripe
  stripe_under (guard.Two stripe) = read_guard_value stripe
  stripe_under (guard.Three stripe) = read_guard_value stripe
