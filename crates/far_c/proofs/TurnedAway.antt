-- A call that cannot read its arguments returns a code that says why.
use Rattle.std.proofs.Common.{◌≡◌, ◌≤◌, ◌<◌, ℕ, inl, inr, refl, arith}
use Rattle.far_c.specs.declared.unread.Unread.{Unread}
use Rattle.far_c.specs.declared.unread.Unread.TheVariants as unread
use Rattle.far_c.specs.Outcomes.{IsTurnedAway}
use Rattle.far_c.specs.TableState.{TableState}
use Rattle.far_c.specs.Unreadable.{IsUnreadable}

pub turned-away : (fault : Unread → Type 0) (why : Unread) (code : ℕ) (old new : TableState) → IsTurnedAway why code old new → fault why → 100 ≤ code → (new ≡ old) × IsUnreadable fault code
turned-away fault unread.BadArgument code old new is f high = (is.1, inr (is.0, f))
turned-away fault unread.NoUtf8 code old new is f high = (is.1, inl (is.0, f))
turned-away fault unread.NoMemory code old new is f high = absurd (let low = is.0 in omega (arith, low, high))

-- a refusal with another code means that the arguments were read, and memory ran out afterwards
pub read-then : (P : Type 0) (why : Unread) (code : ℕ) (old new : TableState) → IsTurnedAway why code old new → (why ≡ unread.NoMemory → P) → code < 100 → P
read-then P unread.BadArgument code old new is memory low = absurd (let high = is.0 in omega (arith, high, low))
read-then P unread.NoUtf8 code old new is memory low = absurd (let high = is.0 in omega (arith, high, low))
read-then P unread.NoMemory code old new is memory low = memory refl
