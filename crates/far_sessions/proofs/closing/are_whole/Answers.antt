use Rattle.std.proofs.Common.{ℕ, ◌+◌, ◌<◌, rules, arith, sym, subst}
use mathlib.Core.Logic.{dite}
use native.Mathlib.Decide.{ℕ_discrete}
use Rattle.far_sessions.specs.Closing.{Has}
use Rattle.far_sessions.proofs.closing.are_whole.Goals as goal

one_more : (P : ℕ → Type 0) (n : ℕ) → ((k : ℕ) → k < n → P k) → P n → (k : ℕ) → k < n + 1 → P k
one_more P n all here k lt = dite (ℕ_discrete k n) (λ e. subst P (sym e) here) (λ ne. all k (omega (arith, ne)))

pub loop-number-preserved : goal.loop-number-preserved
loop-number-preserved g c =
    let there : Has c.loop-number.number c.args.sessions.now = c.has.ensures.0 (search rules) in
    one_more (λ k. Has k c.args.sessions.now) c.loop-number.number c.loop-number.invariant there
