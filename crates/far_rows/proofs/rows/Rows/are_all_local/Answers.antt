use Rattle.std.proofs.Common.{◌≡◌, ℕ, None, subst}
use Rattle.far_types.specs.FirstOf.{first_of}
use Rattle.far_rows.specs.Rows.{Rows}
use Rattle.far_rows.specs.Refusing.{absents}
use Rattle.far_rows.proofs.RefusingLocality.{all-here}
use Rattle.far_rows.proofs.rows.Rows.are_all_local.Goals as goal

pub returns-then-numbers : goal.returns-then-numbers
returns-then-numbers g c = λ is.
    subst (λ (r : Rows g.row.S-Ticket.Denot). (n : ℕ) → first_of (absents r n) ≡ None) c.self.view_is
    (λ n. all-here g.S.FarTickets.content _ c.self.invariant _ c.number-numbers.ensures.tracked _ c.number-texts.ensures.tracked (c.are_all_local-numbers.ensures.0 c.if-numbers.true) (c.are_all_local-texts.ensures.0 is) n)
