use Rattle.std.proofs.Common.{sym, subst}
use Rattle.far_scopes.specs.Movement.{AreHere}
use Rattle.far_rows.specs.Rows.{Rows}
use Rattle.far_rows.proofs.RenewalLaws.{both-renew}
use Rattle.far_rows.proofs.rows.Rows.renewal.Goals as goal

pub renewal-requires-2-clause-here : goal.renewal-requires-2-clause-here
renewal-requires-2-clause-here g c κs within = subst (λ (r : Rows g.row.S-Ticket.Denot). AreHere g.S.FarTickets.is_of (g.S.FarTickets.store_id c.args.store.now) r.text_objects) (sym c.self.view_is) c.requires.here.texts

pub returns-clause-renews : goal.returns-clause-renews
returns-clause-renews g c = both-renew g.S.FarTickets.content g.N.FarTickets.content _ _ _ c.args.self.now c.self.view_is c.in_ok-numbers.ensures.renews c.in_ok-texts.ensures.renews
