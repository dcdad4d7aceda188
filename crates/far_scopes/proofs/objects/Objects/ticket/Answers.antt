use Rattle.std.proofs.Common.{◌<◌, length, sym, ap, subst, ◌∙◌}
use Rattle.std.specs.Prelude.{is_some, false}
use Rattle.std.specs.Option.{option_map_or, option_and_then}
use Rattle.far_scopes.specs.Movement.{has_copy, word_of}
use Rattle.far_scopes.specs.declared.object_record.ObjectRecord.{ObjectRecord}
use Rattle.far_scopes.proofs.MemoryWordPlaces.{word-read}
use Rattle.far_scopes.proofs.MovementFrames.{copy-has_ticket}
use Rattle.far_scopes.proofs.objects.Objects.ticket.Goals as goal

pub returns-clause-copy : goal.returns-clause-copy
returns-clause-copy g c =
    let within = subst (λ m. c.args.o < length m.records) (sym c.self.view_is) c.requires in
    let was = word-read c.self.inside.records.items c.args.o c.index.result.now within c.index.ensures in
    let stated = copy-has_ticket g.T.Elem.meaning g.S.FarTickets.content _ _ c.self.invariant c.args.o within in
    c.as_ref.ensures.variant ∙ sym (ap (λ e. is_some (option_and_then (λ (x : ObjectRecord g.row.S-Ticket.Denot). x.ticket) e)) was) ∙ stated ∙ ap (λ m. option_map_or has_copy (word_of m c.args.o) false) c.self.view_is
