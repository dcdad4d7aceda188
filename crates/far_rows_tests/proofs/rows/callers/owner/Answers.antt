use Rattle.std.proofs.Common.{◌≡◌, ℕ, ℤ, Option, Some, ap, subst, sym, ◌∙◌}
use Rattle.std.specs.Prelude.{option_map, slice_get}
use Rattle.std.proofs.lemmas.Option.{slice_get-map}
use Rattle.far_types.specs.declared.name.Name.{Name}
use Rattle.far_scopes.specs.declared.object_record.ObjectRecord.{ObjectRecord}
use Rattle.far_scopes.specs.Movement.{Movement}
use Rattle.far_rows.specs.ColumnIndexes.{kind_of}
use Rattle.far_rows.specs.Naming.{names_of}
use Rattle.far_rows_tests.proofs.MovingObjects.{number-owner, text-owner}
use Rattle.far_rows_tests.proofs.rows.callers.owner.Goals.{in-Int, in-Text}
use Rattle.far_rows_tests.proofs.rows.callers.owner.Goals as goal

pub returns : goal.returns
returns g c =
    let content = g.S.FarTickets.content in
    let rows = c.args.rows.now in
    elim c.match-kind.branch [
      | in-Int w ↦
          let named = slice_get-map (λ (e : ObjectRecord g.row.S-Ticket.Denot). e.name) w.number_objects.result.now.records c.args.o ∙ w.name-name.ensures in
          let own = subst (λ (m : Movement (Option ℤ) g.row.S-Ticket.Denot). slice_get (names_of m) c.args.o ≡ Some w.name-name.result) w.number_objects.ensures.objects named in
          c.kind.ensures ∙ ap (λ (name : Name). option_map kind_of (slice_get rows.column_indexes name.column)) w.name-is
          ∙ number-owner content rows c.len-len.ensures.rows c.args.o w.name-name.result own ∙ ap Some (sym w.in-Int.is)
      | in-Text w ↦
          let named = slice_get-map (λ (e : ObjectRecord g.row.S-Ticket.Denot). e.name) w.text_objects.result.now.records c.args.o ∙ w.name-name-in-Text.ensures in
          let own = subst (λ (m : Movement ℕ g.row.S-Ticket.Denot). slice_get (names_of m) c.args.o ≡ Some w.name-name-in-Text.result) w.text_objects.ensures.objects named in
          c.kind.ensures ∙ ap (λ (name : Name). option_map kind_of (slice_get rows.column_indexes name.column)) w.name-is
          ∙ text-owner content rows c.len-len.ensures.rows c.args.o w.name-name-in-Text.result own ∙ ap Some (sym w.in-Text.is)
    ]
