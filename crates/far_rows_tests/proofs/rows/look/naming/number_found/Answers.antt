use Rattle.std.proofs.Common.{◌∙◌}
use Rattle.std.proofs.lemmas.Option.{slice_get-map}
use Rattle.far_rows.specs.declared.object.Object.TheVariants as object
use Rattle.far_scopes.specs.declared.object_record.ObjectRecord.{ObjectRecord}
use Rattle.far_rows_tests.proofs.MovingObjects.{answered}
use Rattle.far_rows_tests.proofs.rows.look.naming.number_found.Goals as goal

pub returns : goal.returns
returns g c =
    let named = slice_get-map (λ (e : ObjectRecord g.row.S-Ticket.Denot). e.name) c.number_objects.result.now.records c.args.o ∙ c.name-name.ensures in
    answered c.args.rows.now _ _ (object.Number c.args.o) (c.number_objects.ensures.owned c.args.o c.name-name.result named) c.object.result c.object.ensures.object c.object.ensures.refused
