use Rattle.std.proofs.Common.{length, ap, sym, ◌∙◌}
use Rattle.far_scopes.specs.Movement.{list_of}
use Rattle.far_columns.specs.Vector.{elements}
use Rattle.far_columns.proofs.PiecesLaws.{length-pieces}
use Rattle.far_columns.proofs.pieces.Pieces.len.Goals as goal

pub returns : goal.returns
returns g c =
    c.groups_between.ensures
    ∙ sym (length-pieces (elements (list_of g.T.Elem.meaning g.S.FarTickets.content c.self.inside.objects.now) c.self.inside.vector.now) c.self.inside.vector.now.size c.self.inside.from c.self.inside.to)
    ∙ ap length c.self.view_is
