use Rattle.std.proofs.Common.{◌≡◌, None, sym, subst}
use Rattle.far_scopes.specs.Refusing.{write_refusal}
use Rattle.far_columns.proofs.VectorRanges.{list-held}
use Rattle.far_columns.proofs.vector.FarVector.writable_at.Goals as goal

pub returns-clause-list : goal.returns-clause-list
returns-clause-list g c =
    let free = subst (λ o. write_refusal c.args.objects.now o ≡ None) (sym c.position-at.ensures.object) c.requires.free in
    list-held g.T.Elem.meaning g.S.FarTickets.content c.args.objects.now c.position-at.result.object c.lend.result (λ list. list.now) free c.lend.ensures.refused c.lend.ensures.lent c.args.self.now.size c.position-at.ensures.list
