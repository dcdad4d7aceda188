use Rattle.std.proofs.Common.{◌≡◌, ◌*◌, ◌/◌, ◌<◌, length, sym, ap, subst, ◌∙◌}
use Rattle.std.specs.Prelude.{IsSomeAnd}
use Rattle.std.proofs.lemmas.Nat.{div_below}
use Rattle.far_scopes.specs.Movement.{list_of}
use Rattle.far_columns.specs.Vector.{Vector, IsVector}
use Rattle.far_columns.proofs.MovementInUse.{in-use}
use Rattle.far_columns.proofs.vector.FarVector.position_in.Goals as goal

pub returns-clause-made : goal.returns-clause-made
returns-clause-made g c =
    let is = subst (λ (v : Vector g.row.T.Denot). IsVector (list_of g.T.Elem.meaning g.S.FarTickets.content c.args.objects.now) v) (sym c.self.view_is) c.requires.is in
    let within = subst (λ (v : Vector g.row.T.Denot). c.args.i < length v.objects * v.size) (sym c.self.view_is) c.requires.within in
    let group : c.args.group ≡ c.args.i / c.self.inside.size = c.requires.group ∙ ap (λ (v : Vector g.row.T.Denot). c.args.i / v.size) (sym c.self.view_is) in
    let below = subst (λ k. k < length c.self.inside.objects.items) (sym group) (div_below c.args.i c.self.inside.size (length c.self.inside.objects.items) c.self.invariant.shaped.some within) in
    let has = is.whole c.args.group c.index.result.now below in
    in-use g.T.Elem.meaning g.S.FarTickets.content _ c.args.objects.now c.number.ensures.tracked c.index.result.now (λ list. length list ≡ c.self.inside.size) (subst (λ o. IsSomeAnd (list_of g.T.Elem.meaning g.S.FarTickets.content c.args.objects.now o) (λ list. length list ≡ c.self.inside.size)) (sym c.index.ensures) has)
