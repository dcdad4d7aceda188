use Rattle.std.proofs.Common.{◌≡◌, ◌-◌, ◌*◌, ◌/◌, ◌<◌, false, length, sym, ap, subst, ◌∙◌, arith}
use Rattle.std.proofs.lemmas.Bool.{eqb-false}
use Rattle.far_columns.specs.Vector.{Vector}
use Rattle.far_columns.specs.Effects.{is_full}
use Rattle.far_columns.proofs.LastGroup.{next-group}
use Rattle.far_columns.proofs.vector.FarVector.next_position.Goals as goal

pub position_in-requires-clause-group : goal.position_in-requires-clause-group
position_in-requires-clause-group g c κs within =
    let groups = length c.self.inside.objects.items in
    let long : c.len.result ≡ groups = c.len.ensures ∙ c.self.inside.objects.ok.0 in
    let some = subst (λ (v : Vector g.row.T.Denot). is_full v ≡ false) (sym c.self.view_is) c.requires.begun in
    let ne = eqb-false c.self.inside.len (groups * c.self.inside.size) some in
    let space : c.self.inside.len < groups * c.self.inside.size = omega (arith, ne, c.self.invariant.shaped.enough) in
    ap (λ n. n - 1) long
    ∙ sym (next-group groups c.self.inside.size c.self.inside.len space c.self.invariant.shaped.needed)
    ∙ ap (λ (v : Vector g.row.T.Denot). c.self.inside.len / v.size) c.self.view_is
