use Rattle.std.proofs.Common.{◌≡◌, length, sym, ap, subst, ◌∙◌, arith}
use Rattle.std.proofs.lemmas.Bool.{eqb-true, eq-eqb}
use Rattle.far_codec.specs.Spelling.{IsSpelled}
use Rattle.far_scopes.specs.Movement.{AreTracked}
use Rattle.far_scopes.proofs.RecencyAllLocal.{all-local}
use Rattle.far_scopes.proofs.objects.Objects.are_all_local.Goals as goal

pub returns : goal.returns
returns g c =
    let tracked = subst (AreTracked g.T.Elem.meaning g.S.FarTickets.content (IsSpelled g.T.Elem.in_range g.T.Elem.has_spelling g.T.Elem.spelling)) c.self.view_is c.self.invariant in
    let m = c.args.self.now in
    let both = all-local g.T.Elem.meaning g.S.FarTickets.content (IsSpelled g.T.Elem.in_range g.T.Elem.has_spelling g.T.Elem.spelling) m tracked in
    let order : c.len-local.result ≡ length m.order = c.len-local.ensures ∙ ap (λ k. length k.order) c.self.view_is in
    let records : c.len-all.result ≡ length m.records = omega (arith, c.len-all.ensures, ap (λ k. length k.records) c.self.view_is, c.self.inside.records.ok.0) in
    ((λ is. both.0 (sym order ∙ eqb-true c.len-local.result c.len-all.result is ∙ records)), (λ local. eq-eqb c.len-local.result c.len-all.result (order ∙ both.1 local ∙ sym records)))
