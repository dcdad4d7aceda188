use Rattle.std.proofs.Common.{◌≡◌, [], sym, subst}
use Rattle.far_shared.specs.Opening.{IsEmpty}
use Rattle.far_shared.proofs.OpenLaws.{of-ok}
use Rattle.far_shared.proofs.opening.Made.open.Goals as goal

pub share-requires-clause-zero : goal.share-requires-clause-zero
share-requires-clause-zero g c κs within = (
  subst (λ f. IsEmpty g.S.FarTickets.is_of g.N.PlanTag.plan 0 f.zero) (sym c.in-Ok.ensures.one) c.self.invariant.2,
  (of-ok (λ o. (o.keepers.zero ≡ []) × (o.keepers.one ≡ []) × (o.keepers.two ≡ []) × (o.keepers.three ≡ [])) c.open.result c.in-Ok.opened c.in-Ok.ensures.other c.open.ensures.histories).0,
)

pub share-requires-clause-one : goal.share-requires-clause-one
share-requires-clause-one g c κs within = (
  subst (λ f. IsEmpty g.S.FarTickets.is_of g.N.PlanTag.plan 1 f.one) (sym c.in-Ok.ensures.one) c.self.invariant.3,
  (of-ok (λ o. (o.keepers.zero ≡ []) × (o.keepers.one ≡ []) × (o.keepers.two ≡ []) × (o.keepers.three ≡ [])) c.open.result c.in-Ok.opened c.in-Ok.ensures.other c.open.ensures.histories).1,
)

pub share-requires-clause-two : goal.share-requires-clause-two
share-requires-clause-two g c κs within = (
  subst (λ f. IsEmpty g.S.FarTickets.is_of g.N.PlanTag.plan 2 f.two) (sym c.in-Ok.ensures.one) c.self.invariant.4,
  (of-ok (λ o. (o.keepers.zero ≡ []) × (o.keepers.one ≡ []) × (o.keepers.two ≡ []) × (o.keepers.three ≡ [])) c.open.result c.in-Ok.opened c.in-Ok.ensures.other c.open.ensures.histories).2,
)

pub share-requires-clause-three : goal.share-requires-clause-three
share-requires-clause-three g c κs within = (
  subst (λ f. IsEmpty g.S.FarTickets.is_of g.N.PlanTag.plan 3 f.three) (sym c.in-Ok.ensures.one) c.self.invariant.5,
  (of-ok (λ o. (o.keepers.zero ≡ []) × (o.keepers.one ≡ []) × (o.keepers.two ≡ []) × (o.keepers.three ≡ [])) c.open.result c.in-Ok.opened c.in-Ok.ensures.other c.open.ensures.histories).3,
)
