use Rattle.std.proofs.Common.{length, ap, ◌∙◌, subst}
use Rattle.far_sessions.specs.Histories.{Planned}
use Rattle.far_shared.specs.Opening.{IsEmpty}
use Rattle.far_shared.proofs.OpenLaws.{of-ok}
use Rattle.far_shared.proofs.plan.Plan.make.Goals as goal

pub invariant_of-result : goal.invariant_of-result
invariant_of-result g c =
    let is_of = g.S.FarTickets.is_of in
    let frames = c.open_frames.result in
    let same = c.in-Ok.ensures.one in
    let is = c.open_frames.ensures in (
      ap (λ (p : Planned). p.sessions) (c.self.view_is ∙ c.requires),
      c.len-columns.ensures.len ∙ ap (λ (p : Planned). length p.schema) (c.self.view_is ∙ c.requires),
      subst (λ p. IsEmpty is_of p 0 c.in-Ok.both.one.zero) c.requires (of-ok (λ f. IsEmpty is_of c.args.self 0 f.zero) frames _ same is.zero),
      subst (λ p. IsEmpty is_of p 1 c.in-Ok.both.one.one) c.requires (of-ok (λ f. IsEmpty is_of c.args.self 1 f.one) frames _ same is.one),
      subst (λ p. IsEmpty is_of p 2 c.in-Ok.both.one.two) c.requires (of-ok (λ f. IsEmpty is_of c.args.self 2 f.two) frames _ same is.two),
      subst (λ p. IsEmpty is_of p 3 c.in-Ok.both.one.three) c.requires (of-ok (λ f. IsEmpty is_of c.args.self 3 f.three) frames _ same is.three),
    )
