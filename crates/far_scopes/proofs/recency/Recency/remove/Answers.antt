use Rattle.std.proofs.Common.{◌<◌, List, ℕ, get_or, subst, ap, ◌∙◌}
use Rattle.std.specs.Map.{keys_of}
use Rattle.far_scopes.specs.Recency.{without, after_uses}
use Rattle.far_scopes.proofs.RecencyKeys.{without_keys}
use Rattle.far_scopes.proofs.RecencyLog.{known-remove}
use Rattle.far_scopes.proofs.recency.Recency.remove.Goals as goal

pub invariant_of-self : goal.invariant_of-self
invariant_of-self c =
    let r = c.self.inside in
    let cache = c.settle.new.cache in
    let now = ap (λ l. keys_of l.entries) c.pop.ensures.entries ∙ without_keys c.args.o cache.entries in (
      ap (λ l. l.cap) c.pop.ensures.entries ∙ c.settle.ensures.cap ∙ c.self.invariant.0,
      known-remove r.log.last.items c.settle.new.self.last.items (keys_of r.cache.entries) (keys_of cache.entries) r.log.uses.items c.self.invariant.1 c.settle.ensures.order (λ p above. subst (λ (l : List ℕ). 0 < get_or l p 0) c.settle.ensures.last above) (keys_of c.pop.new.self.entries) c.dismiss.new.self.last.items c.args.o now c.dismiss.ensures.last,
    )

pub returns : goal.returns
returns c =
    ap (after_uses (keys_of c.pop.new.self.entries)) c.dismiss.ensures.empty
    ∙ ap (λ l. keys_of l.entries) c.pop.ensures.entries
    ∙ without_keys c.args.o c.settle.new.cache.entries
    ∙ ap (λ l. without l c.args.o) (c.settle.ensures.order ∙ c.self.view_is)
