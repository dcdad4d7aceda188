use Rattle.std.proofs.Common.{◌<◌, List, ℕ, get_or, subst, ap, ◌∙◌}
use Rattle.std.specs.Map.{keys_of}
use Rattle.far_scopes.specs.Recency.{after_use, after_uses}
use Rattle.far_scopes.proofs.RecencyKeys.{after_use_keys}
use Rattle.far_scopes.proofs.RecencyLog.{known-promote}
use Rattle.far_scopes.proofs.recency.Recency.promote.Goals as goal

pub invariant_of-self : goal.invariant_of-self
invariant_of-self c =
    let r = c.self.inside in
    let cache = c.settle.new.cache in
    let now = ap (λ l. keys_of l.entries) c.promote.ensures.entries ∙ after_use_keys c.args.o cache.entries in (
      ap (λ l. l.cap) c.promote.ensures.entries ∙ c.settle.ensures.cap ∙ c.self.invariant.0,
      known-promote r.log.last.items c.settle.new.self.last.items (keys_of r.cache.entries) (keys_of cache.entries) r.log.uses.items c.self.invariant.1 c.settle.ensures.order (λ p above. subst (λ (l : List ℕ). 0 < get_or l p 0) c.settle.ensures.last above) (keys_of c.promote.new.self.entries) c.args.o now,
    )

pub returns : goal.returns
returns c =
    ap (after_uses (keys_of c.promote.new.self.entries)) c.settle.ensures.empty
    ∙ ap (λ l. keys_of l.entries) c.promote.ensures.entries
    ∙ after_use_keys c.args.o c.settle.new.cache.entries
    ∙ ap (λ l. after_use l c.args.o) (c.settle.ensures.order ∙ c.self.view_is)
