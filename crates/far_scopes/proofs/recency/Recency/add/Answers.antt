use Rattle.std.proofs.Common.{◌≡◌, ◌<◌, ℕ, List, false, ◌∷◌, get_or, subst, ap, ◌∙◌, arith}
use Rattle.std.specs.Map.{keys_of}
use Rattle.far_scopes.specs.Recency.{has, after_uses}
use Rattle.far_scopes.proofs.RecencyKeys.{added_keys}
use Rattle.far_scopes.proofs.RecencyLog.{known-settled, known-add}
use Rattle.far_scopes.proofs.recency.Recency.add.Goals as goal

pub invariant_of-self : goal.invariant_of-self
invariant_of-self c =
    let r = c.self.inside in (
      c.settle.ensures.cap ∙ c.self.invariant.0,
      known-settled r.log.last.items c.reserve.new.self.last.items (keys_of r.cache.entries) (keys_of c.settle.new.cache.entries) r.log.uses.items c.self.invariant.1 c.settle.ensures.order (λ p above. subst (λ (l : List ℕ). 0 < get_or l p 0) c.settle.ensures.last (subst (λ (n : ℕ). 0 < n) (c.reserve.ensures.last p) above)),
    )

pub invariant_of-self-in_err-put : goal.invariant_of-self-in_err-put
invariant_of-self-in_err-put c =
    let r = c.self.inside in (
      ap (λ l. l.cap) c.in_err-put.ensures.err ∙ c.settle.ensures.cap ∙ c.self.invariant.0,
      known-settled r.log.last.items c.reserve.new.self.last.items (keys_of r.cache.entries) (keys_of c.put.new.self.entries) r.log.uses.items c.self.invariant.1 (ap (λ l. keys_of l.entries) c.in_err-put.ensures.err ∙ c.settle.ensures.order) (λ p above. subst (λ (l : List ℕ). 0 < get_or l p 0) c.settle.ensures.last (subst (λ (n : ℕ). 0 < n) (c.reserve.ensures.last p) above)),
    )

pub invariant_of-self-2 : goal.invariant_of-self-2
invariant_of-self-2 c =
    let r = c.self.inside in
    let cache = c.settle.new.cache in
    let new : has (keys_of cache.entries) c.args.o ≡ false = ap (λ l. has l c.args.o) (c.settle.ensures.order ∙ c.self.view_is) ∙ c.requires in
    let now =
    ap (λ l. keys_of l.entries) c.in_ok-put.ensures.entries
    ∙ added_keys c.args.o cache tt new (omega (arith, c.self.invariant.0, c.settle.ensures.cap, c.len-objects.ensures.len, c.len-objects.ensures.fits)) in (
      ap (λ l. l.cap) c.in_ok-put.ensures.entries ∙ c.settle.ensures.cap ∙ c.self.invariant.0,
      known-add r.log.last.items c.reserve.new.self.last.items (keys_of r.cache.entries) (keys_of cache.entries) r.log.uses.items c.self.invariant.1 c.settle.ensures.order (λ p above. subst (λ (l : List ℕ). 0 < get_or l p 0) c.settle.ensures.last (subst (λ (n : ℕ). 0 < n) (c.reserve.ensures.last p) above)) (keys_of c.put.new.self.entries) c.admit.new.self.last.items c.args.o now c.admit.ensures.last,
    )

pub returns-clause-ok : goal.returns-clause-ok
returns-clause-ok c =
    let cache = c.settle.new.cache in
    let order : keys_of cache.entries ≡ c.args.self.now = c.settle.ensures.order ∙ c.self.view_is in
    let new : has (keys_of cache.entries) c.args.o ≡ false = ap (λ l. has l c.args.o) order ∙ c.requires in
    ap (after_uses (keys_of c.put.new.self.entries)) c.admit.ensures.empty
    ∙ ap (λ l. keys_of l.entries) c.in_ok-put.ensures.entries
    ∙ added_keys c.args.o cache tt new (omega (arith, c.self.invariant.0, c.settle.ensures.cap, c.len-objects.ensures.len, c.len-objects.ensures.fits))
    ∙ ap (λ l. c.args.o ∷ l) order
