use Rattle.std.proofs.Common.{◌≡◌, ◌+◌, ◌<◌, drop, length, get_or, sym, ap, ◌∙◌, arith}
use Rattle.std.specs.Map.{keys_of}
use Rattle.std.proofs.lemmas.List.{get_or_read}
use Rattle.far_scopes.specs.Recency.{after_use, after_uses}
use Rattle.far_scopes.proofs.RecencyKeys.{after_use_keys}
use Rattle.far_scopes.proofs.RecencyUses.{follow-last, follow-again}
use Rattle.far_scopes.proofs.recency.use_log.UseLog.follow.Goals as goal
use Rattle.far_scopes.proofs.recency.use_log.UseLog.follow.Goals.{then-is_last, else-is_last}

pub loop-at-preserved : goal.loop-at-preserved
loop-at-preserved c =
    let uses = c.args.self.now.uses.items in
    let at = c.loop-at.at in
    let within : at < length uses = omega arith in
    elim c.if-is_last.branch [
      | then-is_last w ↦
          let o : w.index.result.now ≡ get_or uses at 0 = get_or_read uses at w.index.result.now within w.index.ensures 0 in
          let cache = w.cache-is ∙ w.promote.ensures.entries in
          let now = ap (λ l. keys_of l.entries) cache ∙ after_use_keys w.index.result.now c.loop-at.cache.entries ∙ ap (after_use (keys_of c.loop-at.cache.entries)) o in (
            follow-last (keys_of c.loop-at.cache.entries) uses at within (keys_of c.if-is_last.cache.entries) now ∙ c.loop-at.invariant.0,
            ap (λ l. l.cap) cache ∙ c.loop-at.invariant.1,
          )
      | else-is_last w ↦ (
        ap (λ l. after_uses (keys_of l.entries) (drop (at + 1) uses)) w.cache-is
            ∙ follow-again (keys_of c.loop-at.cache.entries) uses at within (sym c.is_last.ensures ∙ w.if-is_last.false)
            ∙ c.loop-at.invariant.0,
        ap (λ l. l.cap) w.cache-is ∙ c.loop-at.invariant.1,
      )
    ]
