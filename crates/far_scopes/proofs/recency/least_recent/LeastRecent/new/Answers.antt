use Rattle.std.proofs.Common.{◌++◌, filter, reverse, sym, ap, ◌∙◌}
use Rattle.std.specs.Map.{keys_of}
use Rattle.far_scopes.specs.Recency.{newest, is_unused}
use Rattle.far_scopes.proofs.RecencyUses.{after_uses-newest, once-distinct}
use Rattle.far_scopes.proofs.RecencyLog.{known-used}
use Rattle.far_scopes.proofs.recency.least_recent.LeastRecent.new.Goals as goal

pub returns : goal.returns
returns c =
    let log = c.args.log.now in
    let keys = keys_of c.args.cache.now.entries in
    let order = after_uses-newest log.uses.items keys (once-distinct keys c.len-len.ensures.valid.0) (known-used log.uses.items log.last.items keys log.noted c.requires) in
    ap (λ l. reverse (newest log.uses.items) ++ filter (is_unused log.uses.items) (keys_of l)) c.iter.ensures.rest ∙ sym order
