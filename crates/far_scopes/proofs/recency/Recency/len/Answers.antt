use Rattle.std.proofs.Common.{length, sym, ap, ◌∙◌}
use Rattle.std.specs.Map.{keys_of}
use Rattle.std.proofs.lemmas.List.{length-map}
use Rattle.far_scopes.proofs.RecencyUses.{length-after_uses}
use Rattle.far_scopes.proofs.recency.Recency.len.Goals as goal

pub returns : goal.returns
returns c =
    let r = c.self.inside in
    c.len.ensures.len
    ∙ sym (length-map r.cache.entries (λ e. e.0))
    ∙ sym (length-after_uses (keys_of r.cache.entries) r.log.uses.items)
    ∙ ap length c.self.view_is
