use Rattle.std.proofs.Common.{◌≡◌, ◌+◌, ◌-◌, get_or, sym, ap, ◌∙◌, arith}
use Rattle.std.proofs.lemmas.List.{get_or_read}
use Rattle.far_scopes.specs.Recency.{after_uses}
use Rattle.far_scopes.proofs.RecencyUses.{after_uses-push, after_uses-again}
use Rattle.far_scopes.proofs.RecencyLog.{noted-more}
use Rattle.far_scopes.proofs.recency.use_log.UseLog.note.Goals as goal

pub returns-then-index-o-clause-used : goal.returns-then-index-o-clause-used
returns-then-index-o-clause-used c = λ _ order.
    let uses = c.args.self.now.uses in
    let at = c.len-len.result - 1 in
    let item : c.index.result.now ≡ get_or uses.items at 0 = get_or_read uses.items at c.index.result.now (omega arith) c.index.ensures 0 in
    sym (after_uses-again order uses.items at c.args.o (omega arith) (sym item ∙ c.if-index-o.true))

pub invariant_of-self-clause-noted : goal.invariant_of-self-clause-noted
invariant_of-self-clause-noted c =
    let log = c.args.self.now in
    noted-more log.uses.items log.last.items log.noted c.push_reserved.new.self.items c.args.o (c.len-len.result + 1) c.push_reserved.ensures.items (omega arith) (omega arith)

pub returns-clause-used : goal.returns-clause-used
returns-clause-used c = λ _ order.
    ap (after_uses order) c.push_reserved.ensures.items ∙ after_uses-push order c.args.self.now.uses.items c.args.o
